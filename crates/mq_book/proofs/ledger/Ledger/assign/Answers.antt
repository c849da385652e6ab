use Rattle.std.proofs.Common.{◌∙◌, ◌++◌, ◌∷◌, [], ap, sym, subst, get_or, length, List}
use Rattle.std.proofs.lemmas.Bool.{MatchBool-at_true}
use Rattle.mq_addr.specs.declared.entry.Given.{Given}
use Rattle.mq_talk.specs.Book.{taken}
use Rattle.mq_talk.specs.declared.book.Entry.{Entry}
use Rattle.mq_talk.specs.declared.book.Call.TheVariants.{Assign}
use Rattle.mq_talk.specs.declared.book.Reply.TheVariants.{Assigned}
use Rattle.mq_book.specs.Treat.{AreDone}
use Rattle.mq_book.proofs.Changes.{assigned_is, assign_changes, follows_at, held_at}
use Rattle.mq_book.proofs.ledger.Ledger.assign.Goals as goal

pub write_held-requires-clause-follows : goal.write_held-requires-clause-follows
write_held-requires-clause-follows c =
    let l = c.args.self.now in
    let m = c.make_room.new.self in
    let stays = c.in_ok-make_room.ensures.stays in
    let e : Entry = record { actor = c.args.actor; call = Assign c.args.tunnel c.args.asked; reply = Assigned c.in_ok-kept.kept c.count-place.result } in
    let treated = c.in_ok-treated.treated in
    follows_at l.setup m.setup l.history.items m.history.items e stays.setup stays.history (record {
      may = c.requires.may;
      answer = (
        MatchBool-at_true _ _ c.if-not-has_places.false c.has_places.ensures,
        c.count-place.ensures ∙ ap length stays.history,
        assigned_is l.setup l.history.items l.live.items c.place_of-at.result c.args.tunnel c.args.asked treated c.in_ok-kept.kept c.requires.stands.live c.place_of-at.ensures.within
            c.place_of-at.ensures.there
            (λ d. subst (λ xs. AreDone l.setup.pool (taken l.history.items) (get_or l.live.items c.place_of-at.result d).held xs treated) c.as_slice.ensures (c.in_ok-treated.ensures d))
            c.in_ok-kept.ensures,
      );
      written = tt;
    })

pub write_held-requires-clause-changes : goal.write_held-requires-clause-changes
write_held-requires-clause-changes c = λ d.
    let l = c.args.self.now in
    let m = c.make_room.new.self in
    let stays = c.in_ok-make_room.ensures.stays in
    let e : Entry = record { actor = c.args.actor; call = Assign c.args.tunnel c.args.asked; reply = Assigned c.in_ok-kept.kept c.count-place.result } in
    let treated = c.in_ok-treated.treated in
    held_at l.history.items m.history.items l.live.items m.live.items e c.place_of-at.result d c.from_vec.result stays.history c.in_ok-make_room.ensures.live
    (assign_changes l.setup l.history.items l.live.items c.place_of-at.result c.args.tunnel c.args.actor c.count-place.result c.args.asked treated c.in_ok-kept.kept c.from_vec.result d
    c.requires.stands.config c.requires.stands.live c.place_of-at.ensures.within c.place_of-at.ensures.there
    (λ d. subst (λ xs. AreDone l.setup.pool (taken l.history.items) (get_or l.live.items c.place_of-at.result d).held xs treated) c.as_slice.ensures (c.in_ok-treated.ensures d))
    c.in_ok-kept.ensures (c.from_vec.ensures ∙ c.into_held.ensures))

pub returns : goal.returns
returns c =
    let l = c.args.self.now in
    let m = c.make_room.new.self in
    let stays = c.in_ok-make_room.ensures.stays in
    let treated = c.in_ok-treated.treated in
    let entry : List Given → Entry = λ list. record { actor = c.args.actor; call = Assign c.args.tunnel c.args.asked; reply = Assigned list c.count-place.result } in
    record {
      answer = (
        MatchBool-at_true _ _ c.if-not-has_places.false c.has_places.ensures,
        c.count-place.ensures ∙ ap length stays.history,
        assigned_is l.setup l.history.items l.live.items c.place_of-at.result c.args.tunnel c.args.asked treated c.in_ok-told.told c.requires.stands.live c.place_of-at.ensures.within
            c.place_of-at.ensures.there
            (λ d. subst (λ xs. AreDone l.setup.pool (taken l.history.items) (get_or l.live.items c.place_of-at.result d).held xs treated) c.as_slice.ensures (c.in_ok-treated.ensures d))
            c.in_ok-told.ensures,
      );
      history = c.write_held.ensures.history ∙ ap (λ h. h ++ entry c.in_ok-kept.kept ∷ []) stays.history ∙ ap (λ list. l.history.items ++ entry list ∷ []) (c.in_ok-kept.ensures ∙ sym c.in_ok-told.ensures);
      setup = c.write_held.ensures.setup ∙ stays.setup;
      stands = c.write_held.ensures.stands;
    }
