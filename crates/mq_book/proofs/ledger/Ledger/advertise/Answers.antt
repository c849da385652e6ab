use Rattle.mq_book.proofs.Changes.{advertise_changes, ranges_at}
use Rattle.mq_talk.specs.declared.book.Entry.{Entry}
use Rattle.mq_talk.specs.declared.book.Call.TheVariants.{Advertise}
use Rattle.mq_talk.specs.declared.book.Reply.TheVariants.{Accepted}
use Rattle.std.proofs.Common.{◌∙◌, ap, cond, []}
use Rattle.mq_book.proofs.ledger.Ledger.advertise.Goals as goal

pub write_ranges-requires-clause-changes : goal.write_ranges-requires-clause-changes
write_ranges-requires-clause-changes c = λ d.
    let l = c.args.self.now in
    let m = c.make_room.new.self in
    let e : Entry = record { actor = c.args.actor; call = Advertise c.args.tunnel c.args.ranges; reply = Accepted c.is_acceptable-yes.result c.count-place.result } in
    let now = c.accepted.ensures ∙ ap (λ o. cond c.is_acceptable-yes.result o []) (c.new-offered.ensures ∙ c.in_ok-copy_ranges.ensures ∙ c.as_slice.ensures) in
    ranges_at l.history.items m.history.items l.live.items m.live.items e c.place_of-at.result d c.accepted.result c.in_ok-make_room.ensures.stays.history c.in_ok-make_room.ensures.live
    (advertise_changes l.history.items l.live.items c.place_of-at.result c.args.tunnel c.args.actor c.count-place.result c.args.ranges c.accepted.result c.is_acceptable-yes.result d
    c.requires.stands.live c.place_of-at.ensures.within c.place_of-at.ensures.there now)
