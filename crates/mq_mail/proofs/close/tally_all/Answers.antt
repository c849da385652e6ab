use Rattle.std.proofs.Common.{◌≡◌, List, ◌∷◌, ◌++◌, [], length, map, sym, subst, length-append, arith}
use Rattle.mq_mail.specs.PostParts.{inbox_id}
use Rattle.mq_mail.specs.Posts.{KeyOf}
use Rattle.mq_mail.specs.Tallies.{AreAllKeys, AreTallied}
use Rattle.mq_mail.proofs.Closing.{next_key, next_split, none_after}
use Rattle.mq_mail.proofs.close.tally_all.Goals as goal

pub take_in-requires-clause-post : goal.take_in-requires-clause-post
take_in-requires-clause-post g c =
    let h = c.loop.invariant in
    (next_key _ _ h.done _ _ _ c.requires.keys h.split c.first_of-key.ensures).0

pub loop-preserved : goal.loop-preserved
loop-preserved g c =
    let h = c.loop.invariant in
    let next = next_key _ _ h.done _ _ _ c.requires.keys h.split c.first_of-key.ensures in
    record {
      done = h.done ++ c.first_of-key.result ∷ [];
      split = next_split _ h.done _ _ _ h.split c.first_of-key.ensures;
      count = omega (arith, h.count, length-append h.done (c.first_of-key.result ∷ []));
      gathered = c.take_in.ensures h.done (sym next.1) h.gathered;
    }

pub tally_each-requires-clause-gathered : goal.tally_each-requires-clause-gathered
tally_each-requires-clause-gathered g c =
    let h = c.loop.invariant in
    let all : List KeyOf = c.args.first ∷ c.args.rest.items in
    let size : length h.done ≡ length all = omega (arith, h.count, c.loop-test.false, c.loop.auto.counter-end, c.len-end.ensures, c.args.rest.ok) in
    let P : List KeyOf → Type 0 = λ l. AreAllKeys (map inbox_id c.args.inboxes.now) l in
    (h.done, subst P (none_after all h.done _ h.split size) c.requires.keys, h.gathered)

pub returns : goal.returns
returns g c =
    let h = c.loop.invariant in
    let all : List KeyOf = c.args.first ∷ c.args.rest.items in
    let size : length h.done ≡ length all = omega (arith, h.count, c.loop-test.false, c.loop.auto.counter-end, c.len-end.ensures, c.args.rest.ok) in
    let same = none_after all h.done _ h.split size in
    let P : List KeyOf → Type 0 = λ l. AreAllKeys (map inbox_id c.args.inboxes.now) l in
    let Q : List KeyOf → Type 0 = λ l. AreTallied l c.tally_each.result.items in
    subst Q (sym same) (c.tally_each.ensures h.done (subst P same c.requires.keys) h.gathered)
