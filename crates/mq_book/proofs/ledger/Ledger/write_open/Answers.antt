use Rattle.std.proofs.Common.{◌+◌, ◌≤◌, ◌∷◌, ◌++◌, [], length, refl, arith}
use Rattle.std.specs.Prelude.{vec_capacity}
use Rattle.std.proofs.lemmas.List.{length_push}
use Rattle.mq_book.specs.declared.ledger.Ledger.{Ledger}
use Rattle.mq_book.proofs.Standing.{stands_with, opened, as_many}
use Rattle.mq_book.proofs.ledger.Ledger.write_open.Goals as goal

pub returns-clause-stands : goal.returns-clause-stands
returns-clause-stands c =
    let l = c.args.self.now in
    let m : Ledger = record { setup = l.setup; history = c.push_reserved.new.self; live = c.push_reserved-2.new.self } in
    let ts = l.live.items ++ c.args.tunnel ∷ [] in
    let many = as_many l.history.items l.live.items c.requires.stands.live in
    let long = length_push l.live.items c.args.tunnel in
    let fits : length l.history.items + 1 + length ts ≤ l.setup.history = omega (arith, many, long, c.requires.few) in
    let holds : length l.history.items + 1 + length ts ≤ vec_capacity m.history = omega (arith, long, c.requires.room, c.push_reserved.ensures.capacity) in
    stands_with l m c.args.entry ts c.requires.stands c.requires.follows
    (opened l.setup l.history.items c.args.entry l.live.items c.args.tunnel c.requires.stands.legal c.requires.stands.live c.requires.new)
    refl c.push_reserved.ensures.items c.push_reserved-2.ensures.items fits holds
