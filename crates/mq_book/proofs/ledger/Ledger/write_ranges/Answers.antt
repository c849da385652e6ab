use Rattle.std.proofs.Common.{◌+◌, ◌≤◌, length, refl, arith, set}
use Rattle.std.specs.Prelude.{vec_capacity}
use Rattle.mq_book.specs.declared.tunnel.Tunnel.{Tunnel}
use Rattle.mq_book.specs.declared.ledger.Ledger.{Ledger}
use Rattle.std.proofs.Common.{length-set}
use Rattle.mq_book.proofs.Standing.{stands_with, changed, as_many, ranges_change}
use Rattle.mq_book.proofs.ledger.Ledger.write_ranges.Goals as goal

pub returns-clause-stands : goal.returns-clause-stands
returns-clause-stands c =
    let l = c.args.self.now in
    let r = c.index_mut.result.now in
    let new : Tunnel = record r { ranges = c.args.ranges } in
    let ts = set l.live.items c.args.at new in
    let m : Ledger = record { setup = l.setup; history = c.push_reserved.new.self; live = Rattle.std.specs.Vec.with_item l.live c.args.at new } in
    let many = as_many l.history.items l.live.items c.requires.stands.live in
    let long = length-set l.live.items c.args.at new in
    let fits : length l.history.items + 1 + length ts ≤ l.setup.history = omega (arith, many, long, c.requires.few) in
    let holds : length l.history.items + 1 + length ts ≤ vec_capacity m.history = omega (arith, long, c.requires.room, c.push_reserved.ensures.capacity) in
    stands_with l m c.args.entry ts c.requires.stands c.requires.follows
    (changed l.history.items c.args.entry l.live.items c.args.at new c.requires.stands.live c.requires.within
    (ranges_change l.history.items c.args.entry l.live.items c.args.at r c.args.ranges c.requires.within c.index_mut.ensures.value c.requires.changes))
    refl c.push_reserved.ensures.items refl fits holds
