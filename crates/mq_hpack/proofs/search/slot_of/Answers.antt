use Rattle.std.proofs.Common.{length, rules}
use Rattle.std.proofs.lemmas.Bool.{eqb-true}
use Rattle.mq_hpack.specs.Slot.{slot}
use Rattle.mq_hpack.proofs.Slots.{slot_empty}
use Rattle.mq_hpack.proofs.search.slot_of.Goals as goal

pub returns-then-is_empty-clause-same : goal.returns-then-is_empty-clause-same
returns-then-is_empty-clause-same c =
    slot_empty c.args.name.now (eqb-true (length c.args.name.now) 0 (cc (c.is_empty.ensures, c.if-is_empty.true)))

pub returns-clause-same : goal.returns-clause-same
unfolding slot
returns-clause-same c = search rules
