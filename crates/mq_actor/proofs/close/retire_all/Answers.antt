use Rattle.std.proofs.Common.{◌≡◌, refl, sym, subst, ◌∙◌, arith}
use Rattle.slab.specs.Slab.{get}
use Rattle.mq_ports.specs.declared.table.PortTable.{PortTable}
use Rattle.mq_actor.proofs.Emptying.{past_slots, gone_upto, gone_beyond, all_gone, either_way}
use Rattle.mq_actor.proofs.close.retire_all.Goals as goal

pub loop-key-init : goal.loop-key-init
loop-key-init g c = record {
  gone = λ k less. absurd (omega (arith, less));
  beyond = λ k past. let all = c.capacity-key-end.ensures.slots in past_slots c.args.table.now.table.slots k (omega (arith, all, past));
  holds = refl;
  balanced = λ is. is;
}

pub loop-key-preserved : goal.loop-key-preserved
loop-key-preserved g c =
    let i = c.loop-key.invariant in
    let old = c.loop-key.table in
    let new = c.retire.new.self in
    let e = c.retire.ensures in
    let H : PortTable g.row.P.Denot g.row.P-P.Denot → Type 0 = λ t. g.P.Ports.holds t.ports ≡ g.P.Ports.holds old.ports in
    record {
      gone = gone_upto old.table new.table c.loop-key.key e.gone i.gone;
      beyond = gone_beyond old.table new.table c.loop-key.key e.gone c.capacity-key-end.result c.loop-key-test.true i.beyond;
      holds = either_way (get old.table c.loop-key.key) _ (H new) _ _ (λ same. subst H (sym same) refl) e.back ∙ i.holds;
      balanced = λ is. e.balanced (i.balanced is);
    }

pub returns-clause-empty : goal.returns-clause-empty
returns-clause-empty g c =
    let i = c.loop-key.invariant in
    let past = c.loop-key-test.false in
    all_gone c.loop-key.table.table c.loop-key.key _ (omega (arith, past)) i.gone i.beyond
