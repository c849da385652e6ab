use Rattle.std.proofs.Common.{refl, sym, ◌∙◌}
use Rattle.std.proofs.lemmas.Bool.{not-true}
use Rattle.mq_machine.specs.Turn.{ThePump, has_turn}
use Rattle.mq_world.proofs.workers.Workers.pump.Goals as goal

pub returns-then-pump_is_quiet : goal.returns-then-pump_is_quiet
returns-then-pump_is_quiet c = λ s is.
    (s, is, (not-true (has_turn s ThePump) (sym (c.pump_is_quiet.ensures s is) ∙ c.if-pump_is_quiet.true), refl))
