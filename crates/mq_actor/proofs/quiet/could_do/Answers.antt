use Rattle.std.proofs.Common.{◌≡◌, ◌∙◌, List, false, not, refl, sym}
use Rattle.mq_machine.specs.State.{Port}
use Rattle.mq_machine.specs.Steps.{is_nothing}
use Rattle.mq_machine.specs.Turn.{can_do}
use Rattle.mq_machine.specs.Want.{Want, Nothing, Say, Bind, Ask, Judge, Push, Send, Over, want_of}
use Rattle.mq_actor.proofs.quiet.could_do.Goals as goal

-- where it wants nothing, nothing can be done
nothing_done : (ports : List Port) (w : Want) → false ≡ not (is_nothing w) → false ≡ can_do ports w
nothing_done ports Nothing is = refl
nothing_done ports Say is = absurd cc
nothing_done ports (Bind stream goal) is = absurd cc
nothing_done ports (Ask call) is = absurd cc
nothing_done ports (Judge tunnel n flow) is = absurd cc
nothing_done ports (Push parcel) is = absurd cc
nothing_done ports (Send tunnel n payload) is = absurd cc
nothing_done ports (Over why) is = absurd cc

pub returns-then-not-wants : goal.returns-then-not-wants
returns-then-not-wants g c = λ s held tells. nothing_done s.ports (want_of s.conn) (sym c.if-not-wants.true ∙ c.wants.ensures s.conn held.conn)
