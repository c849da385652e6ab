-- What a world answers, by what its parts do.
use Rattle.std.proofs.Common.{◌≡◌, ℕ, Bool, true, false, Result, Ok, Err, length, refl, sym, ap, subst}
use Rattle.std.specs.Prelude.{⊤, nat_lt, if◌then◌else◌}
use Rattle.mq_machine.specs.declared.event.Event.{Event}
use Rattle.mq_machine.specs.declared.event.Event.TheVariants as event
use Rattle.mq_machine.specs.State.{State}
use Rattle.mq_machine.specs.Turn.{Actor, WorkerOf, ThePump}
use Rattle.mq_play.specs.Events.{happen}
use Rattle.mq_world.specs.declared.stepped.Stepped.{Stepped}
use Rattle.mq_world.specs.declared.stepped.Stepped.TheVariants as stepped
use Rattle.mq_world.specs.declared.stepped.WorldFault.{WorldFault}
use Rattle.mq_world.specs.declared.stepped.WorldFault.TheVariants as fault
use Rattle.mq_world.specs.Worlds.{ActorDoes, IsOutside, StepOf, StepGives, Happens, actor_at, done_by}

module _ (stands : State → Type 0) (s : State) where
  pub done_gives : (e : Event) (r : Result ⊤ WorldFault) → IsOutside e → Happens stands s e r → StepGives stands s e (done_by r)
  done_gives e (Ok done) outside told = (outside, told.0, told.1)
  done_gives e (Err fault.Missing) outside told = told
  done_gives e (Err fault.NoMemory) outside told = (outside, told.0, told.1)

  -- and it stands for some state
  pub done_state : (e : Event) (r : Result ⊤ WorldFault) → Happens stands s e r → (t : State) × stands t
  done_state e (Ok done) told = (happen s e, told.1)
  done_state e (Err fault.Missing) told = (s, told.1)
  done_state e (Err fault.NoMemory) told = (s, told.1)

  pub actor_gives : (number : ℕ) (actor : Actor) (r : Stepped) (t : State) → actor ≡ actor_at s number → nat_lt (length s.workers) number ≡ false
      → ActorDoes s actor r t → stands t → StepGives stands s (event.Step number) (Ok r)
  actor_gives number actor r t named there does st = by_answer r does where
    of : StepOf s (event.Step number) actor
    of = record { number = number; is = refl; there = there; named = named }

    by_answer : (r : Stepped) → ActorDoes s actor r t → StepGives stands s (event.Step number) (Ok r)
    by_answer (stepped.Did note) does = (actor, t, of, does, st)
    by_answer stepped.Idle does = (actor, of, does.0, subst stands does.1 st)
    by_answer stepped.Refused does = (actor, does.0, t, of, does.1, st)
    by_answer stepped.Done does = absurd does

-- whose number it is
pub worker_at : (s : State) (number : ℕ) → nat_lt number (length s.workers) ≡ true → WorkerOf number ≡ actor_at s number
worker_at s number less = sym (ap (λ (b : Bool). if b then WorkerOf number else ThePump) less)

pub pump_at : (s : State) (number : ℕ) → nat_lt number (length s.workers) ≡ false → ThePump ≡ actor_at s number
pump_at s number none = sym (ap (λ (b : Bool). if b then WorkerOf number else ThePump) none)
