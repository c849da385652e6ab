use Rattle.std.proofs.Common.{◌≡◌, Bool, true, Option, Some, None, is_some, Ok, refl, subst}
use Rattle.mq_talk.specs.declared.note.Note.{Note}
use Rattle.mq_machine.specs.State.{State}
use Rattle.mq_machine.specs.Turn.{Actor, WorkerOf}
use Rattle.mq_held.specs.Notes.{note_by}
use Rattle.mq_world.specs.declared.stepped.Acted.TheVariants as acted
use Rattle.mq_world.specs.Worlds.{ActorGives, ActorDoes, answer_of}
use Rattle.mq_world.proofs.workers.Workers.step.Goals as goal

pub returns-then-is_at_rest : goal.returns-then-is_at_rest
returns-then-is_at_rest c = λ s is. (s, is, (c.is_at_rest.ensures s is c.if-is_at_rest.true, refl))

-- the note of a step that was taken is its answer's
did_answers : (s t : State) (actor : Actor) (told : Option Note) → is_some told ≡ true → ActorGives s actor (Ok told) t → ActorDoes s actor (answer_of acted.Did told) t
did_answers s t actor None some gives = absurd cc
did_answers s t actor (Some said) some gives = gives

pub returns-in-Ok-true : goal.returns-in-Ok-true
returns-in-Ok-true c = λ s is.
    let e = c.in-Ok-true.ensures in
    let took = e.gives s is in
    let P : Bool → Type 0 = λ did. ActorGives s (WorkerOf c.args.number) (Ok (note_by did c.turn.new.told)) took.0 in (
      took.0,
      took.1,
      did_answers s took.0 (WorkerOf c.args.number) c.turn.new.told (e.told c.in-Ok-true.field-0-test) (subst P c.in-Ok-true.field-0-test took.2),
    )
