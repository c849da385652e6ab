-- What the functions that play a line answer.
use Rattle.std.specs.Prelude.{◌≡◌, ℕ, zero, suc, ◌+◌, ◌≤◌, ◌⊎◌, true, false, List, [], ◌∷◌, length, find, Option, Some, None, Result, Ok, Err}
use Rattle.std.specs.List.{AllByRecursion}
use Rattle.mq_machine.specs.State.{State}
use Rattle.mq_machine.specs.Turn.{Actor, WorkerOf, has_turn, Quiet}
use Rattle.mq_play.specs.declared.line.Line.{Line}
use Rattle.mq_play.specs.declared.line.Line.TheVariants as line
use Rattle.mq_play.specs.Lines.{Says}
use Rattle.mq_play.specs.Play as spec
use Rattle.mq_play.specs.Play.{Fate, StepsTo, Until, TheEnd, SomeStop, Runs, Goes, place_behind, actor_of, is_actor, LinePlays, IsBadHere, PlaysLine, IsWrong}
use Rattle.mq_replay.specs.declared.stage.Stage.{Stage}
use Rattle.mq_output.specs.declared.stop.Stop.{Stop}
use Rattle.mq_output.specs.declared.stop.Stop.TheVariants.{BadLine, WriteFault, NoMemory}
use Rattle.mq_replay.specs.declared.play.StepsLine.{StepsLine}
use Rattle.mq_replay.specs.declared.play.StepsLine.TheVariants.{Steps, Run}
use Rattle.mq_replay.specs.declared.steps.Moved.{Moved}
use Rattle.mq_replay.specs.declared.steps.Moved.TheVariants.{Acted, Idle}
use Rattle.mq_replay.specs.Listening.{MayBeNone}
use Rattle.mq_replay.specs.Stages.{IsStage}
use Rattle.mq_world.specs.declared.stepped.Stepped.{Stepped}
use Rattle.mq_world.specs.declared.stepped.WorldFault.{WorldFault}
use Rattle.mq_world.specs.declared.stepped.WorldFault.TheVariants as fault
use Rattle.mq_world.specs.declared.world.World.{World}
use Rattle.mq_world.specs.Worlds.{IsWorld, actor_at}

-- ---- one step

-- the actor has this number in the world
pub record IsAt (s : State) (number : ℕ) (actor : Actor) : Type 0 where
  pub within : number ≤ length s.workers
  pub is : actor ≡ actor_at s number

-- the number in the world of the actor that a line names so, where it is one
abbrev pub NumberTo : State → ℕ → Option ℕ → Type 0
NumberTo s name None = is_actor s (actor_of name) ≡ false
NumberTo s name (Some number) = (is_actor s (actor_of name) ≡ true) × IsAt s number (actor_of name)

-- an actor that has a turn makes a step, which prints this, and goes so as it may be heard
pub record Acts (May : Fate → Type 0) (s : State) (actor : Actor) (shown : List ℕ) (t : State) : Type 0 where
  pub fate : Fate
  pub may : May fate
  pub has : has_turn s actor ≡ true
  pub steps : StepsTo s actor fate shown t

-- an actor's step, and what it showed; where the sink failed, that was to be written
abbrev pub StepTo : (Fate → Type 0) → World → State → Actor → List ℕ → Result Moved Stop → Type 0
StepTo May w s actor shown (Ok Acted) = (t : State) × Acts May s actor shown t × IsWorld w t
StepTo May w s actor shown (Ok Idle) = Quiet s actor × (shown ≡ []) × IsWorld w s
StepTo May w s actor shown (Err BadLine) = ⊥
StepTo May w s actor shown (Err WriteFault) = (t : State) × Acts May s actor shown t
StepTo May w s actor shown (Err NoMemory) = shown ≡ []

-- so many workers, from the one of this number on
abbrev pub workers_from : ℕ → ℕ → List Actor
workers_from number zero = []
workers_from number (suc count) = WorkerOf number ∷ workers_from (number + 1) count

-- The first of these actors that has a turn makes a step; the answer is the place behind it.
abbrev pub FirstTo : (Fate → Type 0) → World → State → List Actor → List ℕ → Result (Option ℕ) Stop → Type 0
FirstTo May w s actors shown (Ok (Some next)) =
    (actor : Actor) × (t : State) × (find (has_turn s) actors ≡ Some actor) × (next ≡ place_behind actor) × Acts May s actor shown t × IsWorld w t
FirstTo May w s actors shown (Ok None) = (find (has_turn s) actors ≡ None) × (shown ≡ []) × IsWorld w s
FirstTo May w s actors shown (Err BadLine) = ⊥
FirstTo May w s actors shown (Err WriteFault) = (actor : Actor) × (t : State) × (find (has_turn s) actors ≡ Some actor) × Acts May s actor shown t
FirstTo May w s actors shown (Err NoMemory) = shown ≡ []

-- ---- lines

-- nothing was shown, or it went so until it stopped somewhere
abbrev pub IsCutOff : {A : Type 0} → (Goes : Until → List Fate → A → Type 0) → List ℕ → Type 0
IsCutOff {A = A} Goes shown = (shown ≡ []) ⊎ ((fates : List Fate) × (t : A) × Goes SomeStop fates t)

-- It went so to its end, and what stands for the state behind it is known; or it is bad, and nothing was shown; or it was cut off.
abbrev pub LedTo : {A : Type 0} → (Stands : A → Type 0) → (Goes : Until → List Fate → A → Type 0) → (IsBad : Type 0) → List ℕ → Result (Unit {0}) Stop → Type 0
LedTo {A = A} Stands Goes IsBad shown (Ok done) = (fates : List Fate) × (t : A) × Goes TheEnd fates t × Stands t
LedTo Stands Goes IsBad shown (Err BadLine) = IsBad × (shown ≡ [])
LedTo Stands Goes IsBad shown (Err WriteFault) = IsCutOff Goes shown
LedTo Stands Goes IsBad shown (Err NoMemory) = IsCutOff Goes shown

-- whether the play goes on behind what was no step
abbrev pub Answers : Result Stepped WorldFault → Result (Unit {0}) Stop → Type 0
Answers (Ok stepped) answer = answer ≡ Ok tt
Answers (Err fault.Missing) answer = answer ≡ Err BadLine
Answers (Err fault.NoMemory) answer = answer ≡ Err NoMemory

-- up to so many steps of an actor
abbrev pub RunsTo : (Fate → Type 0) → World → State → Actor → ℕ → List ℕ → Result (Unit {0}) Stop → Type 0
RunsTo May w s actor count shown answer =
    LedTo (IsWorld w) (λ until fates t. Runs until s actor count fates shown t × AllByRecursion May fates) ⊥ shown answer

-- up to so many steps of all actors in turn
abbrev pub GoesTo : (Fate → Type 0) → World → State → ℕ → List ℕ → Result (Unit {0}) Stop → Type 0
GoesTo May w s count shown answer = LedTo (IsWorld w) (λ until fates t. Goes until s 0 count fates shown t × AllByRecursion May fates) ⊥ shown answer

-- what a line says
abbrev pub SaidTo : (Fate → Type 0) → spec.Stage → Line → List ℕ → Result (Unit {0}) Stop → Stage → Type 0
SaidTo May s said shown answer x =
    LedTo (IsStage x) (λ until fates t. LinePlays until s said fates shown t × AllByRecursion May fates) (IsBadHere s said) shown answer

-- a whole line within its limit
abbrev pub LineTo : (Fate → Type 0) → spec.Stage → List ℕ → List ℕ → Result (Unit {0}) Stop → Stage → Type 0
LineTo May s bytes shown answer x =
    LedTo (IsStage x) (λ until fates t. PlaysLine until s bytes fates shown t × AllByRecursion May fates) (IsWrong s bytes) shown answer

-- the line by which these steps are taken
abbrev pub line_of : StepsLine → Line
line_of (Steps actor count) = line.Steps actor count
line_of (Run count) = line.Run count

-- what a line says was done, or these are its steps, which are left
abbrev pub SaidOrLeft : spec.Stage → Line → Stage → Stage → Result (Option StepsLine) Stop → Type 0
SaidOrLeft s said was now (Ok None) = SaidTo MayBeNone s said [] (Ok tt) now
SaidOrLeft s said was now (Ok (Some steps)) = (said ≡ line_of steps) × (now ≡ was)
SaidOrLeft s said was now (Err why) = SaidTo MayBeNone s said [] (Err why) now

-- the same of a whole line
abbrev pub LineOrLeft : spec.Stage → List ℕ → Stage → Stage → Result (Option StepsLine) Stop → Type 0
LineOrLeft s bytes was now (Ok None) = LineTo MayBeNone s bytes [] (Ok tt) now
LineOrLeft s bytes was now (Ok (Some steps)) = Says bytes (line_of steps) × (now ≡ was)
LineOrLeft s bytes was now (Err why) = LineTo MayBeNone s bytes [] (Err why) now
