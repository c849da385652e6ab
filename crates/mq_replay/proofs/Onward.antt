-- Steps that go on from a state are steps from the start.
use Rattle.std.proofs.Common.{◌≡◌, ℕ, zero, suc, ◌<◌, Bool, true, false, List, [], ◌∷◌, ◌++◌, length, Option, Some, None, Ok, Err, refl, sym, ap, subst, ◌∙◌, arith, append_assoc, append-nil, inr}
use Rattle.std.specs.Prelude.{nat_lt, if◌then◌else◌}
use Rattle.std.specs.List.{AllByRecursion}
use Rattle.std.proofs.lemmas.Bool.{lt-ltb, ltb-true}
use Rattle.std.proofs.lemmas.List.{length-set}
use Rattle.mq_machine.specs.State.{State}
use Rattle.mq_machine.specs.declared.event.Event.TheVariants as event
use Rattle.mq_machine.specs.Laws.{IsTurnOrQuiet, IsSilentOrQuiet}
use Rattle.mq_machine.specs.Silent.{Reached, SilentTurn}
use Rattle.mq_machine.specs.Turn.{Actor, WorkerOf, ThePump, Turn, Quiet, has_turn}
use Rattle.mq_play.specs.Play.{Fate, Noted, Silent, StepsTo, Until, TheEnd, SomeStop, Runs}
use Rattle.mq_play.specs.Text.{printed, Idle, Says}
use Rattle.mq_talk.specs.declared.note.Note.{Note}
use Rattle.mq_replay.specs.Listening.{HearsTo, HearsTold}
use Rattle.mq_replay.specs.declared.steps.Moved.TheVariants as moved
use Rattle.mq_world.specs.declared.stepped.Acted.TheVariants as acted
use Rattle.mq_world.specs.declared.stepped.Stepped.TheVariants as stepped
use Rattle.mq_world.specs.declared.stepped.Stepped.TheVariants.{Did, Refused}
use Rattle.mq_replay.specs.Playing.{IsAt, Acts, StepTo, RunsTo, IsCutOff}
use Rattle.mq_output.specs.declared.stop.Stop.{Stop}
use Rattle.mq_output.specs.declared.stop.Stop.TheVariants.{BadLine, WriteFault, NoMemory}
use Rattle.mq_world.specs.declared.stepped.WorldFault.{WorldFault}
use Rattle.mq_world.specs.declared.stepped.WorldFault.TheVariants as fault
use Rattle.mq_world.specs.declared.world.World.{World}
use Rattle.mq_world.specs.Worlds.{IsWorld, actor_at, answered, StepOf, StepGives}

-- a step leaves the number of workers
pub steps_same : (s : State) (actor : Actor) (fate : Fate) (shown : List ℕ) (t : State) → StepsTo s actor fate shown t → length t.workers ≡ length s.workers
steps_same s (WorkerOf number) Noted shown t x = ap (λ (u : State). length u.workers) x.1.new_is ∙ length-set s.workers number x.1.next
steps_same s (WorkerOf number) (Silent reached) shown t x = ap (λ (u : State). length u.workers) x.0.new_is ∙ length-set s.workers number x.0.next
steps_same s ThePump Noted shown t x = ap (λ (u : State). length u.workers) x.1.new_is
steps_same s ThePump (Silent reached) shown t x = ap (λ (u : State). length u.workers) x.0.2

-- so an actor keeps its number
pub at_same : (s t : State) (number : ℕ) (actor : Actor) → length t.workers ≡ length s.workers → IsAt s number actor → IsAt t number actor
at_same s t number actor same h = record {
  within = omega (arith, same, h.within);
  is = h.is ∙ ap (λ (n : ℕ). if nat_lt number n then WorkerOf number else ThePump) (sym same);
}

-- one more
pub all_more : {A : Type 0} (P : A → Type 0) (xs : List A) (x : A) → AllByRecursion P xs → P x → AllByRecursion P (xs ++ x ∷ [])
all_more P [] x all here = (here, tt)
all_more P (y ∷ xs) x all here = (all.0, all_more P xs x all.1 here)

pub all_same : {A : Type 0} (P : A → Type 0) (xs : List A) → AllByRecursion P xs → AllByRecursion P (xs ++ [])
all_same P xs all = subst (λ (ys : List _). AllByRecursion P ys) (sym (append-nil xs)) all

-- what goes on from here goes on from the start
pub record Far (May : Fate → Type 0) (s : State) (actor : Actor) (count : ℕ) (shown : List ℕ) (t : State) (left : ℕ) : Type 0 where
  pub fates : List Fate
  pub goes : (until : Until) (more : List Fate) (rest : List ℕ) (new : State) → Runs until t actor left more rest new → Runs until s actor count (fates ++ more) (shown ++ rest) new
  pub heard : AllByRecursion May fates
  pub same : length t.workers ≡ length s.workers

pub far_none : {May : Fate → Type 0} (s : State) (actor : Actor) (count : ℕ) → Far May s actor count [] s count
far_none s actor count = record { fates = []; goes = λ until more rest new r. r; heard = tt; same = refl }

-- one more step
pub far_more : {May : Fate → Type 0} (s t u : State) (actor : Actor) (count left less : ℕ) (shown more : List ℕ) → left ≡ suc less → Far May s actor count shown t left → Acts May t actor more u → Far May s actor count (shown ++ more) u less
far_more {May = May} s t u actor count left less shown more e far acts = record {
  fates = far.fates ++ acts.fate ∷ [];
  goes = λ until later rest new r.
      let P : ℕ → Type 0 = λ n. Runs until t actor n (acts.fate ∷ later) (more ++ rest) new in
      let Q : List ℕ → Type 0 = λ text. Runs until s actor count ((far.fates ++ acts.fate ∷ []) ++ later) text new in
      let R : List Fate → Type 0 = λ fates. Runs until s actor count fates (shown ++ (more ++ rest)) new in
      let here = far.goes until (acts.fate ∷ later) (more ++ rest) new (subst P (sym e) (u, more, rest, acts.steps, r, refl)) in
      subst Q (sym (append_assoc shown more rest)) (subst R (sym (append_assoc far.fates (acts.fate ∷ []) later)) here);
  heard = all_more May far.fates acts.fate far.heard acts.may;
  same = steps_same t actor acts.fate more u acts.steps ∙ far.same;
}

-- steps may stop anywhere
pub stopped : (t : State) (actor : Actor) (left : ℕ) → Runs SomeStop t actor left [] [] t
stopped t actor zero = (refl, refl)
stopped t actor (suc left) = (inr refl, refl)

pub far_cut : {May : Fate → Type 0} (s t : State) (actor : Actor) (count left : ℕ) (shown : List ℕ) → Far May s actor count shown t left → IsCutOff (λ until fates u. Runs until s actor count fates shown u × AllByRecursion May fates) shown
far_cut {May = May} s t actor count left shown far =
    let P : List ℕ → Type 0 = λ text. Runs SomeStop s actor count (far.fates ++ []) text t in
    inr (far.fates ++ [], t, (subst P (append-nil shown) (far.goes SomeStop [] [] t (stopped t actor left)), all_same May far.fates far.heard))

-- no step is left
pub far_done : {May : Fate → Type 0} (w : World) (s t : State) (actor : Actor) (count left : ℕ) (shown : List ℕ) → left ≡ 0 → Far May s actor count shown t left → IsWorld w t → RunsTo May w s actor count shown (Ok tt)
far_done {May = May} w s t actor count left shown none far stands =
    let P : ℕ → Type 0 = λ n. Runs TheEnd t actor n [] [] t in
    let Q : List ℕ → Type 0 = λ text. Runs TheEnd s actor count (far.fates ++ []) text t in
    (far.fates ++ [], t, (subst Q (append-nil shown) (far.goes TheEnd [] [] t (subst P (sym none) (refl, refl))), all_same May far.fates far.heard), stands)

-- the actor has no step
pub far_idle : {May : Fate → Type 0} (w : World) (s t : State) (actor : Actor) (count left less : ℕ) (shown idle : List ℕ) → left ≡ suc less → Far May s actor count shown t left → Quiet t actor → idle ≡ printed (Idle actor) → IsWorld w t
    → RunsTo May w s actor count (shown ++ idle) (Ok tt)
far_idle {May = May} w s t actor count left less shown idle e far quiet is stands =
    let P : ℕ → Type 0 = λ n. Runs TheEnd t actor n [] idle t in
    (far.fates ++ [], t, (far.goes TheEnd [] idle t (subst P (sym e) ((quiet, is), refl)), all_same May far.fates far.heard), stands)

-- memory ran out behind what was shown
pub far_spent : {May : Fate → Type 0} (w : World) (s t : State) (actor : Actor) (count left : ℕ) (shown : List ℕ) (why : Stop) → why ≡ NoMemory → Far May s actor count shown t left → RunsTo May w s actor count shown (Err why)
far_spent {May = May} w s t actor count left shown why e far =
    let P : Stop → Type 0 = λ stop. RunsTo May w s actor count shown (Err stop) in
    subst P (sym e) (far_cut s t actor count left shown far)

-- the step stopped
pub far_stopped : {May : Fate → Type 0} (w after : World) (s t : State) (actor : Actor) (count left less : ℕ) (shown more : List ℕ) (why : Stop) → left ≡ suc less → Far May s actor count shown t left → StepTo May after t actor more (Err why)
    → RunsTo May w s actor count (shown ++ more) (Err why)
far_stopped {May = May} w after s t actor count left less shown more BadLine e far step = absurd step
far_stopped {May = May} w after s t actor count left less shown more WriteFault e far step =
    far_cut s step.0 actor count less (shown ++ more) (far_more s t step.0 actor count left less shown more e far step.1)
far_stopped {May = May} w after s t actor count left less shown more NoMemory e far step =
    let P : List ℕ → Type 0 = λ text. RunsTo May w s actor count text (Err NoMemory) in
    subst P (sym (ap (λ (xs : List ℕ). shown ++ xs) step ∙ append-nil shown)) (far_cut s t actor count left shown far)

-- the worker of this number
pub worker_at : (s : State) (number : ℕ) → number < length s.workers → IsAt s number (WorkerOf number)
worker_at s number h = record {
  within = omega (arith, h);
  is = sym (ap (λ (b : Bool). if b then WorkerOf number else ThePump) (lt-ltb number (length s.workers) h));
}

-- ---- one step

busy : (b : Bool) → (b ≡ false → ⊥) → b ≡ true
busy true h = refl
busy false h = absurd (h refl)

-- the actor that stepped is the one of this number
same_actor : (s : State) (number : ℕ) (actor here : Actor) → IsAt s number actor → StepOf s (event.Step number) here → here ≡ actor
same_actor s number actor here at step =
    let is = step.is in
    let e : number ≡ step.number = cc in
    step.named ∙ ap (λ (n : ℕ). actor_at s n) (sym e) ∙ sym at.is

-- a step that gave a note
pub step_did : {May : Fate → Type 0} (w : World) (s : State) (number : ℕ) (actor : Actor) (note : Note) → May Noted → IsTurnOrQuiet → IsAt s number actor → StepGives (IsWorld w) s (event.Step number) (Ok (Did note))
    → (t : State) × Acts May s actor (printed (Says note)) t × IsWorld w t
step_did w s number actor note may law at told =
    let P : Actor → Type 0 = λ a. Turn s a note told.1 in
    let turn = subst P (same_actor s number actor told.0 at told.2) told.3 in
    (told.1, record { fate = Noted; may = may; has = busy (has_turn s actor) (λ quiet. law s told.1 actor note turn quiet); steps = (note, turn, refl) }, told.4)

-- a step that was refused memory
pub step_refused : {May : Fate → Type 0} (w : World) (s : State) (number : ℕ) (actor : Actor) → ((reached : Reached) → May (Silent reached)) → IsSilentOrQuiet → IsAt s number actor → StepGives (IsWorld w) s (event.Step number) (Ok Refused)
    → (t : State) × Acts May s actor [] t × IsWorld w t
step_refused w s number actor may law at told =
    let P : Actor → Type 0 = λ a. SilentTurn s a told.1 told.2 in
    let turn = subst P (same_actor s number actor told.0 at told.3) told.4 in
    (told.2, record { fate = Silent told.1; may = may told.1; has = busy (has_turn s actor) (λ quiet. law s told.2 actor told.1 turn quiet); steps = (turn, refl) }, told.5)

-- no step
pub step_idle : (May : Fate → Type 0) (w : World) (s : State) (number : ℕ) (actor : Actor) → IsAt s number actor → StepGives (IsWorld w) s (event.Step number) (Ok stepped.Idle) → StepTo May w s actor [] (Ok moved.Idle)
step_idle May w s number actor at told =
    let P : Actor → Type 0 = λ a. Quiet s a in
    (subst P (same_actor s number actor told.0 at told.1) told.2, refl, told.3)

-- the note of a step was heard and the sink failed, or memory ran out before that
pub step_unnoted : {A : Type 0} (May : Fate → Type 0) (Hears : A → A → List ℕ → Type 0) (o p : A) (w after : World) (text : List ℕ) (why : Stop) → HearsTo Hears o p text (Err why)
    → (shown : List ℕ) × Hears o p shown × ((s : State) (actor : Actor) → (t : State) × Acts May s actor text t × IsWorld after t → StepTo May w s actor shown (Err why))
step_unnoted May Hears o p w after text WriteFault h = (text, h, λ s actor did. (did.0, did.1))
step_unnoted May Hears o p w after text NoMemory h = ([], h, λ s actor did. refl)
step_unnoted May Hears o p w after text BadLine h = absurd h

-- the number of an actor names one
pub step_missing : (May : Fate → Type 0) (w : World) (s : State) (number : ℕ) (actor : Actor) (why : WorldFault) → IsAt s number actor → StepGives (IsWorld w) s (event.Step number) (Err why)
    → StepTo May w s actor [] (Ok moved.Idle)
step_missing May w s number actor fault.Missing at told = absurd (let within = at.within in let past = ltb-true (length s.workers) number told.0 in omega (arith, within, past))
step_missing May w s number actor fault.NoMemory at told = absurd (told.0 number refl)

-- a step was taken, and what it told was heard
pub told_did : {A : Type 0} (May : Fate → Type 0) (Hears : A → A → List ℕ → Type 0) (o p : A) (Was : State → Type 0) (w : World) (number : ℕ) (told : Option Note) (done : Unit {0})
    → HearsTold Hears o p told (Ok done) → ((s : State) → Was s → StepGives (IsWorld w) s (event.Step number) (answered (Ok acted.Did) told)) → May Noted → IsTurnOrQuiet
    → (shown : List ℕ) × Hears o p shown × ((s : State) (actor : Actor) → Was s → IsAt s number actor → StepTo May w s actor shown (Ok moved.Acted))
told_did May Hears o p Was w number None done heard gives may law = ([], heard, λ s actor is at. absurd ((gives s is).0 number refl))
told_did May Hears o p Was w number (Some note) done heard gives may law = (printed (Says note), heard, λ s actor is at. step_did w s number actor note may law at (gives s is))

-- or the sink failed, or memory ran out before that
pub told_stops : {A : Type 0} (May : Fate → Type 0) (Hears : A → A → List ℕ → Type 0) (o p : A) (Was : State → Type 0) (w : World) (number : ℕ) (told : Option Note) (why : Stop)
    → HearsTold Hears o p told (Err why) → ((s : State) → Was s → StepGives (IsWorld w) s (event.Step number) (answered (Ok acted.Did) told)) → May Noted → IsTurnOrQuiet
    → (shown : List ℕ) × Hears o p shown × ((s : State) (actor : Actor) → Was s → IsAt s number actor → StepTo May w s actor shown (Err why))
told_stops May Hears o p Was w number None why heard gives may law = absurd heard
told_stops May Hears o p Was w number (Some note) why heard gives may law =
    let failed = step_unnoted May Hears o p w w (printed (Says note)) why heard in
    (failed.0, failed.1, λ s actor is at. failed.2 s actor (step_did w s number actor note may law at (gives s is)))
