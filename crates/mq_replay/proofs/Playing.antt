-- What the parts of a line's play say of the line.
use Rattle.std.proofs.Common.{◌≡◌, ◌≢◌, ℕ, ◌≤◌, ◌<◌, Bool, true, false, List, [], ◌∷◌, ◌++◌, length, Option, Some, None, Result, Ok, Err, refl, sym, ap, subst, inl, inr}
use Rattle.std.specs.List.{AllByRecursion}
use Rattle.std.specs.Prelude.{if◌then◌else◌}
use Rattle.std.proofs.lemmas.Bool.{lt-ltb, le-ltb}
use Rattle.mq_machine.specs.declared.event.Event.{Event}
use Rattle.mq_machine.specs.Turn.{WorkerOf, ThePump}
use Rattle.mq_play.specs.declared.line.Line.{Line}
use Rattle.mq_play.specs.declared.line.Line.TheVariants as line
use Rattle.mq_play.specs.declared.line.SettingLine.{SettingLine}
use Rattle.mq_play.specs.Events.{happen}
use Rattle.mq_play.specs.Lines.{Says, net_number}
use Rattle.mq_play.specs.Play as spec
use Rattle.mq_play.specs.Play.{Fate, Until, TheEnd, SomeStop, Settings, Running, opening, opened, actor_of, is_actor, Runs, Goes, LinePlays, IsBadHere, IsWrong, Plays, PlaysLine, line_limit}
use Rattle.mq_script.specs.Settings.{Made, IsSettings, Adds}
use Rattle.mq_replay.specs.Listening.{MayBeNone}
use Rattle.mq_replay.specs.Playing.{Answers, LedTo, RunsTo, GoesTo, SaidTo, LineTo, SaidOrLeft, LineOrLeft, line_of}
use Rattle.mq_replay.specs.Stages.{IsStage}
use Rattle.mq_replay.specs.Telling.{IsSpoken, AreTold}
use Rattle.mq_replay.specs.declared.play.StepsLine.{StepsLine}
use Rattle.mq_replay.specs.declared.stage.Stage.{Stage}
use Rattle.mq_replay.specs.declared.stage.Stage.TheVariants as stage
use Rattle.mq_output.specs.declared.stop.Stop.{Stop}
use Rattle.mq_output.specs.declared.stop.Stop.TheVariants.{BadLine, WriteFault, NoMemory}
use Rattle.mq_replay.proofs.Reading.{plays_more}
use Rattle.mq_wire.specs.declared.NoMemory as wire
use Rattle.mq_world.specs.declared.stepped.Stepped.{Stepped}
use Rattle.mq_world.specs.declared.stepped.Stepped.TheVariants.{Done, Did, Idle, Refused}
use Rattle.mq_world.specs.declared.stepped.WorldFault.{WorldFault}
use Rattle.mq_world.specs.declared.stepped.WorldFault.TheVariants as fault
use Rattle.mq_world.specs.declared.world.World.{World}
use Rattle.mq_world.specs.Worlds.{IsWorld, IsOutside, StepGives}

-- ---- settings

-- one more setting was told, behind those that lines told
pub told_more : (old new : Made) (said : SettingLine) → AreTold old → IsSpoken (line.Setting said) → ((lines : List SettingLine) → IsSettings old lines → Adds old lines said (Ok true) new) → AreTold new
told_more old new said told spoken adds =
    let added = adds told.told told.stands in
    record {
      lines = told.lines ++ spoken.text ∷ [];
      fates = told.fates ++ [] ∷ [];
      text = told.text ++ [];
      told = told.told ++ said ∷ [];
      plays =
          plays_more opening told.lines told.fates told.text (Settings told.told) spoken.text [] [] (Settings (told.told ++ said ∷ [])) told.plays
          (record { said = line.Setting said; fits = spoken.fits; says = spoken.says; plays = ((added.0, refl), refl, refl) });
      stands = added.1;
    }

-- whatever the answer
pub told_kept : (old new : Made) (said : SettingLine) (answer : Result Bool wire.NoMemory) → AreTold old → IsSpoken (line.Setting said) → ((lines : List SettingLine) → IsSettings old lines → Adds old lines said answer new)
    → (answer ≢ Ok true → new ≡ old) → AreTold new
told_kept old new said (Ok true) told spoken adds same = told_more old new said told spoken adds
told_kept old new said (Ok false) told spoken adds same = subst AreTold (sym (same (λ e. cc))) told
told_kept old new said (Err e) told spoken adds same = subst AreTold (sym (same (λ e. cc))) told

pub told_none : (made : Made) → IsSettings made [] → AreTold made
told_none made stands = record { lines = []; fates = []; text = []; told = []; plays = (refl, refl); stands = stands }

-- one more stands
pub set_more : {May : Fate → Type 0} (old new : Made) (s : spec.Stage) (said : SettingLine) → IsStage (stage.Settings old) s → ((lines : List SettingLine) → IsSettings old lines → Adds old lines said (Ok true) new)
    → SaidTo May s (line.Setting said) [] (Ok tt) (stage.Settings new)
set_more {May = May} old new (Settings lines) said stands adds = let added = adds lines stands in ([], Settings (lines ++ said ∷ []), (((added.0, refl), refl, refl), tt), added.1)
set_more {May = May} old new (Running state) said stands adds = absurd stands

-- ---- the world begins

-- ---- lines

-- what leads so in one way, leads so in another
pub led : {A B : Type 0} (f : A → B) (Stands : A → Type 0) (Holds : B → Type 0) (Goes : Until → List Fate → A → Type 0) (Plays : Until → List Fate → B → Type 0) (IsBad IsWrong : Type 0) (shown : List ℕ) (answer : Result (Unit {0}) Stop)
    → ((until : Until) (fates : List Fate) (t : A) → Goes until fates t → Plays until fates (f t)) → ((t : A) → Stands t → Holds (f t)) → (IsBad → IsWrong)
    → LedTo Stands Goes IsBad shown answer → LedTo Holds Plays IsWrong shown answer
led f Stands Holds Goes Plays IsBad IsWrong shown (Ok done) goes stands bad told = (told.0, f told.1, goes TheEnd told.0 told.1 told.2, stands told.1 told.3)
led f Stands Holds Goes Plays IsBad IsWrong shown (Err BadLine) goes stands bad told = (bad told.0, told.1)
led f Stands Holds Goes Plays IsBad IsWrong shown (Err WriteFault) goes stands bad (inl none) = inl none
led f Stands Holds Goes Plays IsBad IsWrong shown (Err WriteFault) goes stands bad (inr cut) = inr (cut.0, f cut.1, goes SomeStop cut.0 cut.1 cut.2)
led f Stands Holds Goes Plays IsBad IsWrong shown (Err NoMemory) goes stands bad (inl none) = inl none
led f Stands Holds Goes Plays IsBad IsWrong shown (Err NoMemory) goes stands bad (inr cut) = inr (cut.0, f cut.1, goes SomeStop cut.0 cut.1 cut.2)

pub steps_said : (May : Fate → Type 0) (w : World) (s : spec.Stage) (actor count : ℕ) (shown : List ℕ) (answer : Result (Unit {0}) Stop) → is_actor (opened s) (actor_of actor) ≡ true
    → RunsTo May w (opened s) (actor_of actor) count shown answer → SaidTo May s (line.Steps actor count) shown answer (stage.Running w)
steps_said May w s actor count shown answer is told =
    led Running (IsWorld w) (IsStage (stage.Running w)) (λ until fates t. Runs until (opened s) (actor_of actor) count fates shown t × AllByRecursion May fates)
    (λ until fates t. LinePlays until s (line.Steps actor count) fates shown t × AllByRecursion May fates) ⊥ (IsBadHere s (line.Steps actor count)) shown answer
    (λ until fates t goes. ((is, t, goes.0, refl), goes.1)) (λ t stands. stands) (λ none. absurd none) told

pub turns_said : (May : Fate → Type 0) (w : World) (s : spec.Stage) (count : ℕ) (shown : List ℕ) (answer : Result (Unit {0}) Stop) → GoesTo May w (opened s) count shown answer → SaidTo May s (line.Run count) shown answer (stage.Running w)
turns_said May w s count shown answer told =
    led Running (IsWorld w) (IsStage (stage.Running w)) (λ until fates t. Goes until (opened s) 0 count fates shown t × AllByRecursion May fates)
    (λ until fates t. LinePlays until s (line.Run count) fates shown t × AllByRecursion May fates) ⊥ (IsBadHere s (line.Run count)) shown answer
    (λ until fates t goes. ((t, goes.0, refl), goes.1)) (λ t stands. stands) (λ none. absurd none) told

pub line_said : (May : Fate → Type 0) (x : Stage) (s : spec.Stage) (bytes : List ℕ) (said : Line) (shown : List ℕ) (answer : Result (Unit {0}) Stop) → length bytes ≤ line_limit → Says bytes said → SaidTo May s said shown answer x → LineTo May s bytes shown answer x
line_said May x s bytes said shown answer fits says told =
    led (λ (t : spec.Stage). t) (IsStage x) (IsStage x) (λ until fates t. LinePlays until s said fates shown t × AllByRecursion May fates)
    (λ until fates t. PlaysLine until s bytes fates shown t × AllByRecursion May fates) (IsBadHere s said) (IsWrong s bytes) shown answer
    (λ until fates t plays. (record { said = said; fits = fits; says = says; plays = plays.0 }, plays.1)) (λ t stands. stands) (λ bad. inr (said, says, bad)) told

none_heard : (May : Fate → Type 0) (fates : List Fate) → AllByRecursion MayBeNone fates → AllByRecursion May fates
none_heard May [] h = tt
none_heard May (fate ∷ fates) h = absurd h.0

-- what took no step may be heard by all
pub said_any : (May : Fate → Type 0) (s : spec.Stage) (said : Line) (shown : List ℕ) (answer : Result (Unit {0}) Stop) (x : Stage) → SaidTo MayBeNone s said shown answer x → SaidTo May s said shown answer x
said_any May s said shown answer x told =
    led (λ (t : spec.Stage). t) (IsStage x) (IsStage x) (λ until fates t. LinePlays until s said fates shown t × AllByRecursion MayBeNone fates)
    (λ until fates t. LinePlays until s said fates shown t × AllByRecursion May fates) (IsBadHere s said) (IsBadHere s said) shown answer
    (λ until fates t plays. (plays.0, none_heard May fates plays.1)) (λ t stands. stands) (λ bad. bad) told

pub line_any : (May : Fate → Type 0) (s : spec.Stage) (bytes shown : List ℕ) (answer : Result (Unit {0}) Stop) (x : Stage) → LineTo MayBeNone s bytes shown answer x → LineTo May s bytes shown answer x
line_any May s bytes shown answer x told =
    led (λ (t : spec.Stage). t) (IsStage x) (IsStage x) (λ until fates t. PlaysLine until s bytes fates shown t × AllByRecursion MayBeNone fates)
    (λ until fates t. PlaysLine until s bytes fates shown t × AllByRecursion May fates) (IsWrong s bytes) (IsWrong s bytes) shown answer
    (λ until fates t plays. (plays.0, none_heard May fates plays.1)) (λ t stands. stands) (λ bad. bad) told

-- a line that does nothing
pub blank_said : {May : Fate → Type 0} (x : Stage) (s : spec.Stage) (said : Line) → said ≡ line.Blank → IsStage x s → SaidTo May s said [] (Ok tt) x
blank_said {May = May} x s said is stands =
    let P : Line → Type 0 = λ l. SaidTo May s l [] (Ok tt) x in
    subst P (sym is) ([], s, ((refl, refl, refl), tt), stands)

-- memory ran out before anything was shown
pub unsaid_spent : (May : Fate → Type 0) (x : Stage) (s : spec.Stage) (said : Line) (why : Stop) → why ≡ NoMemory → SaidTo May s said [] (Err why) x
unsaid_spent May x s said why e =
    let P : Stop → Type 0 = λ stop. SaidTo May s said [] (Err stop) x in
    subst P (sym e) (inl refl)

-- ---- a line of steps, which is left

pub line_left : (s : spec.Stage) (bytes : List ℕ) (said : Line) (was now : Stage) (result : Result (Option StepsLine) Stop) → length bytes ≤ line_limit → Says bytes said → SaidOrLeft s said was now result → LineOrLeft s bytes was now result
line_left s bytes said was now (Ok None) fits says told = line_said MayBeNone now s bytes said [] (Ok tt) fits says told
line_left s bytes said was now (Ok (Some steps)) fits says told = (subst (Says bytes) told.0 says, told.1)
line_left s bytes said was now (Err why) fits says told = line_said MayBeNone now s bytes said [] (Err why) fits says told

pub none_left : (s : spec.Stage) (bytes : List ℕ) (was now : Stage) (left : Option StepsLine) → left ≡ None → LineOrLeft s bytes was now (Ok left) → LineTo MayBeNone s bytes [] (Ok tt) now
none_left s bytes was now left is told = let P : Option StepsLine → Type 0 = λ o. LineOrLeft s bytes was now (Ok o) in subst P is told

pub steps_left : (s : spec.Stage) (bytes : List ℕ) (was now : Stage) (left : Option StepsLine) (given steps : StepsLine) → left ≡ Some given → given ≡ steps → LineOrLeft s bytes was now (Ok left) → Says bytes (line_of steps) × (now ≡ was)
steps_left s bytes was now left given steps some is told =
    let P : Option StepsLine → Type 0 = λ o. LineOrLeft s bytes was now (Ok o) in
    let Q : StepsLine → Type 0 = λ steps. Says bytes (line_of steps) × (now ≡ was) in
    subst Q is (subst P some told)

-- ---- what happens

done_so : {May : Fate → Type 0} (w : World) (s : spec.Stage) (e : Event) (stepped : Stepped) → IsOutside e → StepGives (IsWorld w) (opened s) e (Ok stepped) → SaidTo May s (line.Happens e) [] (Ok tt) (stage.Running w)
done_so {May = May} w s e Done outside told = ([], Running (happen (opened s) e), ((told.1, refl, refl, refl), tt), told.2)
done_so {May = May} w s e (Did note) outside told = absurd (outside told.2.number told.2.is)
done_so {May = May} w s e Idle outside told = absurd (outside told.1.number told.1.is)
done_so {May = May} w s e Refused outside told = absurd (outside told.3.number told.3.is)

pub happened : (May : Fate → Type 0) (w : World) (s : spec.Stage) (e : Event) (stepped : Result Stepped WorldFault) (answer : Result (Unit {0}) Stop) → IsOutside e → StepGives (IsWorld w) (opened s) e stepped → Answers stepped answer
    → SaidTo May s (line.Happens e) [] answer (stage.Running w)
happened May w s e (Ok stepped) answer outside told is =
    let P : Result (Unit {0}) Stop → Type 0 = λ a. SaidTo May s (line.Happens e) [] a (stage.Running w) in
    subst P (sym is) (done_so w s e stepped outside told)
happened May w s e (Err fault.Missing) answer outside told is =
    let P : Result (Unit {0}) Stop → Type 0 = λ a. SaidTo May s (line.Happens e) [] a (stage.Running w) in
    subst P (sym is) (told.0, refl)
happened May w s e (Err fault.NoMemory) answer outside told is =
    let P : Result (Unit {0}) Stop → Type 0 = λ a. SaidTo May s (line.Happens e) [] a (stage.Running w) in
    subst P (sym is) (inl refl)

-- ---- the number of an actor

named_worker : (name : ℕ) → name < net_number → actor_of name ≡ WorkerOf name
named_worker name h = ap (λ (b : Bool). if b then WorkerOf name else ThePump) (lt-ltb name net_number h)

named_pump : (name : ℕ) → net_number ≤ name → actor_of name ≡ ThePump
named_pump name h = ap (λ (b : Bool). if b then WorkerOf name else ThePump) (le-ltb name net_number h)
