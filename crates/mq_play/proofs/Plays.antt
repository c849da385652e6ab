-- What lines print is one text, by how their steps went; and what steps print that stop somewhere is a front of it.
use Rattle.std.proofs.Common.{◌≡◌, ℕ, false, inl, inr, zero, suc, List, [], ◌∷◌, ◌++◌, Some, None, refl, sym, ap, subst, ◌∙◌, append_assoc, append-nil}
use Rattle.std.specs.Option.{unwrap_or}
use Rattle.mq_book.specs.Laws.{HasOneAnswer}
use Rattle.mq_talk.specs.declared.note.Note.{Note}
use Rattle.mq_machine.specs.Laws.{HasOneTurn, HasOneSilentTurn, IsTurnOrQuiet, IsSilentOrQuiet}
use Rattle.mq_machine.specs.State.{State}
use Rattle.mq_machine.specs.Turn.{Actor, has_turn}
use Rattle.mq_play.specs.declared.line.Line.{Line}
use Rattle.mq_play.specs.declared.line.Line.TheVariants as line
use Rattle.mq_play.specs.declared.line.SettingLine.{SettingLine}
use Rattle.mq_play.specs.Lines.{Says}
use Rattle.mq_play.specs.Text.{printed}
use Rattle.mq_play.specs.Text.{Says as SaysNote}
use Rattle.mq_play.specs.Play.{Fate, Noted, Silent, Until, TheEnd, SomeStop, StepsTo, Runs, next_actor, place_behind, Goes, Stage, Settings, Running, opened, actor_of, Sets, LinePlays, PlaysLine, Plays}
use Rattle.mq_play.specs.Script.{IsFrontOf}
use Rattle.mq_play.specs.Laws.{Alike, AllAlike}
use Rattle.mq_play.specs.Sayings.{HasOneSaying}
use Rattle.mq_play.proofs.Plans.{more_kept}
use Rattle.mq_play.proofs.Lawful.{Lawful, lawful_turn, lawful_silent, lawful_happen}
use Rattle.mq_play.proofs.Sure.{LawfulStage, lawful_opened, book_says_one}

-- what is known of the machine, the book and the grammar
pub record Known : Type 0 where
  pub turn : HasOneTurn
  pub silent : HasOneSilentTurn
  pub turn_or_quiet : IsTurnOrQuiet
  pub silent_or_quiet : IsSilentOrQuiet
  pub answer : HasOneAnswer
  pub says : HasOneSaying

-- ---- steps lead to lawful states

step_lawful : (old : State) (actor : Actor) (fate : Fate) (text : List ℕ) (new : State) → Lawful old → StepsTo old actor fate text new → Lawful new
step_lawful old actor Noted text new h x = lawful_turn old new actor x.0 h x.1
step_lawful old actor (Silent reached) text new h x = lawful_silent old new actor reached h x.0

run_lawful : (until : Until) (n : ℕ) (old : State) (actor : Actor) (f : List Fate) (s : List ℕ) (new : State) → Lawful old → Runs until old actor n f s new → Lawful new
run_lawful until zero old actor [] s new h x = subst Lawful (sym x.1) h
run_lawful until zero old actor (z ∷ f) s new h x = absurd x
run_lawful until (suc n) old actor [] s new h x = subst Lawful (sym x.1) h
run_lawful until (suc n) old actor (z ∷ f) s new h x = run_lawful until n x.0 actor f x.2 new (step_lawful old actor z x.1 x.0 h x.3) x.4

round_lawful : (until : Until) (n : ℕ) (old : State) (at : ℕ) (f : List Fate) (s : List ℕ) (new : State) → Lawful old → Goes until old at n f s new → Lawful new
round_lawful until zero old at [] s new h x = subst Lawful (sym x.1) h
round_lawful until zero old at (z ∷ f) s new h x = absurd x
round_lawful until (suc n) old at [] s new h x = subst Lawful (sym x.2) h
round_lawful until (suc n) old at (z ∷ f) s new h x = round_lawful until n x.1 (place_behind x.0) f x.3 new (step_lawful old x.0 z x.2 x.1 h x.5) x.6

set_lawful : (text : List ℕ) (old : Stage) (said : SettingLine) (new : Stage) → Says text (line.Setting said) → LawfulStage old → Sets old said new → LawfulStage new
set_lawful text (Settings lines) said new says h x = subst LawfulStage (sym x.1) (more_kept text lines said says h x.0)
set_lawful text (Running state) said new says h x = absurd x

line_lawful : (text : List ℕ) (old : Stage) (said : Line) (f : List Fate) (s : List ℕ) (new : Stage) → Says text said → LawfulStage old → LinePlays TheEnd old said f s new → LawfulStage new
line_lawful text old line.Blank f s new says h x = subst LawfulStage (sym x.0) h
line_lawful text old (line.Setting said) f s new says h x = set_lawful text old said new says h x.0
line_lawful text old (line.Happens event) f s new says h x = subst LawfulStage (sym x.1) (lawful_happen (opened old) event (lawful_opened old h))
line_lawful text old (line.Steps actor count) f s new says h x =
    subst LawfulStage (sym x.3) (run_lawful TheEnd count (opened old) (actor_of actor) f s x.1 (lawful_opened old h) x.2)
line_lawful text old (line.Run count) f s new says h x = subst LawfulStage (sym x.2) (round_lawful TheEnd count (opened old) 0 f s x.0 (lawful_opened old h) x.1)

pub plays_lawful : (lines : List (List ℕ)) (old new : Stage) (f : List (List Fate)) (s : List ℕ) → LawfulStage old → Plays old lines f s new → LawfulStage new
plays_lawful [] old new [] s h x = subst LawfulStage (sym x.1) h
plays_lawful [] old new (z ∷ f) s h x = absurd x
plays_lawful (l ∷ lines) old new [] s h x = absurd x
plays_lawful (l ∷ lines) old new (z ∷ f) s h x = plays_lawful lines x.0 new f x.2 (line_lawful l old x.3.said z x.1 x.0 x.3.says h x.3.plays) x.4

-- ---- one step

-- an actor that makes a step isn't quiet
not_quiet : Known → (old new : State) (actor : Actor) (fate : Fate) (text : List ℕ) → StepsTo old actor fate text new → has_turn old actor ≡ false → ⊥
not_quiet known old new actor Noted text x h = known.turn_or_quiet old new actor x.0 x.1 h
not_quiet known old new actor (Silent reached) text x h = known.silent_or_quiet old new actor reached x.0 h

one_step : Known → (old : State) (actor : Actor) (fate : Fate) (s t : List ℕ) (a b : State) → Lawful old → StepsTo old actor fate s a → StepsTo old actor fate t b → (s ≡ t) × (a ≡ b)
one_step known old actor Noted s t a b h x y =
    let one = book_says_one known.answer old.shared.config old.shared.book h.book in
    let same = known.turn old actor x.0 y.0 a b one x.1 y.1 in
    (x.2 ∙ ap (λ (n : Note). printed (SaysNote n)) same.0 ∙ sym y.2, same.1)
one_step known old actor (Silent reached) s t a b h x y =
    (x.1 ∙ sym y.1, known.silent old actor reached a b (book_says_one known.answer old.shared.config old.shared.book h.book) x.0 y.0)

-- nobody is asked where everyone is quiet
none_next : (old : State) (at : ℕ) (actor : Actor) → next_actor old at ≡ Some actor → next_actor old at ≡ None → ⊥
none_next old at actor x y = absurd cc

module _ (known : Known) where
  -- ---- whole runs

  one_run : (n : ℕ) (old : State) (actor : Actor) (f g : List Fate) (s t : List ℕ) (a b : State) → Lawful old → Alike f g
      → Runs TheEnd old actor n f s a → Runs TheEnd old actor n g t b → (s ≡ t) × (a ≡ b)
  one_run zero old actor [] [] s t a b h same x y = (x.0 ∙ sym y.0, x.1 ∙ sym y.1)
  one_run zero old actor [] (z ∷ g) s t a b h same x y = absurd y
  one_run zero old actor (z ∷ f) g s t a b h same x y = absurd x
  one_run (suc n) old actor [] [] s t a b h same x y = (x.0.1 ∙ sym y.0.1, x.1 ∙ sym y.1)
  one_run (suc n) old actor [] (z ∷ g) s t a b h same x y = absurd (not_quiet known old y.0 actor z y.1 y.3 x.0.0)
  one_run (suc n) old actor (z ∷ f) [] s t a b h same x y = absurd (not_quiet known old x.0 actor z x.1 x.3 y.0.0)
  one_run (suc n) old actor (z ∷ f) (w ∷ g) s t a b h same x y =
      let Q : Fate → Type 0 = λ fate. StepsTo old actor fate y.1 y.0 in
      let step = one_step known old actor z x.1 y.1 x.0 y.0 h x.3 (subst Q (sym same.0) y.3) in
      let P : State → Type 0 = λ mid. Runs TheEnd mid actor n g y.2 b in
      let rest = one_run n x.0 actor f g x.2 y.2 a b (step_lawful old actor z x.1 x.0 h x.3) same.1 x.4 (subst P (sym step.1) y.4) in
      (x.5 ∙ ap (λ shown. shown ++ x.2) step.0 ∙ ap (λ more. y.1 ++ more) rest.0 ∙ sym y.5, rest.1)

  one_round : (n : ℕ) (old : State) (at : ℕ) (f g : List Fate) (s t : List ℕ) (a b : State) → Lawful old → Alike f g
      → Goes TheEnd old at n f s a → Goes TheEnd old at n g t b → (s ≡ t) × (a ≡ b)
  one_round zero old at [] [] s t a b h same x y = (x.0 ∙ sym y.0, x.1 ∙ sym y.1)
  one_round zero old at [] (z ∷ g) s t a b h same x y = absurd y
  one_round zero old at (z ∷ f) g s t a b h same x y = absurd x
  one_round (suc n) old at [] [] s t a b h same x y = (x.1 ∙ sym y.1, x.2 ∙ sym y.2)
  one_round (suc n) old at [] (z ∷ g) s t a b h same x y = absurd (none_next old at y.0 y.4 x.0)
  one_round (suc n) old at (z ∷ f) [] s t a b h same x y = absurd (none_next old at x.0 x.4 y.0)
  one_round (suc n) old at (z ∷ f) (w ∷ g) s t a b h same x y =
      let actor : x.0 ≡ y.0 = ap (λ o. unwrap_or o x.0) (sym x.4 ∙ y.4) in
      let Q : Actor → Type 0 = λ who. StepsTo old who w y.2 y.1 in
      let R : Fate → Type 0 = λ fate. StepsTo old x.0 fate y.2 y.1 in
      let step = one_step known old x.0 z x.2 y.2 x.1 y.1 h x.5 (subst R (sym same.0) (subst Q (sym actor) y.5)) in
      let P : State → Type 0 = λ mid. Goes TheEnd mid (place_behind y.0) n g y.3 b in
      let S : Actor → Type 0 = λ who. Goes TheEnd x.1 (place_behind who) n g y.3 b in
      let rest = one_round n x.1 (place_behind x.0) f g x.3 y.3 a b (step_lawful old x.0 z x.2 x.1 h x.5) same.1 x.6 (subst S (sym actor) (subst P (sym step.1) y.6)) in
      (x.7 ∙ ap (λ shown. shown ++ x.3) step.0 ∙ ap (λ more. y.2 ++ more) rest.0 ∙ sym y.7, rest.1)

  one_set : (old : Stage) (said : SettingLine) (a b : Stage) → Sets old said a → Sets old said b → a ≡ b
  one_set (Settings lines) said a b x y = x.1 ∙ sym y.1
  one_set (Running state) said a b x y = absurd x

  one_said : (old : Stage) (said : Line) (f g : List Fate) (s t : List ℕ) (a b : Stage) → LawfulStage old → Alike f g
      → LinePlays TheEnd old said f s a → LinePlays TheEnd old said g t b → (s ≡ t) × (a ≡ b)
  one_said old line.Blank f g s t a b h same x y = (x.2 ∙ sym y.2, x.0 ∙ sym y.0)
  one_said old (line.Setting said) f g s t a b h same x y = (x.2 ∙ sym y.2, one_set old said a b x.0 y.0)
  one_said old (line.Happens event) f g s t a b h same x y = (x.3 ∙ sym y.3, x.1 ∙ sym y.1)
  one_said old (line.Steps actor count) f g s t a b h same x y =
      let both = one_run count (opened old) (actor_of actor) f g s t x.1 y.1 (lawful_opened old h) same x.2 y.2 in
      (both.0, x.3 ∙ ap Running both.1 ∙ sym y.3)
  one_said old (line.Run count) f g s t a b h same x y =
      let both = one_round count (opened old) 0 f g s t x.0 y.0 (lawful_opened old h) same x.1 y.1 in
      (both.0, x.2 ∙ ap Running both.1 ∙ sym y.2)

  one_line : (old : Stage) (l : List ℕ) (f g : List Fate) (s t : List ℕ) (a b : Stage) → LawfulStage old → Alike f g
      → PlaysLine TheEnd old l f s a → PlaysLine TheEnd old l g t b → (s ≡ t) × (a ≡ b)
  one_line old l f g s t a b h same x y =
      let Q : Line → Type 0 = λ said. LinePlays TheEnd old said g t b in
      one_said old x.said f g s t a b h same x.plays (subst Q (sym (known.says l x.said y.said x.says y.says)) y.plays)

  -- ---- lines, and what stands behind them

  -- these lines go on from there, and print what is left of the whole text; the first of them went as the other's last
  pub record Behind (mid : Stage) (after : List (List ℕ)) (s t : List ℕ) (last : List (List Fate)) (new : Stage) : Type 0 where
    pub fates : List (List Fate)
    pub rest : List ℕ
    pub plays : Plays mid after fates rest new
    pub is : t ≡ s ++ rest
    pub alike : AllAlike last fates

  pub behind : (before after : List (List ℕ)) (old mid new : Stage) (f g last : List (List Fate)) (s t : List ℕ) → LawfulStage old → AllAlike (f ++ last) g
      → Plays old before f s mid → Plays old (before ++ after) g t new → Behind mid after s t last new
  behind [] after old mid new [] g last s t h same x y =
      let P : Stage → Type 0 = λ o. Plays o after g t new in
      record { fates = g; rest = t; plays = subst P (sym x.1) y; is = ap (λ (text : List ℕ). text ++ t) (sym x.0); alike = same }
  behind [] after old mid new (z ∷ f) g last s t h same x y = absurd x
  behind (l ∷ before) after old mid new [] g last s t h same x y = absurd x
  behind (l ∷ before) after old mid new (z ∷ f) [] last s t h same x y = absurd y
  behind (l ∷ before) after old mid new (z ∷ f) (w ∷ g) last s t h same x y =
      let here = one_line old l z w x.1 y.1 x.0 y.0 h same.0 x.3 y.3 in
      let P : Stage → Type 0 = λ o. Plays o (before ++ after) g y.2 new in
      let on = behind before after x.0 mid new f g last x.2 y.2 (line_lawful l old x.3.said z x.1 x.0 x.3.says h x.3.plays) same.1 x.4 (subst P (sym here.1) y.4) in
      record {
        fates = on.fates;
        rest = on.rest;
        plays = on.plays;
        is = y.5 ∙ ap (λ (shown : List ℕ). shown ++ y.2) (sym here.0) ∙ ap (λ (more : List ℕ). x.1 ++ more) on.is ∙ sym (append_assoc x.1 x.2 on.rest) ∙ ap (λ (text : List ℕ). text ++ on.rest) (sym x.5);
        alike = on.alike;
      }

  -- nothing goes on behind the same lines
  pub ends_same : (lines : List (List ℕ)) (old a b : Stage) (f g : List (List Fate)) (s t : List ℕ) → LawfulStage old → AllAlike f g
      → Plays old lines f s a → Plays old lines g t b → (s ≡ t) × (a ≡ b)
  ends_same [] old a b [] [] s t h same x y = (x.0 ∙ sym y.0, x.1 ∙ sym y.1)
  ends_same [] old a b [] (z ∷ g) s t h same x y = absurd y
  ends_same [] old a b (z ∷ f) g s t h same x y = absurd x
  ends_same (l ∷ lines) old a b [] g s t h same x y = absurd x
  ends_same (l ∷ lines) old a b (z ∷ f) [] s t h same x y = absurd y
  ends_same (l ∷ lines) old a b (z ∷ f) (w ∷ g) s t h same x y =
      let here = one_line old l z w x.1 y.1 x.0 y.0 h same.0 x.3 y.3 in
      let P : Stage → Type 0 = λ mid. Plays mid lines g y.2 b in
      let rest = ends_same lines x.0 a b f g x.2 y.2 (line_lawful l old x.3.said z x.1 x.0 x.3.says h x.3.plays) same.1 x.4 (subst P (sym here.1) y.4) in
      (x.5 ∙ ap (λ (shown : List ℕ). shown ++ x.2) here.0 ∙ ap (λ (more : List ℕ). y.1 ++ more) rest.0 ∙ sym y.5, rest.1)

  -- ---- steps that stop somewhere

  all_front : (text : List ℕ) → IsFrontOf [] text
  all_front text = (text, refl)

  same_front : (s t : List ℕ) → s ≡ t → IsFrontOf s t
  same_front s t e = ([], sym e ∙ sym (append-nil s))

  -- one more text in front of both
  more_front : (s t shown text rest more : List ℕ) → s ≡ shown ++ rest → t ≡ text ++ more → shown ≡ text → IsFrontOf rest more → IsFrontOf s t
  more_front s t shown text rest more e k same front =
      (front.0, k ∙ ap (λ (x : List ℕ). x ++ more) (sym same) ∙ ap (λ (x : List ℕ). shown ++ x) front.1 ∙ sym (append_assoc shown rest front.0) ∙ ap (λ (x : List ℕ). x ++ front.0) (sym e))

  run_front : (n : ℕ) (old : State) (actor : Actor) (f g : List Fate) (s t : List ℕ) (a b : State) → Lawful old → Alike f g
      → Runs SomeStop old actor n f s a → Runs TheEnd old actor n g t b → IsFrontOf s t
  run_front zero old actor [] g s t a b h same x y = subst (λ (text : List ℕ). IsFrontOf text t) (sym x.0) (all_front t)
  run_front zero old actor (z ∷ f) g s t a b h same x y = absurd x
  run_front (suc n) old actor [] [] s t a b h same x y =
      elim x.0 [
        | inl idle ↦ same_front s t (idle.1 ∙ sym y.0.1)
        | inr none ↦ subst (λ (text : List ℕ). IsFrontOf text t) (sym none) (all_front t)
      ]
  run_front (suc n) old actor [] (z ∷ g) s t a b h same x y =
      elim x.0 [
        | inl idle ↦ absurd (not_quiet known old y.0 actor z y.1 y.3 idle.0)
        | inr none ↦ subst (λ (text : List ℕ). IsFrontOf text t) (sym none) (all_front t)
      ]
  run_front (suc n) old actor (z ∷ f) [] s t a b h same x y = absurd (not_quiet known old x.0 actor z x.1 x.3 y.0.0)
  run_front (suc n) old actor (z ∷ f) (w ∷ g) s t a b h same x y =
      let Q : Fate → Type 0 = λ fate. StepsTo old actor fate y.1 y.0 in
      let step = one_step known old actor z x.1 y.1 x.0 y.0 h x.3 (subst Q (sym same.0) y.3) in
      let P : State → Type 0 = λ mid. Runs TheEnd mid actor n g y.2 b in
      more_front s t x.1 y.1 x.2 y.2 x.5 y.5 step.0 (run_front n x.0 actor f g x.2 y.2 a b (step_lawful old actor z x.1 x.0 h x.3) same.1 x.4 (subst P (sym step.1) y.4))

  round_front : (n : ℕ) (old : State) (at : ℕ) (f g : List Fate) (s t : List ℕ) (a b : State) → Lawful old → Alike f g
      → Goes SomeStop old at n f s a → Goes TheEnd old at n g t b → IsFrontOf s t
  round_front zero old at [] [] s t a b h same x y =
      elim x.0 [
        | inl more ↦ same_front s t (more ∙ sym y.0)
        | inr none ↦ subst (λ (text : List ℕ). IsFrontOf text t) (sym none) (all_front t)
      ]
  round_front zero old at [] (z ∷ g) s t a b h same x y = absurd y
  round_front zero old at (z ∷ f) g s t a b h same x y = absurd x
  round_front (suc n) old at [] g s t a b h same x y = subst (λ (text : List ℕ). IsFrontOf text t) (sym x.1) (all_front t)
  round_front (suc n) old at (z ∷ f) [] s t a b h same x y = absurd (none_next old at x.0 x.4 y.0)
  round_front (suc n) old at (z ∷ f) (w ∷ g) s t a b h same x y =
      let actor : x.0 ≡ y.0 = ap (λ o. unwrap_or o x.0) (sym x.4 ∙ y.4) in
      let Q : Actor → Type 0 = λ who. StepsTo old who w y.2 y.1 in
      let R : Fate → Type 0 = λ fate. StepsTo old x.0 fate y.2 y.1 in
      let step = one_step known old x.0 z x.2 y.2 x.1 y.1 h x.5 (subst R (sym same.0) (subst Q (sym actor) y.5)) in
      let P : State → Type 0 = λ mid. Goes TheEnd mid (place_behind y.0) n g y.3 b in
      let S : Actor → Type 0 = λ who. Goes TheEnd x.1 (place_behind who) n g y.3 b in
      more_front s t x.2 y.2 x.3 y.3 x.7 y.7 step.0
      (round_front n x.1 (place_behind x.0) f g x.3 y.3 a b (step_lawful old x.0 z x.2 x.1 h x.5) same.1 x.6 (subst S (sym actor) (subst P (sym step.1) y.6)))

  said_front : (old : Stage) (said : Line) (f g : List Fate) (s t : List ℕ) (a b : Stage) → LawfulStage old → Alike f g
      → LinePlays SomeStop old said f s a → LinePlays TheEnd old said g t b → IsFrontOf s t
  said_front old line.Blank f g s t a b h same x y = same_front s t (x.2 ∙ sym y.2)
  said_front old (line.Setting said) f g s t a b h same x y = same_front s t (x.2 ∙ sym y.2)
  said_front old (line.Happens event) f g s t a b h same x y = same_front s t (x.3 ∙ sym y.3)
  said_front old (line.Steps actor count) f g s t a b h same x y = run_front count (opened old) (actor_of actor) f g s t x.1 y.1 (lawful_opened old h) same x.2 y.2
  said_front old (line.Run count) f g s t a b h same x y = round_front count (opened old) 0 f g s t x.0 y.0 (lawful_opened old h) same x.1 y.1

  pub line_front : (old : Stage) (l : List ℕ) (f g : List Fate) (s t : List ℕ) (a b : Stage) → LawfulStage old → Alike f g
      → PlaysLine SomeStop old l f s a → PlaysLine TheEnd old l g t b → IsFrontOf s t
  line_front old l f g s t a b h same x y =
      let Q : Line → Type 0 = λ said. LinePlays TheEnd old said g t b in
      said_front old x.said f g s t a b h same x.plays (subst Q (sym (known.says l x.said y.said x.says y.says)) y.plays)
