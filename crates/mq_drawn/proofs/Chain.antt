-- Lines of which each may come where those before it lead.
use Rattle.std.proofs.Common.{◌≡◌, ℕ, ◌≤◌, List, [], ◌∷◌, ◌++◌, length, sym, subst, inl, inr}
use Rattle.mq_machine.specs.State.{Told}
use Rattle.mq_play.specs.declared.line.Line.{Line}
use Rattle.mq_play.specs.declared.line.SettingLine.{SettingLine}
use Rattle.mq_play.specs.Laws.{NoneSilent, AllNoted}
use Rattle.mq_play.specs.Lines.{Says}
use Rattle.mq_play.specs.Play.{Fate, Stage, Settings, TheEnd, LinePlays, Plays, IsBadHere, IsWrong, line_limit}
use Rattle.mq_play.specs.Sayings.{HasOneSaying}
use Rattle.mq_drawn.proofs.Moving.{Ran}

-- what is known of the stage: its settings, or its links
pub data Where : Type 0 where
  Set : (told : List SettingLine) → Where
  Went : (links : List Told) → Where

abbrev pub At : Where → Stage → Type 0
At (Set told) s = s ≡ Settings told
At (Went links) s = Ran links s

-- a line is good there, and leads on
pub record IsGood (w : Where) (text : List ℕ) (next : Where) : Type 0 where
  pub said : Line
  pub says : Says text said
  pub fits : length text ≤ line_limit
  pub comes : (s : Stage) → At w s → IsBadHere s said → ⊥
  pub leads : (s t : Stage) (fates : List Fate) (shown : List ℕ) → At w s → NoneSilent fates → LinePlays TheEnd s said fates shown t → At next t

abbrev pub AreGood : Where → List (List ℕ) → Type 0
AreGood w [] = Unit {0}
AreGood w (text ∷ lines) = (next : Where) × IsGood w text next × AreGood next lines

module _ (one : HasOneSaying) where
  good_here : (w : Where) (text : List ℕ) (next : Where) (s : Stage) → At w s → IsGood w text next → (IsWrong s text → ⊥) × (length text ≤ line_limit)
  good_here w text next s at good = (
    λ wrong. elim wrong [
      | inl nothing ↦ nothing good.said good.says
      | inr bad ↦ good.comes s at (subst (λ (l : Line). IsBadHere s l) (one text bad.0 good.said bad.1 good.says) bad.2)
    ],
    good.fits,
  )

  pub good_at : (before : List (List ℕ)) (text : List ℕ) (after : List (List ℕ)) (w : Where) → AreGood w (before ++ text ∷ after)
      → (s : Stage) (fates : List (List Fate)) (shown : List ℕ) (here : Stage) → At w s → Plays s before fates shown here → AllNoted fates
      → (IsWrong here text → ⊥) × (length text ≤ line_limit)
  good_at [] text after w good s [] shown here at plays noted =
      let P : Stage → Type 0 = λ x. (IsWrong x text → ⊥) × (length text ≤ line_limit) in
      subst P (sym plays.1) (good_here w text good.0 s at good.1)
  good_at [] text after w good s (f ∷ fates) shown here at plays noted = absurd plays
  good_at (l ∷ before) text after w good s [] shown here at plays noted = absurd plays
  good_at (l ∷ before) text after w good s (f ∷ fates) shown here at plays noted =
      let line = plays.3 in
      let same = one l line.said good.1.said line.says good.1.says in
      let did = subst (λ (x : Line). LinePlays TheEnd s x f plays.1 plays.0) same line.plays in
      good_at before text after good.0 good.2 plays.0 fates plays.2 here (good.1.leads s plays.0 f plays.1 at noted.0 did) plays.4 noted.1
