-- The rule of a turn. The tickets that passes have are those from the served number up to the next one, each in one pass.
-- The value is in its slot where nobody is served, and its history is the one of which each pass has seen a beginning.
use Rattle.std.specs.Prelude.{◌≡◌, ◌≢◌, ℕ, ◌^◌, ◌<◌, ◌≤◌, ◌⊎◌, List, [], ◌∷◌, length, slice_index, Option, Some}
use Rattle.std.specs.List.{All}
use mathlib.Core.Option.{none, some}
use mathlib.Core.Option as maybe
use lib.ListN.{get_elem?}
use Rattle.atomic_table.specs.Table.{State}
use Rattle.mq_turn.specs.declared.view.Stage.{Stage}
use Rattle.mq_turn.specs.declared.view.Stage.TheVariants.{Idle, Waiting, Serving}
use Rattle.mq_turn.specs.declared.view.View.{View}
use Rattle.mq_turn.specs.History.{Fits, by}
use Rattle.mq_turn.specs.Passes.{IsNamed, CountsAs}

-- the next ticket, the number that is served, and how long the history is
pub record HasWords (words : List ℕ) (next served count : ℕ) : Type 0 where
  pub size : length words ≡ 33
  pub next_is : slice_index words 0 ≡ next
  pub served_is : slice_index words 16 ≡ served
  pub count_is : slice_index words 32 ≡ count

-- who waits has a ticket that wasn't served yet, and who is served has that number's and has seen the history
abbrev pub InStage : {E : Type 0} → ℕ → ℕ → List E → List E → Stage → Type 0
InStage next served history seen Idle = Unit {0}
InStage next served history seen (Waiting ticket) = (served ≤ ticket) × (ticket < next)
InStage next served history seen (Serving ticket) = (ticket ≡ served) × (ticket < next) × (seen ≡ history)

abbrev pub HasTicket : ℕ → Stage → Type 0
HasTicket t Idle = ⊥
HasTicket t (Waiting ticket) = ticket ≡ t
HasTicket t (Serving ticket) = ticket ≡ t

module _ {E S : Type 0} where
  -- the first pass
  abbrev pub newcomer : S → View E S
  newcomer settings = record { stage = Idle; settings = Some settings; number = 0; seen = []; taken_in = []; made = 1 }

  -- no other pass took it in
  abbrev pub IsLive : S → View E S → Type 0
  IsLive settings v = v.settings ≡ Some settings

  -- it is the pass of this number, or took that in
  abbrev pub HasNumber : ℕ → View E S → Type 0
  HasNumber n v = CountsAs n v.number v.taken_in

-- what a pass knows is so; the one that is or took in the first knows how many were made
pub record Stands {E S : Type 0} (maker : E → ℕ) (next served made : ℕ) (history : List E) (v : View E S) : Type 0 where
  pub stage : InStage next served history v.seen v.stage
  pub fits : Fits maker history v.number v.seen
  pub others : All (λ k. Fits maker history k.number k.seen) v.taken_in
  pub once : ¬ (IsNamed v.number v.taken_in)
  pub below : (n : ℕ) → HasNumber n v → n < made
  pub first : HasNumber 0 v → v.made ≡ made
  pub later : ¬ (HasNumber 0 v) → v.made ≡ 0

module _ {V E S : Type 0} (settings_of : V → S) (history_of : V → List E) (settings : S) where
  -- the value is in its slot
  pub record IsHome (homes : List (maybe.Option (Option V))) (history : List E) : Type 0 where
    pub value : V
    pub homes_are : homes ≡ some (Some value) ∷ []
    pub history_is : history_of value ≡ history
    pub settings_is : settings_of value ≡ settings

  -- the slot is out with whom is served, and where nobody is, it has the value
  pub record IsSlot (homes : List (maybe.Option (Option V))) (views : List (View E S)) (history : List E) : Type 0 where
    pub out : (j : ℕ) (v : View E S) (t : ℕ) → get_elem? views j ≡ some v → v.stage ≡ Serving t → homes ≡ none ∷ []
    pub home : ((j : ℕ) (v : View E S) (t : ℕ) → get_elem? views j ≡ some v → v.stage ≢ Serving t) → IsHome homes history

  pub record IsTurn (maker : E → ℕ) (is_sound : S → List E → Type 0) (s : State (Option V) (View E S)) : Type 0 where
    pub next : ℕ
    pub served : ℕ
    pub made : ℕ
    pub history : List E
    pub words : HasWords s.words next served (length history)
    pub behind : served ≤ next
    pub bounded : next ≤ 2 ^ 63
    pub slot : IsSlot s.homes s.views history
    pub sound : is_sound settings history
    pub unmade : (n : ℕ) → made ≤ n → by maker n history ≡ []
    pub stands : (j : ℕ) (v : View E S) → get_elem? s.views j ≡ some v → IsLive settings v → Stands maker next served made history v
    pub idle : (j : ℕ) (v : View E S) → get_elem? s.views j ≡ some v → IsLive settings v ⊎ (v.stage ≡ Idle)
    pub held : (t : ℕ) → served ≤ t → t < next → (j : ℕ) × (v : View E S) × (get_elem? s.views j ≡ some v) × HasTicket t v.stage
    pub one_ticket : (i j t : ℕ) (v w : View E S) → get_elem? s.views i ≡ some v → get_elem? s.views j ≡ some w
        → HasTicket t v.stage → HasTicket t w.stage → i ≡ j
    pub one_number : (i j n : ℕ) (v w : View E S) → get_elem? s.views i ≡ some v → get_elem? s.views j ≡ some w
        → IsLive settings v → IsLive settings w → HasNumber n v → HasNumber n w → i ≡ j
