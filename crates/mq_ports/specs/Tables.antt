-- Which of the ports that were bound stand in a table, and which were handed back.
use Rattle.std.specs.Prelude.{◌≡◌, ⊤, ℕ, ◌+◌, ◌==◌, Bool, false, is_some, List, [], ◌++◌, ◌∷◌, length, All, count_by, nat_lt, if◌then◌else◌, Option, Some, None, Ok, Err}
use Rattle.slab.specs.Slab.{Slab, get, Updates}
use Rattle.mq_outside.specs.declared.ports.Binding.{Binding}
use Rattle.mq_outside.specs.declared.ports.Failed.{Failed}
use Rattle.mq_outside.specs.Ports.{PortHolds, PortsHolds, PortPast, PortsPast, PortsBind, Retired, CanRetire, past_retired}

abbrev pub is_place : ℕ → Option ℕ → Bool
is_place i None = false
is_place i (Some j) = j == i

-- the slot has the port that was bound at this place
abbrev pub holds_place : {Q : Type 0} → (Q → Option ℕ) → ℕ → Option Q → Bool
holds_place place i None = false
holds_place place i (Some port) = is_place i (place port)

-- Each port that was bound stands in the table or was handed back, once.
pub record IsBalancedIn {Q : Type 0} (place : Q → Option ℕ) (past : PortsPast) (slots : List (Option Q)) : Type 0 where
  pub sizes : length past.retired + count_by is_some slots ≡ length past.bound
  pub once : (i : ℕ) → count_by (λ (r : Retired). is_place i r.place) past.retired + count_by (holds_place place i) slots
      ≡ (if nat_lt i (length past.bound) then 1 else 0)

-- that, where it is told what was bound and handed back
abbrev pub IsBalanced : {Q : Type 0} → (Q → Option ℕ) → Option PortsPast → List (Option Q) → Type 0
IsBalanced place None slots = ⊤
IsBalanced place (Some past) slots = IsBalancedIn place past slots

-- Each port that was bound was handed back, once.
pub record AreBack (past : PortsPast) : Type 0 where
  pub sizes : length past.retired ≡ length past.bound
  pub once : (i : ℕ) → count_by (λ (r : Retired). is_place i r.place) past.retired ≡ (if nat_lt i (length past.bound) then 1 else 0)

abbrev pub AreAllBack : Option PortsPast → Type 0
AreAllBack None = ⊤
AreAllBack (Some past) = AreBack past

-- no port stands in the table
abbrev pub IsEmpty : {Q : Type 0} → List (Option Q) → Type 0
IsEmpty slots = All (λ slot. slot ≡ None) slots

-- a port stands under a new key
pub record Adds {Q : Type 0} (old new : Slab Q) (key : ℕ) (port : Q) : Type 0 where
  pub free : get old key ≡ None
  pub updates : Updates old new key (Some port)

-- the port under a key became another, and all others stay
pub record Changes {Q : Type 0} (old new : Slab Q) (key : ℕ) (R : Q → Q → Type 0) : Type 0 where
  pub was : Q
  pub now : Q
  pub at : get old key ≡ Some was
  pub updates : Updates old new key (Some now)
  pub does : R was now

-- the port was handed back
abbrev pub IsBack : {Q : Type 0} → (Q → PortPast) → (Q → Option ℕ) → Option PortsPast → Option PortsPast → Q → Type 0
IsBack past place old new port = CanRetire old → new ≡ past_retired old (record { place = place port; past = past port })

-- a bind gave this port, or failed
abbrev pub BindsPort : {Q : Type 0} → (Q → Option PortHolds) → Option PortsHolds → Option PortsHolds → Q → Type 0
BindsPort {Q} holds before after port = PortsBind {P = Q} {F = Failed} holds before after (Ok port)

abbrev pub FailsBind : {Q : Type 0} → (Q → Option PortHolds) → Option PortsHolds → Option PortsHolds → Failed → Type 0
FailsBind {Q} holds before after failed = PortsBind {P = Q} {F = Failed} holds before after (Err failed)

-- what was bound, and one port more
abbrev pub past_more : Option PortsPast → Binding → Option PortsPast
past_more None binding = None
past_more (Some past) binding = Some (record past { bound = past.bound ++ binding ∷ [] })
