-- The rule of an inbox's queue: what each actor pushed is what was popped of it and what waits of it, in order. One
-- pass at most pushes for each actor, and one pops.
use Rattle.std.specs.Prelude.{◌≡◌, ℕ, ◌≤◌, true, false, List, [], ◌∷◌, ◌++◌, Option, Some, None}
use mathlib.Core.Option.{some}
use lib.ListN.{get_elem?}
use Rattle.mq_talk.specs.declared.place.Parcel.{Parcel}
use Rattle.mq_mail.specs.declared.inbox_rule.Letter.{Letter}
use Rattle.mq_mail.specs.declared.inbox_rule.Part.{Part}
use Rattle.mq_mail.specs.Letters.{of, letters, AreParcels, IsAmong}

-- the pass that pushes for one actor
abbrev pub pusher : ℕ → List Parcel → Part
pusher p xs = record { owns = (p, xs) ∷ []; pops = false; popped = []; made = 0 }

-- the pass that pops
abbrev pub popper : ℕ → List Letter → Part
popper made xs = record { owns = []; pops = true; popped = xs; made = made }

-- a pass that does nothing any more
abbrev pub idle : Part
idle = record { owns = []; pops = false; popped = []; made = 0 }

-- the first of the actors pushed one more
abbrev pub adds : List (ℕ × List Parcel) → Parcel → List (ℕ × List Parcel)
adds [] x = []
adds (own ∷ rest) x = (own.0, own.1 ++ x ∷ []) ∷ rest

-- a pass is that of each of its actors, and knows what that pushed
abbrev pub Owns : (ℕ → Option ℕ) → (ℕ → List Parcel) → ℕ → List (ℕ × List Parcel) → Type 0
Owns seat pushed pass [] = Unit {0}
Owns seat pushed pass (own ∷ rest) = ((seat own.0 ≡ Some pass) × (own.1 ≡ pushed own.0)) × Owns seat pushed pass rest

-- the one pass that pops knows what was popped, and that actors which weren't made have no pass and pushed nothing
pub record IsPopper (reader : ℕ) (seat : ℕ → Option ℕ) (pushed : ℕ → List Parcel) (popped : List Letter) (pass : ℕ)
    (v : Part) : Type 0 where
  pub place : pass ≡ reader
  pub all : v.popped ≡ popped
  pub later : (p : ℕ) → v.made ≤ p → (seat p ≡ None) × (pushed p ≡ [])

pub record Knows (reader : ℕ) (seat : ℕ → Option ℕ) (pushed : ℕ → List Parcel) (popped : List Letter) (pass : ℕ)
    (v : Part) : Type 0 where
  pub owns : Owns seat pushed pass v.owns
  pub pops : v.pops ≡ true → IsPopper reader seat pushed popped pass v

pub record IsDelivered (items : List Letter) (views : List Part) : Type 0 where
  pub reader : ℕ
  pub seat : ℕ → Option ℕ
  pub pushed : ℕ → List Parcel
  pub popped : List Letter
  pub in_order : (p : ℕ) → of p (popped ++ items) ≡ letters p (pushed p)
  pub parcels : AreParcels items
  pub knows : (pass : ℕ) (v : Part) → get_elem? views pass ≡ some v → Knows reader seat pushed popped pass v

-- what each of these actors pushed is what was popped of it and what waits of it
abbrev pub AreAmong : List (ℕ × List Parcel) → List Letter → Type 0
AreAmong [] waiting = Unit {0}
AreAmong (own ∷ rest) waiting = IsAmong own.0 own.1 waiting × AreAmong rest waiting

-- all letters are those that these actors pushed, each once, in order, and other ones pushed none
abbrev pub AreOf : List (ℕ × List Parcel) → List Letter → Type 0
AreOf [] all = Unit {0}
AreOf (own ∷ rest) all = (of own.0 all ≡ letters own.0 own.1) × AreOf rest all

pub record AreAll (owns : List (ℕ × List Parcel)) (made : ℕ) (all : List Letter) : Type 0 where
  pub mine : AreOf owns all
  pub none : (p : ℕ) → made ≤ p → of p all ≡ []
