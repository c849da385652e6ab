-- What holds of all data streams.
use Rattle.std.specs.Prelude.{◌≡◌, ℕ, List, [], ◌∷◌, ◌++◌, Bool, false}
use Rattle.std.specs.List.{list_any, AllByRecursion}
use Rattle.mq_capsule.specs.declared.item.Item.{Item}
use Rattle.mq_capsule.specs.declared.item.Item.TheVariants.{Bad}
use Rattle.mq_capsule.specs.declared.item.CapsuleFault.{CapsuleFault}
use Rattle.mq_capsule.specs.Capsule.{Capsule, AreCapsules}
use Rattle.mq_capsule.specs.Items.{ItemsOf, IsSized, is_bad, said}

-- all bytes are capsules and a rest
abbrev pub HasCapsules : Type 0
HasCapsules = (bytes : List ℕ) → (capsules : List Capsule) × (rest : List ℕ) × AreCapsules bytes capsules rest

-- in one way
abbrev pub HasThemOnce : Type 0
HasThemOnce = (bytes : List ℕ) (capsules others : List Capsule) (rest tail : List ℕ) → AreCapsules bytes capsules rest → AreCapsules bytes others tail
    → (capsules ≡ others) × (rest ≡ tail)

-- later bytes go on behind the rest
abbrev pub GoesOn : Type 0
GoesOn = (bytes more : List ℕ) (capsules later : List Capsule) (rest tail : List ℕ) → AreCapsules bytes capsules rest → AreCapsules (rest ++ more) later tail
    → AreCapsules (bytes ++ more) (capsules ++ later) tail

-- no bytes are no capsules, and say nothing
abbrev pub SaysNothing : Type 0
SaysNothing = AreCapsules [] [] [] × ((control : Bool) → ItemsOf control [] [])

-- all bytes say something
abbrev pub IsReadable : Type 0
IsReadable = (control : Bool) (bytes : List ℕ) → (items : List Item) × ItemsOf control bytes items

-- and nothing else
abbrev pub IsReadOnce : Type 0
IsReadOnce = (control : Bool) (bytes : List ℕ) (items others : List Item) → ItemsOf control bytes items → ItemsOf control bytes others → items ≡ others

-- what was said stays said, whatever follows
abbrev pub StaysRead : Type 0
StaysRead = (control : Bool) (bytes more : List ℕ) (items all : List Item) → ItemsOf control bytes items → ItemsOf control (bytes ++ more) all
    → (later : List Item) × (all ≡ items ++ later)

-- what the rest says with later bytes stands behind what the capsules said, where the stream isn't malformed
abbrev pub SaysOn : Type 0
SaysOn = (control : Bool) (bytes more : List ℕ) (capsules : List Capsule) (rest : List ℕ) (later : List Item) → AreCapsules bytes capsules rest
    → list_any is_bad (said control capsules rest) ≡ false → ItemsOf control (rest ++ more) later
    → ItemsOf control (bytes ++ more) (said control capsules rest ++ later)

-- each item keeps to the limits
abbrev pub IsWithinLimits : Type 0
IsWithinLimits = (control : Bool) (bytes : List ℕ) (items : List Item) → ItemsOf control bytes items → AllByRecursion IsSized items

-- a bad item is the last
abbrev pub EndsAtBad : Type 0
EndsAtBad = (control : Bool) (bytes : List ℕ) (items : List Item) (fault : CapsuleFault) (later : List Item)
    → ItemsOf control bytes (items ++ Bad fault ∷ later) → later ≡ []
