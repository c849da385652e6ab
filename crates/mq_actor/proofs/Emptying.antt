-- A table of which each port is handed back, one key after the other.
use Rattle.std.proofs.Common.{◌≡◌, ◌⊎◌, inl, inr, ℕ, zero, suc, ◌+◌, ◌<◌, ◌≤◌, List, [], ◌∷◌, length, Option, Some, None, refl, subst, ◌∙◌, arith}
use Rattle.std.specs.Prelude.{slice_index_or, MatchOption}
use Rattle.std.proofs.lemmas.Bool.{cases_lt}
use Rattle.std.proofs.lemmas.List.Elements.{All-from_get_or}
use Rattle.slab.specs.Slab.{Slab, get, Updates}
use Rattle.mq_ports.specs.Tables.{IsEmpty}

-- no slot is past the last
pub past_slots : {Q : Type 0} (slots : List (Option Q)) (k : ℕ) → length slots ≤ k → slice_index_or slots k None ≡ None
past_slots [] k past = refl
past_slots (slot ∷ slots) zero past = absurd (omega (arith, past))
past_slots (slot ∷ slots) (suc k) past = past_slots slots k (omega (arith, past))

module _ {Q : Type 0} (old new : Slab Q) (key : ℕ) (gone : Updates old new key None) where
  pub gone_upto : ((k : ℕ) → k < key → get old k ≡ None) → (k : ℕ) → k < key + 1 → get new k ≡ None
  gone_upto before k less = by_case (cases_lt k key) where
    by_case : (k < key) ⊎ (key ≤ k) → get new k ≡ None
    by_case (inl low) = gone.others k (λ same. omega (arith, low, same)) ∙ before k low
    by_case (inr high) = let here : key ≡ k = omega (arith, less, high) in subst (λ (j : ℕ). get new j ≡ None) here gone.changed

  pub gone_beyond : (end : ℕ) → key < end → ((k : ℕ) → end ≤ k → get old k ≡ None) → (k : ℕ) → end ≤ k → get new k ≡ None
  gone_beyond end less before k past = gone.others k (λ same. omega (arith, less, past, same)) ∙ before k past

-- nothing stands in it where nothing stands before a key, and nothing from there on
pub all_gone : {Q : Type 0} (s : Slab Q) (key end : ℕ) → end ≤ key → ((k : ℕ) → k < key → get s k ≡ None) → ((k : ℕ) → end ≤ k → get s k ≡ None) → IsEmpty s.slots
all_gone {Q} s key end le low high = All-from_get_or (λ (slot : Option Q). slot ≡ None) s.slots None (λ k within. by_case k (cases_lt k key)) where
  by_case : (k : ℕ) → (k < key) ⊎ (key ≤ k) → get s k ≡ None
  by_case k (inl less) = low k less
  by_case k (inr more) = high k (omega (arith, le, more))

-- what holds where there was no port, and beside what else holds of one
pub either_way : {Q : Type 0} (o : Option Q) (A C : Type 0) (B F : Q → Type 0) → (A → C) → MatchOption o A (λ port. B port × C × F port) → C
either_way None A C B F none is = none is
either_way (Some port) A C B F none is = is.1
