-- Each port that was bound stands in the table or was handed back, once.
use Rattle.std.proofs.Common.{◌≡◌, ◌⊎◌, inl, inr, ◌+◌, ℕ, ◌==◌, Bool, true, false, cond, List, [], ◌∷◌, ◌++◌, length, Option, Some, None, Ok, refl, ap, subst, sym, ◌∙◌, nat_lt, arith}
use Rattle.std.specs.Prelude.{is_some}
use Rattle.std.proofs.lemmas.Bool.{ltb-true, ltb-false, eqb-true, eqb-false, lt-ltb, le-ltb, cases_Bool}
use Rattle.std.proofs.lemmas.List.{length_push}
use Rattle.slab.specs.Slab.{Slab, get, Updates}
use Rattle.mq_outside.specs.declared.ports.Binding.{Binding}
use Rattle.mq_outside.specs.declared.ports.Failed.{Failed}
use Rattle.mq_outside.specs.Ports.{PortsPast, next_place, past_bound}
use Rattle.mq_ports.specs.Tables.{is_place, holds_place, IsBalanced, AreAllBack, IsEmpty, past_more}
use Rattle.mq_ports.proofs.Counts.{count_new, count_empty}

pub all_back : {Q : Type 0} (place : Q → Option ℕ) (past : Option PortsPast) (slots : List (Option Q)) → IsEmpty slots → IsBalanced place past slots → AreAllBack past
all_back place None slots empty b = tt
all_back place (Some past) slots empty b = record {
  sizes =
      let none = count_empty is_some refl slots empty in
      omega (arith, b.sizes, none);
  once = λ i.
      let none = count_empty (holds_place place i) refl slots empty in
      let once = b.once i in
      omega (arith, none, once);
}

-- one place more
upto_more : (i n m : ℕ) → m ≡ n + 1 → cond {A = ℕ} (nat_lt i m) 1 0 ≡ cond {A = ℕ} (nat_lt i n) 1 0 + cond {A = ℕ} (n == i) 1 0
upto_more i n m one = by_cases (cases_Bool (nat_lt i n)) (cases_Bool (n == i)) where
  one_of : (a b : Bool) → a ≡ b → cond {A = ℕ} a 1 0 ≡ cond {A = ℕ} b 1 0
  one_of a b same = ap {B = ℕ} (λ x. cond x 1 0) same

  by_cases : ((nat_lt i n ≡ true) ⊎ (nat_lt i n ≡ false)) → (((n == i) ≡ true) ⊎ ((n == i) ≡ false)) → cond {A = ℕ} (nat_lt i m) 1 0 ≡ cond {A = ℕ} (nat_lt i n) 1 0 + cond {A = ℕ} (n == i) 1 0
  by_cases (inl below) (inl same) = let lt = ltb-true i n below in let eq = eqb-true n i same in absurd (omega (arith, lt, eq))
  by_cases (inl below) (inr other) =
      let lt = ltb-true i n below in
      let a = one_of (nat_lt i m) true (lt-ltb i m (omega (arith, lt, one))) in
      let b = one_of (nat_lt i n) true below in
      let c = one_of (n == i) false other in
      omega (arith, a, b, c)
  by_cases (inr above) (inl same) =
      let eq = eqb-true n i same in
      let a = one_of (nat_lt i m) true (lt-ltb i m (omega (arith, eq, one))) in
      let b = one_of (nat_lt i n) false above in
      let c = one_of (n == i) true same in
      omega (arith, a, b, c)
  by_cases (inr above) (inr other) =
      let le = ltb-false i n above in
      let ne = eqb-false n i other in
      let a = one_of (nat_lt i m) false (le-ltb i m (omega (arith, le, one, ne))) in
      let b = one_of (nat_lt i n) false above in
      let c = one_of (n == i) false other in
      omega (arith, a, b, c)

-- a port is bound, and put into the table
pub balanced_more : {Q : Type 0} (place : Q → Option ℕ) (past : Option PortsPast) (binding : Binding) (old new : Slab Q) (key : ℕ) (port : Q)
    → place port ≡ next_place past → get old key ≡ None → Updates old new key (Some port) → IsBalanced place past old.slots → IsBalanced place (past_more past binding) new.slots
balanced_more place None binding old new key port at free updates b = tt
balanced_more place (Some past) binding old new key port at free updates b = record {
  sizes =
      let more = count_new is_some refl old.slots new.slots key port free updates.changed updates.others in
      let bound = length_push past.bound binding in
      omega (arith, b.sizes, more, bound);
  once = λ i.
      let more = count_new (holds_place place i) refl old.slots new.slots key port free updates.changed updates.others in
      let here = ap {B = ℕ} (λ p. cond (is_place i p) 1 0) at in
      let upto = upto_more i (length past.bound) (length (past.bound ++ binding ∷ [])) (length_push past.bound binding) in
      let once = b.once i in
      omega (arith, more, here, upto, once);
}

bound_more : {Q : Type 0} (past : Option PortsPast) (binding : Binding) (port : Q) → past_bound {P = Q} {F = Failed} past binding (Ok port) ≡ past_more past binding
bound_more None binding port = refl
bound_more (Some past) binding port = refl

pub balanced_bound : {Q : Type 0} (place : Q → Option ℕ) (past after : Option PortsPast) (binding : Binding) (old new : Slab Q) (key : ℕ) (port : Q)
    → place port ≡ next_place past → after ≡ past_bound {P = Q} {F = Failed} past binding (Ok port) → get old key ≡ None → Updates old new key (Some port)
    → IsBalanced place past old.slots → IsBalanced place after new.slots
balanced_bound {Q} place past after binding old new key port at is free updates b =
    let P : Option PortsPast → Type 0 = λ p. IsBalanced place p new.slots in
    subst P (sym (is ∙ bound_more past binding port)) (balanced_more place past binding old new key port at free updates b)
