-- The front of a capsule is decided by its own bytes.
use Rattle.std.proofs.Common.{◌≡◌, ℕ, zero, suc, ◌-◌, ◌+◌, ◌<◌, ◌≤◌, Bool, ltb, eqb, List, [], ◌∷◌, ◌++◌, length, take, drop, Option, Some, None, refl, sym, ap, ◌∙◌, arith, inl, inr, append_assoc, append-nil, ◌⊎◌}
use Rattle.std.specs.Option.{option_and_then}
use Rattle.std.proofs.Math.Seq.{take-add}
use Rattle.std.proofs.lemmas.Bool.{cases_Bool, cases_lt, ltb-false, ltb-true, cond-false, cond-true}
use Rattle.std.proofs.lemmas.List.{take_at, drop_at, take-append-le, take-take, take-append-drop, length-take-le, length-drop, length-take}
use Rattle.mq_wire.specs.Integer.{int_of}
use Rattle.mq_capsule.specs.declared.head.Head.{Head}
use Rattle.mq_capsule.specs.declared.front.Front.{Front}
use Rattle.mq_capsule.specs.declared.front.Plan.TheVariants.{Stop}
use Rattle.mq_capsule.specs.declared.item.CapsuleFault.TheVariants.{NoContext}
use Rattle.mq_capsule.specs.Capsule.{head_of}
use Rattle.mq_capsule.specs.Fronts.{front_of, front_by, payload_front, context_front, payload_plan, other_plan}
use Rattle.mq_wire.proofs.Integers.{int_front, int_none}

-- Two readings, one behind the other.
pub bound : {A B : Type 0} (f : A → Option B) (o : Option A) (y : B) → option_and_then f o ≡ Some y → (x : A) × (o ≡ Some x) × (f x ≡ Some y)
bound f None y e = absurd cc
bound f (Some x) y e = (x, refl, e)

pub unbound : {A B : Type 0} (f : A → Option B) (o : Option A) → option_and_then f o ≡ None → (o ≡ None) ⊎ ((x : A) × (o ≡ Some x) × (f x ≡ None))
unbound f None e = inl refl
unbound f (Some x) e = inr (x, refl, e)

pub binds : {A B : Type 0} (f : A → Option B) (o : Option A) (x : A) (z : Option B) → o ≡ Some x → f x ≡ z → option_and_then f o ≡ z
binds {A = A} f o x z p q = ap (λ (v : Option A). option_and_then f v) p ∙ q

-- the bytes of two, and what follows them
pub seam : (m n : ℕ) (bytes more : List ℕ) → take (m + n) bytes ++ more ≡ take m bytes ++ (take n (drop m bytes) ++ more)
seam m n bytes more = ap (λ (b : List ℕ). b ++ more) (take-add m n bytes) ∙ append_assoc (take m bytes) (take n (drop m bytes)) more

pub behind : (m : ℕ) (bytes more : List ℕ) → m ≤ length bytes → drop m (take m bytes ++ more) ≡ more
behind m bytes more l = drop_at (take m bytes) more m (length-take-le m bytes l)

pub record IsHead (bytes : List ℕ) (head : Head) : Type 0 where
  pub within : head.used ≤ length bytes
  pub some : 2 ≤ head.used
  pub few : head.used ≤ 16
  pub stays : (more : List ℕ) → head_of (take head.used bytes ++ more) ≡ Some head

pub head_front : (bytes : List ℕ) (head : Head) → head_of bytes ≡ Some head → IsHead bytes head
unfolding head_of
head_front bytes head e =
    let kind = bound _ (int_of bytes) head e in
    let size = bound _ (int_of (drop kind.0.1 bytes)) head kind.2 in
    let a = int_front bytes kind.0 kind.1 in
    let b = int_front (drop kind.0.1 bytes) size.0 size.1 in
    let m = kind.0.1 in
    let n = size.0.1 in
    let is : ◌≡◌ {A = Option Head} (Some (record { kind = kind.0.0; length = size.0.0; used = m + n })) (Some head) = size.2 in
    let used : m + n ≡ head.used = let h : ◌≡◌ {A = Head} (record { kind = kind.0.0; length = size.0.0; used = m + n }) head = cc in ap (λ (h : Head). h.used) h in
    record {
      within = omega (arith, used, a.within, b.within, length-drop m bytes);
      some = omega (arith, used, a.some, b.some);
      few = omega (arith, used, a.few, b.few);
      stays = λ more.
          let more_size = take n (drop m bytes) ++ more in
          let whole = ap (λ (u : ℕ). take u bytes ++ more) (sym used) ∙ seam m n bytes more in
          ap head_of whole
          ∙ binds _ (int_of (take m bytes ++ more_size)) kind.0 (Some head) (a.stays more_size)
          (binds _ (int_of (drop m (take m bytes ++ more_size))) size.0 (Some head) (ap int_of (behind m bytes more_size a.within) ∙ b.stays more) is);
    }

pub head_none : (bytes : List ℕ) → head_of bytes ≡ None → length bytes < 16
unfolding head_of
head_none bytes e =
    elim (unbound _ (int_of bytes) e) [
      | inl none ↦ omega (arith, int_none bytes none)
      | inr kind ↦ elim (unbound _ (int_of (drop kind.0.1 bytes)) kind.2) [
        | inl none ↦ omega (arith, int_none (drop kind.0.1 bytes) none, int_front bytes kind.0 kind.1, length-drop kind.0.1 bytes)
        | inr size ↦ absurd (let some = size.2 in cc)
      ]
    ]

-- what follows the front of a list that is cut off
take_over : (n : ℕ) (xs ys : List ℕ) → length xs ≤ n → take n (xs ++ ys) ≡ xs ++ take (n - length xs) ys
take_over n [] ys l = let e : n ≡ n - 0 = omega arith in ap (λ (k : ℕ). take k ys) e
take_over zero (x ∷ xs) ys l = absurd (omega arith)
take_over (suc n) (x ∷ xs) ys l =
    let e : n - length xs ≡ suc n - length (x ∷ xs) = omega arith in
    ap (λ (r : List ℕ). x ∷ r) (take_over n xs ys (omega arith) ∙ ap (λ (k : ℕ). xs ++ take k ys) e)

pub record IsBehind (control : Bool) (head : Head) (bytes : List ℕ) (front : Front) : Type 0 where
  pub within : front.used ≤ length bytes
  pub stays : (more : List ℕ) → front_by control head (take front.used bytes ++ more) ≡ Some front

parts : (a b : Front) → Some a ≡ Some b → a ≡ b
parts a b e = cc

-- by the Context ID
context_behind : (size : ℕ) (bytes : List ℕ) (context : Option (ℕ × ℕ)) (front : Front) → int_of (take size bytes) ≡ context
    → context_front context size (take size bytes) ≡ Some front
    → (front.used ≤ length bytes) × ((more : List ℕ) → payload_front size (take size (take front.used bytes ++ more)) ≡ Some front)
context_behind size bytes (Some context) front seen e =
    let a = int_front (take size bytes) context seen in
    let n = context.1 in
    let used : n ≡ front.used = ap (λ (f : Front). f.used) (parts (record { plan = payload_plan context.0 (size - n); used = n }) front e) in
    let len : n ≤ length bytes = omega (arith, a.within, length-take size bytes) in
    let fits : n ≤ size = omega (arith, a.within, length-take size bytes) in (
      omega (arith, used, len),
      λ more.
          let cut : take n (take size bytes) ≡ take n bytes = take-take n size bytes fits in
          let taken : length (take n bytes) ≡ n = length-take-le n bytes len in
          let over : take size (take n bytes ++ more) ≡ take n (take size bytes) ++ take (size - length (take n bytes)) more =
          take_over size (take n bytes) more (omega (arith, taken, fits)) ∙ ap (λ (f : List ℕ). f ++ take (size - length (take n bytes)) more) (sym cut) in
          let again : int_of (take size (take n bytes ++ more)) ≡ Some context = ap int_of over ∙ a.stays (take (size - length (take n bytes)) more) in
          ap (λ (u : ℕ). payload_front size (take size (take u bytes ++ more))) (sym used)
          ∙ ap (λ (c : Option (ℕ × ℕ)). context_front c size (take size (take n bytes ++ more))) again ∙ e,
    )
context_behind size bytes None front seen e =
    elim (cases_Bool (ltb (length (take size bytes)) size)) [
      | inl short ↦ absurd (let none = sym (cond-true _ None _ short) ∙ e in cc)
      | inr there ↦
          let value = take size bytes in
          let n = length value in
          let long : size ≤ n = ltb-false _ _ there in
          let is : n ≡ size = omega (arith, long, length-take size bytes) in
          let len : size ≤ length bytes = omega (arith, is, length-take size bytes) in
          let stop = sym (cond-false _ None (Some (record { plan = Stop NoContext; used = n })) there) ∙ e in
          let used : n ≡ front.used = ap (λ (f : Front). f.used) (parts (record { plan = Stop NoContext; used = n }) front stop) in (
            omega (arith, used, is, len),
            λ more.
                let cut : take size (take front.used bytes ++ more) ≡ value =
                ap (λ (u : ℕ). take size (take u bytes ++ more)) (sym used ∙ is) ∙ take_at (take size bytes) more size is in
                ap (payload_front size) cut ∙ ap (λ (c : Option (ℕ × ℕ)). context_front c size value) seen ∙ e,
          )
    ]

-- what belongs to the front behind a head
behind_front : (control : Bool) (head : Head) (bytes : List ℕ) (front : Front) → front_by control head bytes ≡ Some front → IsBehind control head bytes front
behind_front control head bytes front e =
    elim (cases_Bool (eqb head.kind 0)) [
      | inl datagram ↦
          let size = head.length in
          let by = context_behind size bytes (int_of (take size bytes)) front refl (sym (cond-true _ _ _ datagram) ∙ e) in
          record { within = by.0; stays = λ more. cond-true _ _ _ datagram ∙ by.1 more }
      | inr other ↦
          let is = sym (cond-false _ _ (Some (record { plan = other_plan control head; used = 0 })) other) ∙ e in
          let used : 0 ≡ front.used = ap (λ (f : Front). f.used) (parts (record { plan = other_plan control head; used = 0 }) front is) in
          record { within = omega arith; stays = λ more. cond-false _ _ _ other ∙ is }
    ]

pub record IsFront (control : Bool) (bytes : List ℕ) (front : Front) : Type 0 where
  pub within : front.used ≤ length bytes
  pub some : 2 ≤ front.used
  pub stays : (more : List ℕ) → front_of control (take front.used bytes ++ more) ≡ Some front

pub front_front : (control : Bool) (bytes : List ℕ) (front : Front) → front_of control bytes ≡ Some front → IsFront control bytes front
unfolding front_of
front_front control bytes front e =
    let head = bound _ (head_of bytes) front e in
    let by = bound _ (front_by control head.0 (drop head.0.used bytes)) front head.2 in
    let a = head_front bytes head.0 head.1 in
    let b = behind_front control head.0 (drop head.0.used bytes) by.0 by.1 in
    let m = head.0.used in
    let n = by.0.used in
    let used : m + n ≡ front.used = ap (λ (f : Front). f.used) (parts (record { plan = by.0.plan; used = m + n }) front by.2) in
    record {
      within = omega (arith, used, a.within, b.within, length-drop m bytes);
      some = omega (arith, used, a.some);
      stays = λ more.
          let value = take n (drop m bytes) ++ more in
          let whole = ap (λ (u : ℕ). take u bytes ++ more) (sym used) ∙ seam m n bytes more in
          ap (front_of control) whole
          ∙ binds _ (head_of (take m bytes ++ value)) head.0 (Some front) (a.stays value)
          (binds _ (front_by control head.0 (drop m (take m bytes ++ value))) by.0 (Some front)
          (ap (front_by control head.0) (behind m bytes value a.within) ∙ b.stays more) by.2);
    }

behind_none : (control : Bool) (head : Head) (bytes : List ℕ) → front_by control head bytes ≡ None → length bytes < 8
behind_none control head bytes e =
    elim (cases_Bool (eqb head.kind 0)) [
      | inl datagram ↦ context_none head.length bytes (int_of (take head.length bytes)) refl (sym (cond-true _ _ _ datagram) ∙ e)
      | inr other ↦ absurd (let some = sym (cond-false _ _ (Some (record { plan = other_plan control head; used = 0 })) other) ∙ e in cc)
    ]
  where
    context_none : (size : ℕ) (bytes : List ℕ) (context : Option (ℕ × ℕ)) → int_of (take size bytes) ≡ context
        → context_front context size (take size bytes) ≡ None → length bytes < 8
    context_none size bytes (Some context) seen e = absurd cc
    context_none size bytes None seen e =
        elim (cases_Bool (ltb (length (take size bytes)) size)) [
          | inl short ↦
              let less : length (take size bytes) < size = ltb-true _ _ short in
              omega (arith, less, length-take size bytes, int_none (take size bytes) seen)
          | inr there ↦ absurd (let some = sym (cond-false _ None (Some (record { plan = Stop NoContext; used = length (take size bytes) })) there) ∙ e in cc)
        ]

-- without a front there are fewer than 24 bytes
pub front_none : (control : Bool) (bytes : List ℕ) → front_of control bytes ≡ None → length bytes < 24
unfolding front_of
front_none control bytes e =
    elim (unbound _ (head_of bytes) e) [
      | inl none ↦ omega (arith, head_none bytes none)
      | inr head ↦ elim (unbound _ (front_by control head.0 (drop head.0.used bytes)) head.2) [
        | inl none ↦ omega (arith, behind_none control head.0 (drop head.0.used bytes) none, head_front bytes head.0 head.1, length-drop head.0.used bytes)
        | inr by ↦ absurd (let some = by.2 in cc)
      ]
    ]

-- a front stays, whatever follows
pub front_keeps : (control : Bool) (bytes more : List ℕ) (front : Front) → front_of control bytes ≡ Some front → front_of control (bytes ++ more) ≡ Some front
front_keeps control bytes more front e =
    let a = front_front control bytes front e in
    let split : bytes ++ more ≡ take front.used bytes ++ (drop front.used bytes ++ more) =
    ap (λ (b : List ℕ). b ++ more) (sym (take-append-drop front.used bytes)) ∙ append_assoc (take front.used bytes) (drop front.used bytes) more in
    ap (front_of control) split ∙ a.stays (drop front.used bytes ++ more)

-- and is there with its own bytes, and not before
pub front_alone : (control : Bool) (bytes : List ℕ) (front : Front) → front_of control bytes ≡ Some front → front_of control (take front.used bytes) ≡ Some front
front_alone control bytes front e = ap (front_of control) (sym (append-nil (take front.used bytes))) ∙ (front_front control bytes front e).stays []

pub front_late : (control : Bool) (bytes more : List ℕ) (front : Front) → front_of control bytes ≡ None → front_of control (bytes ++ more) ≡ Some front
    → length bytes < front.used
front_late control bytes more front none some =
    elim (cases_lt (length bytes) front.used) [
      | inl l ↦ l
      | inr l ↦
          let cut = take-append-le front.used bytes more l in
          let front_here = sym (ap (front_of control) cut) ∙ front_alone control (bytes ++ more) front some in
          let all = front_keeps control (take front.used bytes) (drop front.used bytes) front front_here in
          absurd (let there = sym (ap (front_of control) (take-append-drop front.used bytes)) ∙ all in cc)
    ]
