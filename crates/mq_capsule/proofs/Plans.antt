-- What the front of a capsule says of the whole.
use Rattle.std.proofs.Common.{◌≡◌, ℕ, ◌+◌, ◌-◌, ◌<◌, ◌≤◌, Bool, true, false, cond, ltb, eqb, ◌&&◌, List, [], ◌∷◌, ◌++◌, length, take, drop, Option, Some, None, refl, sym, ap, subst, ◌∙◌, arith, inl, inr}
use Rattle.std.specs.List.{cons_option}
use Rattle.std.proofs.lemmas.Bool.{cases_Bool, ltb-true, ltb-false, eqb-true, cond-false, cond-true, and_cases, and_left, and_right, and_from, and_parts}
use Rattle.std.proofs.lemmas.List.{take_all, drop_all, drop-drop, length-drop, length-take}
use Rattle.mq_wire.specs.Integer.{int_of}
use Rattle.mq_capsule.specs.declared.head.Head.{Head}
use Rattle.mq_capsule.specs.declared.front.Front.{Front}
use Rattle.mq_capsule.specs.declared.front.Plan.{Plan}
use Rattle.mq_capsule.specs.declared.front.Plan.TheVariants.{Keep, Skip, Stop}
use Rattle.mq_capsule.specs.declared.front.Kept.{Kept}
use Rattle.mq_capsule.specs.declared.front.Kept.TheVariants as kept
use Rattle.mq_capsule.specs.declared.front.Skipped.{Skipped}
use Rattle.mq_capsule.specs.declared.front.Skipped.TheVariants as skipped
use Rattle.mq_capsule.specs.declared.item.Item.{Item}
use Rattle.mq_capsule.specs.declared.item.Item.TheVariants.{Bad, TooLongDatagram, Datagram, Control}
use Rattle.mq_capsule.specs.declared.item.CapsuleFault.{CapsuleFault}
use Rattle.mq_capsule.specs.declared.item.CapsuleFault.TheVariants.{TooLong, NoContext}
use Rattle.mq_capsule.specs.Capsule.{AreCapsules, head_of, capsule_of}
use Rattle.mq_capsule.specs.Items.{ItemsOf, item_of, datagram_by, head_items, is_control, max_payload, max_control, up_to_bad}
use Rattle.mq_capsule.specs.Fronts.{front_of, front_by, payload_front, context_front, payload_plan, other_plan}
use Rattle.mq_capsule.specs.Steps.{kept_item, skipped_item}
use Rattle.mq_wire.proofs.Integers.{int_front}
use Rattle.mq_capsule.proofs.Fronts.{bound}
use Rattle.mq_capsule.proofs.Capsules.{capsule_at, capsule_whole, capsule_part, capsule_headless}

pub record KeepMeans (control : Bool) (head : Head) (rest : List ℕ) (what : Kept) (size used : ℕ) : Type 0 where
  pub total : used + size ≡ head.used + head.length
  pub no_fault_yet : head_items control (Some head) ≡ []
  pub small : size ≤ max_control
  pub says : length rest ≡ used + size → item_of control (capsule_at head rest) ≡ Some (kept_item what (drop used rest))

pub record SkipMeans (control : Bool) (head : Head) (rest : List ℕ) (what : Skipped) (size used : ℕ) : Type 0 where
  pub total : used + size ≡ head.used + head.length
  pub no_fault_yet : head_items control (Some head) ≡ []
  pub says : length rest ≡ used + size → item_of control (capsule_at head rest) ≡ skipped_item what

pub record StopMeans (control : Bool) (rest : List ℕ) (fault : CapsuleFault) (used : ℕ) : Type 0 where
  pub says : length rest ≡ used → ItemsOf control rest (Bad fault ∷ [])

abbrev pub Means : Bool → Head → List ℕ → Plan → ℕ → Type 0
Means control head rest (Keep what size) used = KeepMeans control head rest what size used
Means control head rest (Skip what size) used = SkipMeans control head rest what size used
Means control head rest (Stop fault) used = StopMeans control rest fault used

pub head_nothing : head_of [] ≡ None
unfolding head_of
head_nothing = unfold int_of in refl

pub nothing : capsule_of [] ≡ None
nothing = capsule_headless [] head_nothing

-- the value of a capsule with which the bytes end
value_whole : (head : Head) (rest : List ℕ) → length rest ≡ head.used + head.length → take head.length (drop head.used rest) ≡ drop head.used rest
value_whole head rest e = take_all head.length (drop head.used rest) (omega (arith, e, length-drop head.used rest))

-- a capsule alone
pub whole_alone : (head : Head) (rest : List ℕ) → head_of rest ≡ Some head → length rest ≡ head.used + head.length
    → AreCapsules rest (capsule_at head rest ∷ []) []
whole_alone head rest seen e =
    let all : drop (head.used + head.length) rest ≡ [] = drop_all (head.used + head.length) rest (omega arith) in
    (head.used + head.length, capsule_whole rest head seen (omega arith), (ap capsule_of all ∙ nothing, sym all))

pub quiet_datagram : (control : Bool) (head : Head) → head.kind ≡ 0 → head_items control (Some head) ≡ []
quiet_datagram control head e =
    let low : is_control head.kind ≡ false = ap is_control e in
    cond-false _ (Bad TooLong ∷ []) [] (and_right control _ (and_left (is_control head.kind) (ltb max_control head.length) low))

-- DATAGRAM
datagram_item : (control : Bool) (head : Head) (value : List ℕ) (context : Option (ℕ × ℕ)) → eqb head.kind 0 ≡ true → int_of value ≡ context
    → item_of control (record { kind = head.kind; value = value }) ≡ Some (datagram_by context value)
datagram_item control head value context e seen = cond-true _ _ _ e ∙ ap (λ (c : Option (ℕ × ℕ)). Some (datagram_by c value)) seen

module _ (control : Bool) (head : Head) (rest : List ℕ) (context : ℕ × ℕ) (is : eqb head.kind 0 ≡ true)
    (seen : int_of (take head.length (drop head.used rest)) ≡ Some context) where
  fits : context.1 ≤ head.length
  fits = let a = int_front (take head.length (drop head.used rest)) context seen in omega (arith, a.within, length-take head.length (drop head.used rest))

  payload_len : length rest ≡ head.used + context.1 + (head.length - context.1)
      → length (drop context.1 (take head.length (drop head.used rest))) ≡ head.length - context.1
  payload_len e =
      let all = value_whole head rest (omega (arith, e, fits)) in
      omega (arith, e, fits, length-drop context.1 (take head.length (drop head.used rest)), ap length all, length-drop head.used rest)

  long_means : ltb max_payload (head.length - context.1) ≡ true
      → SkipMeans control head rest (skipped.Payload context.0 (head.length - context.1)) (head.length - context.1) (head.used + context.1)
  long_means big = record {
    total = omega (arith, fits);
    no_fault_yet = quiet_datagram control head (eqb-true head.kind 0 is);
    says = λ e.
        let v = take head.length (drop head.used rest) in
        let len = payload_len e in
        datagram_item control head v (Some context) is seen
        ∙ ap (λ (i : Item). Some i) (cond-true _ _ _ (ap (ltb max_payload) len ∙ big) ∙ ap (TooLongDatagram context.0) len);
  }

  short_means : ltb max_payload (head.length - context.1) ≡ false
      → KeepMeans control head rest (kept.Payload context.0) (head.length - context.1) (head.used + context.1)
  short_means big =
      let few : head.length - context.1 ≤ max_payload = ltb-false _ _ big in
      record {
        total = omega (arith, fits);
        no_fault_yet = quiet_datagram control head (eqb-true head.kind 0 is);
        small = omega (arith, few);
        says = λ e.
            let v = take head.length (drop head.used rest) in
            let len = payload_len e in
            let all = value_whole head rest (omega (arith, e, fits)) in
            datagram_item control head v (Some context) is seen
            ∙ ap (λ (i : Item). Some i) (cond-false _ _ _ (ap (ltb max_payload) len ∙ big)
            ∙ ap (Datagram context.0) (ap (drop context.1) all ∙ drop-drop context.1 head.used rest));
      }

payload_means : (control : Bool) (head : Head) (rest : List ℕ) (context : ℕ × ℕ) → eqb head.kind 0 ≡ true
    → int_of (take head.length (drop head.used rest)) ≡ Some context
    → Means control head rest (payload_plan context.0 (head.length - context.1)) (head.used + context.1)
payload_means control head rest context is seen =
    let size = head.length - context.1 in
    let M : Plan → Type 0 = λ p. Means control head rest p (head.used + context.1) in
    let long : Plan = Skip (skipped.Payload context.0 size) size in
    let short : Plan = Keep (kept.Payload context.0) size in
    elim (cases_Bool (ltb max_payload size)) [
      | inl big ↦ subst M (sym (cond-true _ long short big)) (long_means control head rest context is seen big)
      | inr few ↦ subst M (sym (cond-false _ long short few)) (short_means control head rest context is seen few)
    ]

-- a value without a whole Context ID
stop_means : (control : Bool) (head : Head) (rest : List ℕ) → head_of rest ≡ Some head → eqb head.kind 0 ≡ true
    → int_of (take head.length (drop head.used rest)) ≡ None → head.length ≤ length (take head.length (drop head.used rest))
    → StopMeans control rest NoContext (head.used + length (take head.length (drop head.used rest)))
stop_means control head rest there is seen enough = record {
  says = λ e.
      let v = take head.length (drop head.used rest) in
      let size : length v ≡ head.length = omega (arith, enough, length-take head.length (drop head.used rest)) in
      let item = datagram_item control head v None is seen in
      record {
        capsules = capsule_at head rest ∷ [];
        rest = [];
        are = whole_alone head rest there (omega (arith, e, size));
        items_are = sym (ap (λ (h : Option Head). up_to_bad (cons_option (item_of control (capsule_at head rest)) [] ++ head_items control h)) head_nothing
            ∙ ap (λ (i : Option Item). up_to_bad (cons_option i [] ++ [])) item);
      };
}

-- The other types.
module _ (control : Bool) (head : Head) (rest : List ℕ) (is : eqb head.kind 0 ≡ false) where
  other_means : (control && is_control head.kind) ≡ false → SkipMeans control head rest skipped.Other head.length (head.used + 0)
  other_means none = record {
    total = omega arith;
    no_fault_yet = cond-false _ (Bad TooLong ∷ []) [] (elim (and_cases control (is_control head.kind) none) [
      | inl c ↦ and_left control _ c
      | inr k ↦ and_right control _ (and_left (is_control head.kind) (ltb max_control head.length) k)
    ]);
    says = λ e. cond-false _ _ _ is ∙ cond-false _ _ _ none;
  }

  control_means : (control && is_control head.kind) ≡ true → ltb max_control head.length ≡ false
      → KeepMeans control head rest (kept.Control head.kind) head.length (head.used + 0)
  control_means some small =
      let few : head.length ≤ max_control = ltb-false _ _ small in
      record {
        total = omega arith;
        no_fault_yet = cond-false _ (Bad TooLong ∷ []) [] (and_right control _ (and_right (is_control head.kind) (ltb max_control head.length) small));
        small = few;
        says = λ e.
            let all = value_whole head rest (omega arith) in
            let len : length (take head.length (drop head.used rest)) ≡ head.length = omega (arith, e, ap length all, length-drop head.used rest) in
            let same : head.used ≡ head.used + 0 = omega arith in
            cond-false _ _ _ is ∙ cond-true _ _ _ some
            ∙ ap (λ (i : Item). Some i) (cond-false _ _ _ (ap (ltb max_control) len ∙ small)
            ∙ ap (Control head.kind) (all ∙ ap (λ (n : ℕ). drop n rest) same));
      }

  large_means : head_of rest ≡ Some head → (control && is_control head.kind) ≡ true → ltb max_control head.length ≡ true
      → StopMeans control rest TooLong (head.used + 0)
  large_means there some large =
      let big : max_control < head.length = ltb-true _ _ large in
      let parts = and_parts control (is_control head.kind) some in
      let test = and_from control _ parts.0 (and_from (is_control head.kind) (ltb max_control head.length) parts.1 large) in
      record {
        says = λ e. record {
          capsules = [];
          rest = rest;
          are = (capsule_part rest head there (omega (arith, e, big)), refl);
          items_are = sym (ap (λ (h : Option Head). up_to_bad (head_items control h)) there ∙ ap up_to_bad (cond-true _ (Bad TooLong ∷ []) [] test));
        };
      }

others_mean : (control : Bool) (head : Head) (rest : List ℕ) → head_of rest ≡ Some head → eqb head.kind 0 ≡ false
    → Means control head rest (other_plan control head) (head.used + 0)
others_mean control head rest there is =
    let M : Plan → Type 0 = λ p. Means control head rest p (head.used + 0) in
    let long : Plan = cond (ltb max_control head.length) (Stop TooLong) (Keep (kept.Control head.kind) head.length) in
    elim (cases_Bool (control && is_control head.kind)) [
      | inr none ↦ subst M (sym (cond-false _ long (Skip skipped.Other head.length) none)) (other_means control head rest is none)
      | inl some ↦ elim (cases_Bool (ltb max_control head.length)) [
        | inl large ↦
            subst M (sym (cond-true _ long (Skip skipped.Other head.length) some ∙ cond-true _ (Stop TooLong) (Keep (kept.Control head.kind) head.length) large))
            (large_means control head rest is there some large)
        | inr small ↦
            subst M (sym (cond-true _ long (Skip skipped.Other head.length) some ∙ cond-false _ (Stop TooLong) (Keep (kept.Control head.kind) head.length) small))
            (control_means control head rest is some small)
      ]
    ]

parts : (a b : Front) → Some a ≡ Some b → a ≡ b
parts a b e = cc

context_means : (control : Bool) (head : Head) (rest : List ℕ) (front : Front) (context : Option (ℕ × ℕ)) → head_of rest ≡ Some head
    → eqb head.kind 0 ≡ true → int_of (take head.length (drop head.used rest)) ≡ context
    → context_front context head.length (take head.length (drop head.used rest)) ≡ Some front → Means control head rest front.plan (head.used + front.used)
context_means control head rest front (Some context) there is seen e =
    let M : Front → Type 0 = λ f. Means control head rest f.plan (head.used + f.used) in
    subst M (parts (record { plan = payload_plan context.0 (head.length - context.1); used = context.1 }) front e) (payload_means control head rest context is seen)
context_means control head rest front None there is seen e =
    let v = take head.length (drop head.used rest) in
    let stop : Front = record { plan = Stop NoContext; used = length v } in
    let M : Front → Type 0 = λ f. Means control head rest f.plan (head.used + f.used) in
    elim (cases_Bool (ltb (length v) head.length)) [
      | inl short ↦ absurd (let none = sym (cond-true _ None (Some stop) short) ∙ e in cc)
      | inr whole ↦ subst M (parts stop front (sym (cond-false _ None (Some stop) whole) ∙ e)) (stop_means control head rest there is seen (ltb-false _ _ whole))
    ]

behind_means : (control : Bool) (head : Head) (rest : List ℕ) (front : Front) → head_of rest ≡ Some head
    → front_by control head (drop head.used rest) ≡ Some front → Means control head rest front.plan (head.used + front.used)
behind_means control head rest front there e =
    let other : Front = record { plan = other_plan control head; used = 0 } in
    let M : Front → Type 0 = λ f. Means control head rest f.plan (head.used + f.used) in
    let v = take head.length (drop head.used rest) in
    elim (cases_Bool (eqb head.kind 0)) [
      | inl is ↦ context_means control head rest front (int_of v) there is refl (sym (cond-true _ (payload_front head.length v) (Some other) is) ∙ e)
      | inr is ↦ subst M (parts other front (sym (cond-false _ (payload_front head.length v) (Some other) is) ∙ e)) (others_mean control head rest there is)
    ]

-- what a front says
pub record IsPlan (control : Bool) (rest : List ℕ) (front : Front) : Type 0 where
  pub head : Head
  pub head_is : head_of rest ≡ Some head
  pub means : Means control head rest front.plan front.used

pub front_means : (control : Bool) (rest : List ℕ) (front : Front) → front_of control rest ≡ Some front → IsPlan control rest front
unfolding front_of
front_means control rest front e =
    let head = bound _ (head_of rest) front e in
    let by = bound _ (front_by control head.0 (drop head.0.used rest)) front head.2 in
    let M : Front → Type 0 = λ f. Means control head.0 rest f.plan f.used in
    record {
      head = head.0;
      head_is = head.1;
      means = subst M (parts (record { plan = by.0.plan; used = head.0.used + by.0.used }) front by.2) (behind_means control head.0 rest by.0 head.1 by.1);
    }
