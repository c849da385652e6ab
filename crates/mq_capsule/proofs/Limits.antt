-- Each item keeps to the limits.
use Rattle.std.proofs.Common.{◌≡◌, ℕ, Bool, true, false, cond, ltb, eqb, ◌&&◌, List, [], ◌∷◌, ◌++◌, length, drop, Option, Some, None, refl, sym, subst, ◌∙◌, inl, inr}
use Rattle.std.specs.List.{filter_map, cons_option, AllByRecursion}
use Rattle.std.proofs.lemmas.Bool.{cases_Bool, cond-false, cond-true, and_parts, ltb-true, ltb-false}
use Rattle.mq_wire.specs.Integer.{int_of}
use Rattle.mq_capsule.specs.declared.head.Head.{Head}
use Rattle.mq_capsule.specs.declared.item.Item.{Item}
use Rattle.mq_capsule.specs.declared.item.Item.TheVariants.{Bad, TooLongDatagram, Datagram, Control}
use Rattle.mq_capsule.specs.declared.item.CapsuleFault.TheVariants.{TooLong}
use Rattle.mq_capsule.specs.Capsule.{Capsule, head_of}
use Rattle.mq_capsule.specs.Items.{ItemsOf, IsSized, item_of, datagram_by, payload_item, control_item, head_items, is_bad, is_control, max_payload, max_control, up_to_bad}

payload_sized : (context : ℕ) (payload : List ℕ) → IsSized (payload_item context payload)
payload_sized context payload =
    let long : Item = TooLongDatagram context (length payload) in
    let short : Item = Datagram context payload in
    elim (cases_Bool (ltb max_payload (length payload))) [
      | inl big ↦ subst IsSized (sym (cond-true _ long short big)) (ltb-true _ _ big)
      | inr few ↦ subst IsSized (sym (cond-false _ long short few)) (ltb-false _ _ few)
    ]

datagram_sized : (context : Option (ℕ × ℕ)) (value : List ℕ) → IsSized (datagram_by context value)
datagram_sized None value = tt
datagram_sized (Some context) value = payload_sized context.0 (drop context.1 value)

control_sized : (kind : ℕ) (value : List ℕ) → is_control kind ≡ true → IsSized (control_item kind value)
control_sized kind value known =
    elim (cases_Bool (ltb max_control (length value))) [
      | inl big ↦ subst IsSized (sym (cond-true _ (Bad TooLong) (Control kind value) big)) tt
      | inr few ↦ subst IsSized (sym (cond-false _ (Bad TooLong) (Control kind value) few)) (known, ltb-false _ _ few)
    ]

some_same : (a b : Item) → Some a ≡ Some b → a ≡ b
some_same a b e = cc

item_sized : (control : Bool) (capsule : Capsule) (item : Item) → item_of control capsule ≡ Some item → IsSized item
item_sized control capsule item e =
    let datagram = datagram_by (int_of capsule.value) capsule.value in
    let value = control_item capsule.kind capsule.value in
    let other : Option Item = cond (control && is_control capsule.kind) (Some value) None in
    elim (cases_Bool (eqb capsule.kind 0)) [
      | inl is ↦
          subst IsSized (some_same datagram item (sym (cond-true _ (Some datagram) other is) ∙ e)) (datagram_sized (int_of capsule.value) capsule.value)
      | inr is ↦ elim (cases_Bool (control && is_control capsule.kind)) [
        | inl known ↦
            let same = some_same value item (sym (cond-false _ (Some datagram) other is ∙ cond-true _ (Some value) None known) ∙ e) in
            subst IsSized same (control_sized capsule.kind capsule.value (and_parts control (is_control capsule.kind) known).1)
        | inr unknown ↦ absurd (let none = sym (cond-false _ (Some datagram) other is ∙ cond-false _ (Some value) None unknown) ∙ e in cc)
      ]
    ]

cons_sized : (item : Option Item) (items : List Item) → ((i : Item) → item ≡ Some i → IsSized i) → AllByRecursion IsSized items
    → AllByRecursion IsSized (cons_option item items)
cons_sized None items one all = all
cons_sized (Some item) items one all = (one item refl, all)

told_sized : (control : Bool) (capsules : List Capsule) → AllByRecursion IsSized (filter_map (item_of control) capsules)
told_sized control [] = tt
told_sized control (capsule ∷ capsules) =
    cons_sized (item_of control capsule) (filter_map (item_of control) capsules) (item_sized control capsule) (told_sized control capsules)

head_sized : (control : Bool) (head : Option Head) → AllByRecursion IsSized (head_items control head)
head_sized control None = tt
head_sized control (Some head) = by_test (control && (is_control head.kind && ltb max_control head.length))
  where
    by_test : (b : Bool) → AllByRecursion IsSized (cond b (Bad TooLong ∷ []) [])
    by_test true = (tt, tt)
    by_test false = tt

both_sized : (items more : List Item) → AllByRecursion IsSized items → AllByRecursion IsSized more → AllByRecursion IsSized (items ++ more)
both_sized [] more a b = b
both_sized (item ∷ items) more a b = (a.0, both_sized items more a.1 b)

pub later_sized : (items more : List Item) → AllByRecursion IsSized (items ++ more) → AllByRecursion IsSized more
later_sized [] more a = a
later_sized (item ∷ items) more a = later_sized items more a.1

up_sized : (items : List Item) → AllByRecursion IsSized items → AllByRecursion IsSized (up_to_bad items)
up_sized [] a = tt
up_sized (item ∷ items) a = (a.0, by_test (is_bad item) (up_to_bad items) (up_sized items a.1))
  where
    by_test : (b : Bool) (front : List Item) → AllByRecursion IsSized front → AllByRecursion IsSized (cond b [] front)
    by_test true front f = tt
    by_test false front f = f

pub items_sized : (control : Bool) (bytes : List ℕ) (items : List Item) → ItemsOf control bytes items → AllByRecursion IsSized items
items_sized control bytes items of =
    let all = filter_map (item_of control) of.capsules ++ head_items control (head_of of.rest) in
    let P : List Item → Type 0 = λ i. AllByRecursion IsSized i in
    subst P (sym of.items_are)
    (up_sized all (both_sized (filter_map (item_of control) of.capsules) (head_items control (head_of of.rest)) (told_sized control of.capsules) (head_sized control (head_of of.rest))))
