-- What a data stream says stays, whatever follows, and ends at the first bad item.
use Rattle.std.proofs.Common.{◌≡◌, ℕ, ◌≤◌, Bool, true, false, cond, ltb, leb, ◌||◌, ◌&&◌, List, [], ◌∷◌, ◌++◌, length, take, drop, Option, Some, None, refl, sym, ap, subst, ◌∙◌, arith, inl, inr, append_assoc, append-nil}
use Rattle.std.specs.List.{filter_map, list_any, cons_option}
use Rattle.std.proofs.lemmas.List.Elements.{filter_map-append}
use Rattle.std.proofs.lemmas.List.Folds.{list_any-append}
use Rattle.std.proofs.lemmas.Bool.{cases_Bool, leb-true, ne_eqb, cond-false, cond-true, and_parts, and_from, or_parts}
use Rattle.std.proofs.lemmas.List.{length-drop, length-take-le}
use Rattle.mq_capsule.specs.declared.head.Head.{Head}
use Rattle.mq_capsule.specs.declared.item.Item.{Item}
use Rattle.mq_capsule.specs.declared.item.CapsuleFault.{CapsuleFault}
use Rattle.mq_capsule.specs.declared.item.Item.TheVariants.{Bad}
use Rattle.mq_capsule.specs.declared.item.CapsuleFault.TheVariants.{TooLong}
use Rattle.mq_capsule.specs.Capsule.{Capsule, AreCapsules, head_of}
use Rattle.mq_capsule.specs.Items.{ItemsOf, item_of, head_items, is_bad, is_control, max_control, up_to_bad, said}
use Rattle.mq_capsule.proofs.Capsules.{reading, capsules_on, capsules_one, whole, head_keeps}

-- Lists of items.

-- nothing is left out where no item is bad
pub up_sound : (items : List Item) → list_any is_bad items ≡ false → up_to_bad items ≡ items
up_sound [] e = refl
up_sound (item ∷ items) e =
    let parts = or_parts (is_bad item) (list_any is_bad items) e in
    ap (λ (more : List Item). item ∷ more) (cond-false (is_bad item) [] (up_to_bad items) parts.0 ∙ up_sound items parts.1)

on_by : (b a : Bool) (item : Item) (all front more : List Item) → all ≡ front ++ cond a [] more
    → item ∷ cond b [] all ≡ (item ∷ cond b [] front) ++ cond (b || a) [] more
on_by true a item all front more e = refl
on_by false a item all front more e = ap (λ (l : List Item). item ∷ l) e

-- what comes later follows, where no item was bad before
pub up_on : (items more : List Item) → up_to_bad (items ++ more) ≡ up_to_bad items ++ cond (list_any is_bad items) [] (up_to_bad more)
up_on [] more = refl
up_on (item ∷ items) more =
    on_by (is_bad item) (list_any is_bad items) item (up_to_bad (items ++ more)) (up_to_bad items) (up_to_bad more) (up_on items more)

any_by : (b : Bool) (front items : List Item) → list_any is_bad front ≡ list_any is_bad items
    → (b || list_any is_bad (cond b [] front)) ≡ (b || list_any is_bad items)
any_by true front items e = refl
any_by false front items e = e

-- a bad item isn't left out
pub up_any : (items : List Item) → list_any is_bad (up_to_bad items) ≡ list_any is_bad items
up_any [] = refl
up_any (item ∷ items) = any_by (is_bad item) (up_to_bad items) items (up_any items)

-- A bad item is the last.
some_first : (items : List Item) (item : Item) (later : List Item) → [] ≡ items ++ item ∷ later → ⊥
some_first [] item later e = absurd cc
some_first (i ∷ items) item later e = absurd cc

last_by : (b : Bool) (all items later : List Item) (item : Item) → (all ≡ items ++ item ∷ later → later ≡ []) → cond b [] all ≡ items ++ item ∷ later → later ≡ []
last_by true all items later item f e = absurd (some_first items item later e)
last_by false all items later item f e = f e

tail_of : (a b : Item) (more others : List Item) → ◌≡◌ {A = List Item} (a ∷ more) (b ∷ others) → (a ≡ b) × (more ≡ others)
tail_of a b more others e = (cc, cc)

up_last : (all items : List Item) (fault : CapsuleFault) (later : List Item) → up_to_bad all ≡ items ++ Bad fault ∷ later → later ≡ []
up_last [] items fault later e = absurd (some_first items (Bad fault) later e)
up_last (item ∷ all) [] fault later e =
    let parts = tail_of item (Bad fault) (cond (is_bad item) [] (up_to_bad all)) later e in
    sym parts.1 ∙ cond-true (is_bad item) [] (up_to_bad all) (ap is_bad parts.0)
up_last (item ∷ all) (i ∷ items) fault later e =
    let parts = tail_of item i (cond (is_bad item) [] (up_to_bad all)) (items ++ Bad fault ∷ later) e in
    last_by (is_bad item) (up_to_bad all) items later (Bad fault) (up_last all items fault later) parts.1

-- A control capsule that is too long is told by its head and by its value.
item_too_long : (control : Bool) (head : Head) (value : List ℕ) → (control && (is_control head.kind && ltb max_control head.length)) ≡ true
    → length value ≡ head.length → item_of control (record { kind = head.kind; value = value }) ≡ Some (Bad TooLong)
item_too_long control head value t e =
    let a = and_parts control (is_control head.kind && ltb max_control head.length) t in
    let b = and_parts (is_control head.kind) (ltb max_control head.length) a.1 in
    let low : 1 ≤ head.kind = leb-true 1 head.kind (and_parts (leb 1 head.kind) (leb head.kind 3) b.0).0 in
    cond-false _ _ _ (ne_eqb head.kind 0 (λ z. omega arith)) ∙ cond-true _ _ _ (and_from control (is_control head.kind) a.0 b.0)
    ∙ ap (λ (i : Item). Some i) (cond-true _ _ _ (ap (ltb max_control) e ∙ b.1))

-- one thing that is said at the front of others
record IsFirst (items all : List Item) : Type 0 where
  more : List Item
  all_are : all ≡ items ++ more

saying_by : (control : Bool) (rest more : List ℕ) (head : Head) (later : List Capsule) (tail : List ℕ) → head_of rest ≡ Some head
    → (control && (is_control head.kind && ltb max_control head.length)) ≡ true → AreCapsules (rest ++ more) later tail
    → IsFirst (Bad TooLong ∷ []) (filter_map (item_of control) later ++ head_items control (head_of tail))
saying_by control rest more head [] tail e t are =
    let seen : head_of tail ≡ Some head = ap head_of are.1 ∙ head_keeps rest more head e in
    record { more = []; all_are = ap (head_items control) seen ∙ cond-true _ (Bad TooLong ∷ []) [] t }
saying_by control rest more head (capsule ∷ later) tail e t are =
    let w = whole (rest ++ more) capsule are.0 are.1 in
    let same : w.head ≡ head = let p : Some w.head ≡ Some head = sym w.head_is ∙ head_keeps rest more head e in cc in
    let value = take w.head.length (drop w.head.used (rest ++ more)) in
    let size : length value ≡ w.head.length =
    length-take-le w.head.length (drop w.head.used (rest ++ more)) (omega (arith, w.used_is, w.within, length-drop w.head.used (rest ++ more))) in
    let P : Head → Type 0 = λ h. (control && (is_control h.kind && ltb max_control h.length)) ≡ true in
    let item : item_of control capsule ≡ Some (Bad TooLong) = ap (item_of control) w.capsule_is ∙ item_too_long control w.head value (subst P (sym same) t) size in
    record {
      more = filter_map (item_of control) later ++ head_items control (head_of tail);
      all_are = ap (λ (i : Option Item). cons_option i (filter_map (item_of control) later) ++ head_items control (head_of tail)) item;
    }

saying_head : (control : Bool) (rest more : List ℕ) (head : Option Head) (later : List Capsule) (tail : List ℕ) → head_of rest ≡ head
    → AreCapsules (rest ++ more) later tail
    → IsFirst (head_items control head) (filter_map (item_of control) later ++ head_items control (head_of tail))
saying_head control rest more None later tail e are = record { more = filter_map (item_of control) later ++ head_items control (head_of tail); all_are = refl }
saying_head control rest more (Some head) later tail e are =
    elim (cases_Bool (control && (is_control head.kind && ltb max_control head.length))) [
      | inl t ↦
          let first = saying_by control rest more head later tail e t are in
          record { more = first.more; all_are = first.all_are ∙ ap (λ (i : List Item). i ++ first.more) (sym (cond-true _ (Bad TooLong ∷ []) [] t)) }
      | inr f ↦
          let all = filter_map (item_of control) later ++ head_items control (head_of tail) in
          record { more = all; all_are = ap (λ (i : List Item). i ++ all) (sym (cond-false _ (Bad TooLong ∷ []) [] f)) }
    ]

-- What is said of longer bytes.
pub record IsLonger (control : Bool) (bytes more : List ℕ) (items : List Item) (bad : Bool) : Type 0 where
  pub later : List Item
  pub are : ItemsOf control (bytes ++ more) (items ++ cond bad [] later)

pub items_on : (control : Bool) (bytes more : List ℕ) (items : List Item) → ItemsOf control bytes items → IsLonger control bytes more items (list_any is_bad items)
items_on control bytes more items of =
    let next = reading (of.rest ++ more) in
    let told = filter_map (item_of control) of.capsules in
    let front = told ++ head_items control (head_of of.rest) in
    let first = saying_head control of.rest more (head_of of.rest) next.capsules next.rest refl next.are in
    let all : filter_map (item_of control) (of.capsules ++ next.capsules) ++ head_items control (head_of next.rest) ≡ front ++ first.more =
    ap (λ (i : List Item). i ++ head_items control (head_of next.rest)) (filter_map-append (item_of control) of.capsules next.capsules)
    ∙ append_assoc told (filter_map (item_of control) next.capsules) (head_items control (head_of next.rest))
    ∙ ap (λ (i : List Item). told ++ i) first.all_are ∙ sym (append_assoc told (head_items control (head_of of.rest)) first.more) in
    let bad : list_any is_bad front ≡ list_any is_bad items = sym (ap (list_any is_bad) of.items_are ∙ up_any front) in
    record {
      later = up_to_bad first.more;
      are = record {
        capsules = of.capsules ++ next.capsules;
        rest = next.rest;
        are = capsules_on bytes more of.capsules of.rest of.are next.capsules next.rest next.are;
        items_are = ap (λ (i : List Item). i ++ cond (list_any is_bad items) [] (up_to_bad first.more)) of.items_are
            ∙ ap (λ (b : Bool). up_to_bad front ++ cond b [] (up_to_bad first.more)) (sym bad) ∙ sym (ap up_to_bad all ∙ up_on front first.more);
      };
    }

-- bytes say one thing
pub items_one : (control : Bool) (bytes : List ℕ) (items others : List Item) → ItemsOf control bytes items → ItemsOf control bytes others → items ≡ others
items_one control bytes items others a b =
    let one = capsules_one bytes a.capsules b.capsules a.rest b.rest a.are b.are in
    a.items_are ∙ ap (λ (c : List Capsule). said control c a.rest) one.capsules_are ∙ ap (λ (r : List ℕ). said control b.capsules r) one.rest_is ∙ sym b.items_are

-- all bytes say something
pub items_all : (control : Bool) (bytes : List ℕ) → (items : List Item) × ItemsOf control bytes items
items_all control bytes =
    let read = reading bytes in
    (said control read.capsules read.rest, record { capsules = read.capsules; rest = read.rest; are = read.are; items_are = refl })

-- what was said stays
pub items_stay : (control : Bool) (bytes more : List ℕ) (items all : List Item) → ItemsOf control bytes items → ItemsOf control (bytes ++ more) all
    → (later : List Item) × (all ≡ items ++ later)
items_stay control bytes more items all a b =
    let longer = items_on control bytes more items a in
    (cond (list_any is_bad items) [] longer.later, items_one control (bytes ++ more) all _ b longer.are)

-- behind a bad item nothing is said
pub items_ended : (control : Bool) (bytes more : List ℕ) (items : List Item) → ItemsOf control bytes items → list_any is_bad items ≡ true
    → ItemsOf control (bytes ++ more) items
items_ended control bytes more items a bad =
    let longer = items_on control bytes more items a in
    let none : items ++ cond (list_any is_bad items) [] longer.later ≡ items =
    ap (λ (l : List Item). items ++ l) (cond-true (list_any is_bad items) [] longer.later bad) ∙ append-nil items in
    let P : List Item → Type 0 = λ i. ItemsOf control (bytes ++ more) i in
    subst P none longer.are

-- what the rest says comes behind the items of the capsules, where none is bad
pub items_behind : (control : Bool) (bytes more : List ℕ) (capsules : List Capsule) (rest : List ℕ) (later : List Item) → AreCapsules bytes capsules rest
    → list_any is_bad (filter_map (item_of control) capsules) ≡ false → ItemsOf control (rest ++ more) later
    → ItemsOf control (bytes ++ more) (filter_map (item_of control) capsules ++ later)
items_behind control bytes more capsules rest later are sound of =
    let front = filter_map (item_of control) capsules in
    let behind = filter_map (item_of control) of.capsules ++ head_items control (head_of of.rest) in
    let joined : filter_map (item_of control) (capsules ++ of.capsules) ++ head_items control (head_of of.rest) ≡ front ++ behind =
    ap (λ (i : List Item). i ++ head_items control (head_of of.rest)) (filter_map-append (item_of control) capsules of.capsules)
    ∙ append_assoc front (filter_map (item_of control) of.capsules) (head_items control (head_of of.rest)) in
    let split : up_to_bad (front ++ behind) ≡ front ++ up_to_bad behind =
    up_on front behind ∙ ap (λ (i : List Item). i ++ cond (list_any is_bad front) [] (up_to_bad behind)) (up_sound front sound)
    ∙ ap (λ (i : List Item). front ++ i) (cond-false (list_any is_bad front) [] (up_to_bad behind) sound) in
    record {
      capsules = capsules ++ of.capsules;
      rest = of.rest;
      are = capsules_on bytes more capsules rest are of.capsules of.rest of.are;
      items_are = ap (λ (i : List Item). front ++ i) of.items_are ∙ sym (ap up_to_bad joined ∙ split);
    }

head_sound : (control : Bool) (head : Option Head) → list_any is_bad (head_items control head) ≡ false → head_items control head ≡ []
head_sound control None e = refl
head_sound control (Some head) e = by_test (control && (is_control head.kind && ltb max_control head.length)) e
  where
    by_test : (b : Bool) → list_any is_bad (cond b (Bad TooLong ∷ []) []) ≡ false → cond b (Bad TooLong ∷ []) [] ≡ []
    by_test true e = absurd cc
    by_test false e = refl

-- capsules that say nothing bad, and a rest that doesn't
pub said_sound : (control : Bool) (capsules : List Capsule) (rest : List ℕ) → list_any is_bad (said control capsules rest) ≡ false
    → (list_any is_bad (filter_map (item_of control) capsules) ≡ false) × (said control capsules rest ≡ filter_map (item_of control) capsules)
said_sound control capsules rest e =
    let front = filter_map (item_of control) capsules in
    let head = head_items control (head_of rest) in
    let all : list_any is_bad (front ++ head) ≡ false = sym (up_any (front ++ head)) ∙ e in
    let each = or_parts (list_any is_bad front) (list_any is_bad head) (sym (list_any-append is_bad front head) ∙ all) in
    let none : front ++ head ≡ front = ap (λ (i : List Item). front ++ i) (head_sound control (head_of rest) each.1) ∙ append-nil front in
    (each.0, up_sound (front ++ head) all ∙ none)

pub says_on : (control : Bool) (bytes more : List ℕ) (capsules : List Capsule) (rest : List ℕ) (later : List Item) → AreCapsules bytes capsules rest
    → list_any is_bad (said control capsules rest) ≡ false → ItemsOf control (rest ++ more) later
    → ItemsOf control (bytes ++ more) (said control capsules rest ++ later)
says_on control bytes more capsules rest later are sound of =
    let parts = said_sound control capsules rest sound in
    let P : List Item → Type 0 = λ i. ItemsOf control (bytes ++ more) (i ++ later) in
    subst P (sym parts.1) (items_behind control bytes more capsules rest later are parts.0 of)

pub bad_last : (control : Bool) (bytes : List ℕ) (items : List Item) (fault : CapsuleFault) (later : List Item)
    → ItemsOf control bytes (items ++ Bad fault ∷ later) → later ≡ []
bad_last control bytes items fault later a =
    up_last (filter_map (item_of control) a.capsules ++ head_items control (head_of a.rest)) items fault later (sym a.items_are)
