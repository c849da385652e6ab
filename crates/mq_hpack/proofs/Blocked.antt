-- A block is one list of bytes.
use Rattle.std.proofs.Common.{◌≡◌, ℕ, ◌+◌, ◌<◌, ◌≤◌, inl, inr, zero, suc, Bool, true, false, cond, eqb, ◌&&◌, List, [], ◌∷◌, ◌++◌, length, Option, Some, None, refl, sym, ◌∙◌, ap, subst, arith}
use Rattle.std.specs.List.{slice_get, AllByRecursion, flat_map, position_from}
use Rattle.std.proofs.lemmas.Bool.{cases_lt, cases_Bool, lt-leb, le-leb, eqb-true, eq-eqb}
use Rattle.std.proofs.Math.Seq.{drop-append_seam}
use Rattle.std.proofs.lemmas.List.Elements.{All-take, All-drop}
use Rattle.std.proofs.lemmas.List.{take-append-le, take_all}
use Rattle.mq_huff.specs.Coded.{AreBytes, coded_of}
use Rattle.mq_huff.specs.Laws.{HaveOneCoding, IsTheCode, HasItsLength}
use Rattle.mq_hpack.specs.declared.field.Field.{Field}
use Rattle.mq_hpack.specs.Static.{static_fields}
use Rattle.mq_hpack.specs.Encoder.{coded_len, spelled, update, IsText, IsWritten, IsField, IsLeast, NoneBefore, AreFields}
use Rattle.mq_hpack.specs.Writing.{string_of, same_bytes, same_name, same_field, placed, field_text, HasBytes, IsWrittenSo, IsWrittenOnce}
use Rattle.mq_hpack.proofs.ReadBack.{place}

-- Tests on fields.
both : (a b : Bool) → (a && b) ≡ true → (a ≡ true) × (b ≡ true)
both true b e = (refl, e)
both false b e = absurd cc

same_is : (xs ys : List ℕ) → same_bytes xs ys ≡ true → xs ≡ ys
same_is [] [] e = refl
same_is [] (b ∷ ys) e = absurd cc
same_is (a ∷ xs) [] e = absurd cc
same_is (a ∷ xs) (b ∷ ys) e =
    let parts = both (eqb a b) (same_bytes xs ys) e in
    let first = eqb-true a b parts.0 in
    let more = same_is xs ys parts.1 in
    cc

same_self : (xs : List ℕ) → same_bytes xs xs ≡ true
same_self [] = refl
same_self (a ∷ xs) = ap (λ t. t && same_bytes xs xs) (eq-eqb a a refl) ∙ same_self xs

same_along : (xs ys : List ℕ) → xs ≡ ys → same_bytes xs ys ≡ true
same_along xs ys e = ap (λ xs. same_bytes xs ys) e ∙ same_self ys

name_tells : (f g : Field) → same_name f g ≡ true → g.name ≡ f.name
name_tells f g e = same_is g.name f.name e

same_parts : (name name' value value' : List ℕ) → name ≡ name' → value ≡ value'
    → ◌≡◌ {A = Field} (record { name = name; value = value }) (record { name = name'; value = value' })
same_parts name name' value value' p q = cc

field_tells : (f g : Field) → same_field f g ≡ true → g ≡ f
field_tells f g e =
    let parts = both (same_bytes g.name f.name) (same_bytes g.value f.value) e in
    same_parts g.name f.name g.value f.value (same_is g.name f.name parts.0) (same_is g.value f.value parts.1)

field_told : (f g : Field) → g ≡ f → same_field f g ≡ true
field_told f g e =
    let name = same_along g.name f.name (ap (λ (h : Field). h.name) e) in
    let value = same_along g.value f.value (ap (λ (h : Field). h.value) e) in
    ap (λ t. t && same_bytes g.value f.value) name ∙ value

-- The least place that passes a test.
abbrev NonePass : (Field → Bool) → ℕ → List Field → Type 0
NonePass test n fields = (k : ℕ) (g : Field) → k < n → slice_get fields k ≡ Some g → test g ≡ true → ⊥

record Passes (test : Field → Bool) (from : ℕ) (fields : List Field) (at : ℕ) : Type 0 where
  pub behind : ℕ
  pub field : Field
  pub at_is : at ≡ from + behind
  pub there : slice_get fields behind ≡ Some field
  pub passes : test field ≡ true
  pub none_before : NonePass test behind fields

abbrev Found : (Field → Bool) → ℕ → List Field → Option ℕ → Type 0
Found test from fields None = (k : ℕ) (g : Field) → slice_get fields k ≡ Some g → test g ≡ true → ⊥
Found test from fields (Some at) = Passes test from fields at

later_none : (test : Field → Bool) (f : Field) (fields : List Field) → test f ≡ false → ((k : ℕ) (g : Field) → slice_get fields k ≡ Some g → test g ≡ true → ⊥)
    → (k : ℕ) (g : Field) → slice_get (f ∷ fields) k ≡ Some g → test g ≡ true → ⊥
later_none test f fields fails found zero g e t = let same : f ≡ g = cc in let u : test g ≡ false = ap test (sym same) ∙ fails in absurd cc
later_none test f fields fails found (suc k) g e t = found k g e t

later_before : (test : Field → Bool) (f : Field) (fields : List Field) → test f ≡ false → (n : ℕ) → NonePass test n fields → NonePass test (suc n) (f ∷ fields)
later_before test f fields fails n none zero g lt e t = let same : f ≡ g = cc in let u : test g ≡ false = ap test (sym same) ∙ fails in absurd cc
later_before test f fields fails n none (suc k) g lt e t = none k g (omega arith) e t

found_later : (test : Field → Bool) (from : ℕ) (f : Field) (fields : List Field) (o : Option ℕ) → test f ≡ false → Found test (from + 1) fields o → Found test from (f ∷ fields) o
found_later test from f fields None fails found = λ k g e t. later_none test f fields fails found k g e t
found_later test from f fields (Some at) fails found = record {
  behind = suc found.behind;
  field = found.field;
  at_is = omega (arith, found.at_is);
  there = found.there;
  passes = found.passes;
  none_before = λ k g lt e t. later_before test f fields fails found.behind found.none_before k g lt e t;
}

nothing_found : (k : ℕ) (g : Field) → slice_get {X = Field} [] k ≡ Some g → ⊥
nothing_found k g e = absurd cc

found : (test : Field → Bool) (from : ℕ) (fields : List Field) → Found test from fields (position_from test from fields)
found test from [] = λ k g e t. nothing_found k g e
found test from (f ∷ fields) = elim (cases_Bool (test f)) [
  | inl passes ↦
      let is : Some from ≡ position_from test from (f ∷ fields) = ap (λ t. cond t (Some from) (position_from test (from + 1) fields)) (sym passes) in
      subst (λ (o : Option ℕ). Found test from (f ∷ fields) o) is
      (record { behind = zero; field = f; at_is = omega arith; there = refl; passes = passes; none_before = λ k g lt e t. absurd (omega arith) })
  | inr fails ↦
      let is : position_from test (from + 1) fields ≡ position_from test from (f ∷ fields) = ap (λ t. cond t (Some from) (position_from test (from + 1) fields)) (sym fails) in
      subst (λ (o : Option ℕ). Found test from (f ∷ fields) o) is
      (found_later test from f fields (position_from test (from + 1) fields) fails (found test (from + 1) fields))
]

least_by : (test : Field → Bool) (P : Field → Type 0) → ((g : Field) → test g ≡ true → P g) → ((g : Field) → P g → test g ≡ true)
    → (o : Option ℕ) → Found test 0 static_fields o → IsLeast P o
least_by test P tells told None none = λ k g lt e p. none k g e (told g p)
least_by test P tells told (Some at) p =
    let here : at ≡ p.behind = omega (arith, p.at_is) in
    let Q : ℕ → Type 0 = λ n. (f : Field) × (slice_get static_fields n ≡ Some f) × P f × NoneBefore n P in
    subst Q (sym here) (p.field, p.there, tells p.field p.passes, λ k g lt e q. p.none_before k g lt e (told g q))

least_field : (f : Field) → IsLeast (λ g. g ≡ f) (position_from (same_field f) 0 static_fields)
least_field f = least_by (same_field f) (λ g. g ≡ f) (λ g. field_tells f g) (λ g. field_told f g) _ (found (same_field f) 0 static_fields)

least_name : (f : Field) → IsLeast (λ g. g.name ≡ f.name) (position_from (same_name f) 0 static_fields)
least_name f = least_by (same_name f) (λ g. g.name ≡ f.name) (λ g. name_tells f g) (λ g e. same_along g.name f.name e) _ (found (same_name f) 0 static_fields)

least_one : (P : Field → Type 0) (a b : Option ℕ) → IsLeast P a → IsLeast P b → a ≡ b
least_one P None None m n = refl
least_one P None (Some b) m n = absurd (m b n.0 (place b n.0 n.1) n.1 n.2)
least_one P (Some a) None m n = absurd (n a m.0 (place a m.0 m.1) m.1 m.2)
least_one P (Some a) (Some b) m n = elim (cases_lt a b) [
  | inl below ↦ absurd (n.3 a m.0 below m.1 m.2)
  | inr rest ↦ elim (cases_lt b a) [
    | inl above ↦ absurd (m.3 b n.0 above n.1 n.2)
    | inr same ↦ let e : a ≡ b = omega arith in ap (λ k. Some k) e
  ]
]

-- Strings.

-- what is known of the Huffman code
pub record Code : Type 0 where
  pub spelled_is : IsTheCode
  pub one : HaveOneCoding
  pub len : HasItsLength

plain_string : (text : List ℕ) → length text ≤ coded_len text → string_of text ≡ spelled 0 7 (length text) ++ text
plain_string text le =
    ap (λ b. cond b (spelled 0 7 (length text) ++ text) (spelled 128 7 (length (coded_of text)) ++ coded_of text)) (le-leb (length text) (coded_len text) le)

coded_string : (text : List ℕ) → coded_len text < length text → string_of text ≡ spelled 128 7 (length (coded_of text)) ++ coded_of text
coded_string text lt =
    ap (λ b. cond b (spelled 0 7 (length text) ++ text) (spelled 128 7 (length (coded_of text)) ++ coded_of text)) (lt-leb (length text) (coded_len text) lt)

string_is : Code → (text : List ℕ) → AreBytes text → IsText text (string_of text)
string_is the text bytes = elim (cases_lt (coded_len text) (length text)) [
  | inr le ↦ inl (le, plain_string text le)
  | inl lt ↦
      let is = (the.spelled_is text bytes).0 in
      inr (coded_of text, is, omega (arith, the.len text (coded_of text) is), coded_string text lt)
]

-- the second part of a list of bytes is bytes
pub later_bytes : (first later : List ℕ) → AreBytes (first ++ later) → AreBytes later
later_bytes first later all = subst (λ (xs : List ℕ). AreBytes xs) (drop-append_seam first later) (All-drop (λ x. x < 256) (length first) (first ++ later) all)

first_bytes : (first later : List ℕ) → AreBytes (first ++ later) → AreBytes first
first_bytes first later all =
    subst (λ (xs : List ℕ). AreBytes xs) (take-append-le (length first) first later (omega arith) ∙ take_all (length first) first (omega arith)) (All-take (λ x. x < 256) (length first) (first ++ later) all)

string_one : Code → (text bytes : List ℕ) → AreBytes bytes → IsText text bytes → bytes ≡ string_of text
string_one the text bytes all (inl plain) = plain.1 ∙ sym (plain_string text plain.0)
string_one the text bytes all (inr (coded, is, shorter, e)) =
    let raw = later_bytes (spelled 128 7 (length coded)) coded (subst (λ (xs : List ℕ). AreBytes xs) e all) in
    let code = the.spelled_is text is.are_bytes in
    let same : coded ≡ coded_of text = the.one text coded (coded_of text) raw code.1 is code.0 in
    let lt : coded_len text < length text = omega (arith, the.len text coded is, shorter) in
    e ∙ ap (λ xs. spelled 128 7 (length xs) ++ xs) same ∙ sym (coded_string text lt)

-- Fields.
placed_is : Code → (f : Field) (whole named : Option ℕ) → HasBytes f → IsWritten f whole named (placed f whole named)
placed_is the f (Some at) named bytes = refl
placed_is the f None (Some at) bytes = (string_of f.value, string_is the f.value bytes.1, refl)
placed_is the f None None bytes = (string_of f.name, string_of f.value, string_is the f.name bytes.0, string_is the f.value bytes.1, refl)

placed_one : Code → (f : Field) (whole named : Option ℕ) (bytes : List ℕ) → AreBytes bytes → IsWritten f whole named bytes → bytes ≡ placed f whole named
placed_one the f (Some at) named bytes all e = e
placed_one the f None (Some at) bytes all (value, text, e) =
    let second = later_bytes (spelled 0 4 (at + 1)) value (subst (λ (xs : List ℕ). AreBytes xs) e all) in
    e ∙ ap (λ xs. spelled 0 4 (at + 1) ++ xs) (string_one the f.value value second text)
placed_one the f None None bytes all (name, value, name_text, value_text, e) =
    let strings = later_bytes (spelled 0 4 0) (name ++ value) (subst (λ (xs : List ℕ). AreBytes xs) e all) in
    let name_is = string_one the f.name name (first_bytes name value strings) name_text in
    let value_is = string_one the f.value value (later_bytes name value strings) value_text in
    e ∙ ap (λ xs. spelled 0 4 0 ++ (xs ++ value)) name_is ∙ ap (λ xs. spelled 0 4 0 ++ (string_of f.name ++ xs)) value_is

field_is : Code → (f : Field) → HasBytes f → IsField f (field_text f)
unfolding field_text
field_is the f bytes = record {
  whole = position_from (same_field f) 0 static_fields;
  named = position_from (same_name f) 0 static_fields;
  least_whole = least_field f;
  least_named = least_name f;
  form = placed_is the f _ _ bytes;
}

field_one : Code → (f : Field) (bytes : List ℕ) → AreBytes bytes → IsField f bytes → bytes ≡ field_text f
unfolding field_text
field_one the f bytes all is =
    let whole = least_one (λ g. g ≡ f) is.whole _ is.least_whole (least_field f) in
    let named = least_one (λ g. g.name ≡ f.name) is.named _ is.least_named (least_name f) in
    placed_one the f is.whole is.named bytes all is.form
    ∙ ap (λ o. placed f o is.named) whole ∙ ap (λ o. placed f (position_from (same_field f) 0 static_fields) o) named

fields_are : Code → (fields : List Field) → AllByRecursion HasBytes fields → AreFields fields (flat_map field_text fields)
fields_are the [] bytes = refl
fields_are the (f ∷ fields) bytes = (field_text f, flat_map field_text fields, field_is the f bytes.0, fields_are the fields bytes.1, refl)

fields_one : Code → (fields : List Field) (bytes : List ℕ) → AreBytes bytes → AreFields fields bytes → bytes ≡ flat_map field_text fields
fields_one the [] bytes all e = e
fields_one the (f ∷ fields) bytes all (first, rest, field, are, e) =
    let parts = subst (λ (xs : List ℕ). AreBytes xs) e all in
    let first_is = field_one the f first (first_bytes first rest parts) field in
    let rest_is = fields_one the fields rest (later_bytes first rest parts) are in
    e ∙ ap (λ xs. xs ++ rest) first_is ∙ ap (λ xs. field_text f ++ xs) rest_is

pub written_so : Code → IsWrittenSo
written_so the owed fields bytes = (flat_map field_text fields, fields_are the fields bytes, refl)

pub written_once : Code → IsWrittenOnce
written_once the owed fields bytes all (rest, are, e) =
    e ∙ ap (λ xs. update owed ++ xs) (fields_one the fields rest (later_bytes (update owed) rest (subst (λ (xs : List ℕ). AreBytes xs) e all)) are)
