-- How long integers, strings and blocks are.
use Rattle.std.proofs.Common.{◌≡◌, ℕ, ◌+◌, ◌-◌, ◌*◌, ◌/◌, ◌%◌, ◌^◌, ◌<◌, ◌≤◌, inl, inr, zero, suc, cond, Bool, true, false, List, [], ◌∷◌, ◌++◌, length, Option, Some, None, ap, arith, length-append}
use Rattle.std.specs.List.{sum_by}
use Rattle.std.proofs.lemmas.Bool.{cases_lt, lt-ltb}
use Rattle.std.proofs.lemmas.List.Sums.{sum_by-cons}
use Rattle.mq_hpack.specs.declared.field.Field.{Field}
use Rattle.mq_hpack.specs.Table.{size_of}
use Rattle.mq_hpack.specs.Encoder.{sevens, spelled, update, IsText, IsWritten, IsLeast, AreFields}
use Rattle.mq_hpack.specs.Length.{IsNoLonger}
use Rattle.mq_hpack.proofs.Spelling.{spelled_short, spelled_long, more_sevens}
use Rattle.mq_hpack.proofs.ReadBack.{place}

-- numbers of so many further bytes of seven bits are below this
abbrev limit : ℕ → ℕ
limit zero = 128
limit (suc d) = 128 * limit d

one_seven : (k n : ℕ) → n < 128 → sevens (suc k) n ≡ n ∷ []
one_seven k n h = ap (λ b. cond b (n ∷ []) ((n % 128 + 128) ∷ sevens k (n / 128))) (lt-ltb n 128 h)

sevens_few : (d k n : ℕ) → n < limit d → length (sevens k n) ≤ d + 1
sevens_few d zero n h = omega arith
sevens_few zero (suc k) n h = omega (arith, ap length (one_seven k n h))
sevens_few (suc d) (suc k) n h = elim (cases_lt n 128) [
  | inl small ↦ omega (arith, ap length (one_seven k n small))
  | inr large ↦
      let more = sevens_few d k (n / 128) (omega arith) in
      omega (arith, ap length (more_sevens k n large), more)
]

spelled_few : (form prefix n : ℕ) → n < 2 ^ 32 → length (spelled form prefix n) ≤ 6
spelled_few form prefix n h = elim (cases_lt n (2 ^ prefix - 1)) [
  | inl small ↦ omega (arith, ap length (spelled_short form prefix n small))
  | inr large ↦
      let few = sevens_few 4 n (n - (2 ^ prefix - 1)) (omega arith) in
      omega (arith, ap length (spelled_long form prefix n large), few)
]

-- a string has six bytes more than its text at most
text_few : (text bytes : List ℕ) → length text < 2 ^ 32 → IsText text bytes → length bytes ≤ length text + 6
text_few text bytes h (inl plain) =
    let few = spelled_few 0 7 (length text) h in
    omega (arith, ap length plain.1, length-append (spelled 0 7 (length text)) text, few)
text_few text bytes h (inr (coded, is, shorter, spelled_is)) =
    let few = spelled_few 128 7 (length coded) (omega (arith, shorter)) in
    omega (arith, ap length spelled_is, length-append (spelled 128 7 (length coded)) coded, few, shorter)

written_few : (f : Field) (whole named : Option ℕ) (bytes : List ℕ) → IsLeast (λ g. g ≡ f) whole → IsLeast (λ g. g.name ≡ f.name) named
    → size_of f < 2 ^ 32 → IsWritten f whole named bytes → length bytes ≤ size_of f
written_few f (Some at) named bytes w m h e =
    let within = place at w.0 w.1 in
    let few = spelled_few 128 7 (at + 1) (omega arith) in
    omega (arith, ap length e, few)
written_few f None (Some at) bytes w m h (value, text, e) =
    let within = place at m.0 m.1 in
    let few = spelled_few 0 4 (at + 1) (omega arith) in
    let value_few = text_few f.value value (omega arith) text in
    omega (arith, ap length e, length-append (spelled 0 4 (at + 1)) value, few, value_few)
written_few f None None bytes w m h (name, value, name_text, value_text, e) =
    let few = spelled_few 0 4 0 (omega arith) in
    let name_few = text_few f.name name (omega arith) name_text in
    let value_few = text_few f.value value (omega arith) value_text in
    omega (arith, ap length e, length-append (spelled 0 4 0) (name ++ value), length-append name value, few, name_few, value_few)

fields_few : (fields : List Field) (bytes : List ℕ) → AreFields fields bytes → sum_by size_of fields < 2 ^ 32 → length bytes ≤ sum_by size_of fields
fields_few [] bytes e h = omega (arith, ap length e)
fields_few (f ∷ fields) bytes (first, rest, field, are, e) h =
    let sum = sum_by-cons size_of f fields in
    let one = written_few f field.whole field.named first field.least_whole field.least_named (omega (arith, sum)) field.form in
    let more = fields_few fields rest are (omega (arith, sum)) in
    omega (arith, ap length e, length-append first rest, sum, one, more)

update_few : (owed : Bool) → length (update owed) ≤ 1
update_few true = omega (arith, ap length (spelled_short 32 5 0 (omega arith)))
update_few false = omega arith

pub is_no_longer : IsNoLonger
is_no_longer owed fields bytes (rest, are, e) h =
    let few = fields_few fields rest are h in
    let first = update_few owed in
    omega (arith, ap length e, length-append (update owed) rest, few, first)
