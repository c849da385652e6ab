-- A block comes to something: each relation that it is made of has an answer.
use Rattle.std.proofs.Common.{◌≡◌, ◌≢◌, ℕ, ◌+◌, ◌<◌, ◌≤◌, inl, inr, zero, suc, Bool, true, false, List, [], ◌∷◌, ◌++◌, length, take, drop, Option, Some, None, Result, Ok, Err, refl, ap, arith}
use Rattle.std.specs.Prelude.{nat_le, slice_index}
use Rattle.std.proofs.lemmas.Bool.{cases_lt}
use Rattle.mq_huff.specs.Laws.{HaveAnAnswer}
use Rattle.mq_hpack.specs.declared.fault.HpackFault.{HpackFault}
use Rattle.mq_hpack.specs.declared.fault.HpackFault.TheVariants.{Index, Integer, Text, Update, TooLarge}
use Rattle.mq_hpack.specs.declared.field.Field.{Field}
use Rattle.mq_hpack.specs.declared.representation.Representation.{Representation}
use Rattle.mq_hpack.specs.declared.representation.Representation.TheVariants.{Plain, Stored, SizeUpdate}
use Rattle.mq_hpack.specs.Integer.{integer_of}
use Rattle.mq_hpack.specs.Text.{Then, IsInteger, IsPlain, IsLong, IsString}
use Rattle.mq_hpack.specs.Table.{Table, size_of, field_at, with_field, with_limit}
use Rattle.mq_hpack.specs.Representation.{Kind, Indexes, Stores, Updates, Passes, kind_of, IsRepresentation, IsOf, IsIndexed, IsNameAt, IsName, IsValue, IsLiteral, IsMade, IsSizeUpdate}
use Rattle.mq_hpack.specs.Block.{Progress, Takes, IsStep, IsBlock}
use Rattle.mq_hpack.specs.Outcome.{IsReadable}
use Rattle.mq_hpack.proofs.Blocks.{progress}
use Rattle.mq_hpack.proofs.Readings.{then_so}
use Rattle.mq_hpack.proofs.Shorter.{representation_shorter}

-- some answer is so
abbrev Comes : {A : Type 0} → (Result A HpackFault → Type 0) → Type 0
Comes {A} R = (r : Result A HpackFault) × R r

-- one reading, and then another
goes_on : {A B : Type 0} (R : Result A HpackFault → Type 0) (S : A → Result B HpackFault → Type 0) (a : A) → R (Ok a) → Comes (S a) → Comes (Then R S)
goes_on R S a h (Ok b, k) = (Ok b, (a, h, k))
goes_on R S a h (Err e, k) = (Err e, inr (a, h, k))

then_comes : {A B : Type 0} (R : Result A HpackFault → Type 0) (S : A → Result B HpackFault → Type 0) → Comes R → ((a : A) → Comes (S a)) → Comes (Then R S)
then_comes R S (Ok a, h) next = goes_on R S a h (next a)
then_comes R S (Err e, h) next = (Err e, inl h)

integer_by : (prefix : ℕ) (bytes : List ℕ) (found : Option (ℕ × List ℕ)) → integer_of prefix bytes ≡ found → Comes (IsInteger prefix bytes)
integer_by prefix bytes None e = (Err Integer, (refl, e))
integer_by prefix bytes (Some x) e = (Ok x, e)

integer_comes : (prefix : ℕ) (bytes : List ℕ) → Comes (IsInteger prefix bytes)
integer_comes prefix bytes = integer_by prefix bytes (integer_of prefix bytes) refl

plain_comes : HaveAnAnswer → (coded : Bool) (raw : List ℕ) → Comes (IsPlain coded raw)
plain_comes answer false raw = (Ok raw, refl)
plain_comes answer true raw = elim (answer raw) [
  | inl text ↦ (Ok text.0, text.1)
  | inr faults ↦ (Err Text, (refl, faults))
]

long_by : (coded : Bool) (n : ℕ) (bytes : List ℕ) → n ≤ length bytes → Comes (IsPlain coded (take n bytes)) → Comes (IsLong coded n bytes)
long_by coded n bytes le (Ok text, h) = (Ok (text, drop n bytes), (le, refl, h))
long_by coded n bytes le (Err e, h) = (Err e, inr (le, h))

long_comes : HaveAnAnswer → (coded : Bool) (n : ℕ) (bytes : List ℕ) → Comes (IsLong coded n bytes)
long_comes answer coded n bytes = elim (cases_lt (length bytes) n) [
  | inl short ↦ (Err Text, inl (short, refl))
  | inr le ↦ long_by coded n bytes le (plain_comes answer coded (take n bytes))
]

string_comes : HaveAnAnswer → (bytes : List ℕ) → Comes (IsString bytes)
string_comes answer bytes =
    then_comes (IsInteger 7 bytes) (λ found. IsLong (nat_le 128 (slice_index bytes 0)) found.0 found.1) (integer_comes 7 bytes)
    (λ found. long_comes answer (nat_le 128 (slice_index bytes 0)) found.0 found.1)

indexed_by : (t : Table) (found : ℕ × List ℕ) (field : Option Field) → field_at t found.0 ≡ field → Comes (IsIndexed t found)
indexed_by t found None e = (Err Index, (refl, e))
indexed_by t found (Some f) e = (Ok (Plain f, found.1), (f, e, refl))

named_by : (t : Table) (i : ℕ) (bytes : List ℕ) (field : Option Field) → field_at t (suc i) ≡ field → Comes (IsNameAt t (suc i) bytes)
named_by t i bytes None e = (Err Index, (refl, e))
named_by t i bytes (Some f) e = (Ok (f.name, bytes), (f, e, refl))

name_at_comes : HaveAnAnswer → (t : Table) (i : ℕ) (bytes : List ℕ) → Comes (IsNameAt t i bytes)
name_at_comes answer t zero bytes = string_comes answer bytes
name_at_comes answer t (suc i) bytes = named_by t i bytes (field_at t (suc i)) refl

name_comes : HaveAnAnswer → (t : Table) (prefix : ℕ) (bytes : List ℕ) → Comes (IsName t prefix bytes)
name_comes answer t prefix bytes =
    then_comes (IsInteger prefix bytes) (λ found. IsNameAt t found.0 found.1) (integer_comes prefix bytes) (λ found. name_at_comes answer t found.0 found.1)

value_by : (name : List ℕ × List ℕ) → Comes (IsString name.1) → Comes (IsValue name)
value_by name (Ok x, h) = let f : Field = record { name = name.0; value = x.0 } in (Ok (f, x.1), (refl, h))
value_by name (Err e, h) = (Err e, h)

literal_comes : HaveAnAnswer → (t : Table) (prefix : ℕ) (bytes : List ℕ) → Comes (IsLiteral t prefix bytes)
literal_comes answer t prefix bytes =
    then_comes (IsName t prefix bytes) IsValue (name_comes answer t prefix bytes) (λ name. value_by name (string_comes answer name.1))

made_comes : (form : Field → Representation) (found : Field × List ℕ) → Comes (IsMade form found)
made_comes form found = (Ok (form found.0, found.1), refl)

limit_comes : (found : ℕ × List ℕ) → Comes (IsSizeUpdate found)
limit_comes found = elim (cases_lt 4096 found.0) [
  | inl large ↦ (Err Update, (large, refl))
  | inr le ↦ (Ok (SizeUpdate found.0, found.1), (le, refl))
]

of_comes : HaveAnAnswer → (kind : Kind) (t : Table) (total : ℕ) (bytes : List ℕ) → Comes (IsOf kind t total bytes)
of_comes answer Indexes t total bytes = then_comes (IsInteger 7 bytes) (IsIndexed t) (integer_comes 7 bytes) (λ found. indexed_by t found (field_at t found.0) refl)
of_comes answer Stores t total bytes = then_comes (IsLiteral t 6 bytes) (IsMade Stored) (literal_comes answer t 6 bytes) (λ found. made_comes Stored found)
of_comes answer Updates t zero bytes = then_comes (IsInteger 5 bytes) IsSizeUpdate (integer_comes 5 bytes) (λ found. limit_comes found)
of_comes answer Updates t (suc n) bytes = (Err Update, refl)
of_comes answer Passes t total bytes = then_comes (IsLiteral t 4 bytes) (IsMade Plain) (literal_comes answer t 4 bytes) (λ found. made_comes Plain found)

-- Blocks.
abbrev Answer : Type 0
Answer = Result (List Field × Table) HpackFault

taken_comes : (p : Progress) (form : Representation) (rest : List ℕ) → Comes (Takes p (form, rest))
taken_comes p (SizeUpdate limit) rest = (Ok (progress (with_limit limit p.table) p.fields p.total rest), (refl, (refl, refl, refl)))
taken_comes p (Plain f) rest = elim (cases_lt 16384 (p.total + size_of f)) [
  | inl large ↦ (Err TooLarge, (large, refl))
  | inr fits ↦ (Ok (progress p.table (p.fields ++ f ∷ []) (p.total + size_of f) rest), (refl, (refl, refl, (fits, refl))))
]
taken_comes p (Stored f) rest = elim (cases_lt 16384 (p.total + size_of f)) [
  | inl large ↦ (Err TooLarge, (large, refl))
  | inr fits ↦ (Ok (progress (with_field f p.table) (p.fields ++ f ∷ []) (p.total + size_of f) rest), (refl, (refl, refl, (fits, refl))))
]

step_comes : HaveAnAnswer → (p : Progress) → Comes (IsStep p)
step_comes answer p =
    then_comes (IsRepresentation p.table p.total p.left) (Takes p) (of_comes answer (kind_of p.left) p.table p.total p.left) (λ x. taken_comes p x.0 x.1)

step_shorter : (p q : Progress) → IsStep p (Ok q) → length q.left < length p.left
step_shorter p q (x, is, (left, taken)) =
    let shorter = representation_shorter p.table p.total p.left x is in
    let same = ap (λ xs. length xs) left in
    omega (arith, shorter)

-- blocks of so many bytes come to something
abbrev AllCome : ℕ → Type 0
AllCome n = (p : Progress) → length p.left ≤ n → (r : Answer) × ((count : ℕ) × IsBlock count p r)

block_by : (n : ℕ) → AllCome n → (p : Progress) → p.left ≢ [] → length p.left ≤ suc n → Comes (IsStep p) → (r : Answer) × ((count : ℕ) × IsBlock count p r)
block_by n all p some le (Err e, h) = (Err e, (suc zero, (some, inl h)))
block_by n all p some le (Ok q, h) =
    let shorter = step_shorter p q h in
    let next = all q (omega (arith, shorter)) in
    (next.0, (suc next.1.0, (some, then_so (IsStep p) (IsBlock next.1.0) q next.0 h next.1.1)))

block_at : HaveAnAnswer → (n : ℕ) (t : Table) (fields : List Field) (total : ℕ) (left : List ℕ) → length left ≤ n
    → (r : Answer) × ((count : ℕ) × IsBlock count (progress t fields total left) r)
block_at answer n t fields total [] le = (Ok (fields, t), (zero, (refl, refl)))
block_at answer zero t fields total (b ∷ bytes) le = absurd (omega arith)
block_at answer (suc n) t fields total (b ∷ bytes) le =
    let p = progress t fields total (b ∷ bytes) in
    block_by n (λ q. block_at answer n q.table q.fields q.total q.left) p (λ none. absurd cc) le (step_comes answer p)

pub is_readable : HaveAnAnswer → IsReadable
is_readable answer t bytes = block_at answer (length bytes) t [] 0 bytes (omega arith)
