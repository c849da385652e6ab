-- A block has one reading: each relation that it is made of has one answer.
use Rattle.std.proofs.Common.{◌≡◌, ℕ, inl, inr, zero, suc, Bool, true, false, List, take, Result, Ok, Err, sym, ◌∙◌, ap, subst, arith}
use Rattle.std.specs.Prelude.{nat_le, slice_index}
use Rattle.mq_huff.specs.Laws.{HaveOneReading, HaveTextOrFault}
use Rattle.mq_hpack.specs.declared.fault.HpackFault.{HpackFault}
use Rattle.mq_hpack.specs.declared.field.Field.{Field}
use Rattle.mq_hpack.specs.declared.representation.Representation.{Representation}
use Rattle.mq_hpack.specs.declared.representation.Representation.TheVariants.{Plain, Stored, SizeUpdate}
use Rattle.mq_hpack.specs.Text.{Then, IsInteger, IsPlain, IsLong, IsString}
use Rattle.mq_hpack.specs.Table.{Table}
use Rattle.mq_hpack.specs.Representation.{Kind, Indexes, Stores, Updates, Passes, kind_of, IsRepresentation, IsOf, IsIndexed, IsNameAt, IsName, IsValue, IsLiteral, IsMade, IsSizeUpdate, IsLate}
use Rattle.mq_hpack.specs.Block.{Progress, Takes, IsStep, IsBlock, begun}
use Rattle.mq_hpack.specs.OneReading.{HasOneReading}
use Rattle.mq_hpack.proofs.Blocks.{progress}

-- two answers that are so are one
abbrev One : {A : Type 0} → (Result A HpackFault → Type 0) → Type 0
One {A} R = (r s : Result A HpackFault) → R r → R s → r ≡ s

same_pair : {A B : Type 0} (x y : A × B) → x.0 ≡ y.0 → x.1 ≡ y.1 → x ≡ y
same_pair {A} {B} x y e f = ap (λ (a : A). (a, x.1)) e ∙ ap (λ (b : B). (y.0, b)) f

-- what is so in one way and in the other is the same
abbrev Agree : {A : Type 0} → (Result A HpackFault → Type 0) → (Result A HpackFault → Type 0) → Type 0
Agree {A} S T = (r s : Result A HpackFault) → S r → T s → r ≡ s

-- readings one after another agree, where the first has one answer and those after it agree
then_agree : {A B : Type 0} (R : Result A HpackFault → Type 0) (S T : A → Result B HpackFault → Type 0) → One R → ((a : A) → Agree (S a) (T a)) → Agree (Then R S) (Then R T)
then_agree {A} {B} R S T f g (Ok x) (Ok y) h k =
    let e : h.0 ≡ k.0 = cc (f (Ok h.0) (Ok k.0) h.1 k.1) in
    g k.0 (Ok x) (Ok y) (subst (λ (a : A). S a (Ok x)) e h.2) k.2
then_agree {A} {B} R S T f g (Ok x) (Err d) h (inl k) = cc (f (Ok h.0) (Err d) h.1 k)
then_agree {A} {B} R S T f g (Ok x) (Err d) h (inr k) =
    let e : h.0 ≡ k.0 = cc (f (Ok h.0) (Ok k.0) h.1 k.1) in
    g k.0 (Ok x) (Err d) (subst (λ (a : A). S a (Ok x)) e h.2) k.2
then_agree {A} {B} R S T f g (Err c) (Ok y) (inl h) k = cc (f (Err c) (Ok k.0) h k.1)
then_agree {A} {B} R S T f g (Err c) (Ok y) (inr h) k =
    let e : h.0 ≡ k.0 = cc (f (Ok h.0) (Ok k.0) h.1 k.1) in
    g k.0 (Err c) (Ok y) (subst (λ (a : A). S a (Err c)) e h.2) k.2
then_agree {A} {B} R S T f g (Err c) (Err d) (inl h) (inl k) =
    let e : c ≡ d = cc (f (Err c) (Err d) h k) in
    ap (λ z. Err z) e
then_agree {A} {B} R S T f g (Err c) (Err d) (inl h) (inr k) = cc (f (Err c) (Ok k.0) h k.1)
then_agree {A} {B} R S T f g (Err c) (Err d) (inr h) (inl k) = cc (f (Ok h.0) (Err d) h.1 k)
then_agree {A} {B} R S T f g (Err c) (Err d) (inr h) (inr k) =
    let e : h.0 ≡ k.0 = cc (f (Ok h.0) (Ok k.0) h.1 k.1) in
    g k.0 (Err c) (Err d) (subst (λ (a : A). S a (Err c)) e h.2) k.2

-- and so have one answer, where each has
then_one : {A B : Type 0} (R : Result A HpackFault → Type 0) (S : A → Result B HpackFault → Type 0) → One R → ((a : A) → One (S a)) → One (Then R S)
then_one R S f g = then_agree R S S f g

integer_one : (prefix : ℕ) (bytes : List ℕ) → One (IsInteger prefix bytes)
integer_one prefix bytes (Ok x) (Ok y) h k = cc
integer_one prefix bytes (Ok x) (Err d) h k = cc
integer_one prefix bytes (Err c) (Ok y) h k = cc
integer_one prefix bytes (Err c) (Err d) h k = cc

plain_one : HaveOneReading → HaveTextOrFault → (coded : Bool) (raw : List ℕ) → One (IsPlain coded raw)
plain_one text fault true raw (Ok x) (Ok y) h k = ap (λ z. Ok z) (text x y raw h k)
plain_one text fault true raw (Ok x) (Err d) h k = absurd (fault x raw h k.1)
plain_one text fault true raw (Err c) (Ok y) h k = absurd (fault y raw k h.1)
plain_one text fault true raw (Err c) (Err d) h k = cc
plain_one text fault false raw (Ok x) (Ok y) h k = cc
plain_one text fault false raw (Ok x) (Err d) h k = absurd k
plain_one text fault false raw (Err c) (Ok y) h k = absurd h
plain_one text fault false raw (Err c) (Err d) h k = absurd h

long_one : HaveOneReading → HaveTextOrFault → (coded : Bool) (n : ℕ) (bytes : List ℕ) → One (IsLong coded n bytes)
long_one text fault coded n bytes (Ok x) (Ok y) h k =
    let p = plain_one text fault coded (take n bytes) (Ok x.0) (Ok y.0) h.2 k.2 in
    let e : x.0 ≡ y.0 = cc in
    ap (λ z. Ok z) (same_pair x y e (h.1 ∙ sym k.1))
long_one text fault coded n bytes (Ok x) (Err d) h (inl k) = let s = k.0 in absurd (omega (arith, h.0))
long_one text fault coded n bytes (Ok x) (Err d) h (inr k) = cc (plain_one text fault coded (take n bytes) (Ok x.0) (Err d) h.2 k.1)
long_one text fault coded n bytes (Err c) (Ok y) (inl h) k = let s = h.0 in absurd (omega (arith, k.0))
long_one text fault coded n bytes (Err c) (Ok y) (inr h) k = cc (plain_one text fault coded (take n bytes) (Err c) (Ok y.0) h.1 k.2)
long_one text fault coded n bytes (Err c) (Err d) (inl h) (inl k) = cc
long_one text fault coded n bytes (Err c) (Err d) (inl h) (inr k) = let s = h.0 in absurd (omega (arith, k.0))
long_one text fault coded n bytes (Err c) (Err d) (inr h) (inl k) = let s = k.0 in absurd (omega (arith, h.0))
long_one text fault coded n bytes (Err c) (Err d) (inr h) (inr k) =
    let e : c ≡ d = cc (plain_one text fault coded (take n bytes) (Err c) (Err d) h.1 k.1) in
    ap (λ z. Err z) e

string_one : HaveOneReading → HaveTextOrFault → (bytes : List ℕ) → One (IsString bytes)
string_one text fault bytes =
    then_one (IsInteger 7 bytes) (λ found. IsLong (nat_le 128 (slice_index bytes 0)) found.0 found.1) (integer_one 7 bytes)
    (λ found. long_one text fault (nat_le 128 (slice_index bytes 0)) found.0 found.1)

indexed_one : (t : Table) (found : ℕ × List ℕ) → One (IsIndexed t found)
indexed_one t found (Ok x) (Ok y) h k =
    let a = h.1 in
    let b = k.1 in
    let e : h.0 ≡ k.0 = cc in
    let g : x ≡ y = h.2 ∙ ap (λ (f : Field). (Plain f, found.1)) e ∙ sym k.2 in
    ap (λ z. Ok z) g
indexed_one t found (Ok x) (Err d) h k =
    let a = h.1 in
    cc
indexed_one t found (Err c) (Ok y) h k =
    let b = k.1 in
    cc
indexed_one t found (Err c) (Err d) h k = cc

name_at_one : HaveOneReading → HaveTextOrFault → (t : Table) (i : ℕ) (bytes : List ℕ) → One (IsNameAt t i bytes)
name_at_one text fault t zero bytes r s h k = string_one text fault bytes r s h k
name_at_one text fault t (suc i) bytes (Ok x) (Ok y) h k =
    let a = h.1 in
    let b = k.1 in
    let e : h.0 ≡ k.0 = cc in
    let g : x ≡ y = h.2 ∙ ap (λ (f : Field). (f.name, bytes)) e ∙ sym k.2 in
    ap (λ z. Ok z) g
name_at_one text fault t (suc i) bytes (Ok x) (Err d) h k =
    let a = h.1 in
    cc
name_at_one text fault t (suc i) bytes (Err c) (Ok y) h k =
    let b = k.1 in
    cc
name_at_one text fault t (suc i) bytes (Err c) (Err d) h k = cc

name_one : HaveOneReading → HaveTextOrFault → (t : Table) (prefix : ℕ) (bytes : List ℕ) → One (IsName t prefix bytes)
name_one text fault t prefix bytes =
    then_one (IsInteger prefix bytes) (λ found. IsNameAt t found.0 found.1) (integer_one prefix bytes) (λ found. name_at_one text fault t found.0 found.1)

same_field : (f g : Field) → f.name ≡ g.name → f.value ≡ g.value → f ≡ g
same_field f g a b =
    let made : List ℕ → List ℕ → Field = λ name value. record { name = name; value = value } in
    ap (λ name. made name f.value) a ∙ ap (λ value. made g.name value) b

value_one : HaveOneReading → HaveTextOrFault → (name : List ℕ × List ℕ) → One (IsValue name)
value_one text fault name (Ok x) (Ok y) h k =
    let p = string_one text fault name.1 (Ok (x.0.value, x.1)) (Ok (y.0.value, y.1)) h.1 k.1 in
    let e : (x.0.value, x.1) ≡ (y.0.value, y.1) = cc p in
    let f = same_field x.0 y.0 (h.0 ∙ sym k.0) (ap (λ (z : List ℕ × List ℕ). z.0) e) in
    ap (λ z. Ok z) (same_pair x y f (ap (λ (z : List ℕ × List ℕ). z.1) e))
value_one text fault name (Ok x) (Err d) h k = cc (string_one text fault name.1 (Ok (x.0.value, x.1)) (Err d) h.1 k)
value_one text fault name (Err c) (Ok y) h k = cc (string_one text fault name.1 (Err c) (Ok (y.0.value, y.1)) h k.1)
value_one text fault name (Err c) (Err d) h k =
    let e : c ≡ d = cc (string_one text fault name.1 (Err c) (Err d) h k) in
    ap (λ z. Err z) e

literal_one : HaveOneReading → HaveTextOrFault → (t : Table) (prefix : ℕ) (bytes : List ℕ) → One (IsLiteral t prefix bytes)
literal_one text fault t prefix bytes = then_one (IsName t prefix bytes) IsValue (name_one text fault t prefix bytes) (λ name. value_one text fault name)

made_one : (form : Field → Representation) (found : Field × List ℕ) → One (IsMade form found)
made_one form found (Ok x) (Ok y) h k = cc
made_one form found (Ok x) (Err d) h k = absurd k
made_one form found (Err c) s h k = absurd h

limit_one : (found : ℕ × List ℕ) → One (IsSizeUpdate found)
limit_one found (Ok x) (Ok y) h k = cc
limit_one found (Ok x) (Err d) h k = let s = k.0 in absurd (omega (arith, h.0))
limit_one found (Err c) (Ok y) h k = let s = h.0 in absurd (omega (arith, k.0))
limit_one found (Err c) (Err d) h k = cc

late_one : One IsLate
late_one (Ok x) s h k = absurd h
late_one (Err c) (Ok y) h k = absurd k
late_one (Err c) (Err d) h k = cc

of_one : HaveOneReading → HaveTextOrFault → (kind : Kind) (t : Table) (total : ℕ) (bytes : List ℕ) → One (IsOf kind t total bytes)
of_one text fault Indexes t total bytes = then_one (IsInteger 7 bytes) (IsIndexed t) (integer_one 7 bytes) (indexed_one t)
of_one text fault Stores t total bytes = then_one (IsLiteral t 6 bytes) (IsMade Stored) (literal_one text fault t 6 bytes) (made_one Stored)
of_one text fault Updates t zero bytes = then_one (IsInteger 5 bytes) IsSizeUpdate (integer_one 5 bytes) limit_one
of_one text fault Updates t (suc n) bytes = late_one
of_one text fault Passes t total bytes = then_one (IsLiteral t 4 bytes) (IsMade Plain) (literal_one text fault t 4 bytes) (made_one Plain)

form_one : HaveOneReading → HaveTextOrFault → (t : Table) (total : ℕ) (bytes : List ℕ) → One (IsRepresentation t total bytes)
form_one text fault t total bytes = of_one text fault (kind_of bytes) t total bytes

same_progress : (a b : Progress) → a.table ≡ b.table → a.fields ≡ b.fields → a.total ≡ b.total → a.left ≡ b.left → a ≡ b
same_progress a b e f g h =
    ap (λ (t : Table). progress t a.fields a.total a.left) e ∙ ap (λ xs. progress b.table xs a.total a.left) f
    ∙ ap (λ n. progress b.table b.fields n a.left) g ∙ ap (λ xs. progress b.table b.fields b.total xs) h

-- what a representation leads to
taken_one : (p : Progress) (form : Representation) (rest : List ℕ) → One (Takes p (form, rest))
taken_one p (SizeUpdate n) rest (Ok a) (Ok b) h k =
    ap (λ z. Ok z) (same_progress a b (h.1.0 ∙ sym k.1.0) (h.1.1 ∙ sym k.1.1) (h.1.2 ∙ sym k.1.2) (h.0 ∙ sym k.0))
taken_one p (SizeUpdate n) rest (Ok a) (Err d) h k = absurd k
taken_one p (SizeUpdate n) rest (Err c) s h k = absurd h
taken_one p (Plain f) rest (Ok a) (Ok b) h k =
    ap (λ z. Ok z) (same_progress a b (h.1.0 ∙ sym k.1.0) (h.1.1 ∙ sym k.1.1) (h.1.2.1 ∙ sym k.1.2.1) (h.0 ∙ sym k.0))
taken_one p (Plain f) rest (Ok a) (Err d) h k = let z = k.0 in absurd (omega (arith, h.1.2.0))
taken_one p (Plain f) rest (Err c) (Ok b) h k = let z = h.0 in absurd (omega (arith, k.1.2.0))
taken_one p (Plain f) rest (Err c) (Err d) h k = ap (λ z. Err z) (h.1 ∙ sym k.1)
taken_one p (Stored f) rest (Ok a) (Ok b) h k =
    ap (λ z. Ok z) (same_progress a b (h.1.0 ∙ sym k.1.0) (h.1.1 ∙ sym k.1.1) (h.1.2.1 ∙ sym k.1.2.1) (h.0 ∙ sym k.0))
taken_one p (Stored f) rest (Ok a) (Err d) h k = let z = k.0 in absurd (omega (arith, h.1.2.0))
taken_one p (Stored f) rest (Err c) (Ok b) h k = let z = h.0 in absurd (omega (arith, k.1.2.0))
taken_one p (Stored f) rest (Err c) (Err d) h k = ap (λ z. Err z) (h.1 ∙ sym k.1)

step_one : HaveOneReading → HaveTextOrFault → (p : Progress) → One (IsStep p)
step_one text fault p =
    then_one (IsRepresentation p.table p.total p.left) (Takes p) (form_one text fault p.table p.total p.left) (λ x. taken_one p x.0 x.1)

block_agrees : (k j : ℕ) → HaveOneReading → HaveTextOrFault → (p : Progress) → Agree (IsBlock k p) (IsBlock j p)
block_agrees zero zero text fault p r s h g = h.1 ∙ sym g.1
block_agrees zero (suc j) text fault p r s h g = absurd (g.0 h.0)
block_agrees (suc k) zero text fault p r s h g = absurd (h.0 g.0)
block_agrees (suc k) (suc j) text fault p r s h g =
    then_agree (IsStep p) (IsBlock k) (IsBlock j) (step_one text fault p) (λ q. block_agrees k j text fault q) r s h.1 g.1

pub has_one_reading : HaveOneReading → HaveTextOrFault → HasOneReading
has_one_reading text fault = λ t bytes a b h g. block_agrees h.0 g.0 text fault (begun t bytes) a b h.1 g.1
