-- What the encoder writes is read back.
use Rattle.std.proofs.Common.{◌≡◌, ◌≢◌, ℕ, ◌+◌, ◌^◌, ◌<◌, ◌≤◌, inl, inr, zero, suc, Bool, true, false, cond, List, [], ◌∷◌, ◌++◌, length, Option, Some, None, Result, Ok, Err, refl, sym, ◌∙◌, ap, subst, arith, add-one, append-nil}
use Rattle.std.specs.Prelude.{nat_le}
use Rattle.std.specs.List.{slice_get, sum_by, AllByRecursion}
use Rattle.std.proofs.lemmas.Bool.{cases_lt, le-leb, lt-leb}
use Rattle.std.proofs.lemmas.List.{append_assoc}
use Rattle.std.proofs.lemmas.List.Sums.{sum_by-cons}
use Rattle.mq_hpack.specs.declared.field.Field.{Field}
use Rattle.mq_hpack.specs.declared.fault.HpackFault.{HpackFault}
use Rattle.mq_hpack.specs.declared.fault.HpackFault.TheVariants.{TooLarge}
use Rattle.mq_hpack.specs.declared.representation.Representation.TheVariants.{Plain, SizeUpdate}
use Rattle.mq_hpack.specs.Static.{static_fields}
use Rattle.mq_hpack.specs.Table.{Table, size_of, field_at, with_limit}
use Rattle.mq_hpack.specs.Text.{IsString}
use Rattle.mq_hpack.specs.Representation.{Indexes, Stores, Updates, Passes, Kind, kind_of, IsRepresentation, IsOf, IsNameAt}
use Rattle.mq_hpack.specs.Block.{IsStep, IsBlock, Reads, begun}
use Rattle.mq_hpack.specs.Encoder.{spelled, AreFields, IsEncoded, IsField, IsLeast, IsWritten}
use Rattle.mq_hpack.specs.ReadBack.{IsShort, table_after}
use Rattle.mq_hpack.proofs.Blocks.{progress}
use Rattle.mq_hpack.proofs.Found.{length-static, found_front}
use Rattle.mq_hpack.proofs.Readings.{then_so}
use Rattle.mq_hpack.proofs.StringsBack.{begins, string_back, indexed_back, literal_back, limit_back}

-- the kind of each form, by its first byte
kind_indexed : (n : ℕ) (rest : List ℕ) → kind_of (spelled 128 7 n ++ rest) ≡ Indexes
kind_indexed n rest =
    let b = begins 128 7 n in
    let other : ℕ → Kind = λ x. cond (nat_le 64 x) Stores (cond (nat_le 32 x) Updates Passes) in
    ap (λ ys. kind_of (ys ++ rest)) b.is ∙ ap (λ t. cond t Indexes (other b.first)) (le-leb 128 b.first b.above)

kind_literal : (n : ℕ) (rest : List ℕ) → kind_of (spelled 0 4 n ++ rest) ≡ Passes
kind_literal n rest =
    let b = begins 0 4 n in
    let below = b.below in
    ap (λ ys. kind_of (ys ++ rest)) b.is
    ∙ ap (λ t. cond t Indexes (cond (nat_le 64 b.first) Stores (cond (nat_le 32 b.first) Updates Passes))) (lt-leb 128 b.first (omega arith))
    ∙ ap (λ t. cond t Stores (cond (nat_le 32 b.first) Updates Passes)) (lt-leb 64 b.first (omega arith))
    ∙ ap (λ t. cond t Updates Passes) (lt-leb 32 b.first (omega arith))

kind_limit : (n : ℕ) (rest : List ℕ) → kind_of (spelled 32 5 n ++ rest) ≡ Updates
kind_limit n rest =
    let b = begins 32 5 n in
    let below = b.below in
    ap (λ ys. kind_of (ys ++ rest)) b.is
    ∙ ap (λ t. cond t Indexes (cond (nat_le 64 b.first) Stores (cond (nat_le 32 b.first) Updates Passes))) (lt-leb 128 b.first (omega arith))
    ∙ ap (λ t. cond t Stores (cond (nat_le 32 b.first) Updates Passes)) (lt-leb 64 b.first (omega arith))
    ∙ ap (λ t. cond t Updates Passes) (le-leb 32 b.first b.above)

some_bytes : (form prefix n : ℕ) (rest : List ℕ) → spelled form prefix n ++ rest ≢ []
some_bytes form prefix n rest =
    let b = begins form prefix n in
    λ e. let z : length (b.first ∷ (b.more ++ rest)) ≡ length {A = ℕ} [] = ap (λ xs. length xs) (ap (λ ys. ys ++ rest) (sym b.is) ∙ e) in absurd (omega arith)

-- a form at the front that is read as this field
record IsRead (t : Table) (total : ℕ) (f : Field) (bytes rest : List ℕ) : Type 0 where
  pub some : bytes ≢ []
  pub form : IsRepresentation t total bytes (Ok (Plain f, rest))

indexed_read : (t : Table) (total n : ℕ) (f : Field) (rest : List ℕ) → n < 2 ^ 32 → field_at t n ≡ Some f → IsRead t total f (spelled 128 7 n ++ rest) rest
indexed_read t total n f rest small found = record {
  some = some_bytes 128 7 n rest;
  form = subst (λ (k : Kind). IsOf k t total (spelled 128 7 n ++ rest) (Ok (Plain f, rest))) (sym (kind_indexed n rest))
      ((n, rest), indexed_back n rest small, (f, found, refl));
}

literal_read : (t : Table) (total n : ℕ) (f : Field) (bytes rest : List ℕ) (name : List ℕ × List ℕ) → n < 2 ^ 32
    → IsNameAt t n bytes (Ok name) → f.name ≡ name.0 → IsString name.1 (Ok (f.value, rest)) → IsRead t total f (spelled 0 4 n ++ bytes) rest
literal_read t total n f bytes rest name small found same value = record {
  some = some_bytes 0 4 n bytes;
  form = subst (λ (k : Kind). IsOf k t total (spelled 0 4 n ++ bytes) (Ok (Plain f, rest))) (sym (kind_literal n bytes))
      ((f, rest), (name, ((n, bytes), literal_back n bytes small, found), (same, value)), refl);
}

-- a place that the static table has
within : (xs : List Field) (at : ℕ) (f : Field) → slice_get xs at ≡ Some f → at < length xs
within [] at f e = cc
within (x ∷ xs) zero f e = omega arith
within (x ∷ xs) (suc at) f e = let w = within xs at f e in omega arith

pub place : (at : ℕ) (f : Field) → slice_get static_fields at ≡ Some f → at < 61
place at f e = let w = within static_fields at f e in let l = length-static in omega arith

name_at : (t : Table) (at : ℕ) (g : Field) (bytes : List ℕ) → slice_get static_fields at ≡ Some g → IsNameAt t (at + 1) bytes (Ok (g.name, bytes))
name_at t at g bytes e =
    let found = found_front t (suc at) at g (sym (add-one at)) (place at g e) e in
    subst (λ (n : ℕ). IsNameAt t n bytes (Ok (g.name, bytes))) (sym (add-one at)) (g, found, refl)

-- each form is read as its field
written_read : (t : Table) (total : ℕ) (f : Field) (whole named : Option ℕ) (bytes rest : List ℕ) → IsLeast (λ g. g ≡ f) whole → IsLeast (λ g. g.name ≡ f.name) named
    → IsWritten f whole named bytes → IsShort f → IsRead t total f (bytes ++ rest) rest
written_read t total f (Some at) named bytes rest w n h short =
    let p = place at w.0 w.1 in
    let found = found_front t (at + 1) at w.0 refl p w.1 ∙ ap (λ g. Some g) w.2 in
    subst (λ (xs : List ℕ). IsRead t total f (xs ++ rest) rest) (sym h) (indexed_read t total (at + 1) f rest (omega arith) found)
written_read t total f None (Some at) bytes rest w n h short =
    let p = place at n.0 n.1 in
    let e : bytes ++ rest ≡ spelled 0 4 (at + 1) ++ (h.0 ++ rest) = ap (λ xs. xs ++ rest) h.2 ∙ append_assoc (spelled 0 4 (at + 1)) h.0 rest in
    subst (λ (xs : List ℕ). IsRead t total f xs rest) (sym e)
    (literal_read t total (at + 1) f (h.0 ++ rest) rest (n.0.name, h.0 ++ rest) (omega arith) (name_at t at n.0 (h.0 ++ rest) n.1) (sym n.2)
    (string_back f.value h.0 rest h.1 short.1))
written_read t total f None None bytes rest w n h short =
    let e : bytes ++ rest ≡ spelled 0 4 0 ++ (h.0 ++ (h.1 ++ rest)) =
    ap (λ xs. xs ++ rest) h.4 ∙ append_assoc (spelled 0 4 0) (h.0 ++ h.1) rest ∙ ap (λ xs. spelled 0 4 0 ++ xs) (append_assoc h.0 h.1 rest) in
    subst (λ (xs : List ℕ). IsRead t total f xs rest) (sym e)
    (literal_read t total 0 f (h.0 ++ (h.1 ++ rest)) rest (f.name, h.1 ++ rest) (omega arith) (string_back f.name h.0 (h.1 ++ rest) h.2 short.0) refl
    (string_back f.value h.1 rest h.3 short.1))

field_read : (t : Table) (total : ℕ) (f : Field) (bytes rest : List ℕ) → IsField f bytes → IsShort f → IsRead t total f (bytes ++ rest) rest
field_read t total f bytes rest x short = written_read t total f x.whole x.named bytes rest x.least_whole x.least_named x.form short

-- a field that was read, with those before
field_step : (t : Table) (before : List Field) (total : ℕ) (f : Field) (bytes rest : List ℕ) → IsRead t total f bytes rest → total + size_of f ≤ 16384
    → IsStep (progress t before total bytes) (Ok (progress t (before ++ f ∷ []) (total + size_of f) rest))
field_step t before total f bytes rest r fits = ((Plain f, rest), r.form, (refl, (refl, refl, (fits, refl))))

-- fields that count no more than they may
all_read : (t : Table) (before : List Field) (total : ℕ) (fields : List Field) (bytes : List ℕ) → AreFields fields bytes → total + sum_by size_of fields ≤ 16384
    → (count : ℕ) × IsBlock count (progress t before total bytes) (Ok (before ++ fields, t))
all_read t before total [] bytes h small = (zero, (h, ap (λ xs. Ok (xs, t)) (append-nil before)))
all_read t before total (f ∷ fs) bytes h small =
    let first = h.0 in
    let rest = h.1 in
    let s = sum_by-cons size_of f fs in
    let r = field_read t total f first rest h.2 (omega arith, omega arith) in
    let after = all_read t (before ++ f ∷ []) (total + size_of f) fs rest h.3 (omega arith) in
    let q = progress t (before ++ f ∷ []) (total + size_of f) rest in
    let next = subst (λ xs. IsBlock after.0 q (Ok (xs, t))) (append_assoc before (f ∷ []) fs) after.1 in
    subst (λ (xs : List ℕ). (count : ℕ) × IsBlock count (progress t before total xs) (Ok (before ++ f ∷ fs, t))) (sym h.4)
    (suc after.0, (r.some, (q, field_step t before total f (first ++ rest) rest r (omega arith), next)))

-- fields that count more
more_read : (t : Table) (before : List Field) (total : ℕ) (fields : List Field) (bytes : List ℕ) → AreFields fields bytes → AllByRecursion IsShort fields
    → total ≤ 16384 → 16384 < total + sum_by size_of fields → (count : ℕ) × IsBlock count (progress t before total bytes) (Err TooLarge)
more_read t before total [] bytes h short fits large = absurd (omega arith)
more_read t before total (f ∷ fs) bytes h short fits large =
    let first = h.0 in
    let rest = h.1 in
    let s = sum_by-cons size_of f fs in
    let r = field_read t total f first rest h.2 short.0 in
    let q = progress t (before ++ f ∷ []) (total + size_of f) rest in
    subst (λ (xs : List ℕ). (count : ℕ) × IsBlock count (progress t before total xs) (Err TooLarge)) (sym h.4)
    (elim (cases_lt 16384 (total + size_of f)) [
      | inl over ↦ (suc zero, (r.some, inl (inr ((Plain f, rest), r.form, (over, refl)))))
      | inr le ↦
          let after = more_read t (before ++ f ∷ []) (total + size_of f) fs rest h.3 short.1 le (omega arith) in
          (suc after.0, (r.some, inr (q, field_step t before total f (first ++ rest) rest r le, after.1)))
    ])

-- the new limit in front
limit_read : (t : Table) (bytes rest : List ℕ) (r : Result (List Field × Table) HpackFault) → bytes ≡ spelled 32 5 0 ++ rest → Reads (with_limit 0 t) rest r → Reads t bytes r
limit_read t bytes rest r e h =
    let form = subst (λ (k : Kind). IsOf k t 0 (spelled 32 5 0 ++ rest) (Ok (SizeUpdate 0, rest))) (sym (kind_limit 0 rest))
    ((0, rest), limit_back 0 rest (omega arith), (omega arith, refl)) in
    let p = begun t (spelled 32 5 0 ++ rest) in
    let q = begun (with_limit 0 t) rest in
    subst (λ (xs : List ℕ). Reads t xs r) (sym e)
    (suc h.0, (some_bytes 32 5 0 rest, then_so (IsStep p) (IsBlock h.0) q r ((SizeUpdate 0, rest), form, (refl, (refl, refl, refl))) h.1))

pub read_back : (t : Table) (owed : Bool) (fields : List Field) (bytes : List ℕ)
    → IsEncoded owed fields bytes → sum_by size_of fields ≤ 16384 → Reads t bytes (Ok (fields, table_after owed t))
read_back t true fields bytes h small = limit_read t bytes h.0 (Ok (fields, with_limit 0 t)) h.2 (all_read (with_limit 0 t) [] 0 fields h.0 h.1 (omega arith))
read_back t false fields bytes h small =
    subst (λ (xs : List ℕ). Reads t xs (Ok (fields, t))) (sym h.2) (all_read t [] 0 fields h.0 h.1 (omega arith))

pub read_too_large : (t : Table) (owed : Bool) (fields : List Field) (bytes : List ℕ)
    → IsEncoded owed fields bytes → AllByRecursion IsShort fields → 16384 < sum_by size_of fields → Reads t bytes (Err TooLarge)
read_too_large t true fields bytes h short large =
    limit_read t bytes h.0 (Err TooLarge) h.2 (more_read (with_limit 0 t) [] 0 fields h.0 h.1 short (omega arith) (omega arith))
read_too_large t false fields bytes h short large =
    subst (λ (xs : List ℕ). Reads t xs (Err TooLarge)) (sym h.2) (more_read t [] 0 fields h.0 h.1 short (omega arith) (omega arith))
