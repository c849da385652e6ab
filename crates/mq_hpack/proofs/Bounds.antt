-- The fields of a block count no more than 16,384.
use Rattle.std.proofs.Common.{◌≡◌, ℕ, ◌+◌, ◌≤◌, zero, suc, List, [], ◌∷◌, ◌++◌, Ok, refl, ◌∙◌, ap, arith}
use Rattle.std.specs.List.{sum_by}
use Rattle.std.proofs.lemmas.List.Sums.{sum_by-cons, sum_by-append}
use Rattle.mq_hpack.specs.declared.field.Field.{Field}
use Rattle.mq_hpack.specs.declared.representation.Representation.{Representation}
use Rattle.mq_hpack.specs.declared.representation.Representation.TheVariants.{Plain, Stored, SizeUpdate}
use Rattle.mq_hpack.specs.Table.{Table, size_of}
use Rattle.mq_hpack.specs.Taking.{IsTaken}
use Rattle.mq_hpack.specs.Block.{Progress, IsBlock, Reads, begun}

-- the total is that of the fields, and no more than it may be
record Fits (fields : List Field) (total : ℕ) : Type 0 where
  pub counted : sum_by size_of fields ≡ total
  pub small : total ≤ 16384

one_more : (before after : List Field) (f : Field) (total sum : ℕ) → Fits before total → after ≡ before ++ f ∷ [] → total + size_of f ≤ 16384 → sum ≡ total + size_of f → Fits after sum
one_more before after f total sum h e le s =
    let one : sum_by size_of (f ∷ []) ≡ size_of f + 0 = sum_by-cons size_of f [] in
    let both = ap (λ xs. sum_by size_of xs) e ∙ sum_by-append size_of before (f ∷ []) in
    let c = h.counted in
    record { counted = omega arith; small = omega arith }

taken_fits : (form : Representation) (t new : Table) (before after : List Field) (total sum : ℕ) → Fits before total → IsTaken form t new before after total (Ok sum) → Fits after sum
taken_fits (SizeUpdate n) t new before after total sum h k =
    let same = ap (λ xs. sum_by size_of xs) k.1 in
    let s = k.2 in
    let c = h.counted in
    let l = h.small in
    record { counted = omega arith; small = omega arith }
taken_fits (Plain f) t new before after total sum h k = one_more before after f total sum h k.1 k.2.0 k.2.1
taken_fits (Stored f) t new before after total sum h k = one_more before after f total sum h k.1 k.2.0 k.2.1

block_fits : (k : ℕ) (p : Progress) (x : List Field × Table) → Fits p.fields p.total → IsBlock k p (Ok x) → sum_by size_of x.0 ≤ 16384
block_fits zero p x h g =
    let e : x.0 ≡ p.fields = cc g.1 in
    let same = ap (λ xs. sum_by size_of xs) e in
    let c = h.counted in
    let l = h.small in
    omega arith
block_fits (suc k) p x h (some, (q, (form, is, (left, taken)), next)) =
    block_fits k q x (taken_fits form.0 p.table q.table p.fields q.fields p.total q.total h taken) next

pub reads_fit : (t new : Table) (bytes : List ℕ) (fields : List Field) → Reads t bytes (Ok (fields, new)) → sum_by size_of fields ≤ 16384
reads_fit t new bytes fields g = block_fits g.0 (begun t bytes) (fields, new) (record { counted = refl; small = omega arith }) g.1
