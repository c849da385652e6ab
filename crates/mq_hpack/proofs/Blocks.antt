-- Field blocks, step by step.
use Rattle.std.proofs.Common.{◌≡◌, ℕ, ◌≢◌, zero, suc, inl, inr, List, [], ◌∷◌, length, Result, Ok, Err, refl, arith}
use Rattle.mq_hpack.specs.declared.fault.HpackFault.{HpackFault}
use Rattle.mq_hpack.specs.declared.field.Field.{Field}
use Rattle.mq_hpack.specs.declared.representation.Representation.{Representation}
use Rattle.mq_hpack.specs.declared.representation.Representation.TheVariants.{Plain, Stored, SizeUpdate}
use Rattle.mq_hpack.specs.Text.{Told}
use Rattle.mq_hpack.specs.Table.{Table}
use Rattle.mq_hpack.specs.Representation.{IsRepresentation}
use Rattle.mq_hpack.specs.Taking.{IsTaken}
use Rattle.mq_hpack.specs.Block.{Progress, Takes, IsStep, IsBlock, Reads}
use Rattle.mq_hpack.proofs.Readings.{told_weaker, then_so}

abbrev pub progress : Table → List Field → ℕ → List ℕ → Progress
progress t fields total left = record { table = t; fields = fields; total = total; left = left }

-- what follows comes to, the whole block comes to
abbrev pub Leads : Table → List ℕ → List Field → Table → ℕ → List ℕ → Type 0
Leads start bytes fields t total rest =
    (count : ℕ) (r : Result (List Field × Table) HpackFault) → IsBlock count (progress t fields total rest) r → Reads start bytes r

pub nonempty : (xs : List ℕ) → length xs ≢ 0 → xs ≢ []
nonempty [] h = absurd (h refl)
nonempty (x ∷ xs) h = λ e. cc

pub empty : (xs : List ℕ) → length xs ≡ 0 → xs ≡ []
empty [] h = refl
empty (x ∷ xs) h = absurd (omega arith)

pub leads_start : (t : Table) (bytes : List ℕ) → Leads t bytes [] t 0 bytes
leads_start t bytes = λ count r h. (count, h)

pub leads_end : (start t : Table) (bytes rest : List ℕ) (fields : List Field) (total : ℕ) → Leads start bytes fields t total rest → rest ≡ [] → Reads start bytes (Ok (fields, t))
leads_end start t bytes rest fields total leads e = leads zero (Ok (fields, t)) (e, refl)

-- a fault of the next form is the block's
pub leads_fault : (start t : Table) (bytes rest : List ℕ) (fields : List Field) (total : ℕ) → Leads start bytes fields t total rest → rest ≢ [] →
    (e : HpackFault) → Told (IsRepresentation t total rest) (Err e) → Told (Reads start bytes) (Err e)
leads_fault start t bytes rest fields total leads some e h =
    told_weaker (IsRepresentation t total rest) (Reads start bytes) (λ fault is. leads (suc zero) (Err fault) (some, inl (inl is))) e h

-- and so is a field too many
full : (form : Representation) (t new : Table) (before after : List Field) (total : ℕ) (rest : List ℕ) (e : HpackFault) →
    IsTaken form t new before after total (Err e) → Takes (progress t before total rest) (form, rest) (Err e)
full (SizeUpdate n) t new before after total rest e h = absurd h
full (Plain f) t new before after total rest e h = h
full (Stored f) t new before after total rest e h = h

pub leads_full : (start t new : Table) (bytes rest : List ℕ) (fields after : List Field) (total : ℕ) (x : Representation × List ℕ) → Leads start bytes fields t total rest → rest ≢ [] →
    IsRepresentation t total rest (Ok x) → (e : HpackFault) → Told (IsTaken x.0 t new fields after total) (Err e) → Told (Reads start bytes) (Err e)
leads_full start t new bytes rest fields after total x leads some form e h =
    told_weaker (IsTaken x.0 t new fields after total) (Reads start bytes)
    (λ fault is. leads (suc zero) (Err fault) (some, inl (inr (x, form, full x.0 t new fields after total rest fault is)))) e h

-- a form that was taken leads on
pub leads_on : (start t new : Table) (bytes rest : List ℕ) (fields after : List Field) (total sum : ℕ) (form : Representation) (left : List ℕ) →
    Leads start bytes fields t total rest → rest ≢ [] → IsRepresentation t total rest (Ok (form, left)) → IsTaken form t new fields after total (Ok sum) →
    Leads start bytes after new sum left
leads_on start t new bytes rest fields after total sum form left leads some is h = λ count r block.
    leads (suc count) r
    (some, then_so (IsStep (progress t fields total rest)) (IsBlock count) (progress new after sum left) r ((form, left), is, (refl, h)) block)
