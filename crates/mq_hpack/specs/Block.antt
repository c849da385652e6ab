-- Field blocks (RFC 7541, section 3): representations, one after another.
use Rattle.std.specs.Prelude.{◌≡◌, ℕ, ◌≢◌, zero, suc, List, [], Result, Ok, Err}
use Rattle.mq_hpack.specs.declared.fault.HpackFault.{HpackFault}
use Rattle.mq_hpack.specs.declared.field.Field.{Field}
use Rattle.mq_hpack.specs.declared.representation.Representation.{Representation}
use Rattle.mq_hpack.specs.Table.{Table}
use Rattle.mq_hpack.specs.Text.{Then}
use Rattle.mq_hpack.specs.Representation.{IsRepresentation}
use Rattle.mq_hpack.specs.Taking.{IsTaken}

-- what was read of a block: the table then, the fields and what they count, and the bytes that are left
pub record Progress : Type 0 where
  pub table : Table
  pub fields : List Field
  pub total : ℕ
  pub left : List ℕ

-- nothing yet
abbrev pub begun : Table → List ℕ → Progress
begun t bytes = record { table = t; fields = []; total = 0; left = bytes }

-- what a representation leads to, with the bytes after it
abbrev pub Takes : Progress → Representation × List ℕ → Result Progress HpackFault → Type 0
Takes p x (Ok q) = (q.left ≡ x.1) × IsTaken x.0 p.table q.table p.fields q.fields p.total (Ok q.total)
Takes p x (Err fault) = IsTaken x.0 p.table p.table p.fields p.fields p.total (Err fault)

-- one step: the representation at the front is read and does what it says, or there is the first fault
abbrev pub IsStep : Progress → Result Progress HpackFault → Type 0
IsStep p r = Then (IsRepresentation p.table p.total p.left) (Takes p) r

-- So many representations and then the end, which comes to the fields and the table after them; or at most so many, the
-- last of them with a fault, which it comes to.
abbrev pub IsBlock : ℕ → Progress → Result (List Field × Table) HpackFault → Type 0
IsBlock zero p r = (p.left ≡ []) × (r ≡ Ok (p.fields, p.table))
IsBlock (suc k) p r = (p.left ≢ []) × Then (IsStep p) (IsBlock k) r

-- the block of a table comes to this
abbrev pub Reads : Table → List ℕ → Result (List Field × Table) HpackFault → Type 0
Reads t bytes r = (count : ℕ) × IsBlock count (begun t bytes) r
