-- What is written is read back, and what is read is written as the same bytes, up to the spelling of integers.
use Rattle.std.specs.Prelude.{◌≡◌, ℕ, ◌^◌, ◌<◌, List, [], ◌∷◌, ◌++◌, drop, Some, Ok}
use Rattle.std.specs.List.{All}
use Rattle.mq_wire.specs.Integer.{int_of}
use Rattle.mq_addr.specs.declared.addr.Addr.{Addr}
use Rattle.mq_addr.specs.declared.prefix.Prefix.{Prefix}
use Rattle.mq_addr.specs.declared.entry.Asked.{Asked}
use Rattle.mq_addr.specs.declared.entry.Given.{Given}
use Rattle.mq_addr.specs.declared.range.Range.{Range}
use Rattle.mq_addr.specs.Block.{width, bits_of, IsPrefix}
use Rattle.mq_ipcaps.specs.Reading.{request_of, assign_of, routes_of}
use Rattle.mq_ipcaps.specs.Writing.{block_text, request_text, assign_text, routes_text}
use Rattle.mq_ipcaps.specs.Lists.{IsRequest, IsAssignment, AreRoutes}

-- the number has no more bits than the version allows
abbrev pub FitsAddr : Addr → Type 0
FitsAddr addr = bits_of addr < 2 ^ width addr

-- an entry that has a spelling: its Request ID fits an integer, and no bit past its prefix length is set
pub record FitsEntry (id : ℕ) (block : Prefix) : Type 0 where
  pub small : id < 2 ^ 62
  pub prefix : IsPrefix block
  pub addr : FitsAddr block.addr

pub record FitsRange (range : Range) : Type 0 where
  pub first : FitsAddr range.first
  pub last : FitsAddr range.last

abbrev pub IsRequestReadBack : Type 0
IsRequestReadBack = (list : List Asked) → IsRequest list → All (λ e. FitsEntry e.id e.block) list → request_of (request_text list) ≡ Ok list

abbrev pub IsAssignReadBack : Type 0
IsAssignReadBack = (list : List Given) → IsAssignment list → All (λ e. FitsEntry e.id e.block) list → assign_of (assign_text list) ≡ Ok list

abbrev pub AreRoutesReadBack : Type 0
AreRoutesReadBack = (ranges : List Range) → AreRoutes ranges → All FitsRange ranges → routes_of (routes_text ranges) ≡ Ok ranges

-- an entry stands at the front of the bytes, in front of the rest: its Request ID in any spelling, and its block
abbrev pub EntryAt : ℕ → Prefix → List ℕ → List ℕ → Type 0
EntryAt id block bytes rest = (used : ℕ) × (int_of bytes ≡ Some (id, used)) × (drop used bytes ≡ block_text block ++ rest)

-- the items stand in the bytes one behind the other, and nothing else
abbrev pub Stand : {A : Type 0} → (A → List ℕ → List ℕ → Type 0) → List A → List ℕ → Type 0
Stand at [] bytes = bytes ≡ []
Stand at (x ∷ xs) bytes = (rest : List ℕ) × at x bytes rest × Stand at xs rest

abbrev pub AreBytes : List ℕ → Type 0
AreBytes bytes = All (λ b. b < 256) bytes

-- A request that is read may be written, and its bytes are those that are written, up to the spelling of its Request IDs.
pub record IsReadRequest (value : List ℕ) (list : List Asked) : Type 0 where
  pub request : IsRequest list
  pub fits : All (λ e. FitsEntry e.id e.block) list
  pub bytes : Stand (λ e. EntryAt e.id e.block) list value

pub record IsReadAssign (value : List ℕ) (list : List Given) : Type 0 where
  pub assignment : IsAssignment list
  pub fits : All (λ e. FitsEntry e.id e.block) list
  pub bytes : Stand (λ e. EntryAt e.id e.block) list value

-- and ranges, which have no integers, are written as the very bytes
pub record AreReadRoutes (value : List ℕ) (ranges : List Range) : Type 0 where
  pub routes : AreRoutes ranges
  pub fits : All FitsRange ranges
  pub bytes : value ≡ routes_text ranges

abbrev pub IsRequestWrittenAgain : Type 0
IsRequestWrittenAgain = (value : List ℕ) (list : List Asked) → AreBytes value → request_of value ≡ Ok list → IsReadRequest value list

abbrev pub IsAssignWrittenAgain : Type 0
IsAssignWrittenAgain = (value : List ℕ) (list : List Given) → AreBytes value → assign_of value ≡ Ok list → IsReadAssign value list

abbrev pub AreRoutesWrittenAgain : Type 0
AreRoutesWrittenAgain = (value : List ℕ) (ranges : List Range) → AreBytes value → routes_of value ≡ Ok ranges → AreReadRoutes value ranges
