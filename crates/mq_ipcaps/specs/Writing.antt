-- The spelling of the control values and of their capsules, with integers in their shortest form (RFC 9484, section 4.7;
-- RFC 9297, section 3.2; RFC 9000, section 16).
use Rattle.std.specs.Prelude.{ℕ, List, [], ◌∷◌, ◌++◌, length}
use Rattle.std.specs.Int.{w32, w128, to_be_bytes}
use Rattle.std.specs.List.{flat_map}
use Rattle.mq_wire.specs.Integer.{spelling_of}
use Rattle.mq_addr.specs.declared.addr.Addr.{Addr}
use Rattle.mq_addr.specs.declared.addr.Addr.TheVariants.{V4, V6}
use Rattle.mq_addr.specs.declared.prefix.Prefix.{Prefix}
use Rattle.mq_addr.specs.declared.entry.Asked.{Asked}
use Rattle.mq_addr.specs.declared.entry.Given.{Given}
use Rattle.mq_addr.specs.declared.range.Range.{Range}
use Rattle.mq_addr.specs.Cover.{version_of}

abbrev pub addr_text : Addr → List ℕ
addr_text (V4 bits) = to_be_bytes w32 bits
addr_text (V6 bits) = to_be_bytes w128 bits

-- version, address and prefix length
unfoldable pub block_text : Prefix → List ℕ
block_text block = version_of block.addr ∷ addr_text block.addr ++ block.length ∷ []

-- an entry: its Request ID and its block
unfoldable pub asked_text : Asked → List ℕ
asked_text entry = spelling_of entry.id ++ block_text entry.block

unfoldable pub given_text : Given → List ℕ
given_text entry = spelling_of entry.id ++ block_text entry.block

-- version, both addresses and protocol
unfoldable pub range_text : Range → List ℕ
range_text range = version_of range.first ∷ addr_text range.first ++ addr_text range.last ++ range.protocol ∷ []

-- the values of ADDRESS_REQUEST, ADDRESS_ASSIGN and ROUTE_ADVERTISEMENT
abbrev pub request_text : List Asked → List ℕ
request_text entries = flat_map asked_text entries

abbrev pub assign_text : List Given → List ℕ
assign_text entries = flat_map given_text entries

abbrev pub routes_text : List Range → List ℕ
routes_text ranges = flat_map range_text ranges

-- a capsule: its type, the length of its value, and the value
unfoldable pub capsule_text : ℕ → List ℕ → List ℕ
capsule_text kind value = spelling_of kind ++ spelling_of (length value) ++ value
