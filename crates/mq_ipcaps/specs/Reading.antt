-- Reading the control values from left to right, with the first fault that is met (RFC 9484, section 4.7).
use Rattle.std.specs.Prelude.{◌≡◌, ℕ, zero, suc, ◌%◌, ◌^◌, List, [], ◌∷◌, length, take, drop, Option, Some, None, Bool, true, not, ◌&&◌, ◌||◌, ◌==◌, nat_lt, if◌then◌else◌, Result, Ok, Err}
use Rattle.std.specs.Int.{w32, w128, from_be_bytes}
use Rattle.mq_wire.specs.Integer.{int_of}
use Rattle.mq_addr.specs.declared.addr.Addr.{Addr}
use Rattle.mq_addr.specs.declared.addr.Addr.TheVariants.{V4, V6}
use Rattle.mq_addr.specs.declared.prefix.Prefix.{Prefix}
use Rattle.mq_addr.specs.declared.entry.Asked.{Asked}
use Rattle.mq_addr.specs.declared.entry.Given.{Given}
use Rattle.mq_addr.specs.declared.range.Range.{Range}
use Rattle.mq_addr.specs.Block.{width, bits_of, free_bits}
use Rattle.mq_addr.specs.Cover.{version_of}
use Rattle.mq_ipcaps.specs.declared.fault.CapsFault.{CapsFault}
use Rattle.mq_ipcaps.specs.declared.fault.CapsFault.TheVariants.{Truncated, Version, Bits, Empty, ZeroId, Order, TooMany, NoMemory}

infixl 10 ◌>>=◌
abbrev pub ◌>>=◌ : {A B : Type 0} → Result A CapsFault → (A → Result B CapsFault) → Result B CapsFault
(Ok x) >>= f = f x
(Err fault) >>= f = Err fault

-- A field is a value and the bytes behind it.
abbrev pub byte_at : List ℕ → Result (ℕ × List ℕ) CapsFault
byte_at [] = Err Truncated
byte_at (b ∷ bytes) = Ok (b, bytes)

abbrev pub integer_by : Option (ℕ × ℕ) → List ℕ → Result (ℕ × List ℕ) CapsFault
integer_by None bytes = Err Truncated
integer_by (Some got) bytes = Ok (got.0, drop got.1 bytes)

abbrev pub integer_at : List ℕ → Result (ℕ × List ℕ) CapsFault
integer_at bytes = integer_by (int_of bytes) bytes

abbrev pub version_at : List ℕ → Result (ℕ × List ℕ) CapsFault
version_at bytes = do
  version ← byte_at bytes
  if version.0 == 4 || version.0 == 6 then Ok version else Err Version

abbrev pub addr4_at : List ℕ → Result (Addr × List ℕ) CapsFault
addr4_at bytes = if nat_lt (length bytes) 4 then Err Truncated else Ok (V4 (from_be_bytes w32 (take 4 bytes)), drop 4 bytes)

abbrev pub addr6_at : List ℕ → Result (Addr × List ℕ) CapsFault
addr6_at bytes = if nat_lt (length bytes) 16 then Err Truncated else Ok (V6 (from_be_bytes w128 (take 16 bytes)), drop 16 bytes)

unfoldable pub addr_at : ℕ → List ℕ → Result (Addr × List ℕ) CapsFault
addr_at version bytes = if version == 4 then addr4_at bytes else addr6_at bytes

-- the length fits the version, and no bit past it is set
unfoldable pub is_prefix : Prefix → Bool
is_prefix block = not (nat_lt (width block.addr) block.length) && bits_of block.addr % 2 ^ free_bits block == 0

-- version, address and prefix length
unfoldable pub block_at : List ℕ → Result (Prefix × List ℕ) CapsFault
block_at bytes = do
  version ← version_at bytes
  addr ← addr_at version.0 version.1
  len ← byte_at addr.1
  if is_prefix (record { addr = addr.0; length = len.0 }) then Ok (record { addr = addr.0; length = len.0 }, len.1) else Err Bits

-- an entry of a request, whose Request ID isn't 0 (section 4.7.2)
unfoldable pub asked_at : List ℕ → Result (Asked × List ℕ) CapsFault
asked_at bytes = do
  id ← integer_at bytes
  block ← (if id.0 == 0 then Err ZeroId else block_at id.1)
  Ok (record { id = id.0; block = block.0 }, block.1)

-- an entry of an assignment (section 4.7.1)
unfoldable pub given_at : List ℕ → Result (Given × List ℕ) CapsFault
given_at bytes = do
  id ← integer_at bytes
  block ← block_at id.1
  Ok (record { id = id.0; block = block.0 }, block.1)

-- version, two addresses and a protocol (section 4.7.3)
unfoldable pub range_at : List ℕ → Result (Range × List ℕ) CapsFault
range_at bytes = do
  version ← version_at bytes
  first ← addr_at version.0 version.1
  last ← addr_at version.0 first.1
  protocol ← byte_at last.1
  Ok (record { first = first.0; last = last.0; protocol = protocol.0 }, protocol.1)

-- a range stands behind another: by version, then by protocol, then with all its addresses
unfoldable pub is_behind : Range → Range → Bool
is_behind before range =
    if not (version_of before.first == version_of range.first) then nat_lt (version_of before.first) (version_of range.first)
    else (if not (before.protocol == range.protocol) then nat_lt before.protocol range.protocol
    else nat_lt (bits_of before.last) (bits_of range.first))

abbrev pub is_behind_any : Option Range → Range → Bool
is_behind_any None range = true
is_behind_any (Some before) range = is_behind before range

-- its first address isn't above its last, and it stands behind the one before
unfoldable pub is_in_order : Option Range → Range → Bool
is_in_order before range = not (nat_lt (bits_of range.last) (bits_of range.first)) && is_behind_any before range

-- a range in order
unfoldable pub route_at : Option Range → List ℕ → Result (Range × List ℕ) CapsFault
route_at before bytes = do
  range ← range_at bytes
  if is_in_order before range.0 then Ok range else Err Order

-- So many items at most, one behind the other to the end, read by a reader that is told the one before.
unfoldable pub items_of : {A : Type 0} → (Option A → List ℕ → Result (A × List ℕ) CapsFault) → ℕ → Option A → List ℕ → Result (List A) CapsFault
items_of item_at most before [] = Ok []
items_of item_at zero before (b ∷ bytes) = Err TooMany
items_of item_at (suc most) before (b ∷ bytes) = do
  first ← item_at before (b ∷ bytes)
  others ← items_of item_at most (Some first.0) first.1
  Ok (first.0 ∷ others)

abbrev pub some_of : List Asked → Result (List Asked) CapsFault
some_of [] = Err Empty
some_of (entry ∷ entries) = Ok (entry ∷ entries)

-- the value of ADDRESS_REQUEST: at least one entry, and at most 16
unfoldable pub request_of : List ℕ → Result (List Asked) CapsFault
request_of value = items_of (λ before. asked_at) 16 None value >>= some_of

-- the value of ADDRESS_ASSIGN: at most 32 entries
unfoldable pub assign_of : List ℕ → Result (List Given) CapsFault
assign_of value = items_of (λ before. given_at) 32 None value

-- the value of ROUTE_ADVERTISEMENT: at most 32 ranges
unfoldable pub routes_of : List ℕ → Result (List Range) CapsFault
routes_of value = items_of route_at 32 None value

-- What a function answers, seen by view, is what reading gives.
abbrev pub Tells : {X Y : Type 0} → (X → Y) → Result X CapsFault → Result Y CapsFault → Type 0
Tells view (Ok x) read = read ≡ Ok (view x)
Tells view (Err fault) read = read ≡ Err fault

-- The same, unless memory ran out.
abbrev pub Fails : {Y : Type 0} → CapsFault → Result Y CapsFault → Type 0
Fails NoMemory read = Unit {0}
Fails fault read = read ≡ Err fault

abbrev pub Reads : {X Y : Type 0} → (X → Y) → Result X CapsFault → Result Y CapsFault → Type 0
Reads view (Ok x) read = read ≡ Ok (view x)
Reads view (Err fault) read = Fails fault read
