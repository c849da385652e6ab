-- How long the capsule of a reply may be.
use Rattle.std.proofs.Common.{ℕ, ◌+◌, ◌*◌, ◌≤◌, ◌^◌, Bool, true, false, List, [], ◌∷◌, ◌++◌, length, nat_lt, if◌then◌else◌, arith}
use Rattle.std.specs.Int.{w16, w32, w64, to_be_bytes}
use Rattle.std.specs.List.{flat_map}
use Rattle.std.proofs.lemmas.List.{length-append}
use Rattle.mq_addr.specs.declared.addr.Addr.{Addr}
use Rattle.mq_addr.specs.declared.addr.Addr.TheVariants.{V4, V6}
use Rattle.mq_addr.specs.declared.entry.Given.{Given}
use Rattle.mq_addr.specs.declared.prefix.Prefix.{Prefix}
use Rattle.mq_addr.specs.declared.range.Range.{Range}
use Rattle.mq_capsule.specs.Writing.{capsule_text}
use Rattle.mq_ipcaps.specs.Writing.{addr_text, block_text, given_text, range_text}
use Rattle.mq_talk.specs.declared.book.Reply.TheVariants.{Opened, HistoryFull, Assigned, Accepted, Closed}
use Rattle.mq_wire.specs.Integer.{spelling_of}
use Rattle.mq_iptun.specs.Answers.{IsToldShort}

either : (b : Bool) (x y : List ℕ) → length x ≤ 8 → length y ≤ 8 → length (if b then x else y) ≤ 8
either true x y h k = h
either false x y h k = k

spelling_short : (n : ℕ) → length (spelling_of n) ≤ 8
unfolding spelling_of
spelling_short n =
    either (nat_lt n (2 ^ 6)) (n ∷ []) _ (omega arith)
    (either (nat_lt n (2 ^ 14)) (to_be_bytes w16 (n + 2 ^ 14)) _ (omega arith)
    (either (nat_lt n (2 ^ 30)) (to_be_bytes w32 (n + 2 ^ 31)) (to_be_bytes w64 (n + 3 * 2 ^ 62))
    (omega arith) (omega arith)))

addr_short : (a : Addr) → length (addr_text a) ≤ 16
addr_short (V4 bits) = omega arith
addr_short (V6 bits) = omega arith

block_short : (block : Prefix) → length (block_text block) ≤ 18
unfolding block_text
block_short block =
    let addr = addr_short block.addr in
    omega (arith, addr, length-append (addr_text block.addr) (block.length ∷ []))

given_short : (entry : Given) → length (given_text entry) ≤ 34
unfolding given_text
given_short entry =
    let id = spelling_short entry.id in
    let block = block_short entry.block in
    omega (arith, id, block, length-append (spelling_of entry.id) (block_text entry.block))

range_short : (range : Range) → length (range_text range) ≤ 34
unfolding range_text
range_short range =
    let first = addr_short range.first in
    let last = addr_short range.last in
    let whole = length-append (addr_text range.first ++ addr_text range.last) (range.protocol ∷ []) in
    let both = length-append (addr_text range.first) (addr_text range.last) in
    omega (arith, first, last, whole, both)

list_short : {X : Type 0} (text : X → List ℕ) → ((x : X) → length (text x) ≤ 34) → (xs : List X)
    → length (flat_map text xs) ≤ 34 * length xs
list_short text each [] = omega arith
list_short text each (x ∷ xs) =
    let first = each x in
    let rest = list_short text each xs in
    omega (arith, first, rest, length-append (text x) (flat_map text xs))

capsule_short : (kind : ℕ) (value : List ℕ) → length value ≤ 34 * 32
    → length (capsule_text (record { kind = kind; value = value })) ≤ 4096
capsule_short kind value short =
    let type = spelling_short kind in
    let size = spelling_short (length value) in
    let whole = length-append (spelling_of kind) (spelling_of (length value) ++ value) in
    let behind = length-append (spelling_of (length value)) value in
    omega (arith, short, type, size, whole, behind)

pub told_short : IsToldShort
told_short (Opened tunnel routes) can =
    let few = can.few in
    let long = list_short range_text range_short routes in
    let short : length (flat_map range_text routes) ≤ 34 * 32 = omega (arith, few, long) in
    capsule_short 3 (flat_map range_text routes) short
told_short (HistoryFull entries live) can = tt
told_short (Assigned list at) can =
    let few = can.few in
    let long = list_short given_text given_short list in
    let short : length (flat_map given_text list) ≤ 34 * 32 = omega (arith, few, long) in
    capsule_short 1 (flat_map given_text list) short
told_short (Accepted accepts at) can = tt
told_short Closed can = tt
