-- IP packets (RFC 791, section 3.1; RFC 8200, sections 3 and 4), and those of them that are taken.
use Rattle.std.specs.Prelude.{ℕ, zero, suc, ◌+◌, ◌-◌, ◌*◌, ◌/◌, ◌%◌, ◌^◌, List, [], ◌∷◌, length, take, drop, slice_index, Bool, not, ◌||◌, ◌==◌, nat_lt, if◌then◌else◌, Result, Ok, Err}
use Rattle.std.specs.Int.{w16, w32, w128, from_be_bytes}
use Rattle.mq_addr.specs.declared.addr.Addr.{Addr}
use Rattle.mq_addr.specs.declared.addr.Addr.TheVariants.{V4, V6}
use Rattle.mq_addr.specs.declared.packet.IpView.{IpView}
use Rattle.mq_addr.specs.declared.packet.HeaderFault.{HeaderFault}
use Rattle.mq_addr.specs.declared.packet.HeaderFault.TheVariants.{Short, Version, Length, HeaderLength, Checksum, Address, Extensions}

-- two bytes from a place on, as a number
abbrev pub word_at : List ℕ → ℕ → ℕ
word_at p at = from_be_bytes w16 (take 2 (drop at p))

abbrev pub version_of : List ℕ → ℕ
version_of p = slice_index p 0 / 16

-- Ones' complement addition of 16-bit words: the carry out of the top is added at the bottom (RFC 1071, section 1).
unfoldable pub ones_add : ℕ → ℕ → ℕ
ones_add a b = if nat_lt (a + b) (2 ^ 16) then a + b else a + b - (2 ^ 16 - 1)

-- a sum so far and the words of the bytes, an odd last byte with a zero byte behind it
unfoldable pub ones_sum_from : ℕ → List ℕ → ℕ
ones_sum_from sum [] = sum
ones_sum_from sum (a ∷ []) = ones_add sum (a * 256)
ones_sum_from sum (a ∷ b ∷ bytes) = ones_sum_from (ones_add sum (a * 256 + b)) bytes

-- the ones' complement sum of the 16-bit words that the bytes are
unfoldable pub ones_sum : List ℕ → ℕ
ones_sum bytes = ones_sum_from 0 bytes

-- Not the address of one host elsewhere: this host, loopback, link-local, multicast, broadcast (RFC 1122, section
-- 3.2.1.3; RFC 3927, section 2.1; RFC 5771, section 3); the unspecified address, loopback, link-local unicast, multicast (RFC 4291,
-- sections 2.5.2, 2.5.3, 2.5.6 and 2.7).
unfoldable pub is_nowhere : Addr → Bool
is_nowhere (V4 a) = a == 0 || a / 2 ^ 24 == 127 || a / 2 ^ 16 == 43518 || a / 2 ^ 28 == 14 || a == 4294967295
is_nowhere (V6 a) = nat_lt a 2 || a / 2 ^ 118 == 1018 || a / 2 ^ 120 == 255

-- The IPv4 header.

-- the Internet Header Length, in bytes
abbrev pub header4_len : List ℕ → ℕ
header4_len p = slice_index p 0 % 16 * 4

unfoldable pub view4_of : List ℕ → IpView
view4_of p = record {
  version = 4;
  flow = record {
    source = V4 (from_be_bytes w32 (take 4 (drop 12 p)));
    target = V4 (from_be_bytes w32 (take 4 (drop 16 p)));
    protocol = slice_index p 9;
  };
  hop = slice_index p 8;
  header = header4_len p;
  length = word_at p 2;
}

-- an end of the packet is nowhere
abbrev pub has_bad_end : IpView → Bool
has_bad_end view = is_nowhere view.flow.source || is_nowhere view.flow.target

-- behind the fixed header and the length
unfoldable pub taken4 : List ℕ → IpView → Result IpView HeaderFault
taken4 p view =
    if nat_lt view.header 20 || nat_lt (length p) view.header then Err HeaderLength
    else (if not (ones_sum (take view.header p) == 65535) then Err Checksum
    else (if has_bad_end view then Err Address
    else Ok view))

-- The IPv6 header and its extension headers.

-- Hop-by-Hop Options, Routing, Fragment, Destination Options (RFC 8200, section 4.1)
unfoldable pub is_extension : ℕ → Bool
is_extension kind = kind == 0 || kind == 43 || kind == 44 || kind == 60

-- the bytes of an extension header, of which the first two stand here: a Fragment header has eight (section 4.5)
abbrev pub extension_len : ℕ → List ℕ → ℕ
extension_len kind bytes = if kind == 44 then 8 else (slice_index bytes 1 + 1) * 8

-- it doesn't fit in the bytes
abbrev pub is_cut : ℕ → List ℕ → Bool
is_cut kind bytes = nat_lt (length bytes) 2 || nat_lt (length bytes) (extension_len kind bytes)

-- a header of so many bytes was walked, behind which the next one has this type
abbrev pub past : IpView → ℕ → ℕ → IpView
past view next len = record {
  version = view.version;
  flow = record { source = view.flow.source; target = view.flow.target; protocol = next };
  hop = view.hop;
  header = view.header + len;
  length = view.length;
}

-- the extension header at the front of the bytes was walked
abbrev pub past_first : IpView → List ℕ → IpView
past_first view bytes = past view (slice_index bytes 0) (extension_len view.flow.protocol bytes)

-- The view behind the extension headers, of which so many more may stand in the bytes. What is behind a Fragment header isn't walked.
unfoldable pub walk : ℕ → IpView → List ℕ → Result IpView HeaderFault
walk zero view bytes = if is_extension view.flow.protocol then Err Extensions else Ok view
walk (suc more) view bytes =
    if not (is_extension view.flow.protocol) then Ok view
    else (if is_cut view.flow.protocol bytes then Err Extensions
    else (if view.flow.protocol == 44 then Ok (past_first view bytes)
    else walk more (past_first view bytes) (drop (extension_len view.flow.protocol bytes) bytes)))

-- the fixed header alone
unfoldable pub view6_of : List ℕ → IpView
view6_of p = record {
  version = 6;
  flow = record {
    source = V6 (from_be_bytes w128 (take 16 (drop 8 p)));
    target = V6 (from_be_bytes w128 (take 16 (drop 24 p)));
    protocol = slice_index p 6;
  };
  hop = slice_index p 7;
  header = 40;
  length = 40 + word_at p 4;
}

-- behind the fixed header and the length: no more than eight extension headers
unfoldable pub taken6 : List ℕ → IpView → Result IpView HeaderFault
taken6 p view = if has_bad_end view then Err Address else walk 8 view (drop 40 p)

-- an IPv4 packet
unfoldable pub header4_of : List ℕ → Result IpView HeaderFault
header4_of p =
    if nat_lt (length p) 20 then Err Short
    else (if not ((view4_of p).length == length p) then Err Length
    else taken4 p (view4_of p))

-- an IPv6 packet
unfoldable pub header6_of : List ℕ → Result IpView HeaderFault
header6_of p =
    if nat_lt (length p) 40 then Err Short
    else (if not ((view6_of p).length == length p) then Err Length
    else taken6 p (view6_of p))

-- What the headers of a packet say, or the first cause for which it isn't taken.
unfoldable pub header_of : List ℕ → Result IpView HeaderFault
header_of p =
    if length p == 0 then Err Short
    else (if version_of p == 4 then header4_of p
    else (if version_of p == 6 then header6_of p
    else Err Version))
