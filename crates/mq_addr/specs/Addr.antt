-- The texts of addresses: IPv4 as four decimals and dots (RFC 3986, section 3.2.2), IPv6 as RFC 4291, section 2.2.
use Rattle.std.specs.Prelude.{Bool, false, ◌||◌, ◌==◌, ◌≡◌, ℕ, List, Result, Ok, Err}
use Rattle.std.specs.Char.{is_ascii_hexdigit}
use Rattle.std.specs.declared.net.ipv4_addr.Ipv4Addr.{Ipv4Addr}
use Rattle.std.specs.declared.net.ipv6_addr.Ipv6Addr.{Ipv6Addr}
use Rattle.std.specs.Net.Addr.{ipv4_bits, ipv6_bits}
use Rattle.std.specs.Net.Grammar.{IsIpv4Text, IsIpv6Text}
use Rattle.mq_text.specs.Cut.{Lacks}
use Rattle.mq_addr.specs.declared.addr.Addr.{Addr}
use Rattle.mq_addr.specs.declared.addr.Addr.TheVariants.{V4, V6}
use Rattle.mq_addr.specs.declared.addr.AddrFault.{AddrFault}
use Rattle.mq_addr.specs.declared.addr.AddrFault.TheVariants.{Syntax, Bits}

-- the text writes the address whose big-endian value is this number
unfoldable pub IsAddrText : List ℕ → Addr → Type 0
IsAddrText text (V4 bits) = (a : Ipv4Addr) × IsIpv4Text text a × (bits ≡ ipv4_bits a)
IsAddrText text (V6 bits) = (a : Ipv6Addr) × IsIpv6Text text a × (bits ≡ ipv6_bits a)

-- the answer is the address that the text writes, or Syntax where it writes none
abbrev pub ReadsAddr : List ℕ → Result Addr AddrFault → Type 0
ReadsAddr text (Ok a) = IsAddrText text a
ReadsAddr text (Err Syntax) = (a : Addr) → ¬ (IsAddrText text a)
ReadsAddr text (Err Bits) = ⊥

-- a hex digit in either case, `.` or `:`
unfoldable pub is_addr_byte : ℕ → Bool
is_addr_byte b = is_ascii_hexdigit b || b == 46 || b == 58

-- an address text has no other bytes
abbrev pub HasAddrBytes : Type 0
HasAddrBytes = (text : List ℕ) (a : Addr) (b : ℕ) → IsAddrText text a → is_addr_byte b ≡ false → Lacks b text

-- a text writes at most one address
abbrev pub HasOneAddr : Type 0
HasOneAddr = (text : List ℕ) (a b : Addr) → IsAddrText text a → IsAddrText text b → a ≡ b
