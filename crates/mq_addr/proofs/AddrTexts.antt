-- A text writes one address at most.
use Rattle.std.proofs.Common.{◌≡◌, ℕ, List, ap, sym, ◌∙◌}
use Rattle.std.specs.declared.net.ip_addr.IpAddr.{IpAddr}
use Rattle.std.specs.declared.net.ip_addr.IpAddr.TheVariants as Ip
use Rattle.std.specs.Net.Addr.{ipv4_bits, ipv6_bits}
use Rattle.std.specs.Net.Grammar.{IsIpText}
use Rattle.std.proofs.NetLemmas.Theorems.{IsIpText_unique}
use Rattle.mq_addr.specs.declared.addr.Addr.{Addr}
use Rattle.mq_addr.specs.declared.addr.Addr.TheVariants.{V4, V6}
use Rattle.mq_addr.specs.Addr.{IsAddrText}

-- the value of std's address
abbrev value_of : IpAddr → Addr
value_of (Ip.V4 a) = V4 (ipv4_bits a)
value_of (Ip.V6 a) = V6 (ipv6_bits a)

-- std's address of this value, which the text writes
pub std_addr : (text : List ℕ) (a : Addr) → IsAddrText text a → (ip : IpAddr) × IsIpText text ip × (a ≡ value_of ip)
unfolding IsAddrText
std_addr text (V4 bits) h = (Ip.V4 h.0, h.1, ap V4 h.2)
std_addr text (V6 bits) h = (Ip.V6 h.0, h.1, ap V6 h.2)

pub one_addr : (text : List ℕ) (a b : Addr) → IsAddrText text a → IsAddrText text b → a ≡ b
one_addr text a b h k =
    let p = std_addr text a h in
    let q = std_addr text b k in
    p.2 ∙ ap value_of (IsIpText_unique text p.0 q.0 p.1 q.1) ∙ sym q.2
