-- What a client asks of a proxy.
use Rattle.std.specs.Prelude.{ℕ, List, ◌++◌, codes, decimal}
use Rattle.mq_addr.specs.declared.addr.Addr.{Addr}
use Rattle.mq_addr.specs.declared.addr.Addr.TheVariants.{V4, V6}
use Rattle.mq_addr.specs.declared.kind.Kind.TheVariants as kind
use Rattle.mq_addr.specs.Printed.{addr_text_of}
use Rattle.mq_target.specs.Expansion.{expanded}
use Rattle.mq_target.specs.Template.{well_known}
use Rattle.mq_target.specs.declared.target.Target.{Target}

-- an address of IPv6 stands in brackets (RFC 3986, section 3.2.2)
abbrev pub in_brackets : Addr → List ℕ
in_brackets (V4 bits) = addr_text_of (V4 bits)
in_brackets (V6 bits) = codes "[" ++ addr_text_of (V6 bits) ++ codes "]"

-- the host of a request: the proxy's address and port (RFC 9110, section 7.2)
abbrev pub authority : Addr → ℕ → List ℕ
authority addr port = in_brackets addr ++ codes ":" ++ decimal port

-- its path: the target's, by the template for UDP where none is set (RFC 9298, section 2)
abbrev pub path_to : Target → List ℕ
path_to target = expanded (well_known kind.Udp) target
