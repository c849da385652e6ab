-- The texts that are printed.
use Rattle.std.specs.Prelude.{ℕ, ◌^◌, ◌<◌, List, ◌∷◌, ◌++◌, decimal}
use Rattle.std.specs.Int.{w32, w128, to_be_bytes}
use Rattle.std.specs.Net.Addr.{segments_of}
use Rattle.std.specs.Net.Text.{ipv4_text, hex_groups_text}
use Rattle.mq_addr.specs.declared.addr.Addr.{Addr}
use Rattle.mq_addr.specs.declared.addr.Addr.TheVariants.{V4, V6}
use Rattle.mq_addr.specs.declared.prefix.Prefix.{Prefix}
use Rattle.mq_addr.specs.Addr.{IsAddrText}
use Rattle.mq_addr.specs.Block.{width, bits_of, IsPrefix}
use Rattle.mq_addr.specs.Prefixes.{slash, IsPrefixText}

-- Four decimals with dots between them; or eight groups in lower-case hex without leading zeros, where `::` stands for
-- the first longest run of two zero groups or more (RFC 5952, sections 4.1 to 4.3). No part of an IPv6 address is dotted.
unfoldable pub addr_text_of : Addr → List ℕ
addr_text_of (V4 bits) = ipv4_text (to_be_bytes w32 bits)
addr_text_of (V6 bits) = hex_groups_text (segments_of (to_be_bytes w128 bits))

-- the address, `/` and the length, also the full one
unfoldable pub prefix_text_of : Prefix → List ℕ
prefix_text_of block = addr_text_of block.addr ++ slash ∷ decimal block.length

-- the number of an address has as many bits as its version
abbrev pub Fits : Addr → Type 0
Fits a = bits_of a < 2 ^ width a

-- what is printed is read again
pub record IsReadAgain : Type 0 where
  pub addr : (a : Addr) → Fits a → IsAddrText (addr_text_of a) a
  pub prefix : (block : Prefix) → Fits block.addr → IsPrefix block → IsPrefixText (prefix_text_of block) block
