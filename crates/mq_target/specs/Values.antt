-- The values that a template's variables take, after percent-decoding (RFC 9298, section 2; RFC 9484, section 3).
use Rattle.std.specs.Prelude.{◌≡◌, ℕ, ◌≤◌, List, length, map, codes, Option, Some, None}
use Rattle.std.specs.Char.{to_ascii_lowercase}
use Rattle.std.specs.Str.Parse.{IsNumeral, digits_value}
use Rattle.mq_addr.specs.declared.addr.Addr.{Addr}
use Rattle.mq_addr.specs.declared.kind.Kind.{Kind}
use Rattle.mq_addr.specs.declared.kind.Kind.TheVariants as kind
use Rattle.mq_addr.specs.Addr.{IsAddrText}
use Rattle.mq_addr.specs.Prefixes.{IsPrefixText}
use Rattle.mq_target.specs.declared.target.Host.{Host}
use Rattle.mq_target.specs.declared.target.Host.TheVariants as host
use Rattle.mq_target.specs.declared.target.Area.{Area}
use Rattle.mq_target.specs.declared.target.Area.TheVariants as area
use Rattle.mq_target.specs.declared.target.Target.{Target}
use Rattle.mq_target.specs.declared.target.Target.TheVariants as target
use Rattle.mq_target.specs.Names.{IsName}

-- a name that isn't an address, taken in lower case
pub record IsNameText (text name : List ℕ) : Type 0 where
  pub form : IsName text
  pub no_addr : (a : Addr) → ¬ (IsAddrText text a)
  pub lower : name ≡ map to_ascii_lowercase text

-- a number in so many digits, which may begin with zeros, up to a limit
pub record IsNumber (digits limit : ℕ) (text : List ℕ) (n : ℕ) : Type 0 where
  pub numeral : IsNumeral 10 text
  pub few : length text ≤ digits
  pub value : n ≡ digits_value 10 text
  pub fits : n ≤ limit

abbrev pub IsHost : List ℕ → Host → Type 0
IsHost text (host.Address a) = IsAddrText text a
IsHost text (host.Name name) = IsNameText text name

abbrev pub IsArea : List ℕ → Area → Type 0
IsArea text area.All = text ≡ codes "*"
IsArea text (area.Block block) = IsPrefixText text block
IsArea text (area.Name name) = IsNameText text name

-- a port, which isn't 0
abbrev pub IsPort : List ℕ → ℕ → Type 0
IsPort text port = IsNumber 5 65535 text port × (1 ≤ port)

-- `*` for all protocols, or the number of one
abbrev pub IsProtocol : List ℕ → Option ℕ → Type 0
IsProtocol text None = text ≡ codes "*"
IsProtocol text (Some protocol) = IsNumber 3 255 text protocol

-- the values of the two variables of a kind are well-formed, and are this target
abbrev pub IsTarget : Kind → List ℕ → List ℕ → Target → Type 0
IsTarget kind.Udp text detail (target.Udp host port) = IsHost text host × IsPort detail port
IsTarget kind.Ip text detail (target.Ip area protocol) = IsArea text area × IsProtocol detail protocol
IsTarget kind.Udp text detail (target.Ip area protocol) = ⊥
IsTarget kind.Ip text detail (target.Udp host port) = ⊥
