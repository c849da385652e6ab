-- What holds of every template and every path.
use Rattle.std.specs.Prelude.{◌≡◌, ℕ, ◌*◌, ◌<◌, ◌≤◌, ◌^◌, ◌==◌, ◌||◌, true, List, length, Option, Some, None}
use Rattle.std.specs.List.{list_all}
use Rattle.mq_addr.specs.Printed.{Fits}
use Rattle.mq_target.specs.declared.target.Host.{Host}
use Rattle.mq_target.specs.declared.target.Host.TheVariants as host
use Rattle.mq_target.specs.declared.target.Area.{Area}
use Rattle.mq_target.specs.declared.target.Area.TheVariants as area
use Rattle.mq_target.specs.declared.target.Target.{Target}
use Rattle.mq_target.specs.declared.target.Target.TheVariants as target
use Rattle.mq_target.specs.declared.target.Matched.{Matched}
use Rattle.mq_target.specs.declared.target.Matched.TheVariants.{Yes}
use Rattle.mq_target.specs.Classes.{begins, ends_or_begins, is_delimiter, is_unreserved}
use Rattle.mq_target.specs.Template.{Shape, IsTemplate}
use Rattle.mq_target.specs.Values.{IsHost}
use Rattle.mq_target.specs.Matching.{Matches}
use Rattle.mq_target.specs.Expansion.{Suits, escaped, expanded}

-- a path is one thing to a template
abbrev pub HasOneReading : Type 0
HasOneReading = (shape : Shape) (path : List ℕ) (a b : Matched) → Matches shape path a → Matches shape path b → a ≡ b

-- a text is at most one host
abbrev pub HasOneHost : Type 0
HasOneHost = (text : List ℕ) (a b : Host) → IsHost text a → IsHost text b → a ≡ b

-- a text is at most one template: its first variable tells its kind
abbrev pub HasOneTemplate : Type 0
HasOneTemplate = (text : List ℕ) (a b : Shape) → IsTemplate text a → IsTemplate text b → a ≡ b

-- an escaped value has unreserved bytes and those of escapes, `%` and hex digits, alone (RFC 3986, section 2.1)
pub record IsEscaped (text value : List ℕ) : Type 0 where
  pub bytes : list_all (λ b. is_unreserved b || b == 37) value ≡ true
  pub short : length value ≤ 3 * length text

abbrev pub AreEscaped : Type 0
AreEscaped = (text : List ℕ) → IsEscaped text (escaped text)

-- the numbers of a target have their types' sizes
abbrev pub HostFits : Host → Type 0
HostFits (host.Address a) = Fits a
HostFits (host.Name name) = Unit {0}

abbrev pub AreaFits : Area → Type 0
AreaFits area.All = Unit {0}
AreaFits (area.Block block) = Fits block.addr
AreaFits (area.Name name) = Unit {0}

abbrev pub ProtocolFits : Option ℕ → Type 0
ProtocolFits None = Unit {0}
ProtocolFits (Some protocol) = protocol < 2 ^ 8

abbrev pub TargetFits : Target → Type 0
TargetFits (target.Udp host port) = HostFits host × (port < 2 ^ 16)
TargetFits (target.Ip area protocol) = AreaFits area × ProtocolFits protocol

-- the path of a target is read as that target, where a delimiter follows each variable behind which something follows, as in each
-- template that a text is
abbrev pub IsReadAgain : Type 0
IsReadAgain = (shape : Shape) (target : Target) → begins is_delimiter shape.between ≡ true → ends_or_begins is_delimiter shape.after ≡ true
    → TargetFits target → Suits shape.kind target → Matches shape (expanded shape target) (Yes target)
