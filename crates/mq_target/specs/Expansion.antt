-- The path of a target.
use Rattle.std.specs.Prelude.{ℕ, ◌≤◌, List, [], ◌∷◌, ◌++◌, flat_map, codes, decimal, Option, Some, None, if◌then◌else◌}
use Rattle.percent_encoding.specs.Percent.{percent_encode_byte}
use Rattle.mq_addr.specs.declared.kind.Kind.{Kind}
use Rattle.mq_addr.specs.declared.kind.Kind.TheVariants as kind
use Rattle.mq_addr.specs.Block.{IsPrefix}
use Rattle.mq_addr.specs.Printed.{addr_text_of, prefix_text_of}
use Rattle.mq_target.specs.declared.shape.Order.{Order}
use Rattle.mq_target.specs.declared.shape.Order.TheVariants.{TargetFirst, TargetLast}
use Rattle.mq_target.specs.declared.target.Host.{Host}
use Rattle.mq_target.specs.declared.target.Host.TheVariants as host
use Rattle.mq_target.specs.declared.target.Area.{Area}
use Rattle.mq_target.specs.declared.target.Area.TheVariants as area
use Rattle.mq_target.specs.declared.target.Target.{Target}
use Rattle.mq_target.specs.declared.target.Target.TheVariants as target
use Rattle.mq_target.specs.Classes.{is_unreserved}
use Rattle.mq_target.specs.Template.{Shape}
use Rattle.mq_target.specs.Values.{IsNameText}

-- a name as a value holds it: well-formed, in lower case, and no address
abbrev pub IsOwnName : List ℕ → Type 0
IsOwnName name = IsNameText name name

abbrev pub SuitsHost : Host → Type 0
SuitsHost (host.Address a) = Unit {0}
SuitsHost (host.Name name) = IsOwnName name

abbrev pub SuitsArea : Area → Type 0
SuitsArea area.All = Unit {0}
SuitsArea (area.Block block) = IsPrefix block
SuitsArea (area.Name name) = IsOwnName name

-- the target is of the kind, its port isn't 0, its prefix is valid, its name is well-formed, in lower case and no address
abbrev pub Suits : Kind → Target → Type 0
Suits kind.Udp (target.Udp host port) = SuitsHost host × (1 ≤ port)
Suits kind.Ip (target.Ip area protocol) = SuitsArea area
Suits kind.Udp (target.Ip area protocol) = ⊥
Suits kind.Ip (target.Udp host port) = ⊥

-- each byte that isn't unreserved is escaped (RFC 3986, section 2.1, with upper-case digits)
abbrev pub escaped_byte : ℕ → List ℕ
escaped_byte b = if is_unreserved b then b ∷ [] else percent_encode_byte b

unfoldable pub escaped : List ℕ → List ℕ
escaped text = flat_map escaped_byte text

abbrev pub host_text : Host → List ℕ
host_text (host.Address a) = addr_text_of a
host_text (host.Name name) = name

abbrev pub area_text : Area → List ℕ
area_text area.All = codes "*"
area_text (area.Block block) = prefix_text_of block
area_text (area.Name name) = name

abbrev pub protocol_text : Option ℕ → List ℕ
protocol_text None = codes "*"
protocol_text (Some protocol) = decimal protocol

-- the values of the two variables
abbrev pub target_text : Target → List ℕ
target_text (target.Udp host port) = host_text host
target_text (target.Ip area protocol) = area_text area

abbrev pub detail_text : Target → List ℕ
detail_text (target.Udp host port) = decimal port
detail_text (target.Ip area protocol) = protocol_text protocol

abbrev pub first_text : Order → Target → List ℕ
first_text TargetFirst target = target_text target
first_text TargetLast target = detail_text target

abbrev pub second_text : Order → Target → List ℕ
second_text TargetFirst target = detail_text target
second_text TargetLast target = target_text target

-- the template with the escaped values for its variables
unfoldable pub expanded : Shape → Target → List ℕ
expanded shape target = shape.before ++ escaped (first_text shape.order target) ++ shape.between
    ++ escaped (second_text shape.order target) ++ shape.after
