-- What a data stream says: the items of its capsules, up to the first that makes it malformed.
use Rattle.std.specs.Prelude.{◌≡◌, ◌≢◌, ℕ, ◌<◌, ◌≤◌, List, [], ◌∷◌, ◌++◌, length, drop, Option, Some, None, Bool, true, false, ◌==◌, ◌&&◌, nat_lt, nat_le, if◌then◌else◌}
use Rattle.std.specs.List.{filter_map, list_any}
use Rattle.mq_wire.specs.Integer.{int_of}
use Rattle.mq_capsule.specs.declared.head.Head.{Head}
use Rattle.mq_capsule.specs.declared.item.Item.{Item}
use Rattle.mq_capsule.specs.declared.item.Item.TheVariants.{Datagram, TooLongDatagram, Control, Bad}
use Rattle.mq_capsule.specs.declared.item.CapsuleFault.TheVariants.{TooLong, NoContext}
use Rattle.mq_capsule.specs.Capsule.{Capsule, AreCapsules, head_of}

-- the longest payload of a DATAGRAM that is kept
abbrev pub max_payload : ℕ
max_payload = 65535

-- the longest value of a control capsule
abbrev pub max_control : ℕ
max_control = 65536

-- ADDRESS_ASSIGN, ADDRESS_REQUEST and ROUTE_ADVERTISEMENT (RFC 9484, section 4.7)
abbrev pub is_control : ℕ → Bool
is_control kind = nat_le 1 kind && nat_le kind 3

-- a payload, or where it is too long its length
abbrev pub payload_item : ℕ → List ℕ → Item
payload_item context payload =
    if nat_lt max_payload (length payload) then TooLongDatagram context (length payload) else Datagram context payload

-- a DATAGRAM's value is a Context ID and a payload (RFC 9298, section 5, and RFC 9484, section 6)
abbrev pub datagram_by : Option (ℕ × ℕ) → List ℕ → Item
datagram_by None value = Bad NoContext
datagram_by (Some context) value = payload_item context.0 (drop context.1 value)

-- a control capsule's value is at most so long
abbrev pub control_item : ℕ → List ℕ → Item
control_item kind value = if nat_lt max_control (length value) then Bad TooLong else Control kind value

-- what a whole capsule says: of a type that isn't known nothing (RFC 9297, section 3.2)
abbrev pub item_of : Bool → Capsule → Option Item
item_of control capsule =
    if capsule.kind == 0 then Some (datagram_by (int_of capsule.value) capsule.value)
    else (if control && is_control capsule.kind then Some (control_item capsule.kind capsule.value)
    else None)

-- what a capsule says before it is whole: that it is a control capsule and too long
abbrev pub head_items : Bool → Option Head → List Item
head_items control None = []
head_items control (Some head) = if control && (is_control head.kind && nat_lt max_control head.length) then Bad TooLong ∷ [] else []

-- an item keeps to the limits
abbrev pub IsSized : Item → Type 0
IsSized (Datagram context payload) = length payload ≤ max_payload
IsSized (TooLongDatagram context len) = max_payload < len
IsSized (Control kind value) = (is_control kind ≡ true) × (length value ≤ max_control)
IsSized (Bad fault) = Unit {0}

abbrev pub is_bad : Item → Bool
is_bad (Bad fault) = true
is_bad (Datagram context payload) = false
is_bad (TooLongDatagram context len) = false
is_bad (Control kind value) = false

-- the items up to the first bad one, and with it
abbrev pub up_to_bad : List Item → List Item
up_to_bad [] = []
up_to_bad (item ∷ items) = item ∷ (if is_bad item then [] else up_to_bad items)

-- all that whole capsules and what stands behind them say
abbrev pub said : Bool → List Capsule → List ℕ → List Item
said control capsules rest = up_to_bad (filter_map (item_of control) capsules ++ head_items control (head_of rest))

-- the items of a data stream so far
pub record ItemsOf (control : Bool) (bytes : List ℕ) (items : List Item) : Type 0 where
  pub capsules : List Capsule
  pub rest : List ℕ
  pub are : AreCapsules bytes capsules rest
  pub items_are : items ≡ said control capsules rest

-- the data stream ends inside a capsule, and isn't malformed
pub record EndsInside (control : Bool) (bytes : List ℕ) : Type 0 where
  pub capsules : List Capsule
  pub rest : List ℕ
  pub are : AreCapsules bytes capsules rest
  pub some : rest ≢ []
  pub none_bad : list_any is_bad (said control capsules rest) ≡ false
