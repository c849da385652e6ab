-- What a tunnel's data stream brings to its client (RFC 9298, section 5).
use Rattle.std.specs.Prelude.{◌≡◌, ℕ, ◌==◌, nat_lt, if◌then◌else◌, Bool, true, false, List, [], ◌∷◌, ◌++◌, length, Option, Some, None}
use Rattle.std.specs.Option.{option_to_list}
use Rattle.std.specs.List.{filter_map, list_any}
use Rattle.mq_capsule.specs.declared.item.Item.{Item}
use Rattle.mq_capsule.specs.declared.item.Item.TheVariants as item
use Rattle.mq_client.specs.declared.event.ClientEvent.{ClientEvent}
use Rattle.mq_client.specs.declared.event.ClientEvent.TheVariants as event

-- the longest payload of UDP
abbrev pub max_udp : ℕ
max_udp = 65527

-- no event comes behind this one
abbrev pub is_last : ClientEvent → Bool
is_last event.Opened = false
is_last (event.Refused status) = true
is_last (event.Datagram payload) = false
is_last event.Closed = true
is_last (event.BadPeer code) = true

-- a payload, or that it is too long for UDP
abbrev pub payload_event : List ℕ → ClientEvent
payload_event payload = if nat_lt max_udp (length payload) then event.BadPeer 1 else event.Datagram payload

-- only context 0 is known (RFC 9298, section 4)
abbrev pub in_context : ℕ → ClientEvent → Option ClientEvent
in_context context e = if context == 0 then Some e else None

-- what an item brings
abbrev pub event_of : Item → Option ClientEvent
event_of (item.Datagram context payload) = in_context context (payload_event payload)
event_of (item.TooLongDatagram context size) = in_context context (event.BadPeer 1)
event_of (item.Control kind value) = None
event_of (item.Bad fault) = Some (event.BadPeer 1)

-- the events up to the first that is the last, and with it
abbrev pub up_to_last : List ClientEvent → List ClientEvent
up_to_last [] = []
up_to_last (e ∷ events) = e ∷ (if is_last e then [] else up_to_last events)

-- what the items of a data stream bring
abbrev pub events_of : List Item → List ClientEvent
events_of items = up_to_last (filter_map event_of items)

-- what an item brings was told, and whether that is the last event
abbrev pub TellsItem : Item → List ClientEvent → List ClientEvent → Bool → Type 0
TellsItem i old new last = (new ≡ old ++ option_to_list (event_of i)) × (last ≡ list_any is_last (option_to_list (event_of i)))
