-- What all bytes of a proxy bring, over HTTP/1.1.
use Rattle.std.specs.Prelude.{◌≡◌, ◌≢◌, ℕ, List, [], ◌∷◌, drop, false}
use Rattle.mq_capsule.specs.declared.item.Item.{Item}
use Rattle.mq_capsule.specs.Items.{ItemsOf}
use Rattle.mq_client.specs.declared.event.ClientEvent.{ClientEvent}
use Rattle.mq_client.specs.declared.event.ClientEvent.TheVariants.{Opened, Refused, Datagram, Closed, BadPeer}
use Rattle.mq_client.specs.Heads.{Waits, IsAnswered, IsMalformed}
use Rattle.mq_client.specs.Events.{events_of}

-- the status of an answer that opens a tunnel (RFC 9298, section 3.3)
abbrev pub switching_protocols : ℕ
switching_protocols = 101

-- the bytes of a data stream bring these events
abbrev pub DataBrings : List ℕ → List ClientEvent → Type 0
DataBrings bytes events = (items : List Item) × ItemsOf false bytes items × (events ≡ events_of items)

-- Nothing while the head isn't whole; behind a head that opens the tunnel what its data stream brings; else one event.
abbrev pub Brings : List ℕ → List ClientEvent → Type 0
Brings bytes [] = Waits bytes
Brings bytes (Opened ∷ events) = (used : ℕ) × IsAnswered bytes switching_protocols used × DataBrings (drop used bytes) events
Brings bytes (Refused status ∷ events) = (used : ℕ) × IsAnswered bytes status used × (status ≢ switching_protocols) × (events ≡ [])
Brings bytes (Datagram payload ∷ events) = ⊥
Brings bytes (Closed ∷ events) = ⊥
Brings bytes (BadPeer code ∷ events) = IsMalformed bytes × (code ≡ 1) × (events ≡ [])
