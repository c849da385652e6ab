-- What a client did on its way: what it was fed, what it sent, and what of its bytes was written.
use Rattle.std.specs.Prelude.{◌≡◌, ℕ, List, [], ◌∷◌, ◌++◌, length, Option, Some, None, Contains}
use Rattle.mq_client.specs.declared.event.ClientEvent.{ClientEvent}
use Rattle.mq_client.specs.declared.event.ClientEvent.TheVariants as event
use Rattle.mq_client.specs.State.{State, Reads, sent, told, wrote, owed}

pub data Move : Type 0 where
  -- a piece came, and brought these events
  Fed : (piece : List ℕ) (events : List ClientEvent) → Move
  -- a payload was sent
  Sent : (payload : List ℕ) → Move
  -- these bytes of what it owed were written
  Wrote : (bytes : List ℕ) → Move

-- the first bytes that it owed were written
pub record Writes (s : State) (bytes : List ℕ) (t : State) : Type 0 where
  pub rest : List ℕ
  pub owed_is : owed s ≡ bytes ++ rest
  pub is : t ≡ wrote s (length bytes)

-- a payload is sent only behind the opening of the tunnel
abbrev pub Does : State → Move → State → Type 0
Does s (Fed piece events) t = Reads s piece events t
Does s (Sent payload) t = Contains (told s) event.Opened × (t ≡ sent s payload)
Does s (Wrote bytes) t = Writes s bytes t

-- it did these, one after the other
abbrev pub Goes : State → List Move → State → Type 0
Goes s [] t = t ≡ s
Goes s (m ∷ moves) t = (mid : State) × Does s m mid × Goes mid moves t

-- all bytes that came
abbrev pub came_in : List Move → List ℕ
came_in [] = []
came_in (Fed piece events ∷ moves) = piece ++ came_in moves
came_in (Sent payload ∷ moves) = came_in moves
came_in (Wrote bytes ∷ moves) = came_in moves

-- all bytes that were written
abbrev pub written_in : List Move → List ℕ
written_in [] = []
written_in (Fed piece events ∷ moves) = written_in moves
written_in (Sent payload ∷ moves) = written_in moves
written_in (Wrote bytes ∷ moves) = bytes ++ written_in moves

-- all payloads that were sent
abbrev pub sent_in : List Move → List (List ℕ)
sent_in [] = []
sent_in (Fed piece events ∷ moves) = sent_in moves
sent_in (Sent payload ∷ moves) = payload ∷ sent_in moves
sent_in (Wrote bytes ∷ moves) = sent_in moves

-- the payload that an event brings
abbrev pub payload_of : ClientEvent → Option (List ℕ)
payload_of (event.Datagram payload) = Some payload
payload_of event.Opened = None
payload_of (event.Refused status) = None
payload_of event.Closed = None
payload_of (event.BadPeer code) = None

abbrev pub with_payload : Option (List ℕ) → List (List ℕ) → List (List ℕ)
with_payload None payloads = payloads
with_payload (Some payload) payloads = payload ∷ payloads

-- the payloads that events bring
abbrev pub payloads_of : List ClientEvent → List (List ℕ)
payloads_of [] = []
payloads_of (e ∷ events) = with_payload (payload_of e) (payloads_of events)

-- all events
abbrev pub events_in : List Move → List ClientEvent
events_in [] = []
events_in (Fed piece events ∷ moves) = events ++ events_in moves
events_in (Sent payload ∷ moves) = events_in moves
events_in (Wrote bytes ∷ moves) = events_in moves
