-- What a client over HTTP/2 puts for writing, from its beginning on (RFC 9113, sections 3.4, 4.1 and 6; RFC 9298, section 5).
use Rattle.std.specs.Prelude.{◌≡◌, ℕ, ◌+◌, ◌<◌, ◌≤◌, List, [], ◌∷◌, ◌++◌, length, true, false}
use Rattle.std.specs.List.{flat_map, AllByRecursion}
use Rattle.mq_capsule.specs.Writing.{capsule_text, datagram}
use Rattle.mq_frame.specs.declared.frame.Frame.{Frame}
use Rattle.mq_frame.specs.declared.frame.Frame.TheVariants.{Content, Headers, Continuation, Priority, Reset, Settings, Ping, GoAway, Window, Unknown, Fault}
use Rattle.mq_frame.specs.Numbers.{max_frame_size}
use Rattle.mq_frame.specs.Writing.{spelling_of}
use Rattle.mq_streams.specs.History.{first_window, total, sent, extended_on}
use Rattle.mq_client.specs.declared.event.ClientEvent.{ClientEvent}
use Rattle.mq_client.specs.Asking.{stream, preface}
use Rattle.mq_client.specs.Session.{Session, Stage, Greeting, Asked, Open}
use Rattle.mq_client.specs.Talk.{Talk, talk_begun, ReadsFrames, talk_sent, talk_wrote}

-- the capsules of payloads, one behind the other
abbrev pub capsules_of : List (List ℕ) → List ℕ
capsules_of payloads = flat_map (λ payload. capsule_text (datagram payload)) payloads

-- the contents of DATA
abbrev pub contents : Frame → List ℕ
contents (Content id bytes len end) = bytes
contents frame = []

-- what a client puts behind its preface: the request, DATA of its stream, and answers to frames
abbrev pub IsOwn : Frame → Type 0
IsOwn (Content id bytes len end) = (id ≡ stream) × (len ≡ length bytes) × (0 < length bytes) × (length bytes ≤ max_frame_size) × (end ≡ false)
IsOwn (Headers id block end whole) = (id ≡ stream) × (end ≡ false) × (whole ≡ true)
IsOwn (Settings ack pairs) = (ack ≡ true) × (pairs ≡ [])
IsOwn (Ping ack bytes) = ack ≡ true
IsOwn (Window id grow) = 0 < grow
IsOwn (Continuation id block whole) = ⊥
IsOwn (Priority id) = ⊥
IsOwn (Reset id code) = ⊥
IsOwn (GoAway last code) = ⊥
IsOwn (Unknown kind id) = ⊥
IsOwn (Fault code) = ⊥

-- the request that is put once the proxy's SETTINGS came is HEADERS
abbrev pub IsAsking : Stage → Type 0
IsAsking (Greeting request) = (block : List ℕ) × (request ≡ spelling_of (Headers stream block false true))
IsAsking Asked = Unit {0}
IsAsking (Open bytes) = Unit {0}

-- All that was put is the preface and whole frames of its own. The contents of their DATA, and then the bytes that wait, are the
-- capsules of these payloads. No more DATA was put than the connection's window allows.
pub record IsFramed (payloads : List (List ℕ)) (s : Session) : Type 0 where
  pub frames : List Frame
  pub put_is : s.put ≡ preface ++ flat_map spelling_of frames
  pub own : AllByRecursion IsOwn frames
  pub capsules : flat_map contents frames ++ s.waits ≡ capsules_of payloads
  pub counted : length (flat_map contents frames) ≡ total sent s.history
  pub within : total sent s.history ≤ first_window + total (extended_on 0) s.history
  pub asking : IsAsking s.stage

-- these payloads were sent, one after the other, and that is so
pub record IsAlwaysFramed : Type 0 where
  pub begins : (path host : List ℕ) → IsFramed [] (talk_begun path host).session
  pub reads : (payloads : List (List ℕ)) (s : Talk) (piece : List ℕ) (events : List ClientEvent) (t : Talk) → IsFramed payloads s.session → ReadsFrames s piece events t
      → IsFramed payloads t.session
  pub sends : (payloads : List (List ℕ)) (s : Talk) (payload : List ℕ) → IsFramed payloads s.session → IsFramed (payloads ++ payload ∷ []) (talk_sent s payload).session
  pub writes : (payloads : List (List ℕ)) (s : Talk) (count : ℕ) → IsFramed payloads s.session → IsFramed payloads (talk_wrote s count).session
