-- What a frame of the proxy does: the events that it brings, and the state behind it (RFC 9113, sections 4 to 6).
use Rattle.std.specs.Prelude.{◌≡◌, ℕ, ◌==◌, List, [], ◌∷◌, ◌++◌, length, Option, Some, None, Result, Ok, Err, Bool, true, false, nat_lt, if◌then◌else◌}
use Rattle.mq_capsule.specs.declared.item.Item.{Item}
use Rattle.mq_capsule.specs.Items.{ItemsOf}
use Rattle.mq_frame.specs.declared.frame.Frame.{Frame}
use Rattle.mq_frame.specs.declared.frame.Frame.TheVariants as frame
use Rattle.mq_frame.specs.declared.frame.Setting.{Setting}
use Rattle.mq_hpack.specs.declared.fault.HpackFault.{HpackFault}
use Rattle.mq_hpack.specs.declared.fault.HpackFault.TheVariants.{Index, Integer, Text, Update, TooLarge, NoMemory}
use Rattle.mq_hpack.specs.declared.field.Field.{Field}
use Rattle.mq_hpack.specs.Table.{Table}
use Rattle.mq_hpack.specs.Block as hpack
use Rattle.mq_streams.specs.History.{History, Consumed, GivenBack}
use Rattle.mq_streams.specs.Answers.{count_of, after_count, grant_of, after_grant, next_update}
use Rattle.mq_streams.specs.declared.answers.Counted.{Counted}
use Rattle.mq_streams.specs.declared.answers.Counted.TheVariants as counted
use Rattle.mq_streams.specs.declared.answers.Granted.{Granted}
use Rattle.mq_streams.specs.declared.answers.Granted.TheVariants as granted
use Rattle.mq_client.specs.declared.block.OpenBlock.{OpenBlock}
use Rattle.mq_client.specs.declared.event.ClientEvent.{ClientEvent}
use Rattle.mq_client.specs.declared.event.ClientEvent.TheVariants.{Opened, Refused, Closed, BadPeer}
use Rattle.mq_client.specs.Asking.{stream}
use Rattle.mq_client.specs.Events.{events_of}
use Rattle.mq_client.specs.Settling.{shifts, offers_connect}
use Rattle.mq_client.specs.Sending.{sends_open}
use Rattle.mq_client.specs.Statuses.{status_of, is_successful}
use Rattle.mq_client.specs.Session.{Session, Stage, Greeting, Asked, Open, ended, puts, puts_frame, with_history, with_stage}

-- error codes (section 7)
abbrev pub protocol_error : ℕ
protocol_error = 1

abbrev pub flow_control_error : ℕ
flow_control_error = 3

abbrev pub compression_error : ℕ
compression_error = 9

abbrev pub enhance_your_calm : ℕ
enhance_your_calm = 11

-- the most bytes that a header block may have
abbrev pub max_block : ℕ
max_block = 16384

-- the events that something brings, and the state after it
pub record Did : Type 0 where
  pub events : List ClientEvent
  pub after : Session

abbrev pub quietly : Session → Did
quietly s = record { events = []; after = s }

abbrev pub tells : List ClientEvent → Session → Did
tells events s = record { events = events; after = s }

-- the proxy's bytes are malformed
abbrev pub breaks : ℕ → Session → Did
breaks code s = tells (BadPeer code ∷ []) s

-- this is done, with these events and this state after it
abbrev pub Is : Did → List ClientEvent → Session → Type 0
Is did events t = (events ≡ did.events) × (t ≡ did.after)

-- END_STREAM, where it is set
abbrev pub closing : Bool → List ClientEvent
closing true = Closed ∷ []
closing false = []

-- nothing comes behind the last event, and else what follows
abbrev pub unless_last : Bool → List ClientEvent → List ClientEvent
unless_last true later = []
unless_last false later = later

-- SETTINGS (section 6.5).

-- the first ones are answered by the request, where extended CONNECT is offered (RFC 8441, section 3)
abbrev pub on_settled : Stage → Bool → Session → Did
on_settled (Greeting request) true s = quietly (with_stage Asked (puts request s))
on_settled (Greeting request) false s = tells (Refused 0 ∷ []) s
on_settled Asked offered s = quietly s
on_settled (Open bytes) offered s = quietly (sends_open s)

-- they are acknowledged once they hold (section 6.5.3)
abbrev pub on_shifted : History × Bool → Bool → Session → Did
on_shifted x offered s =
    if x.1 then on_settled s.stage offered (puts_frame (frame.Settings true []) (with_history x.0 s))
    else breaks flow_control_error (with_history x.0 s)

abbrev pub on_settings : Bool → List Setting → Session → Did
on_settings true pairs s = quietly s
on_settings false pairs s = on_shifted (shifts pairs s.history) (offers_connect pairs) s

-- Header blocks (sections 4.3, 6.2 and 6.10).

-- the first one is the answer: its status opens the tunnel or refuses it
abbrev pub on_status : Option ℕ → Bool → Session → Did
on_status None end s = breaks protocol_error s
on_status (Some status) end s =
    if is_successful status then tells (Opened ∷ closing end) (sends_open (with_stage (Open []) s))
    else tells (Refused status ∷ []) s

-- of a later one nothing is told but that it ends the stream
abbrev pub on_fields : Stage → List Field → Bool → Session → Did
on_fields (Greeting request) fields end s = breaks protocol_error s
on_fields Asked fields end s = on_status (status_of fields) end s
on_fields (Open bytes) fields end s = tells (closing end) s

-- the error that a fault in a header block is (sections 4.3 and 10.5.1)
abbrev pub fault_code : HpackFault → ℕ
fault_code Index = compression_error
fault_code Integer = compression_error
fault_code Text = compression_error
fault_code Update = compression_error
fault_code TooLarge = enhance_your_calm
fault_code NoMemory = compression_error

-- what a whole block comes to: fields and the table behind it, or a fault
abbrev pub on_read : Result (List Field × Table) HpackFault → Bool → Session → Did
on_read (Ok x) end s = on_fields s.stage x.0 end (record s { table = x.1; block = None })
on_read (Err fault) end s = breaks (fault_code fault) s

abbrev pub OnWhole : OpenBlock → Session → List ClientEvent → Session → Type 0
OnWhole b s events t =
    (r : Result (List Field × Table) HpackFault) × hpack.Reads s.table b.bytes r × Is (on_read r b.end s) events t

-- a block so far, whole or not
abbrev pub OnPart : Bool → OpenBlock → Session → List ClientEvent → Session → Type 0
OnPart true b s events t = OnWhole b s events t
OnPart false b s events t = Is (quietly (record s { block = Some b })) events t

-- a block so far, which isn't to be too large
abbrev pub OnSome : Bool → Bool → OpenBlock → Session → List ClientEvent → Session → Type 0
OnSome true whole b s events t = Is (breaks enhance_your_calm s) events t
OnSome false whole b s events t = OnPart whole b s events t

abbrev pub OnBlock : Bool → OpenBlock → Session → List ClientEvent → Session → Type 0
OnBlock whole b s events t = OnSome (nat_lt max_block (length b.bytes)) whole b s events t

-- HEADERS, on the client's stream alone (section 5.1.1; server push is disabled)
abbrev pub OnHeaders : Bool → List ℕ → Bool → Bool → Session → List ClientEvent → Session → Type 0
OnHeaders true block end whole s events t = OnBlock whole (record { end = end; bytes = block }) s events t
OnHeaders false block end whole s events t = Is (breaks protocol_error s) events t

-- CONTINUATION: its bytes go behind those of the block; outside a block no frame is one
abbrev pub OnContinuation : Option OpenBlock → List ℕ → Bool → Session → List ClientEvent → Session → Type 0
OnContinuation None block whole s events t = Is (breaks protocol_error s) events t
OnContinuation (Some b) block whole s events t = OnBlock whole (record { end = b.end; bytes = b.bytes ++ block }) s events t

-- DATA (sections 6.1 and 6.9).

-- the next WINDOW_UPDATE that is due
abbrev pub gives_back : Option (ℕ × ℕ) → Session → Session
gives_back None s = s
gives_back (Some update) s =
    with_history (GivenBack update.0 update.1 ∷ s.history) (puts_frame (frame.Window update.0 update.1) s)

abbrev pub updates_once : Session → Session
updates_once s = gives_back (next_update s.history) s

-- that of the connection, and that of the stream
abbrev pub updates : Session → Session
updates s = updates_once (updates_once s)

-- DATA that counts is consumed at once
abbrev pub takes : ℕ → ℕ → Session → Session
takes id len s = updates (with_history (Consumed id len ∷ after_count counted.Yes id len s.history) s)

-- what bytes of a data stream say behind the earlier ones
pub record Says (earlier bytes : List ℕ) (later : List Item) : Type 0 where
  pub items : List Item
  pub were : ItemsOf false earlier items
  pub are : ItemsOf false (earlier ++ bytes) (items ++ later)

-- what that brings, and END_STREAM behind it, unless the last event came before
abbrev pub told_of : List Item → Bool → List ClientEvent
told_of later end = events_of later ++ unless_last (ended (events_of later)) (closing end)

-- Bytes of the data stream of an opened tunnel. Before the answer there is none (section 8.1).
abbrev pub OnBytes : Stage → List ℕ → Bool → Session → List ClientEvent → Session → Type 0
OnBytes (Greeting request) bytes end s events t = Is (breaks protocol_error s) events t
OnBytes Asked bytes end s events t = Is (breaks protocol_error s) events t
OnBytes (Open earlier) bytes end s events t =
    (later : List Item) × Says earlier bytes later
    × Is (tells (told_of later end) (with_stage (Open (earlier ++ bytes)) s)) events t

abbrev pub OnTaken : List ℕ → Bool → Session → List ClientEvent → Session → Type 0
OnTaken bytes end s events t = OnBytes s.stage bytes end s events t

-- By its count in the windows. The client's stream takes DATA up to the last event, and no other stream does.
abbrev pub OnData : Counted → ℕ → List ℕ → ℕ → Bool → Session → List ClientEvent → Session → Type 0
OnData counted.Yes id bytes len end s events t = OnTaken bytes end (takes id len s) events t
OnData counted.Ignored id bytes len end s events t =
    Is (breaks protocol_error (with_history (after_count counted.Ignored id len s.history) s)) events t
OnData counted.Idle id bytes len end s events t = Is (breaks protocol_error s) events t
OnData counted.OverConnection id bytes len end s events t = Is (breaks flow_control_error s) events t
OnData counted.OverStream id bytes len end s events t =
    Is (breaks flow_control_error (with_history (after_count counted.OverStream id len s.history) s)) events t

-- RST_STREAM (section 6.4)
abbrev pub on_reset : ℕ → Session → Did
on_reset id s = if id == stream then tells (Closed ∷ []) s else breaks protocol_error s

-- WINDOW_UPDATE (section 6.9): what it allows is framed
abbrev pub on_window : Granted → ℕ → ℕ → Session → Did
on_window granted.Taken id grow s = quietly (sends_open (with_history (after_grant granted.Taken id grow s.history) s))
on_window granted.Ignored id grow s = quietly s
on_window granted.Idle id grow s = breaks protocol_error s
on_window granted.Zero id grow s = breaks protocol_error s
on_window granted.Over id grow s = breaks flow_control_error s

-- PING (section 6.7)
abbrev pub on_ping : Bool → ℕ → Session → Did
on_ping true bytes s = quietly s
on_ping false bytes s = quietly (puts_frame (frame.Ping true bytes) s)

-- What a frame does. PRIORITY, GOAWAY and frames of unknown types do nothing (sections 5.3.2, 6.8 and 5.5).
abbrev pub Does : Frame → Session → List ClientEvent → Session → Type 0
Does (frame.Content id bytes len end) s events t = OnData (count_of id len s.history) id bytes len end s events t
Does (frame.Headers id block end whole) s events t = OnHeaders (id == stream) block end whole s events t
Does (frame.Continuation id block whole) s events t = OnContinuation s.block block whole s events t
Does (frame.Priority id) s events t = Is (quietly s) events t
Does (frame.Reset id code) s events t = Is (on_reset id s) events t
Does (frame.Settings ack pairs) s events t = Is (on_settings ack pairs s) events t
Does (frame.Ping ack bytes) s events t = Is (on_ping ack bytes s) events t
Does (frame.GoAway last code) s events t = Is (quietly s) events t
Does (frame.Window id grow) s events t = Is (on_window (grant_of id grow s.history) id grow s) events t
Does (frame.Unknown kind id) s events t = Is (quietly s) events t
Does (frame.Fault code) s events t = Is (breaks code s) events t

-- frames in their order; behind the last event nothing is done
abbrev pub DoAll : Bool → List Frame → Session → List ClientEvent → Session → Type 0
DoAll over [] s events t = (events ≡ []) × (t ≡ s)
DoAll true (f ∷ fs) s events t = (events ≡ []) × (t ≡ s)
DoAll false (f ∷ fs) s events t =
    (first : List ClientEvent) × (mid : Session) × (later : List ClientEvent)
    × Does f s first mid × DoAll (ended first) fs mid later t × (events ≡ first ++ later)
