-- What a frame of the client does: the events that it gives, and the state behind it (RFC 9113, sections 4 to 6).
use Rattle.std.specs.Prelude.{◌≡◌, ℕ, ◌==◌, List, [], ◌∷◌, ◌++◌, length, Option, Some, None, Result, Ok, Err, Bool, true, false, ◌⊎◌, nat_lt, if◌then◌else◌}
use Rattle.mq_frame.specs.declared.frame.Frame.{Frame}
use Rattle.mq_frame.specs.declared.frame.Frame.TheVariants as frame
use Rattle.mq_frame.specs.declared.frame.Setting.{Setting}
use Rattle.mq_frame.specs.Writing.{spelling_of}
use Rattle.mq_hpack.specs.declared.fault.HpackFault.{HpackFault}
use Rattle.mq_hpack.specs.declared.field.Field.{Field}
use Rattle.mq_hpack.specs.Table.{Table}
use Rattle.mq_hpack.specs.Block as hpack
use Rattle.mq_streams.specs.History.{History, Finished, Dropped, Shifted, highest, is_live, has_finished}
use Rattle.mq_streams.specs.Answers.{is_idle, begun, after_begin, count_of, after_count, grant_of, after_grant, can_shift}
use Rattle.mq_streams.specs.declared.answers.Began.{Began}
use Rattle.mq_streams.specs.declared.answers.Began.TheVariants as began
use Rattle.mq_streams.specs.declared.answers.Counted.{Counted}
use Rattle.mq_streams.specs.declared.answers.Counted.TheVariants as counted
use Rattle.mq_streams.specs.declared.answers.Granted.{Granted}
use Rattle.mq_streams.specs.declared.answers.Granted.TheVariants as granted
use Rattle.mq_h2.specs.declared.block.OpenBlock.{OpenBlock}
use Rattle.mq_h2.specs.declared.event.StreamEvent.{StreamEvent}
use Rattle.mq_h2.specs.declared.event.StreamEvent.TheVariants.{Request, Malformed, Content, Reset, ConnectionError}
use Rattle.mq_h2.specs.Codes.{protocol_error, flow_control_error, refused_stream, enhance_your_calm, fault_code, max_block, initial_window_setting}
use Rattle.mq_h2.specs.Fields.{is_malformed}
use Rattle.mq_h2.specs.State.{State, put, with_history, happens}

-- the events that something gives, and the state after it
pub record Did : Type 0 where
  pub events : List StreamEvent
  pub after : State

-- it gives no event
abbrev pub quietly : State → Did
quietly s = record { events = []; after = s }

-- Errors.

-- an error of the connection: GOAWAY names the highest stream that the client began, and nothing is read any more
-- (sections 5.4.1 and 6.8)
abbrev pub breaks : ℕ → State → Did
breaks code s = record {
  events = ConnectionError code ∷ [];
  after = record s { out = s.out ++ spelling_of (frame.GoAway (highest s.history) code); ended = true; block = None };
}

-- RST_STREAM on a stream that isn't live
abbrev pub turns_away : ℕ → ℕ → State → Did
turns_away id code s = record { events = Malformed id code ∷ []; after = put (spelling_of (frame.Reset id code)) s }

-- an error of a live stream, which RST_STREAM closes (section 5.4.2)
abbrev pub fails : ℕ → ℕ → State → Did
fails id code s = record {
  events = Malformed id code ∷ [];
  after = record s { out = s.out ++ spelling_of (frame.Reset id code); history = Dropped id ∷ s.history };
}

-- an error of a stream, or of the connection where that is 0
abbrev pub fails_at : ℕ → ℕ → State → Did
fails_at id code s = if id == 0 then breaks code s else fails id code s

-- END_STREAM, where it is set
abbrev pub finish : Bool → ℕ → History → History
finish true id h = Finished id ∷ h
finish false id h = h

-- DATA (sections 6.1 and 6.9), by its count in the windows.
abbrev pub on_data : Counted → ℕ → List ℕ → ℕ → Bool → State → Did
on_data counted.Yes id bytes len end s = record {
  events = Content id bytes len end ∷ [];
  after = with_history (finish end id (after_count counted.Yes id len s.history)) s;
}
on_data counted.Ignored id bytes len end s = quietly (with_history (after_count counted.Ignored id len s.history) s)
on_data counted.Idle id bytes len end s = breaks protocol_error s
on_data counted.OverConnection id bytes len end s = breaks flow_control_error s
on_data counted.OverStream id bytes len end s = fails id flow_control_error (with_history (after_count counted.OverStream id len s.history) s)

-- Header blocks (sections 4.3, 6.2 and 6.10).

-- the request of a stream that its HEADERS began, where nobody closed it since
abbrev pub on_request : List Field → OpenBlock → State → Did
on_request fields b s =
    if is_malformed fields then fails b.stream protocol_error s
    else record { events = Request b.stream fields b.end ∷ []; after = with_history (finish b.end b.stream s.history) s }

abbrev pub on_live_request : List Field → OpenBlock → State → Did
on_live_request fields b s = if is_live b.stream s.history then on_request fields b s else quietly s

-- a second block is an error where the client may still send on the stream (section 8.1; no trailers are awaited)
abbrev pub on_second_block : ℕ → State → Did
on_second_block id s =
    if is_live id s.history then (if has_finished id s.history then quietly s else fails id protocol_error s) else quietly s

-- by what the HEADERS began: a request, one more stream than may be live, or a second block
abbrev pub on_fields : Began → List Field → OpenBlock → State → Did
on_fields began.Live fields b s = on_live_request fields b s
on_fields began.Refused fields b s = turns_away b.stream refused_stream s
on_fields began.Old fields b s = on_second_block b.stream s
on_fields began.BadId fields b s = quietly s

-- what a whole block comes to: fields and the table behind it, or a fault
abbrev pub on_block : Result (List Field × Table) HpackFault → OpenBlock → State → Did
on_block (Ok x) b s = on_fields b.began x.0 b (record s { table = x.1; block = None })
on_block (Err fault) b s = breaks (fault_code fault) s

-- this is done, with these events and this state after it
abbrev pub Is : Did → List StreamEvent → State → Type 0
Is did events t = (events ≡ did.events) × (t ≡ did.after)

-- a whole block is read by the table
abbrev pub OnWhole : OpenBlock → State → List StreamEvent → State → Type 0
OnWhole b s events t =
    (r : Result (List Field × Table) HpackFault) × hpack.Reads s.table b.bytes r × Is (on_block r b s) events t

-- a block so far, whole or not
abbrev pub OnPart : Bool → OpenBlock → State → List StreamEvent → State → Type 0
OnPart true b s events t = OnWhole b s events t
OnPart false b s events t = Is (quietly (record s { block = Some b })) events t

-- a block so far, which isn't to be too large
abbrev pub OnSome : Bool → Bool → OpenBlock → State → List StreamEvent → State → Type 0
OnSome true whole b s events t = Is (breaks enhance_your_calm s) events t
OnSome false whole b s events t = OnPart whole b s events t

abbrev pub OnBlock : Bool → OpenBlock → State → List StreamEvent → State → Type 0
OnBlock whole b s events t = OnSome (nat_lt max_block (length b.bytes)) whole b s events t

-- HEADERS: its stream begins here, whether the block is whole or not (section 5.1.1)
abbrev pub OnHeaders : Began → ℕ → List ℕ → Bool → Bool → State → List StreamEvent → State → Type 0
OnHeaders began.BadId id block end whole s events t = Is (breaks protocol_error s) events t
OnHeaders began.Live id block end whole s events t =
    OnBlock whole (record { stream = id; began = began.Live; end = end; bytes = block }) (with_history (after_begin began.Live id s.history) s) events t
OnHeaders began.Refused id block end whole s events t =
    OnBlock whole (record { stream = id; began = began.Refused; end = end; bytes = block }) (with_history (after_begin began.Refused id s.history) s) events t
OnHeaders began.Old id block end whole s events t =
    OnBlock whole (record { stream = id; began = began.Old; end = end; bytes = block }) (with_history (after_begin began.Old id s.history) s) events t

-- CONTINUATION: its bytes go behind those of the block; outside a block no frame is one
abbrev pub OnContinuation : Option OpenBlock → List ℕ → Bool → State → List StreamEvent → State → Type 0
OnContinuation None block whole s events t = Is (breaks protocol_error s) events t
OnContinuation (Some b) block whole s events t = OnBlock whole (record b { bytes = b.bytes ++ block }) s events t

-- RST_STREAM (section 6.4)
abbrev pub on_reset : ℕ → ℕ → State → Did
on_reset id code s =
    if is_idle id s.history then breaks protocol_error s
    else (if is_live id s.history then record { events = Reset id code ∷ []; after = happens (Dropped id) s }
    else quietly s)

-- WINDOW_UPDATE (section 6.9)
abbrev pub on_window : Granted → ℕ → ℕ → State → Did
on_window granted.Taken id grow s = quietly (with_history (after_grant granted.Taken id grow s.history) s)
on_window granted.Ignored id grow s = quietly s
on_window granted.Idle id grow s = breaks protocol_error s
on_window granted.Zero id grow s = fails_at id protocol_error s
on_window granted.Over id grow s = fails_at id flow_control_error s

-- The settings in their order (section 6.5.3): each SETTINGS_INITIAL_WINDOW_SIZE shifts the send windows, up to the
-- first by which one would pass the largest (section 6.9.2).
abbrev pub shift_of : Setting → History → History × Bool
shift_of p h =
    if p.id == initial_window_setting then (if can_shift p.value h then (Shifted p.value ∷ h, true) else (h, false))
    else (h, true)

abbrev pub shifts : List Setting → History → History × Bool
shifts [] h = (h, true)
shifts (p ∷ ps) h = let x = shift_of p h in if x.1 then shifts ps x.0 else x

-- SETTINGS are acknowledged once they hold (section 6.5.3)
abbrev pub on_shifted : History × Bool → State → Did
on_shifted x s =
    if x.1 then quietly (put (spelling_of (frame.Settings true [])) (with_history x.0 s))
    else breaks flow_control_error (with_history x.0 s)

abbrev pub on_settings : Bool → List Setting → State → Did
on_settings true pairs s = quietly s
on_settings false pairs s = on_shifted (shifts pairs s.history) s

-- PING (section 6.7)
abbrev pub on_ping : Bool → ℕ → State → Did
on_ping true bytes s = quietly s
on_ping false bytes s = quietly (put (spelling_of (frame.Ping true bytes)) s)

-- What a frame does. PRIORITY, GOAWAY and frames of unknown types do nothing (sections 5.3.2, 6.8 and 5.5).
abbrev pub Does : Frame → State → List StreamEvent → State → Type 0
Does (frame.Content id bytes len end) s events t = Is (on_data (count_of id len s.history) id bytes len end s) events t
Does (frame.Headers id block end whole) s events t = OnHeaders (begun id s.history) id block end whole s events t
Does (frame.Continuation id block whole) s events t = OnContinuation s.block block whole s events t
Does (frame.Priority id) s events t = Is (quietly s) events t
Does (frame.Reset id code) s events t = Is (on_reset id code s) events t
Does (frame.Settings ack pairs) s events t = Is (on_settings ack pairs s) events t
Does (frame.Ping ack bytes) s events t = Is (on_ping ack bytes s) events t
Does (frame.GoAway last code) s events t = Is (quietly s) events t
Does (frame.Window id grow) s events t = Is (on_window (grant_of id grow s.history) id grow s) events t
Does (frame.Unknown kind id) s events t = Is (quietly s) events t
Does (frame.Fault code) s events t = Is (breaks code s) events t

-- frames in their order; behind an error of the connection nothing is done
abbrev pub DoAll : List Frame → State → List StreamEvent → State → Type 0
DoAll [] s events t = (events ≡ []) × (t ≡ s)
DoAll (f ∷ fs) s events t =
    ((s.ended ≡ true) × (events ≡ []) × (t ≡ s))
    ⊎ ((s.ended ≡ false) × (first : List StreamEvent) × (mid : State) × (later : List StreamEvent)
    × Does f s first mid × DoAll fs mid later t × (events ≡ first ++ later))
