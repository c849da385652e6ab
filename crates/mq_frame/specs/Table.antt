-- What a whole frame is: its contents, or the connection error that it is (RFC 9113, sections 4 and 6).
use Rattle.std.specs.Prelude.{◌≡◌, ℕ, ◌+◌, ◌-◌, ◌^◌, ◌%◌, List, [], ◌∷◌, length, take, drop, slice_index, Option, Some, None, Bool, true, false, not, ◌==◌, ◌&&◌, ◌||◌, nat_lt, if◌then◌else◌}
use Rattle.std.specs.Int.{w16, w32, w64, from_be_bytes}
use Rattle.mq_frame.specs.Numbers.{protocol_error, flow_control_error, frame_size_error, end_stream_flag, ack_flag, end_headers_flag, padded_flag, priority_flag}
use Rattle.mq_frame.specs.declared.kind.Kind.{Kind}
use Rattle.mq_frame.specs.declared.kind.Kind.TheVariants as kinds
use Rattle.mq_frame.specs.declared.header.Header.{Header}
use Rattle.mq_frame.specs.declared.place.Place.{Place}
use Rattle.mq_frame.specs.declared.place.Place.TheVariants.{First, Between, Block, Ended}
use Rattle.mq_frame.specs.declared.frame.Setting.{Setting}
use Rattle.mq_frame.specs.declared.frame.Frame.{Frame}
use Rattle.mq_frame.specs.declared.frame.Frame.TheVariants.{Content, Headers, Continuation, Priority, Reset, Settings, Ping, GoAway, Window, Unknown, Fault}
use Rattle.mq_frame.specs.Header.{is_set}

-- Where a frame may stand.

abbrev pub is_settings : Kind → Bool
is_settings kinds.Settings = true
is_settings kind = false

abbrev pub is_continuation : Kind → Bool
is_continuation kinds.Continuation = true
is_continuation kind = false

-- the first frame isn't SETTINGS without ACK (section 3.4)
abbrev pub isnt_first : Place → Header → Bool
isnt_first First h = not (is_settings h.kind) || is_set h.flags ack_flag
isnt_first Between h = false
isnt_first (Block stream) h = false
isnt_first Ended h = false

-- in a header block, anything but CONTINUATION on its stream; elsewhere CONTINUATION (section 6.10)
abbrev pub breaks_block : Place → Header → Bool
breaks_block First h = is_continuation h.kind
breaks_block Between h = is_continuation h.kind
breaks_block (Block stream) h = not (is_continuation h.kind) || not (h.stream == stream)
breaks_block Ended h = is_continuation h.kind

-- a client doesn't push (section 8.4)
abbrev pub is_push : Kind → Bool
is_push kinds.Push = true
is_push kind = false

-- on stream 0, though its type is of a stream (sections 6.1 to 6.4 and 6.10)
abbrev pub lacks_stream : Kind → ℕ → Bool
lacks_stream kinds.Data stream = stream == 0
lacks_stream kinds.Headers stream = stream == 0
lacks_stream kinds.Priority stream = stream == 0
lacks_stream kinds.Reset stream = stream == 0
lacks_stream kinds.Continuation stream = stream == 0
lacks_stream kind stream = false

-- on a stream, though its type is of the connection (sections 6.5, 6.7 and 6.8)
abbrev pub has_stream : Kind → ℕ → Bool
has_stream kinds.Settings stream = not (stream == 0)
has_stream kinds.Ping stream = not (stream == 0)
has_stream kinds.GoAway stream = not (stream == 0)
has_stream kind stream = false

-- What stands around the contents of DATA and HEADERS (sections 6.1 and 6.2).

-- the length of the Pad Length and the priority in front
abbrev pub fields_len : Kind → ℕ → ℕ
fields_len kinds.Data flags = if is_set flags padded_flag then 1 else 0
fields_len kinds.Headers flags = (if is_set flags padded_flag then 1 else 0) + (if is_set flags priority_flag then 5 else 0)
fields_len kind flags = 0

-- the length of the padding at the end
abbrev pub padding_len : ℕ → List ℕ → ℕ
padding_len flags contents = if is_set flags padded_flag then slice_index contents 0 else 0

-- the bytes between them
abbrev pub block_of : Kind → ℕ → List ℕ → List ℕ
block_of kind flags contents =
    let rest = drop (fields_len kind flags) contents in
    take (length rest - padding_len flags contents) rest

-- the Pad Length or the priority doesn't fit
abbrev pub lacks_fields : Kind → ℕ → List ℕ → Bool
lacks_fields kind flags contents = nat_lt (length contents) (fields_len kind flags)

-- the padding is longer than what is left behind them
abbrev pub is_overpadded : Kind → ℕ → List ℕ → Bool
is_overpadded kinds.Data flags contents = nat_lt (length (drop (fields_len kinds.Data flags) contents)) (padding_len flags contents)
is_overpadded kinds.Headers flags contents = nat_lt (length (drop (fields_len kinds.Headers flags) contents)) (padding_len flags contents)
is_overpadded kind flags contents = false

-- RST_STREAM and WINDOW_UPDATE have 4 bytes, PING 8, GOAWAY at least 8 (sections 6.4 and 6.7 to 6.9), and
-- SETTINGS a multiple of 6, with ACK none (section 6.5)
abbrev pub is_missized : Kind → ℕ → ℕ → Bool
is_missized kinds.Reset flags len = not (len == 4)
is_missized kinds.Window flags len = not (len == 4)
is_missized kinds.Ping flags len = not (len == 8)
is_missized kinds.GoAway flags len = nat_lt len 8
is_missized kinds.Settings flags len = (is_set flags ack_flag && nat_lt 0 len) || not (len % 6 == 0)
is_missized kind flags len = false

-- Settings (section 6.5.1).

-- two bytes of an identifier and four of a value
unfoldable pub setting_at : List ℕ → Setting
setting_at bytes = record { id = from_be_bytes w16 (take 2 bytes); value = from_be_bytes w32 (take 4 (drop 2 bytes)) }

abbrev pub pairs_of : List ℕ → List Setting
pairs_of (a ∷ b ∷ c ∷ d ∷ e ∷ f ∷ rest) = setting_at (a ∷ b ∷ c ∷ d ∷ e ∷ f ∷ []) ∷ pairs_of rest
pairs_of bytes = []

-- the error of a value (section 6.5.2): ENABLE_PUSH is 2, INITIAL_WINDOW_SIZE is 4, MAX_FRAME_SIZE is 5
unfoldable pub setting_fault : Setting → Option ℕ
setting_fault s =
    if s.id == 2 && nat_lt 1 s.value then Some protocol_error
    else (if s.id == 4 && nat_lt (2 ^ 31 - 1) s.value then Some flow_control_error
    else (if s.id == 5 && (nat_lt s.value (2 ^ 14) || nat_lt (2 ^ 24 - 1) s.value) then Some protocol_error
    else None))

abbrev pub or_else : Option ℕ → Option ℕ → Option ℕ
or_else None other = other
or_else (Some code) other = Some code

-- the error of the first that has one
abbrev pub settings_fault : List Setting → Option ℕ
settings_fault [] = None
settings_fault (s ∷ ss) = or_else (setting_fault s) (settings_fault ss)

-- the error of the values that a frame sets
abbrev pub values_fault : Kind → List ℕ → Option ℕ
values_fault kinds.Settings contents = settings_fault (pairs_of contents)
values_fault kind contents = None

-- a WINDOW_UPDATE of 0 for the connection (section 6.9)
abbrev pub grants_nothing : Kind → ℕ → List ℕ → Bool
grants_nothing kinds.Window stream contents = (from_be_bytes w32 contents % 2 ^ 31 == 0) && (stream == 0)
grants_nothing kind stream contents = false

-- the frame with this header and contents, where it is no error
abbrev pub frame_of : Kind → Header → List ℕ → Frame
frame_of kinds.Data h contents = Content h.stream (block_of kinds.Data h.flags contents) h.length (is_set h.flags end_stream_flag)
frame_of kinds.Headers h contents = Headers h.stream (block_of kinds.Headers h.flags contents) (is_set h.flags end_stream_flag) (is_set h.flags end_headers_flag)
frame_of kinds.Priority h contents = Priority h.stream
frame_of kinds.Reset h contents = Reset h.stream (from_be_bytes w32 contents)
frame_of kinds.Settings h contents = Settings (is_set h.flags ack_flag) (pairs_of contents)
frame_of kinds.Push h contents = Fault protocol_error
frame_of kinds.Ping h contents = Ping (is_set h.flags ack_flag) (from_be_bytes w64 contents)
frame_of kinds.GoAway h contents = GoAway (from_be_bytes w32 (take 4 contents) % 2 ^ 31) (from_be_bytes w32 (take 4 (drop 4 contents)))
frame_of kinds.Window h contents = Window h.stream (from_be_bytes w32 contents % 2 ^ 31)
frame_of kinds.Continuation h contents = Continuation h.stream contents (is_set h.flags end_headers_flag)
frame_of (kinds.Unknown kind) h contents = Unknown kind h.stream

abbrev pub or_fault : Option ℕ → Frame → Frame
or_fault None frame = frame
or_fault (Some code) frame = Fault code

-- the errors of the contents, in their order, or the frame
unfoldable pub judged : Kind → Header → List ℕ → Frame
judged kind h contents =
    if lacks_fields kind h.flags contents then Fault frame_size_error
    else (if is_overpadded kind h.flags contents then Fault protocol_error
    else (if is_missized kind h.flags (length contents) then Fault frame_size_error
    else or_fault (values_fault kind contents)
    (if grants_nothing kind h.stream contents then Fault protocol_error
    else frame_of kind h contents)))

-- the errors of the place, in their order, before those of the contents
unfoldable pub frame_at : Place → Header → List ℕ → Frame
frame_at place h contents =
    if isnt_first place h then Fault protocol_error
    else (if breaks_block place h then Fault protocol_error
    else (if is_push h.kind then Fault protocol_error
    else (if lacks_stream h.kind h.stream then Fault protocol_error
    else (if has_stream h.kind h.stream then Fault protocol_error
    else judged h.kind h contents))))

-- one of the errors of the place holds
abbrev pub is_misplaced : Place → Header → Bool
is_misplaced place h = isnt_first place h || breaks_block place h || is_push h.kind || lacks_stream h.kind h.stream || has_stream h.kind h.stream

-- What is left of contents without the fields in front and the padding, or the error of one of them.
abbrev pub IsInner : ℕ → ℕ → List ℕ → List ℕ → Type 0
IsInner fields padding contents inner =
    (nat_lt (length contents) fields ≡ false) × (nat_lt (length (drop fields contents)) padding ≡ false)
    × (inner ≡ take (length (drop fields contents) - padding) (drop fields contents))

abbrev pub HasNoInner : ℕ → ℕ → List ℕ → ℕ → Type 0
HasNoInner fields padding contents code = (other : Frame) →
    (if nat_lt (length contents) fields then Fault frame_size_error
    else (if nat_lt (length (drop fields contents)) padding then Fault protocol_error else other)) ≡ Fault code
