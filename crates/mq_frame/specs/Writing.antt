-- The spelling of a frame, without padding (RFC 9113, sections 4.1 and 6).
use Rattle.std.specs.Prelude.{◌≡◌, ℕ, ◌+◌, ◌*◌, ◌^◌, ◌<◌, ◌≤◌, List, [], ◌∷◌, ◌++◌, length, Option, Some, None, Bool, false, ◌==◌, ◌&&◌, nat_lt, if◌then◌else◌}
use Rattle.std.specs.List.{flat_map, AllByRecursion}
use Rattle.std.specs.Int.{w16, w32, w64, to_be_bytes}
use Rattle.mq_frame.specs.Numbers.{protocol_error, frame_size_error, end_stream_flag, ack_flag, end_headers_flag, max_frame_size}
use Rattle.mq_frame.specs.declared.kind.Kind.{Kind}
use Rattle.mq_frame.specs.declared.kind.Kind.TheVariants as kinds
use Rattle.mq_frame.specs.declared.header.Header.{Header}
use Rattle.mq_frame.specs.declared.place.Place.{Place}
use Rattle.mq_frame.specs.declared.place.Place.TheVariants.{First}
use Rattle.mq_frame.specs.declared.frame.Setting.{Setting}
use Rattle.mq_frame.specs.declared.frame.Frame.{Frame}
use Rattle.mq_frame.specs.declared.frame.Frame.TheVariants.{Content, Headers, Continuation, Priority, Reset, Settings, Ping, GoAway, Window, Unknown, Fault}
use Rattle.mq_frame.specs.Header.{header_text}
use Rattle.mq_frame.specs.Table.{is_misplaced, settings_fault, or_fault}
use Rattle.mq_frame.specs.Stream.{front_of, is_ended, next_place, FramesOf}

abbrev pub kind_text : Frame → Kind
kind_text (Content stream bytes len end) = kinds.Data
kind_text (Headers stream block end whole) = kinds.Headers
kind_text (Continuation stream block whole) = kinds.Continuation
kind_text (Priority stream) = kinds.Priority
kind_text (Reset stream code) = kinds.Reset
kind_text (Settings ack pairs) = kinds.Settings
kind_text (Ping ack bytes) = kinds.Ping
kind_text (GoAway last code) = kinds.GoAway
kind_text (Window stream grow) = kinds.Window
kind_text (Unknown kind stream) = kinds.Unknown kind
kind_text (Fault code) = kinds.Push

abbrev pub flag : Bool → ℕ → ℕ
flag set bit = if set then bit else 0

abbrev pub flags_text : Frame → ℕ
flags_text (Content stream bytes len end) = flag end end_stream_flag
flags_text (Headers stream block end whole) = flag end end_stream_flag + flag whole end_headers_flag
flags_text (Continuation stream block whole) = flag whole end_headers_flag
flags_text (Settings ack pairs) = flag ack ack_flag
flags_text (Ping ack bytes) = flag ack ack_flag
flags_text frame = 0

abbrev pub stream_text : Frame → ℕ
stream_text (Content stream bytes len end) = stream
stream_text (Headers stream block end whole) = stream
stream_text (Continuation stream block whole) = stream
stream_text (Priority stream) = stream
stream_text (Reset stream code) = stream
stream_text (Window stream grow) = stream
stream_text frame = 0

-- a setting (section 6.5.1)
abbrev pub pair_text : Setting → List ℕ
pair_text s = to_be_bytes w16 s.id ++ to_be_bytes w32 s.value

-- PRIORITY depends on no stream, and has the least weight (section 6.3)
abbrev pub contents_text : Frame → List ℕ
contents_text (Content stream bytes len end) = bytes
contents_text (Headers stream block end whole) = block
contents_text (Continuation stream block whole) = block
contents_text (Priority stream) = 0 ∷ 0 ∷ 0 ∷ 0 ∷ 0 ∷ []
contents_text (Reset stream code) = to_be_bytes w32 code
contents_text (Settings ack pairs) = flat_map pair_text pairs
contents_text (Ping ack bytes) = to_be_bytes w64 bytes
contents_text (GoAway last code) = to_be_bytes w32 last ++ to_be_bytes w32 code
contents_text (Window stream grow) = to_be_bytes w32 grow
contents_text frame = []

unfoldable pub spelling_of : Frame → List ℕ
spelling_of frame = header_text (length (contents_text frame)) (kind_text frame) (flags_text frame) (stream_text frame) ++ contents_text frame

-- how many bytes of contents a frame is written with
abbrev pub contents_len : Frame → ℕ
contents_len (Content stream bytes len end) = length bytes
contents_len (Headers stream block end whole) = length block
contents_len (Continuation stream block whole) = length block
contents_len (Priority stream) = 5
contents_len (Reset stream code) = 4
contents_len (Settings ack pairs) = 6 * length pairs
contents_len (Ping ack bytes) = 8
contents_len (GoAway last code) = 8
contents_len (Window stream grow) = 4
contents_len frame = 0

-- and nine of a header
abbrev pub IsAsLong : Type 0
IsAsLong = (frame : Frame) → length (spelling_of frame) ≡ 9 + contents_len frame

-- what can be written
abbrev pub IsWritable : Frame → Type 0
IsWritable (Content stream bytes len end) = (stream < 2 ^ 31) × (length bytes ≤ max_frame_size) × (len ≡ length bytes)
IsWritable (Headers stream block end whole) = (stream < 2 ^ 31) × (length block ≤ max_frame_size)
IsWritable (Continuation stream block whole) = (stream < 2 ^ 31) × (length block ≤ max_frame_size)
IsWritable (Priority stream) = stream < 2 ^ 31
IsWritable (Reset stream code) = stream < 2 ^ 31
IsWritable (Settings ack pairs) = 6 * length pairs ≤ max_frame_size
IsWritable (Ping ack bytes) = Unit {0}
IsWritable (GoAway last code) = last < 2 ^ 31
IsWritable (Window stream grow) = (stream < 2 ^ 31) × (grow < 2 ^ 31)
IsWritable (Unknown kind stream) = ⊥
IsWritable (Fault code) = ⊥

-- Reading it back. Here numbers have no type, so their bounds are said.
abbrev pub SettingFits : Setting → Type 0
SettingFits s = (s.id < 2 ^ 16) × (s.value < 2 ^ 32)

abbrev pub Fits : Frame → Type 0
Fits (Reset stream code) = code < 2 ^ 32
Fits (Settings ack pairs) = AllByRecursion SettingFits pairs
Fits (Ping ack bytes) = bytes < 2 ^ 64
Fits (GoAway last code) = code < 2 ^ 32
Fits frame = Unit {0}

-- the header that a frame is written with
abbrev pub head_of : Frame → Header
head_of frame = record { length = length (contents_text frame); kind = kind_text frame; flags = flags_text frame; stream = stream_text frame }

-- the error that a frame is for what it says: SETTINGS with ACK and settings, or with a value that isn't
-- allowed, and WINDOW_UPDATE of 0 for the connection
abbrev pub own_fault : Frame → Option ℕ
own_fault (Settings ack pairs) = if ack && nat_lt 0 (length pairs) then Some frame_size_error else settings_fault pairs
own_fault (Window stream grow) = if (grow == 0) && (stream == 0) then Some protocol_error else None
own_fault frame = None

-- what a written frame is at a place: itself, where it is no error there
abbrev pub read_as : Place → Frame → Frame
read_as place frame = if is_misplaced place (head_of frame) then Fault protocol_error else or_fault (own_fault frame) frame

abbrev pub IsReadBack : Type 0
IsReadBack = (place : Place) (frame : Frame) (rest : List ℕ) → is_ended place ≡ false → IsWritable frame → Fits frame
    → front_of place (spelling_of frame ++ rest) ≡ Some (read_as place frame, length (spelling_of frame))

-- frames that can be written one behind the other, none of which is an error where it stands
abbrev pub AreWritten : Place → List Frame → Type 0
AreWritten place [] = Unit {0}
AreWritten place (frame ∷ frames) = IsWritable frame × Fits frame × (read_as place frame ≡ frame) × AreWritten (next_place frame) frames

-- the frames of what was written of a list of frames are that list
abbrev pub AreReadBack : Type 0
AreReadBack = (frames : List Frame) → AreWritten First frames → FramesOf (flat_map spelling_of frames) frames
