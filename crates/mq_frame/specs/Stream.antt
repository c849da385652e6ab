-- The frames of the bytes behind the client's preface, on whole lists (RFC 9113, section 4.1).
use Rattle.std.specs.Prelude.{◌≡◌, ℕ, ◌+◌, List, [], ◌∷◌, length, take, drop, Option, Some, None, Bool, true, false, nat_lt, if◌then◌else◌}
use Rattle.mq_frame.specs.Numbers.{frame_size_error, max_frame_size}
use Rattle.mq_frame.specs.declared.place.Place.{Place}
use Rattle.mq_frame.specs.declared.place.Place.TheVariants.{First, Between, Block, Ended}
use Rattle.mq_frame.specs.declared.frame.Frame.{Frame}
use Rattle.mq_frame.specs.declared.frame.Frame.TheVariants.{Headers, Continuation, Fault}
use Rattle.mq_frame.specs.declared.header.Header.{Header}
use Rattle.mq_frame.specs.Header.{header_of}
use Rattle.mq_frame.specs.Table.{frame_at}

abbrev pub is_ended : Place → Bool
is_ended First = false
is_ended Between = false
is_ended (Block stream) = false
is_ended Ended = true

-- whether a header block goes on behind one of its frames
abbrev pub block_goes_on : ℕ → Bool → Place
block_goes_on stream whole = if whole then Between else Block stream

-- the place behind a frame: in a header block behind HEADERS or CONTINUATION without END_HEADERS
abbrev pub next_place : Frame → Place
next_place (Headers stream block end whole) = block_goes_on stream whole
next_place (Continuation stream block whole) = block_goes_on stream whole
next_place (Fault code) = Ended
next_place frame = Between

-- the frame at the front, where it is whole, or its length is too large, and the number of its bytes
abbrev pub front_by : Place → Header → List ℕ → Option (Frame × ℕ)
front_by place h bytes =
    if nat_lt max_frame_size h.length then Some (Fault frame_size_error, 9)
    else (if nat_lt (length bytes) (9 + h.length) then None
    else Some (frame_at place h (take h.length (drop 9 bytes)), 9 + h.length))

-- the frame at the front; None where more bytes are wanted, or nothing is read any more
unfoldable pub front_of : Place → List ℕ → Option (Frame × ℕ)
front_of place bytes =
    if is_ended place then None
    else (if nat_lt (length bytes) 9 then None
    else front_by place (header_of bytes) bytes)

-- The bytes at a place are these frames, one behind the other, and they lead to this place and this rest,
-- at whose front no frame stands.
abbrev pub AreFrames : Place → List ℕ → List Frame → Place → List ℕ → Type 0
AreFrames place bytes [] last rest = (front_of place bytes ≡ None) × (last ≡ place) × (rest ≡ bytes)
AreFrames place bytes (frame ∷ frames) last rest =
    (used : ℕ) × (front_of place bytes ≡ Some (frame, used)) × AreFrames (next_place frame) (drop used bytes) frames last rest

-- the frames of all bytes so far
abbrev pub FramesOf : List ℕ → List Frame → Type 0
FramesOf bytes frames = (last : Place) × (rest : List ℕ) × AreFrames First bytes frames last rest

-- an unfinished frame was begun, and no error was met
abbrev pub EndsInFrame : List ℕ → Type 0
EndsInFrame bytes = (frames : List Frame) × (last : Place) × (rest : List ℕ)
    × AreFrames First bytes frames last rest × (is_ended last ≡ false) × (nat_lt 0 (length rest) ≡ true)
