-- What the frames of some bytes can be, one by one and one behind the other.
use Rattle.std.specs.Prelude.{◌≡◌, ℕ, ◌*◌, ◌^◌, ◌<◌, ◌≤◌, List, [], ◌∷◌, length, false, ◌⊎◌}
use Rattle.std.specs.List.{All, AllByRecursion}
use Rattle.mq_frame.specs.Numbers.{protocol_error, flow_control_error, frame_size_error, max_frame_size}
use Rattle.mq_frame.specs.declared.place.Place.{Place}
use Rattle.mq_frame.specs.declared.place.Place.TheVariants.{First, Between, Block, Ended}
use Rattle.mq_frame.specs.declared.frame.Frame.{Frame}
use Rattle.mq_frame.specs.declared.frame.Frame.TheVariants.{Content, Headers, Continuation, Priority, Reset, Settings, Ping, GoAway, Window, Unknown, Fault}
use Rattle.mq_frame.specs.Stream.{next_place, FramesOf}
use Rattle.mq_frame.specs.Writing.{Fits}

-- a stream, which isn't the connection (RFC 9113, section 4.1)
abbrev pub IsStream : ℕ → Type 0
IsStream stream = (0 < stream) × (stream < 2 ^ 31)

-- the error of the connection that a frame is for where it stands or what it says (sections 4, 5 and 6)
abbrev pub IsFaultCode : ℕ → Type 0
IsFaultCode code = (code ≡ protocol_error) ⊎ (code ≡ flow_control_error) ⊎ (code ≡ frame_size_error)

-- The numbers of a frame are within their bounds: streams and ids of 31 bits, contents of 16,384 bytes, padding
-- counted, a growth of the connection's window above 0, and an error one of three (sections 4.1, 4.2 and 6).
abbrev pub IsBounded : Frame → Type 0
IsBounded (Content stream bytes len end) = IsStream stream × (length bytes ≤ len) × (len ≤ max_frame_size)
IsBounded (Headers stream block end whole) = IsStream stream × (length block ≤ max_frame_size)
IsBounded (Continuation stream block whole) = IsStream stream × (length block ≤ max_frame_size)
IsBounded (Priority stream) = IsStream stream
IsBounded (Reset stream code) = IsStream stream
IsBounded (Settings ack pairs) = 6 * length pairs ≤ max_frame_size
IsBounded (Ping ack bytes) = Unit {0}
IsBounded (GoAway last code) = last < 2 ^ 31
IsBounded (Window stream grow) = (stream < 2 ^ 31) × (grow < 2 ^ 31) × (stream ≡ 0 → 0 < grow)
IsBounded (Unknown kind stream) = stream < 2 ^ 31
IsBounded (Fault code) = IsFaultCode code

-- A frame may follow at a place: SETTINGS without ACK first (section 3.4); behind a frame without END_HEADERS
-- CONTINUATION of its stream, and nowhere else (section 6.10); an error anywhere, but behind one nothing.
abbrev pub Follows : Place → Frame → Type 0
Follows First (Settings ack pairs) = ack ≡ false
Follows First (Fault code) = Unit {0}
Follows First frame = ⊥
Follows Between (Continuation stream block whole) = ⊥
Follows Between frame = Unit {0}
Follows (Block stream) (Continuation other block whole) = other ≡ stream
Follows (Block stream) (Fault code) = Unit {0}
Follows (Block stream) frame = ⊥
Follows Ended frame = ⊥

-- each frame may follow the one before it
abbrev pub Alternate : Place → List Frame → Type 0
Alternate place [] = Unit {0}
Alternate place (frame ∷ frames) = Follows place frame × Alternate (next_place frame) frames

-- the frames of all bytes are within their bounds
abbrev pub StaysBounded : Type 0
StaysBounded = (bytes : List ℕ) (frames : List Frame) → FramesOf bytes frames → AllByRecursion IsBounded frames

-- and in an order that is allowed
abbrev pub Alternates : Type 0
Alternates = (bytes : List ℕ) (frames : List Frame) → FramesOf bytes frames → Alternate First frames

-- and where the bytes are bytes, their codes, settings and PINGs fit the fields that they are written in
abbrev pub FitsFields : Type 0
FitsFields = (bytes : List ℕ) (frames : List Frame) → All (λ b. b < 2 ^ 8) bytes → FramesOf bytes frames → AllByRecursion Fits frames
