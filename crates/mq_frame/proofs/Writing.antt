-- Spellings are read as their frames.
use Rattle.std.proofs.Common.{◌≡◌, ℕ, ◌+◌, ◌-◌, ◌*◌, ◌^◌, ◌%◌, ◌<◌, ◌≤◌, Bool, true, false, cond, ltb, eqb, ◌||◌, ◌&&◌, List, [], ◌∷◌, ◌++◌, length, take, Option, Some, None, drop, refl, sym, ap, subst, ◌∙◌, arith}
use Rattle.std.specs.List.{flat_map, AllByRecursion}
use Rattle.std.specs.Int.{w32, w64, byte_at, to_be_bytes, from_be_bytes}
use Rattle.std.proofs.Math.Seq.{drop-append_seam}
use Rattle.std.proofs.lemmas.Nat.{from_be_bytes-to_be_bytes_2, from_be_bytes-to_be_bytes_4, from_be_bytes-to_be_bytes_8}
use Rattle.std.proofs.lemmas.Bool.{le-ltb, lt-ltb, eq-eqb}
use Rattle.std.proofs.lemmas.List.{length-append, take_all}
use Rattle.mq_frame.specs.Numbers.{protocol_error, frame_size_error, ack_flag, max_frame_size}
use Rattle.mq_frame.specs.declared.kind.Kind.{Kind}
use Rattle.mq_frame.specs.declared.kind.Kind.TheVariants as kinds
use Rattle.mq_frame.specs.declared.header.Header.{Header}
use Rattle.mq_frame.specs.declared.place.Place.{Place}
use Rattle.mq_frame.specs.declared.place.Place.TheVariants.{First}
use Rattle.mq_frame.specs.declared.frame.Setting.{Setting}
use Rattle.mq_frame.specs.declared.frame.Frame.{Frame}
use Rattle.mq_frame.specs.declared.frame.Frame.TheVariants.{Content, Headers, Continuation, Priority, Reset, Settings, Ping, GoAway, Window, Unknown, Fault}
use Rattle.mq_frame.specs.Header.{header_of, header_text, kind_of, byte_of}
use Rattle.mq_frame.specs.Table.{judged, frame_at, is_misplaced, isnt_first, breaks_block, is_push, lacks_stream, has_stream, pairs_of, setting_at, settings_fault, or_fault}
use Rattle.mq_frame.specs.Stream.{front_of, is_ended, next_place, AreFrames, FramesOf}
use Rattle.mq_frame.specs.Writing.{pair_text, flag, spelling_of, contents_text, kind_text, flags_text, stream_text, head_of, own_fault, read_as, contents_len, AreWritten, IsWritable, Fits, SettingFits}
use Rattle.mq_frame.proofs.Fronts.{front_short, front_whole}
use Rattle.mq_frame.proofs.Streams.{front_keeps}

-- six bytes a setting
pub pairs_len : (pairs : List Setting) → length (flat_map pair_text pairs) ≡ 6 * length pairs
pairs_len [] = refl
pairs_len (s ∷ pairs) = omega (arith, pairs_len pairs, length-append (pair_text s) (flat_map pair_text pairs))

pub settings_text : (ack : Bool) (pairs : List Setting)
    → header_text (6 * length pairs) kinds.Settings (flag ack ack_flag) 0 ++ flat_map pair_text pairs ≡ spelling_of (Settings ack pairs)
unfolding spelling_of
settings_text ack pairs = ap (λ (n : ℕ). header_text n kinds.Settings (flag ack ack_flag) 0 ++ flat_map pair_text pairs) (sym (pairs_len pairs))

-- nine bytes and the contents
pub text_len : (frame : Frame) → length (spelling_of frame) ≡ 9 + length (contents_text frame)
unfolding spelling_of
text_len frame =
    let text = header_text (length (contents_text frame)) (kind_text frame) (flags_text frame) (stream_text frame) in
    omega (arith, length-append text (contents_text frame))

pub spelling_len : (frame : Frame) → length (spelling_of frame) ≡ 9 + contents_len frame
spelling_len (Content stream bytes len end) = text_len (Content stream bytes len end)
spelling_len (Headers stream block end whole) = text_len (Headers stream block end whole)
spelling_len (Continuation stream block whole) = text_len (Continuation stream block whole)
spelling_len (Priority stream) = text_len (Priority stream)
spelling_len (Reset stream code) = text_len (Reset stream code)
spelling_len (Settings ack pairs) = omega (arith, text_len (Settings ack pairs), pairs_len pairs)
spelling_len (Ping ack bytes) = text_len (Ping ack bytes)
spelling_len (GoAway last code) = text_len (GoAway last code)
spelling_len (Window stream grow) = text_len (Window stream grow)
spelling_len (Unknown kind stream) = text_len (Unknown kind stream)
spelling_len (Fault code) = text_len (Fault code)

same_header : (len len' : ℕ) (kind kind' : Kind) (flags stream stream' : ℕ) → len ≡ len' → kind ≡ kind' → stream ≡ stream'
    → ◌≡◌ {A = Header} (record { length = len; kind = kind; flags = flags; stream = stream }) (record { length = len'; kind = kind'; flags = flags; stream = stream' })
same_header len len' kind kind' flags stream stream' p q r = cc

-- A header is read back.
pub header_back : (n : ℕ) (kind : Kind) (flags stream : ℕ) (rest : List ℕ) → n < 2 ^ 24 → stream < 2 ^ 31 → kind_of (byte_of kind) ≡ kind
    → header_of (header_text n kind flags stream ++ rest) ≡ record { length = n; kind = kind; flags = flags; stream = stream }
unfolding header_of
header_back n kind flags stream rest small id known =
    let high : byte_at 3 n ≡ 0 = omega arith in
    let len : from_be_bytes w32 (0 ∷ byte_at 2 n ∷ byte_at 1 n ∷ byte_at 0 n ∷ []) ≡ n =
    ap (λ (b : ℕ). from_be_bytes w32 (b ∷ byte_at 2 n ∷ byte_at 1 n ∷ byte_at 0 n ∷ [])) (sym high) ∙ from_be_bytes-to_be_bytes_4 n (omega arith) in
    let id_is : from_be_bytes w32 (to_be_bytes w32 stream) % 2 ^ 31 ≡ stream =
    ap (λ (s : ℕ). s % 2 ^ 31) (from_be_bytes-to_be_bytes_4 stream (omega arith)) ∙ omega arith in
    same_header _ n _ kind flags _ stream len known id_is

-- The errors of the place, in one test.
chain : (a b c d e : Bool) (x y : Frame) → cond a x (cond b x (cond c x (cond d x (cond e x y)))) ≡ cond (a || b || c || d || e) x y
chain true b c d e x y = refl
chain false true c d e x y = refl
chain false false true d e x y = refl
chain false false false true e x y = refl
chain false false false false true x y = refl
chain false false false false false x y = refl

pub place_first : (place : Place) (h : Header) (contents : List ℕ) (other : Frame) → judged h.kind h contents ≡ other
    → frame_at place h contents ≡ cond (is_misplaced place h) (Fault protocol_error) other
unfolding frame_at
place_first place h contents other e =
    chain (isnt_first place h) (breaks_block place h) (is_push h.kind) (lacks_stream h.kind h.stream) (has_stream h.kind h.stream) (Fault protocol_error) (judged h.kind h contents)
    ∙ ap (λ (f : Frame). cond (is_misplaced place h) (Fault protocol_error) f) e

-- What each frame's contents are read as.
no_fields : (n : ℕ) → ltb n 0 ≡ false
no_fields n = le-ltb n 0 (omega arith)

all_of : (bytes : List ℕ) → take (length bytes - 0) bytes ≡ bytes
all_of bytes = take_all (length bytes - 0) bytes (omega arith)

data_back : (stream : ℕ) (bytes : List ℕ) (len : ℕ) (end : Bool) → len ≡ length bytes
    → judged kinds.Data (head_of (Content stream bytes len end)) bytes ≡ Content stream bytes len end
unfolding judged
data_back stream bytes len true e = rw (no_fields (length bytes), all_of bytes, ← e) refl
data_back stream bytes len false e = rw (no_fields (length bytes), all_of bytes, ← e) refl

headers_back : (stream : ℕ) (block : List ℕ) (end whole : Bool)
    → judged kinds.Headers (head_of (Headers stream block end whole)) block ≡ Headers stream block end whole
unfolding judged
headers_back stream block true true = rw (no_fields (length block), all_of block) refl
headers_back stream block true false = rw (no_fields (length block), all_of block) refl
headers_back stream block false true = rw (no_fields (length block), all_of block) refl
headers_back stream block false false = rw (no_fields (length block), all_of block) refl

continuation_back : (stream : ℕ) (block : List ℕ) (whole : Bool)
    → judged kinds.Continuation (head_of (Continuation stream block whole)) block ≡ Continuation stream block whole
unfolding judged
continuation_back stream block true = rw (no_fields (length block)) refl
continuation_back stream block false = rw (no_fields (length block)) refl

reset_back : (stream code : ℕ) → code < 2 ^ 32 → judged kinds.Reset (head_of (Reset stream code)) (to_be_bytes w32 code) ≡ Reset stream code
unfolding judged
reset_back stream code l = ap (Reset stream) (from_be_bytes-to_be_bytes_4 code l)

ping_back : (ack : Bool) (bytes : ℕ) → bytes < 2 ^ 64 → judged kinds.Ping (head_of (Ping ack bytes)) (to_be_bytes w64 bytes) ≡ Ping ack bytes
unfolding judged
ping_back true bytes l = ap (Ping true) (from_be_bytes-to_be_bytes_8 bytes l)
ping_back false bytes l = ap (Ping false) (from_be_bytes-to_be_bytes_8 bytes l)

low : (n : ℕ) → n < 2 ^ 31 → from_be_bytes w32 (to_be_bytes w32 n) % 2 ^ 31 ≡ n
low n l = ap (λ (s : ℕ). s % 2 ^ 31) (from_be_bytes-to_be_bytes_4 n (omega arith)) ∙ omega arith

goaway_back : (last code : ℕ) → last < 2 ^ 31 → code < 2 ^ 32
    → judged kinds.GoAway (head_of (GoAway last code)) (to_be_bytes w32 last ++ to_be_bytes w32 code) ≡ GoAway last code
unfolding judged
goaway_back last code l m =
    ap (λ (n : ℕ). GoAway n (from_be_bytes w32 (to_be_bytes w32 code))) (low last l) ∙ ap (GoAway last) (from_be_bytes-to_be_bytes_4 code m)

one_fault : (b : Bool) (code : ℕ) (other : Option ℕ) (f : Frame) → cond b (Fault code) (or_fault other f) ≡ or_fault (cond b (Some code) other) f
one_fault true code other f = refl
one_fault false code other f = refl

window_back : (stream grow : ℕ) → grow < 2 ^ 31
    → judged kinds.Window (head_of (Window stream grow)) (to_be_bytes w32 grow) ≡ or_fault (own_fault (Window stream grow)) (Window stream grow)
unfolding judged
window_back stream grow l =
    let same = low grow l in
    ap (λ (n : ℕ). cond (eqb n 0 && eqb stream 0) (Fault protocol_error) (Window stream n)) same
    ∙ one_fault (eqb grow 0 && eqb stream 0) protocol_error None (Window stream grow)

-- Settings.
same_setting : (id id' value value' : ℕ) → id ≡ id' → value ≡ value'
    → ◌≡◌ {A = Setting} (record { id = id; value = value }) (record { id = id'; value = value' })
same_setting id id' value value' p q = cc

setting_back : (s : Setting) → SettingFits s → setting_at (pair_text s) ≡ s
unfolding setting_at
setting_back s fits =
    same_setting _ s.id _ s.value (from_be_bytes-to_be_bytes_2 s.id fits.0) (from_be_bytes-to_be_bytes_4 s.value fits.1)

pairs_again : (pairs : List Setting) → AllByRecursion SettingFits pairs → pairs_of (flat_map pair_text pairs) ≡ pairs
pairs_again [] fits = refl
pairs_again (s ∷ pairs) fits =
    ap (λ (first : Setting). first ∷ pairs_of (flat_map pair_text pairs)) (setting_back s fits.0) ∙ ap (λ (more : List Setting). s ∷ more) (pairs_again pairs fits.1)

some_pairs : (pairs : List Setting) → ltb 0 (length (flat_map pair_text pairs)) ≡ ltb 0 (length pairs)
some_pairs [] = refl
some_pairs (s ∷ pairs) =
    lt-ltb 0 (length (flat_map pair_text (s ∷ pairs))) (omega (arith, pairs_len (s ∷ pairs))) ∙ sym (lt-ltb 0 (length (s ∷ pairs)) (omega arith))

sixes : (pairs : List Setting) → eqb (length (flat_map pair_text pairs) % 6) 0 ≡ true
sixes pairs = eq-eqb _ 0 (omega (arith, pairs_len pairs))

or_false : (b : Bool) → (b || false) ≡ b
or_false true = refl
or_false false = refl

settings_back : (ack : Bool) (pairs : List Setting) → AllByRecursion SettingFits pairs
    → judged kinds.Settings (head_of (Settings ack pairs)) (flat_map pair_text pairs) ≡ or_fault (own_fault (Settings ack pairs)) (Settings ack pairs)
unfolding judged
settings_back true pairs fits =
    rw (no_fields (length (flat_map pair_text pairs)), sixes pairs, some_pairs pairs, pairs_again pairs fits, or_false (ltb 0 (length pairs)))
    (one_fault (ltb 0 (length pairs)) frame_size_error (settings_fault pairs) (Settings true pairs))
settings_back false pairs fits = rw (no_fields (length (flat_map pair_text pairs)), sixes pairs, pairs_again pairs fits) refl

-- What a frame's contents are read as, where its place allows it.
frame_back : (frame : Frame) → IsWritable frame → Fits frame → judged (kind_text frame) (head_of frame) (contents_text frame) ≡ or_fault (own_fault frame) frame
frame_back (Content stream bytes len end) w f = data_back stream bytes len end w.2
frame_back (Headers stream block end whole) w f = headers_back stream block end whole
frame_back (Continuation stream block whole) w f = continuation_back stream block whole
frame_back (Priority stream) w f = unfold judged in refl
frame_back (Reset stream code) w f = reset_back stream code f
frame_back (Settings ack pairs) w f = settings_back ack pairs f
frame_back (Ping ack bytes) w f = ping_back ack bytes f
frame_back (GoAway last code) w f = goaway_back last code w f
frame_back (Window stream grow) w f = window_back stream grow w.1
frame_back (Unknown kind stream) w f = absurd w
frame_back (Fault code) w f = absurd w

-- what is written can be a header's
record IsHead (frame : Frame) : Type 0 where
  pub short : length (contents_text frame) ≤ max_frame_size
  pub id : stream_text frame < 2 ^ 31
  pub known : kind_of (byte_of (kind_text frame)) ≡ kind_text frame

is_head : (frame : Frame) → IsWritable frame → IsHead frame
is_head (Content stream bytes len end) w = record { short = w.1; id = w.0; known = refl }
is_head (Headers stream block end whole) w = record { short = w.1; id = w.0; known = refl }
is_head (Continuation stream block whole) w = record { short = w.1; id = w.0; known = refl }
is_head (Priority stream) w = record { short = omega arith; id = w; known = refl }
is_head (Reset stream code) w = record { short = omega arith; id = w; known = refl }
is_head (Settings ack pairs) w = record { short = omega (arith, pairs_len pairs); id = omega arith; known = refl }
is_head (Ping ack bytes) w = record { short = omega arith; id = omega arith; known = refl }
is_head (GoAway last code) w = record { short = omega arith; id = omega arith; known = refl }
is_head (Window stream grow) w = record { short = omega arith; id = w.0; known = refl }
is_head (Unknown kind stream) w = absurd w
is_head (Fault code) w = absurd w

-- What was written is read back.
pub read_back : (place : Place) (frame : Frame) (rest : List ℕ) → is_ended place ≡ false → IsWritable frame → Fits frame
    → front_of place (spelling_of frame ++ rest) ≡ Some (read_as place frame, length (spelling_of frame))
unfolding spelling_of
read_back place frame rest on writable fits =
    let head = is_head frame writable in
    let contents = contents_text frame in
    let text = header_text (length contents) (kind_text frame) (flags_text frame) (stream_text frame) in
    let all = text ++ contents in
    let len : length all ≡ 9 + length contents = omega (arith, length-append text contents) in
    let header = header_back (length contents) (kind_text frame) (flags_text frame) (stream_text frame) contents (omega (arith, head.short)) head.id head.known in
    let front = front_whole place all (head_of frame) on (omega arith) (sym header) head.short len in
    let named = place_first place (head_of frame) contents (or_fault (own_fault frame) frame) (frame_back frame writable fits) in
    let alone : front_of place all ≡ Some (read_as place frame, length all) = front ∙ ap (λ (f : Frame). Some (f, length all)) named in
    (front_keeps place all rest (read_as place frame) (length all) alone).1

-- Lists of frames.

-- nothing that can be written ends the reading
written_on : (frame : Frame) → IsWritable frame → is_ended (next_place frame) ≡ false
written_on (Content stream bytes len end) w = refl
written_on (Headers stream block end true) w = refl
written_on (Headers stream block end false) w = refl
written_on (Continuation stream block true) w = refl
written_on (Continuation stream block false) w = refl
written_on (Priority stream) w = refl
written_on (Reset stream code) w = refl
written_on (Settings ack pairs) w = refl
written_on (Ping ack bytes) w = refl
written_on (GoAway last code) w = refl
written_on (Window stream grow) w = refl
written_on (Unknown kind stream) w = absurd w
written_on (Fault code) w = absurd w

place_behind : Place → List Frame → Place
place_behind place [] = place
place_behind place (frame ∷ frames) = place_behind (next_place frame) frames

all_read_back : (place : Place) (frames : List Frame) → is_ended place ≡ false → AreWritten place frames
    → AreFrames place (flat_map spelling_of frames) frames (place_behind place frames) []
unfolding place_behind
all_read_back place [] on written = (front_short place [] (omega arith), refl, refl)
all_read_back place (frame ∷ frames) on written =
    let more = flat_map spelling_of frames in
    let text = spelling_of frame in
    let back : front_of place (text ++ more) ≡ Some (frame, length text) =
    read_back place frame more on written.0 written.1 ∙ ap (λ (f : Frame). Some (f, length text)) written.2 in
    let behind : drop (length text) (text ++ more) ≡ more = drop-append_seam text more in
    let P : List ℕ → Type 0 = λ b. AreFrames (next_place frame) b frames (place_behind (next_place frame) frames) [] in
    (length text, back, subst P (sym behind) (all_read_back (next_place frame) frames (written_on frame written.0) written.3))

pub list_back : (frames : List Frame) → AreWritten First frames → FramesOf (flat_map spelling_of frames) frames
list_back frames written = (place_behind First frames, [], all_read_back First frames refl written)
