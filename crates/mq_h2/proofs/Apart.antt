-- What a read does and puts is the same whatever was put for writing before.
use Rattle.std.proofs.Common.{◌≡◌, ℕ, Bool, true, false, cond, eqb, ltb, List, [], ◌∷◌, ◌++◌, length, Option, Some, None, Result, Ok, Err, refl, ap, ◌∙◌, subst, inl, inr, append_assoc}
use Rattle.mq_frame.specs.declared.frame.Frame.{Frame}
use Rattle.mq_frame.specs.declared.frame.Frame.TheVariants as frame
use Rattle.mq_frame.specs.declared.frame.Setting.{Setting}
use Rattle.mq_frame.specs.Writing.{spelling_of}
use Rattle.mq_hpack.specs.declared.field.Field.{Field}
use Rattle.mq_hpack.specs.declared.fault.HpackFault.{HpackFault}
use Rattle.mq_hpack.specs.Table.{Table}
use Rattle.mq_streams.specs.History.{History, highest, is_live, has_finished, Dropped, Opened, TurnedAway}
use Rattle.mq_streams.specs.Answers.{is_idle, begun, count_of, after_count, grant_of}
use Rattle.mq_streams.specs.declared.answers.Began.{Began}
use Rattle.mq_streams.specs.declared.answers.Began.TheVariants as began
use Rattle.mq_streams.specs.declared.answers.Counted.{Counted}
use Rattle.mq_streams.specs.declared.answers.Counted.TheVariants as counted
use Rattle.mq_streams.specs.declared.answers.Granted.{Granted}
use Rattle.mq_streams.specs.declared.answers.Granted.TheVariants as granted
use Rattle.mq_h2.specs.declared.block.OpenBlock.{OpenBlock}
use Rattle.mq_h2.specs.declared.event.StreamEvent.{StreamEvent}
use Rattle.mq_h2.specs.declared.event.StreamEvent.TheVariants.{ConnectionError, Malformed, Request, Reset}
use Rattle.mq_h2.specs.Codes.{max_block, fault_code}
use Rattle.mq_h2.specs.Fields.{is_malformed}
use Rattle.mq_h2.specs.State.{State, put}
use Rattle.mq_h2.specs.Frames.{Did, Is, quietly, breaks, turns_away, fails, fails_at, finish, on_data, on_request, on_fields, on_block, OnPart, OnSome, OnHeaders, OnContinuation, on_reset, on_window, shifts, on_settings, on_ping, Does, DoAll}
use Rattle.mq_h2.specs.Reading.{ReadsWhile, drained}
use Rattle.mq_h2.specs.Laws.{over, ReadsApart}

abbrev did_over : List ℕ → ℕ → Did → Did
did_over out given d = record { events = d.events; after = over out given d.after }

-- this came to something behind them, and so it does without them
record Back (R : List StreamEvent → State → Type 0) (out : List ℕ) (given : ℕ) (events : List StreamEvent) (t : State) : Type 0 where
  alone : State
  so : R events alone
  is : t ≡ over out given alone

by_did : (out : List ℕ) (given : ℕ) (x y : Did) (events : List StreamEvent) (t : State) → x ≡ did_over out given y → Is x events t → Back (λ es u. Is y es u) out given events t
by_did out given x y events t same is =
    record { alone = y.after; so = (is.0 ∙ ap (λ (d : Did). d.events) same, refl); is = is.1 ∙ ap (λ (d : Did). d.after) same }

if_did : (b : Bool) (out : List ℕ) (given : ℕ) (x y u v : Did) → x ≡ did_over out given u → y ≡ did_over out given v → cond b x y ≡ did_over out given (cond b u v)
if_did true out given x y u v p q = p
if_did false out given x y u v p q = q

-- ---- what one frame does

breaks_over : (out : List ℕ) (given code : ℕ) (s : State) → breaks code (over out given s) ≡ did_over out given (breaks code s)
breaks_over out given code s =
    let F : List ℕ → Did = λ o. record { events = ConnectionError code ∷ []; after = record s { out = o; given = given; ended = true; block = None } } in
    ap F (append_assoc out s.out (spelling_of (frame.GoAway (highest s.history) code)))

turns_over : (out : List ℕ) (given id code : ℕ) (s : State) → turns_away id code (over out given s) ≡ did_over out given (turns_away id code s)
turns_over out given id code s =
    let F : List ℕ → Did = λ o. record { events = Malformed id code ∷ []; after = record s { out = o; given = given } } in
    ap F (append_assoc out s.out (spelling_of (frame.Reset id code)))

fails_over : (out : List ℕ) (given id code : ℕ) (s : State) → fails id code (over out given s) ≡ did_over out given (fails id code s)
fails_over out given id code s =
    let F : List ℕ → Did = λ o. record { events = Malformed id code ∷ []; after = record s { out = o; given = given; history = Dropped id ∷ s.history } } in
    ap F (append_assoc out s.out (spelling_of (frame.Reset id code)))

fails_at_over : (out : List ℕ) (given id code : ℕ) (s : State) → fails_at id code (over out given s) ≡ did_over out given (fails_at id code s)
fails_at_over out given id code s =
    if_did (eqb id 0) out given (breaks code (over out given s)) (fails id code (over out given s)) (breaks code s) (fails id code s) (breaks_over out given code s) (fails_over out given id code s)

put_quietly : (out : List ℕ) (given : ℕ) (text : List ℕ) (s : State) → quietly (put text (over out given s)) ≡ did_over out given (quietly (put text s))
put_quietly out given text s = ap (λ (o : List ℕ). quietly (record s { out = o; given = given })) (append_assoc out s.out text)

data_over : (k : Counted) (out : List ℕ) (given id : ℕ) (bytes : List ℕ) (len : ℕ) (end : Bool) (s : State) → on_data k id bytes len end (over out given s) ≡ did_over out given (on_data k id bytes len end s)
data_over counted.Yes out given id bytes len end s = refl
data_over counted.Ignored out given id bytes len end s = refl
data_over counted.Idle out given id bytes len end s = breaks_over out given 1 s
data_over counted.OverConnection out given id bytes len end s = breaks_over out given 3 s
data_over counted.OverStream out given id bytes len end s = fails_over out given id 3 (record s { history = after_count counted.OverStream id len s.history })

request_over : (out : List ℕ) (given : ℕ) (fields : List Field) (b : OpenBlock) (s : State) → on_request fields b (over out given s) ≡ did_over out given (on_request fields b s)
request_over out given fields b s =
    let x : State → Did = λ u. record { events = Request b.stream fields b.end ∷ []; after = record u { history = finish b.end b.stream u.history } } in
    if_did (is_malformed fields) out given (fails b.stream 1 (over out given s)) (x (over out given s)) (fails b.stream 1 s) (x s) (fails_over out given b.stream 1 s) refl

fields_over : (k : Began) (out : List ℕ) (given : ℕ) (fields : List Field) (b : OpenBlock) (s : State) → on_fields k fields b (over out given s) ≡ did_over out given (on_fields k fields b s)
fields_over began.Live out given fields b s =
    if_did (is_live b.stream s.history) out given (on_request fields b (over out given s)) (quietly (over out given s)) (on_request fields b s) (quietly s) (request_over out given fields b s) refl
fields_over began.Refused out given fields b s = turns_over out given b.stream 7 s
fields_over began.Old out given fields b s =
    let v : State = over out given s in
    let x : State → Did = λ u. cond (has_finished b.stream s.history) (quietly u) (fails b.stream 1 u) in
    if_did (is_live b.stream s.history) out given (x v) (quietly v) (x s) (quietly s)
    (if_did (has_finished b.stream s.history) out given (quietly v) (fails b.stream 1 v) (quietly s) (fails b.stream 1 s) refl (fails_over out given b.stream 1 s)) refl
fields_over began.BadId out given fields b s = refl

block_over : (r : Result (List Field × Table) HpackFault) (out : List ℕ) (given : ℕ) (b : OpenBlock) (s : State) → on_block r b (over out given s) ≡ did_over out given (on_block r b s)
block_over (Ok x) out given b s = fields_over b.began out given x.0 b (record s { table = x.1; block = None })
block_over (Err fault) out given b s = breaks_over out given (fault_code fault) s

part_back : (whole : Bool) (out : List ℕ) (given : ℕ) (b : OpenBlock) (s : State) (events : List StreamEvent) (t : State) → OnPart whole b (over out given s) events t → Back (λ es u. OnPart whole b s es u) out given events t
part_back true out given b s events t (r, reads, is) =
    let back = by_did out given (on_block r b (over out given s)) (on_block r b s) events t (block_over r out given b s) is in
    record { alone = back.alone; so = (r, reads, back.so); is = back.is }
part_back false out given b s events t is = by_did out given (quietly (record (over out given s) { block = Some b })) (quietly (record s { block = Some b })) events t refl is

some_back : (many whole : Bool) (out : List ℕ) (given : ℕ) (b : OpenBlock) (s : State) (events : List StreamEvent) (t : State) → OnSome many whole b (over out given s) events t
    → Back (λ es u. OnSome many whole b s es u) out given events t
some_back true whole out given b s events t is = by_did out given (breaks 11 (over out given s)) (breaks 11 s) events t (breaks_over out given 11 s) is
some_back false whole out given b s events t is = part_back whole out given b s events t is

headers_back : (k : Began) (out : List ℕ) (given id : ℕ) (block : List ℕ) (end whole : Bool) (s : State) (events : List StreamEvent) (t : State) → OnHeaders k id block end whole (over out given s) events t
    → Back (λ es u. OnHeaders k id block end whole s es u) out given events t
headers_back began.BadId out given id block end whole s events t is = by_did out given (breaks 1 (over out given s)) (breaks 1 s) events t (breaks_over out given 1 s) is
headers_back began.Live out given id block end whole s events t is =
    some_back (ltb max_block (length block)) whole out given (record { stream = id; began = began.Live; end = end; bytes = block }) (record s { history = Opened id ∷ s.history }) events t is
headers_back began.Refused out given id block end whole s events t is =
    some_back (ltb max_block (length block)) whole out given (record { stream = id; began = began.Refused; end = end; bytes = block }) (record s { history = TurnedAway id ∷ s.history }) events t is
headers_back began.Old out given id block end whole s events t is =
    some_back (ltb max_block (length block)) whole out given (record { stream = id; began = began.Old; end = end; bytes = block }) s events t is

continuation_back : (o : Option OpenBlock) (out : List ℕ) (given : ℕ) (block : List ℕ) (whole : Bool) (s : State) (events : List StreamEvent) (t : State) → OnContinuation o block whole (over out given s) events t
    → Back (λ es u. OnContinuation o block whole s es u) out given events t
continuation_back None out given block whole s events t is = by_did out given (breaks 1 (over out given s)) (breaks 1 s) events t (breaks_over out given 1 s) is
continuation_back (Some b) out given block whole s events t is =
    some_back (ltb max_block (length (b.bytes ++ block))) whole out given (record b { bytes = b.bytes ++ block }) s events t is

reset_over : (out : List ℕ) (given id code : ℕ) (s : State) → on_reset id code (over out given s) ≡ did_over out given (on_reset id code s)
reset_over out given id code s =
    let v : State = over out given s in
    let gone : State → Did = λ u. record { events = Reset id code ∷ []; after = record u { history = Dropped id ∷ u.history } } in
    if_did (is_idle id s.history) out given (breaks 1 v) (cond (is_live id s.history) (gone v) (quietly v)) (breaks 1 s) (cond (is_live id s.history) (gone s) (quietly s)) (breaks_over out given 1 s)
    (if_did (is_live id s.history) out given (gone v) (quietly v) (gone s) (quietly s) refl refl)

window_over : (k : Granted) (out : List ℕ) (given id grow : ℕ) (s : State) → on_window k id grow (over out given s) ≡ did_over out given (on_window k id grow s)
window_over granted.Taken out given id grow s = refl
window_over granted.Ignored out given id grow s = refl
window_over granted.Idle out given id grow s = breaks_over out given 1 s
window_over granted.Zero out given id grow s = fails_at_over out given id 1 s
window_over granted.Over out given id grow s = fails_at_over out given id 3 s

settings_over : (ack : Bool) (out : List ℕ) (given : ℕ) (pairs : List Setting) (s : State) → on_settings ack pairs (over out given s) ≡ did_over out given (on_settings ack pairs s)
settings_over true out given pairs s = refl
settings_over false out given pairs s =
    let x : History × Bool = shifts pairs s.history in
    let u : State = record s { history = x.0 } in
    let ack : List ℕ = spelling_of (frame.Settings true []) in
    if_did x.1 out given (quietly (put ack (over out given u))) (breaks 3 (over out given u)) (quietly (put ack u)) (breaks 3 u) (put_quietly out given ack u) (breaks_over out given 3 u)

ping_over : (ack : Bool) (out : List ℕ) (given bytes : ℕ) (s : State) → on_ping ack bytes (over out given s) ≡ did_over out given (on_ping ack bytes s)
ping_over true out given bytes s = refl
ping_over false out given bytes s = put_quietly out given (spelling_of (frame.Ping true bytes)) s

does_back : (f : Frame) (out : List ℕ) (given : ℕ) (s : State) (events : List StreamEvent) (t : State) → Does f (over out given s) events t → Back (λ es u. Does f s es u) out given events t
does_back (frame.Content id bytes len end) out given s events t is = by_did out given _ _ events t (data_over (count_of id len s.history) out given id bytes len end s) is
does_back (frame.Headers id block end whole) out given s events t is = headers_back (begun id s.history) out given id block end whole s events t is
does_back (frame.Continuation id block whole) out given s events t is = continuation_back s.block out given block whole s events t is
does_back (frame.Priority id) out given s events t is = by_did out given (quietly (over out given s)) (quietly s) events t refl is
does_back (frame.Reset id code) out given s events t is = by_did out given _ _ events t (reset_over out given id code s) is
does_back (frame.Settings ack pairs) out given s events t is = by_did out given _ _ events t (settings_over ack out given pairs s) is
does_back (frame.Ping ack bytes) out given s events t is = by_did out given _ _ events t (ping_over ack out given bytes s) is
does_back (frame.GoAway last code) out given s events t is = by_did out given (quietly (over out given s)) (quietly s) events t refl is
does_back (frame.Window id grow) out given s events t is = by_did out given _ _ events t (window_over (grant_of id grow s.history) out given id grow s) is
does_back (frame.Unknown kind id) out given s events t is = by_did out given (quietly (over out given s)) (quietly s) events t refl is
does_back (frame.Fault code) out given s events t is = by_did out given (breaks code (over out given s)) (breaks code s) events t (breaks_over out given code s) is

-- ---- a read

all_back : (fs : List Frame) (out : List ℕ) (given : ℕ) (s : State) (events : List StreamEvent) (t : State) → DoAll fs (over out given s) events t → Back (λ es u. DoAll fs s es u) out given events t
all_back [] out given s events t is = record { alone = s; so = (is.0, refl); is = is.1 }
all_back (f ∷ fs) out given s events t (inl x) = record { alone = s; so = inl (x.0, x.1, refl); is = x.2 }
all_back (f ∷ fs) out given s events t (inr x) =
    let first = does_back f out given s x.1 x.2 x.4 in
    let P : State → Type 0 = λ u. DoAll fs u x.3 t in
    let later = all_back fs out given first.alone x.3 t (subst P first.is x.5) in
    record { alone = later.alone; so = inr (x.0, x.1, first.alone, x.3, first.so, later.so, x.6); is = later.is }

while_back : (ended : Bool) (out : List ℕ) (given : ℕ) (s : State) (piece : List ℕ) (events : List StreamEvent) (t : State) → ReadsWhile ended (over out given s) piece events t
    → Back (λ es u. ReadsWhile ended s piece es u) out given events t
while_back true out given s piece events t is = record { alone = s; so = (is.0, refl); is = is.1 }
while_back false out given s piece events t is =
    let back = all_back is.frames out given s is.told is.met is.did in
    let after : State → State = λ u. record u { read = s.read ++ piece; history = drained is.told is.told u.history } in
    record {
      alone = after back.alone;
      so = record { earlier = is.earlier; frames = is.frames; were = is.were; are = is.are; told = is.told; met = back.alone; did = back.so; events_are = is.events_are; state_is = refl };
      is = is.state_is ∙ ap after back.is;
    }

pub reads_apart : ReadsApart
reads_apart out given s piece events t is = let back = while_back s.ended out given s piece events t is in record { alone = back.alone; reads = back.so; is = back.is }
