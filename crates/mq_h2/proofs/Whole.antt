-- What each thing that is done puts for writing is whole frames.
use Rattle.std.proofs.Common.{◌≡◌, ℕ, Bool, true, false, cond, eqb, ltb, List, [], ◌∷◌, ◌++◌, length, Option, Some, None, Result, Ok, Err, refl, sym, ap, subst, ◌∙◌, inl, inr}
use Rattle.std.specs.List.{flat_map}
use Rattle.std.proofs.lemmas.List.{append-nil, append_assoc}
use Rattle.std.proofs.lemmas.Grind.{flat_map-append}
use Rattle.mq_frame.specs.declared.frame.Frame.{Frame}
use Rattle.mq_frame.specs.declared.frame.Frame.TheVariants as frame
use Rattle.mq_frame.specs.declared.frame.Setting.{Setting}
use Rattle.mq_frame.specs.Writing.{spelling_of}
use Rattle.mq_hpack.specs.declared.field.Field.{Field}
use Rattle.mq_hpack.specs.declared.fault.HpackFault.{HpackFault}
use Rattle.mq_hpack.specs.Table.{Table}
use Rattle.mq_hpack.specs.Writing.{block_text}
use Rattle.mq_streams.specs.History.{History, is_live, has_finished, Dropped, Opened, TurnedAway}
use Rattle.mq_streams.specs.Answers.{is_idle, begun, count_of, after_count, grant_of, next_update}
use Rattle.mq_streams.specs.declared.answers.Began.{Began}
use Rattle.mq_streams.specs.declared.answers.Began.TheVariants as began
use Rattle.mq_streams.specs.declared.answers.Counted.{Counted}
use Rattle.mq_streams.specs.declared.answers.Counted.TheVariants as counted
use Rattle.mq_streams.specs.declared.answers.Granted.{Granted}
use Rattle.mq_streams.specs.declared.answers.Granted.TheVariants as granted
use Rattle.mq_h2.specs.declared.block.OpenBlock.{OpenBlock}
use Rattle.mq_h2.specs.declared.event.StreamEvent.{StreamEvent}
use Rattle.mq_h2.specs.declared.event.StreamEvent.TheVariants.{Request, Reset}
use Rattle.mq_h2.specs.Acts.{ending_text, ends, ends_if, responds, sends, ends_stream, resets_stream, where_live, gives_back, updates, ends_act}
use Rattle.mq_h2.specs.Codes.{max_block, fault_code}
use Rattle.mq_h2.specs.Fields.{is_malformed}
use Rattle.mq_h2.specs.State.{State, put, owed}
use Rattle.mq_h2.specs.Frames.{Did, Is, quietly, breaks, turns_away, fails, fails_at, finish, on_data, on_request, on_fields, on_block, OnSome, OnHeaders, OnContinuation, on_reset, on_window, shifts, on_settings, on_ping, Does, DoAll}
use Rattle.mq_h2.specs.Reading.{ReadTo, ReadsWhile}
use Rattle.mq_h2.specs.Laws.{PutsFrames}

none : (s t : State) → t.out ≡ s.out → PutsFrames s t
none s t is = record { frames = []; put = is ∙ sym (append-nil s.out) }

one : (f : Frame) (s t : State) → t.out ≡ s.out ++ spelling_of f → PutsFrames s t
one f s t is = record { frames = f ∷ []; put = is ∙ ap (λ (bytes : List ℕ). s.out ++ bytes) (sym (append-nil (spelling_of f))) }

both : (s m t : State) → PutsFrames s m → PutsFrames m t → PutsFrames s t
both s m t a b = record {
  frames = a.frames ++ b.frames;
  put =
      b.put ∙ ap (λ (bytes : List ℕ). bytes ++ flat_map spelling_of b.frames) a.put
      ∙ append_assoc s.out (flat_map spelling_of a.frames) (flat_map spelling_of b.frames)
      ∙ ap (λ (bytes : List ℕ). s.out ++ bytes) (sym (flat_map-append spelling_of a.frames b.frames));
}

by_did : (s : State) (did : Did) (events : List StreamEvent) (t : State) → Is did events t → PutsFrames s did.after → PutsFrames s t
by_did s did events t is puts = subst (λ (u : State). PutsFrames s u) (sym is.1) puts

if_did : (b : Bool) (s : State) (x y : Did) → PutsFrames s x.after → PutsFrames s y.after → PutsFrames s (cond b x y).after
if_did true s x y a c = a
if_did false s x y a c = c

-- Reading.

breaks_put : (code : ℕ) (s t : State) → t.out ≡ s.out → PutsFrames s (breaks code t).after
breaks_put code s t is = both s t (breaks code t).after (none s t is) (one (frame.GoAway _ code) t (breaks code t).after refl)

fails_put : (id code : ℕ) (s t : State) → t.out ≡ s.out → PutsFrames s (fails id code t).after
fails_put id code s t is = both s t (fails id code t).after (none s t is) (one (frame.Reset id code) t (fails id code t).after refl)

fails_at_put : (id code : ℕ) (s : State) → PutsFrames s (fails_at id code s).after
fails_at_put id code s = if_did (eqb id 0) s (breaks code s) (fails id code s) (breaks_put code s s refl) (fails_put id code s s refl)

data_puts : (k : Counted) (id : ℕ) (bytes : List ℕ) (len : ℕ) (end : Bool) (s : State) → PutsFrames s (on_data k id bytes len end s).after
data_puts counted.Yes id bytes len end s = none s (on_data counted.Yes id bytes len end s).after refl
data_puts counted.Ignored id bytes len end s = none s (on_data counted.Ignored id bytes len end s).after refl
data_puts counted.Idle id bytes len end s = breaks_put 1 s s refl
data_puts counted.OverConnection id bytes len end s = breaks_put 3 s s refl
data_puts counted.OverStream id bytes len end s = fails_put id 3 s (record s { history = after_count counted.OverStream id len s.history }) refl

request_puts : (fields : List Field) (b : OpenBlock) (s t : State) → t.out ≡ s.out → PutsFrames s (on_request fields b t).after
request_puts fields b s t is =
    if_did (is_malformed fields) s (fails b.stream 1 t) (record { events = Request b.stream fields b.end ∷ []; after = record t { history = finish b.end b.stream t.history } })
    (fails_put b.stream 1 s t is) (none s (record t { history = finish b.end b.stream t.history }) is)

fields_put : (k : Began) (fields : List Field) (b : OpenBlock) (s t : State) → t.out ≡ s.out → PutsFrames s (on_fields k fields b t).after
fields_put began.Live fields b s t is = if_did (is_live b.stream t.history) s (on_request fields b t) (quietly t) (request_puts fields b s t is) (none s t is)
fields_put began.Refused fields b s t is =
    both s t (turns_away b.stream 7 t).after (none s t is) (one (frame.Reset b.stream 7) t (turns_away b.stream 7 t).after refl)
fields_put began.Old fields b s t is =
    if_did (is_live b.stream t.history) s (cond (has_finished b.stream t.history) (quietly t) (fails b.stream 1 t)) (quietly t)
    (if_did (has_finished b.stream t.history) s (quietly t) (fails b.stream 1 t) (none s t is) (fails_put b.stream 1 s t is)) (none s t is)
fields_put began.BadId fields b s t is = none s t is

block_puts : (r : Result (List Field × Table) HpackFault) (b : OpenBlock) (s t : State) → t.out ≡ s.out → PutsFrames s (on_block r b t).after
block_puts (Ok x) b s t is = fields_put b.began x.0 b s (record t { table = x.1; block = None }) is
block_puts (Err fault) b s t is = breaks_put (fault_code fault) s t is

some_puts : (many whole : Bool) (b : OpenBlock) (s m : State) (events : List StreamEvent) (t : State) → m.out ≡ s.out → OnSome many whole b m events t → PutsFrames s t
some_puts true whole b s m events t same is = by_did s (breaks 11 m) events t is (breaks_put 11 s m same)
some_puts false true b s m events t same is = by_did s (on_block is.0 b m) events t is.2 (block_puts is.0 b s m same)
some_puts false false b s m events t same is = by_did s (quietly (record m { block = Some b })) events t is (none s (record m { block = Some b }) same)

headers_put : (k : Began) (id : ℕ) (block : List ℕ) (end whole : Bool) (s : State) (events : List StreamEvent) (t : State) → OnHeaders k id block end whole s events t → PutsFrames s t
headers_put began.BadId id block end whole s events t is = by_did s (breaks 1 s) events t is (breaks_put 1 s s refl)
headers_put began.Live id block end whole s events t is =
    some_puts (ltb max_block (length block)) whole (record { stream = id; began = began.Live; end = end; bytes = block }) s (record s { history = Opened id ∷ s.history }) events t refl is
headers_put began.Refused id block end whole s events t is =
    some_puts (ltb max_block (length block)) whole (record { stream = id; began = began.Refused; end = end; bytes = block }) s (record s { history = TurnedAway id ∷ s.history }) events t refl is
headers_put began.Old id block end whole s events t is =
    some_puts (ltb max_block (length block)) whole (record { stream = id; began = began.Old; end = end; bytes = block }) s s events t refl is

continuation_puts : (b : Option OpenBlock) (block : List ℕ) (whole : Bool) (s : State) (events : List StreamEvent) (t : State) → OnContinuation b block whole s events t → PutsFrames s t
continuation_puts None block whole s events t is = by_did s (breaks 1 s) events t is (breaks_put 1 s s refl)
continuation_puts (Some b) block whole s events t is =
    some_puts (ltb max_block (length (b.bytes ++ block))) whole (record b { bytes = b.bytes ++ block }) s s events t refl is

reset_puts : (id code : ℕ) (s : State) → PutsFrames s (on_reset id code s).after
reset_puts id code s =
    let gone : Did = record { events = Reset id code ∷ []; after = record s { history = Dropped id ∷ s.history } } in
    if_did (is_idle id s.history) s (breaks 1 s) (cond (is_live id s.history) gone (quietly s)) (breaks_put 1 s s refl)
    (if_did (is_live id s.history) s gone (quietly s) (none s gone.after refl) (none s s refl))

window_puts : (k : Granted) (id grow : ℕ) (s : State) → PutsFrames s (on_window k id grow s).after
window_puts granted.Taken id grow s = none s (on_window granted.Taken id grow s).after refl
window_puts granted.Ignored id grow s = none s s refl
window_puts granted.Idle id grow s = breaks_put 1 s s refl
window_puts granted.Zero id grow s = fails_at_put id 1 s
window_puts granted.Over id grow s = fails_at_put id 3 s

settings_put : (ack : Bool) (pairs : List Setting) (s : State) → PutsFrames s (on_settings ack pairs s).after
settings_put true pairs s = none s s refl
settings_put false pairs s =
    let x : History × Bool = shifts pairs s.history in
    let t : State = record s { history = x.0 } in
    let u : State = put (spelling_of (frame.Settings true [])) t in
    if_did x.1 s (quietly u) (breaks 3 t) (one (frame.Settings true []) s u refl) (breaks_put 3 s t refl)

ping_puts : (ack : Bool) (bytes : ℕ) (s : State) → PutsFrames s (on_ping ack bytes s).after
ping_puts true bytes s = none s s refl
ping_puts false bytes s = one (frame.Ping true bytes) s (on_ping false bytes s).after refl

does_put : (f : Frame) (s : State) (events : List StreamEvent) (t : State) → Does f s events t → PutsFrames s t
does_put (frame.Content id bytes len end) s events t is = by_did s _ events t is (data_puts (count_of id len s.history) id bytes len end s)
does_put (frame.Headers id block end whole) s events t is = headers_put (begun id s.history) id block end whole s events t is
does_put (frame.Continuation id block whole) s events t is = continuation_puts s.block block whole s events t is
does_put (frame.Priority id) s events t is = by_did s (quietly s) events t is (none s s refl)
does_put (frame.Reset id code) s events t is = by_did s _ events t is (reset_puts id code s)
does_put (frame.Settings ack pairs) s events t is = by_did s _ events t is (settings_put ack pairs s)
does_put (frame.Ping ack bytes) s events t is = by_did s _ events t is (ping_puts ack bytes s)
does_put (frame.GoAway last code) s events t is = by_did s (quietly s) events t is (none s s refl)
does_put (frame.Window id grow) s events t is = by_did s _ events t is (window_puts (grant_of id grow s.history) id grow s)
does_put (frame.Unknown kind id) s events t is = by_did s (quietly s) events t is (none s s refl)
does_put (frame.Fault code) s events t is = by_did s (breaks code s) events t is (breaks_put code s s refl)

all_put : (fs : List Frame) (s : State) (events : List StreamEvent) (t : State) → DoAll fs s events t → PutsFrames s t
all_put [] s events t is = by_did s (quietly s) events t is (none s s refl)
all_put (f ∷ fs) s events t is =
    elim is [
      | inl x ↦ by_did s (quietly s) events t (x.1, x.2) (none s s refl)
      | inr x ↦ both s x.2 t (does_put f s x.1 x.2 x.4) (all_put fs x.2 x.3 t x.5)
    ]

while_puts : (ended : Bool) (s : State) (piece : List ℕ) (events : List StreamEvent) (t : State) → ReadsWhile ended s piece events t → PutsFrames s t
while_puts true s piece events t is = subst (λ (u : State). PutsFrames s u) (sym is.1) (none s s refl)
while_puts false s piece events t is =
    let p = all_put is.frames s is.told is.met is.did in
    record { frames = p.frames; put = subst (λ (u : State). u.out ≡ s.out ++ flat_map spelling_of p.frames) (sym is.state_is) p.put }

pub read_puts : (s : State) (piece : List ℕ) (events : List StreamEvent) (t : State) → ReadTo s piece events t → PutsFrames s t
read_puts s piece events t is = while_puts s.ended s piece events t is

-- The other acts.

ending_puts : (finished : Bool) (id : ℕ) (s t : State) → t.out ≡ s.out ++ ending_text finished id → PutsFrames s t
ending_puts true id s t is = record { frames = []; put = is }
ending_puts false id s t is = one (frame.Reset id 0) s t is

ends_put : (id : ℕ) (s : State) → PutsFrames s (ends id s)
ends_put id s = ending_puts (has_finished id s.history) id s (ends id s) refl

ends_if_put : (end : Bool) (id : ℕ) (s : State) → PutsFrames s (ends_if end id s)
ends_if_put true id s = ends_put id s
ends_if_put false id s = none s s refl

pub respond_puts : (id : ℕ) (fields : List Field) (end : Bool) (s : State) → PutsFrames s (responds id fields end s)
respond_puts id fields end s =
    let block : List ℕ = block_text s.owes_limit fields in
    let f : Frame = frame.Headers id block end true in
    let m : State = record s { out = s.out ++ spelling_of f; owes_limit = false } in
    both s m (ends_if end id m) (one f s m refl) (ends_if_put end id m)

if_state : (b : Bool) (s x y : State) → PutsFrames s x → PutsFrames s y → PutsFrames s (cond b x y)
if_state true s x y a c = a
if_state false s x y a c = c

sends_put : (id : ℕ) (bytes : List ℕ) (s : State) → PutsFrames s (sends id bytes s)
sends_put id bytes s =
    let f : Frame = frame.Content id bytes (length bytes) false in
    if_state (ltb 0 (length bytes)) s _ s (one f s _ refl) (none s s refl)

pub send_puts : (id : ℕ) (bytes : List ℕ) (s : State) → PutsFrames s (where_live id (sends id bytes) s)
send_puts id bytes s = if_state (is_live id s.history) s (sends id bytes s) s (sends_put id bytes s) (none s s refl)

pub end_puts : (id : ℕ) (s : State) → PutsFrames s (where_live id (ends_stream id) s)
end_puts id s =
    let f : Frame = frame.Content id [] 0 true in
    let m : State = put (spelling_of f) s in
    if_state (is_live id s.history) s (ends_stream id s) s (both s m (ends_stream id s) (one f s m refl) (ends_put id m)) (none s s refl)

pub resets_put : (id code : ℕ) (s : State) → PutsFrames s (where_live id (resets_stream id code) s)
resets_put id code s = if_state (is_live id s.history) s (resets_stream id code s) s (one (frame.Reset id code) s (resets_stream id code s) refl) (none s s refl)

back_puts : (update : Option (ℕ × ℕ)) (s : State) → PutsFrames s (gives_back update s)
back_puts None s = none s s refl
back_puts (Some update) s = one (frame.Window update.0 update.1) s (gives_back (Some update) s) refl

updates_put : (bytes : List ℕ) (s : State) → PutsFrames s (updates bytes s)
updates_put [] s = back_puts (next_update s.history) s
updates_put (b ∷ bs) s = none s s refl

pub act_puts : (s : State) → PutsFrames s (ends_act s)
act_puts s = updates_put (owed s) s
