-- A stream is asked for at most once.
use Rattle.std.proofs.Common.{◌≡◌, ℕ, ◌+◌, ◌%◌, ◌≤◌, ◌<◌, Bool, true, false, cond, not, ◌||◌, eqb, ltb, leb, List, [], ◌∷◌, ◌++◌, length, filter, max, Option, Some, None, Result, Ok, Err, refl, sym, ap, subst, ◌∙◌, inl, inr, arith}
use Rattle.std.specs.Prelude.{count_by}
use Rattle.std.specs.List.{list_any}
use Rattle.std.proofs.lemmas.Bool.{eqb-true, ltb-true, ltb-false, lt-ltb, leb-false}
use Rattle.std.proofs.lemmas.List.Sums.{sum_by-append, sum_by-cons}
use Rattle.mq_frame.specs.declared.frame.Frame.{Frame}
use Rattle.mq_frame.specs.declared.frame.Frame.TheVariants as frame
use Rattle.mq_frame.specs.declared.frame.Setting.{Setting}
use Rattle.mq_frame.specs.Writing.{spelling_of}
use Rattle.mq_hpack.specs.Writing.{block_text}
use Rattle.mq_hpack.specs.declared.field.Field.{Field}
use Rattle.mq_hpack.specs.declared.fault.HpackFault.{HpackFault}
use Rattle.mq_hpack.specs.Table.{Table}
use Rattle.mq_streams.specs.History.{History, Opened, TurnedAway, Discarded, Consumed, Shifted, Dropped, highest, live, is_live, has_finished}
use Rattle.mq_streams.specs.Answers.{is_idle, begun, count_of, grant_of, can_shift, next_update}
use Rattle.mq_streams.specs.declared.answers.Began.{Began}
use Rattle.mq_streams.specs.declared.answers.Began.TheVariants as began
use Rattle.mq_streams.specs.declared.answers.Counted.{Counted}
use Rattle.mq_streams.specs.declared.answers.Counted.TheVariants as counted
use Rattle.mq_streams.specs.declared.answers.Granted.{Granted}
use Rattle.mq_streams.specs.declared.answers.Granted.TheVariants as granted
use Rattle.mq_h2.specs.declared.block.OpenBlock.{OpenBlock}
use Rattle.mq_h2.specs.declared.event.StreamEvent.{StreamEvent}
use Rattle.mq_h2.specs.declared.event.StreamEvent.TheVariants.{Request, Malformed, Content, Reset, ConnectionError}
use Rattle.mq_h2.specs.Acts.{ends_if, responds, sends, ends_stream, resets_stream, gives_back, updates}
use Rattle.mq_h2.specs.Codes.{max_block, fault_code}
use Rattle.mq_h2.specs.Fields.{is_malformed}
use Rattle.mq_h2.specs.State.{State, put, owed}
use Rattle.mq_h2.specs.Frames.{Did, Is, quietly, breaks, fails, fails_at, finish, on_data, on_request, on_fields, on_block, OnSome, OnHeaders, OnContinuation, on_reset, on_window, shift_of, shifts, on_settings, on_ping, Does, DoAll}
use Rattle.mq_h2.specs.Reading.{asks, is_withdrawn, lasts, drained_by, drained, ReadsWhile}
use Rattle.mq_h2.specs.Laws.{asks_by, is_block_of, may_come, one, IsAskedOnce, KeepsAsked}

-- what was told and what may come is no more than might come before
abbrev Falls : ℕ → Bool → List StreamEvent → State → Type 0
Falls id before events t = count_by (asks id) events + one (may_come id t) ≤ one before

abbrev Fall : ℕ → Bool → Did → Type 0
Fall id before did = Falls id before did.events did.after

same_or_less : (n : ℕ) → n ≤ n
same_or_less n = omega arith

-- where nothing is told
stays : (n : ℕ) → 0 + n ≤ n
stays n = omega arith

quietly_less : (a b : ℕ) → a ≤ b → 0 + a ≤ b
quietly_less a b less = omega (arith, less)

through : (a b c : ℕ) → a ≤ b → b ≤ c → a ≤ c
through a b c x y = omega (arith, x, y)

weaker : (id : ℕ) (b c : Bool) (events : List StreamEvent) (t : State) → Falls id b events t → one b ≤ one c → Falls id c events t
weaker id b c events t falls less = through _ (one b) (one c) falls less

by_did : (id : ℕ) (before : Bool) (did : Did) (events : List StreamEvent) (t : State) → Is did events t → Fall id before did → Falls id before events t
by_did id before did events t is falls =
    subst (λ (es : List StreamEvent). Falls id before es t) (sym is.0) (subst (λ (u : State). Falls id before did.events u) (sym is.1) falls)

if_did : (b : Bool) (id : ℕ) (before : Bool) (x y : Did) → Fall id before x → Fall id before y → Fall id before (cond b x y)
if_did true id before x y a c = a
if_did false id before x y a c = c

if_so : (b : Bool) (id : ℕ) (before : Bool) (x y : Did) → (b ≡ true → Fall id before x) → Fall id before y → Fall id before (cond b x y)
if_so true id before x y a c = a refl
if_so false id before x y a c = c

-- Numbers.

unasked : (a b : Bool) → one b ≤ one (a || b)
unasked true true = same_or_less 1
unasked true false = omega arith
unasked false b = same_or_less (one b)

ltb_falls : (b c : Bool) (top up id : ℕ) → ltb up id ≡ b → ltb top id ≡ c → top ≤ up → one b ≤ one c
ltb_falls true true top up id x y le = same_or_less 1
ltb_falls true false top up id x y le = let a = ltb-true up id x in let b = ltb-false top id y in absurd (omega (arith, a, b, le))
ltb_falls false true top up id x y le = omega arith
ltb_falls false false top up id x y le = same_or_less 0

above : (top up id : ℕ) → top ≤ up → one (ltb up id) ≤ one (ltb top id)
above top up id le = ltb_falls (ltb up id) (ltb top id) top up id refl refl le

-- a stream that begins might be asked for before
opened_by : (x : Bool) (n top id : ℕ) → eqb n id ≡ x → top < n → one (x || ltb (max n top) id) ≤ one (ltb top id)
opened_by true n top id is less =
    let same = eqb-true n id is in
    let comes : ltb top id ≡ true = lt-ltb top id (omega (arith, same, less)) in
    subst (λ (b : Bool). 1 ≤ one b) (sym comes) (same_or_less 1)
opened_by false n top id is less = above top (max n top) id (omega arith)

-- a stream that was begun is asked for
asked_by : (x : Bool) (n top id : ℕ) → eqb n id ≡ x → n ≤ top → 0 + cond x 1 0 + one (ltb top id) ≤ one (x || ltb top id)
asked_by true n top id is le = last (ltb top id) n top id refl is le where
  last : (b : Bool) (n top id : ℕ) → ltb top id ≡ b → eqb n id ≡ true → n ≤ top → 1 + one b ≤ 1
  last true n top id comes is le = let a = ltb-true top id comes in let same = eqb-true n id is in absurd (omega (arith, a, same, le))
  last false n top id comes is le = omega arith
asked_by false n top id is le = stays (one (ltb top id))

-- Histories.

finish_highest : (end : Bool) (n : ℕ) (h : History) → highest (finish end n h) ≡ highest h
finish_highest true n h = refl
finish_highest false n h = refl

-- such an id is among them
abbrev among : ℕ → List ℕ → Bool
among id ids = list_any (λ s. eqb s id) ids

more_by : (x : Bool) (id n top : ℕ) (ids : List ℕ) → eqb n id ≡ x → (among id ids ≡ true → id ≤ top) → (x || false) ≡ true → id ≤ max n top
more_by true id n top ids is within e = let same = eqb-true n id is in omega (arith, same)
more_by false id n top ids is within e = absurd cc

first_or : (x : Bool) (id n top : ℕ) (rest : Bool) → (x ≡ true → id ≤ top) → (rest ≡ true → id ≤ top) → (x || rest) ≡ true → id ≤ top
first_or true id n top rest a c e = a refl
first_or false id n top rest a c e = c e

appended : (id n top : ℕ) (ids : List ℕ) → (among id ids ≡ true → id ≤ top) → among id (ids ++ n ∷ []) ≡ true → id ≤ max n top
appended id n top [] within e = more_by (eqb n id) id n top [] refl within e
appended id n top (x ∷ ids) within e =
    first_or (eqb x id) id n (max n top) (among id (ids ++ n ∷ [])) (λ here. let w = within (ap (λ (b : Bool). b || among id ids) here) in omega (arith, w))
    (λ later. appended id n top ids (λ there. within (or_later (eqb x id) (among id ids) there)) later) e where
      or_later : (a b : Bool) → b ≡ true → (a || b) ≡ true
      or_later true b e = refl
      or_later false b e = e

kept_by : (b x : Bool) (rest others : Bool) → (others ≡ true → rest ≡ true) → cond b (x || others) others ≡ true → (x || rest) ≡ true
kept_by b true rest others into e = refl
kept_by true false rest others into e = into e
kept_by false false rest others into e = into e

among_if : (b : Bool) (id x : ℕ) (ids : List ℕ) → among id (cond b (x ∷ ids) ids) ≡ cond b (eqb x id || among id ids) (among id ids)
among_if true id x ids = refl
among_if false id x ids = refl

filtered : (id n : ℕ) (ids : List ℕ) → among id (filter (λ s. not (eqb s n)) ids) ≡ true → among id ids ≡ true
filtered id n [] e = e
filtered id n (x ∷ ids) e =
    kept_by (not (eqb x n)) (eqb x id) (among id ids) (among id (filter (λ s. not (eqb s n)) ids)) (λ later. filtered id n ids later)
    (sym (among_if (not (eqb x n)) id x (filter (λ s. not (eqb s n)) ids)) ∙ e)

-- a live stream was begun
live_below : (id : ℕ) (h : History) → is_live id h ≡ true → id ≤ highest h
live_below id [] lives = absurd cc
live_below id (Opened s ∷ h) lives = appended id s (highest h) (live h) (λ there. live_below id h there) lives
live_below id (TurnedAway s ∷ h) lives = let w = live_below id h lives in omega (arith, w)
live_below id (Dropped s ∷ h) lives = live_below id h (filtered id s (live h) lives)
live_below id (_ ∷ h) lives = live_below id h lives

-- Frames.

breaks_falls : (id code : ℕ) (b : Bool) (s : State) → Fall id (b || ltb (highest s.history) id) (breaks code s)
breaks_falls id code b s = quietly_less _ _ (unasked b (ltb (highest s.history) id))

breaks_here : (id code : ℕ) (s : State) → Fall id (may_come id s) (breaks code s)
breaks_here id code s = breaks_falls id code (is_block_of id s.block) s

quiet_here : (id : ℕ) (s : State) → Fall id (may_come id s) (quietly s)
quiet_here id s = stays (one (may_come id s))

fails_here : (id n code : ℕ) (s : State) → Fall id (may_come id s) (fails n code s)
fails_here id n code s = stays (one (may_come id s))

fails_at_here : (id n code : ℕ) (s : State) → Fall id (may_come id s) (fails_at n code s)
fails_at_here id n code s = if_did (eqb n 0) id (may_come id s) (breaks code s) (fails n code s) (breaks_here id code s) (fails_here id n code s)

data_falls : (k : Counted) (id n : ℕ) (bytes : List ℕ) (len : ℕ) (end : Bool) (s : State) → Fall id (may_come id s) (on_data k n bytes len end s)
data_falls counted.Yes id n bytes len true s = stays (one (may_come id s))
data_falls counted.Yes id n bytes len false s = stays (one (may_come id s))
data_falls counted.Ignored id n bytes len end s = stays (one (may_come id s))
data_falls counted.Idle id n bytes len end s = breaks_here id 1 s
data_falls counted.OverConnection id n bytes len end s = breaks_here id 3 s
data_falls counted.OverStream id n bytes len end s = fails_here id n 3 (record s { history = Discarded n len ∷ s.history })

-- the state behind a whole block
abbrev behind : Table → State → State
behind table s = record s { table = table; block = None }

request_falls : (id : ℕ) (fields : List Field) (b : OpenBlock) (table : Table) (s : State) → is_live b.stream s.history ≡ true
    → Fall id (eqb b.stream id || ltb (highest s.history) id) (on_request fields b (behind table s))
request_falls id fields b table s lives =
    let top : ℕ = highest s.history in
    let asked = asked_by (eqb b.stream id) b.stream top id refl (live_below b.stream s.history lives) in
    if_did (is_malformed fields) id (eqb b.stream id || ltb top id) (fails b.stream 1 (behind table s))
    (record { events = Request b.stream fields b.end ∷ []; after = record (behind table s) { history = finish b.end b.stream s.history } })
    (quietly_less _ _ (unasked (eqb b.stream id) (ltb top id)))
    (subst (λ (n : ℕ). 0 + cond (eqb b.stream id) 1 0 + one (ltb n id) ≤ one (eqb b.stream id || ltb top id)) (sym (finish_highest b.end b.stream s.history)) asked)

fields_fall : (k : Began) (id : ℕ) (fields : List Field) (b : OpenBlock) (table : Table) (s : State)
    → Fall id (asks_by k b.stream id || ltb (highest s.history) id) (on_fields k fields b (behind table s))
fields_fall began.Live id fields b table s =
    if_so (is_live b.stream s.history) id (eqb b.stream id || ltb (highest s.history) id) (on_request fields b (behind table s)) (quietly (behind table s))
    (λ lives. request_falls id fields b table s lives) (quietly_less _ _ (unasked (eqb b.stream id) (ltb (highest s.history) id)))
fields_fall began.Refused id fields b table s = stays (one (ltb (highest s.history) id))
fields_fall began.Old id fields b table s =
    let m : State = behind table s in
    let before : Bool = ltb (highest s.history) id in
    if_did (is_live b.stream s.history) id before (cond (has_finished b.stream s.history) (quietly m) (fails b.stream 1 m)) (quietly m)
    (if_did (has_finished b.stream s.history) id before (quietly m) (fails b.stream 1 m) (quiet_here id m) (fails_here id b.stream 1 m)) (quiet_here id m)
fields_fall began.BadId id fields b table s = stays (one (ltb (highest s.history) id))

block_falls : (r : Result (List Field × Table) HpackFault) (id : ℕ) (b : OpenBlock) (s : State)
    → Fall id (asks_by b.began b.stream id || ltb (highest s.history) id) (on_block r b s)
block_falls (Ok x) id b s = fields_fall b.began id x.0 b x.1 s
block_falls (Err fault) id b s = breaks_falls id (fault_code fault) (asks_by b.began b.stream id) s

some_fall : (many whole : Bool) (id : ℕ) (b : OpenBlock) (s : State) (events : List StreamEvent) (t : State) → OnSome many whole b s events t
    → Falls id (asks_by b.began b.stream id || ltb (highest s.history) id) events t
some_fall true whole id b s events t is = by_did id _ (breaks 11 s) events t is (breaks_falls id 11 (asks_by b.began b.stream id) s)
some_fall false true id b s events t is = by_did id _ (on_block is.0 b s) events t is.2 (block_falls is.0 id b s)
some_fall false false id b s events t is =
    by_did id _ (quietly (record s { block = Some b })) events t is (quiet_here id (record s { block = Some b }))

-- the tests of HEADERS
live_by : (even old many : Bool) → cond even began.BadId (cond old began.Old (cond many began.Refused began.Live)) ≡ began.Live → old ≡ false
live_by true old many e = absurd cc
live_by false true many e = absurd cc
live_by false false many e = refl

begun_above : (n : ℕ) (h : History) → begun n h ≡ began.Live → highest h < n
begun_above n h e = let x = leb-false n (highest h) (live_by (eqb (n % 2) 0) (leb n (highest h)) (leb 100 (length (live h))) e) in omega (arith, x)

headers_fall : (k : Began) (id n : ℕ) (block : List ℕ) (end whole : Bool) (s : State) (events : List StreamEvent) (t : State) → begun n s.history ≡ k
    → OnHeaders k n block end whole s events t → Falls id (may_come id s) events t
headers_fall began.BadId id n block end whole s events t e is = by_did id _ (breaks 1 s) events t is (breaks_here id 1 s)
headers_fall began.Live id n block end whole s events t e is =
    let top : ℕ = highest s.history in
    let falls =
    some_fall (ltb max_block (length block)) whole id (record { stream = n; began = began.Live; end = end; bytes = block }) (record s { history = Opened n ∷ s.history }) events t is in
    weaker id (eqb n id || ltb (max n top) id) (may_come id s) events t falls
    (through _ (one (ltb top id)) _ (opened_by (eqb n id) n top id refl (begun_above n s.history e)) (unasked (is_block_of id s.block) (ltb top id)))
headers_fall began.Refused id n block end whole s events t e is =
    let top : ℕ = highest s.history in
    let falls =
    some_fall (ltb max_block (length block)) whole id (record { stream = n; began = began.Refused; end = end; bytes = block }) (record s { history = TurnedAway n ∷ s.history }) events t is in
    weaker id (ltb (max n top) id) (may_come id s) events t falls
    (through _ (one (ltb top id)) _ (above top (max n top) id (omega arith)) (unasked (is_block_of id s.block) (ltb top id)))
headers_fall began.Old id n block end whole s events t e is =
    let top : ℕ = highest s.history in
    let falls = some_fall (ltb max_block (length block)) whole id (record { stream = n; began = began.Old; end = end; bytes = block }) s events t is in
    weaker id (ltb top id) (may_come id s) events t falls (unasked (is_block_of id s.block) (ltb top id))

continuation_falls : (b : Option OpenBlock) (id : ℕ) (block : List ℕ) (whole : Bool) (s : State) (events : List StreamEvent) (t : State) → OnContinuation b block whole s events t
    → Falls id (is_block_of id b || ltb (highest s.history) id) events t
continuation_falls None id block whole s events t is = by_did id _ (breaks 1 s) events t is (breaks_falls id 1 false s)
continuation_falls (Some b) id block whole s events t is = some_fall (ltb max_block (length (b.bytes ++ block))) whole id (record b { bytes = b.bytes ++ block }) s events t is

reset_falls : (id n code : ℕ) (s : State) → Fall id (may_come id s) (on_reset n code s)
reset_falls id n code s =
    let gone : Did = record { events = Reset n code ∷ []; after = record s { history = Dropped n ∷ s.history } } in
    let before : Bool = may_come id s in
    if_did (is_idle n s.history) id before (breaks 1 s) (cond (is_live n s.history) gone (quietly s)) (breaks_here id 1 s)
    (if_did (is_live n s.history) id before gone (quietly s) (stays (one before)) (quiet_here id s))

window_falls : (k : Granted) (id n grow : ℕ) (s : State) → Fall id (may_come id s) (on_window k n grow s)
window_falls granted.Taken id n grow s = stays (one (may_come id s))
window_falls granted.Ignored id n grow s = quiet_here id s
window_falls granted.Idle id n grow s = breaks_here id 1 s
window_falls granted.Zero id n grow s = fails_at_here id n 1 s
window_falls granted.Over id n grow s = fails_at_here id n 3 s

-- the settings begin no stream
abbrev shifted : Bool → Bool → ℕ → History → History × Bool
shifted there can value h = cond there (cond can (Shifted value ∷ h, true) (h, false)) (h, true)

shift_highest : (there can : Bool) (value : ℕ) (h : History) → highest (shifted there can value h).0 ≡ highest h
shift_highest true true value h = refl
shift_highest true false value h = refl
shift_highest false can value h = refl

abbrev either : Bool → History × Bool → History × Bool → History × Bool
either b x y = cond b x y

either_highest : (b : Bool) (x y : History × Bool) (h : History) → highest x.0 ≡ highest h → highest y.0 ≡ highest h → highest (either b x y).0 ≡ highest h
either_highest true x y h a c = a
either_highest false x y h a c = c

shifts_highest : (ps : List Setting) (h : History) → highest (shifts ps h).0 ≡ highest h
shifts_highest [] h = refl
shifts_highest (p ∷ ps) h =
    let x : History × Bool = shift_of p h in
    let first : highest x.0 ≡ highest h = shift_highest (eqb p.id 4) (can_shift p.value h) p.value h in
    either_highest x.1 (shifts ps x.0) x h (shifts_highest ps x.0 ∙ first) first

settings_fall : (ack : Bool) (id : ℕ) (pairs : List Setting) (s : State) → Fall id (may_come id s) (on_settings ack pairs s)
settings_fall true id pairs s = quiet_here id s
settings_fall false id pairs s =
    let x : History × Bool = shifts pairs s.history in
    let m : State = record s { history = x.0 } in
    let before : Bool = is_block_of id s.block || ltb (highest x.0) id in
    subst (λ (n : ℕ). Fall id (is_block_of id s.block || ltb n id) (on_settings false pairs s)) (shifts_highest pairs s.history)
    (if_did x.1 id before (quietly (put (spelling_of (frame.Settings true [])) m)) (breaks 3 m) (stays (one before)) (breaks_here id 3 m))

ping_falls : (ack : Bool) (id bytes : ℕ) (s : State) → Fall id (may_come id s) (on_ping ack bytes s)
ping_falls true id bytes s = quiet_here id s
ping_falls false id bytes s = quiet_here id s

does_fall : (f : Frame) (id : ℕ) (s : State) (events : List StreamEvent) (t : State) → Does f s events t → Falls id (may_come id s) events t
does_fall (frame.Content n bytes len end) id s events t is = by_did id _ _ events t is (data_falls (count_of n len s.history) id n bytes len end s)
does_fall (frame.Headers n block end whole) id s events t is = headers_fall (begun n s.history) id n block end whole s events t refl is
does_fall (frame.Continuation n block whole) id s events t is = continuation_falls s.block id block whole s events t is
does_fall (frame.Priority n) id s events t is = by_did id _ (quietly s) events t is (quiet_here id s)
does_fall (frame.Reset n code) id s events t is = by_did id _ _ events t is (reset_falls id n code s)
does_fall (frame.Settings ack pairs) id s events t is = by_did id _ _ events t is (settings_fall ack id pairs s)
does_fall (frame.Ping ack bytes) id s events t is = by_did id _ _ events t is (ping_falls ack id bytes s)
does_fall (frame.GoAway last code) id s events t is = by_did id _ (quietly s) events t is (quiet_here id s)
does_fall (frame.Window n grow) id s events t is = by_did id _ _ events t is (window_falls (grant_of n grow s.history) id n grow s)
does_fall (frame.Unknown kind n) id s events t is = by_did id _ (quietly s) events t is (quiet_here id s)
does_fall (frame.Fault code) id s events t is = by_did id _ (breaks code s) events t is (breaks_here id code s)

-- Reads.

all_fall : (fs : List Frame) (id : ℕ) (s : State) (events : List StreamEvent) (t : State) → DoAll fs s events t → Falls id (may_come id s) events t
all_fall [] id s events t is = by_did id _ (quietly s) events t is (quiet_here id s)
all_fall (f ∷ fs) id s events t (inl x) = by_did id _ (quietly s) events t (x.1, x.2) (quiet_here id s)
all_fall (f ∷ fs) id s events t (inr x) =
    let first = does_fall f id s x.1 x.2 x.4 in
    let later = all_fall fs id x.2 x.3 t x.5 in
    let both = sum_by-append (λ e. cond (asks id e) 1 0) x.1 x.3 in
    subst (λ (es : List StreamEvent). Falls id (may_come id s) es t) (sym x.6) (omega (arith, first, later, both))

count_more : (id : ℕ) (e : StreamEvent) (es : List StreamEvent) → count_by (asks id) (e ∷ es) ≡ cond (asks id e) 1 0 + count_by (asks id) es
count_more id e es = sum_by-cons (λ x. cond (asks id x) 1 0) e es

fewer_by : (b : Bool) (id : ℕ) (e : StreamEvent) (es kept : List StreamEvent) → count_by (asks id) kept ≤ count_by (asks id) es
    → count_by (asks id) (cond b (e ∷ kept) kept) ≤ count_by (asks id) (e ∷ es)
fewer_by true id e es kept less = let a = count_more id e kept in let b = count_more id e es in
    let fewer : count_by (asks id) (e ∷ kept) ≤ count_by (asks id) (e ∷ es) = omega (arith, less, a, b) in
    fewer
fewer_by false id e es kept less =
    let b = count_more id e es in
    let fewer : count_by (asks id) kept ≤ count_by (asks id) (e ∷ es) = omega (arith, less, b) in
    fewer

fewer : (p : StreamEvent → Bool) (id : ℕ) (es : List StreamEvent) → count_by (asks id) (filter p es) ≤ count_by (asks id) es
fewer p id [] = same_or_less 0
fewer p id (e ∷ es) = fewer_by (p e) id e es (filter p es) (fewer p id es)

consumed_highest : (b : Bool) (n len : ℕ) (h : History) → highest (cond b (Consumed n len ∷ h) h) ≡ highest h
consumed_highest true n len h = refl
consumed_highest false n len h = refl

one_drained : (all : List StreamEvent) (e : StreamEvent) (h : History) → highest (drained_by all e h) ≡ highest h
one_drained all (Request n fields end) h = refl
one_drained all (Malformed n code) h = refl
one_drained all (Content n bytes len end) h = consumed_highest (is_withdrawn all n) n len h
one_drained all (Reset n code) h = refl
one_drained all (ConnectionError code) h = refl

drained_highest : (all es : List StreamEvent) (h : History) → highest (drained all es h) ≡ highest h
drained_highest all [] h = refl
drained_highest all (e ∷ es) h = drained_highest all es (drained_by all e h) ∙ one_drained all e h

while_falls : (ended : Bool) (s : State) (piece : List ℕ) (events : List StreamEvent) (t : State) (id : ℕ) → ReadsWhile ended s piece events t → Falls id (may_come id s) events t
while_falls true s piece events t id is = by_did id _ (quietly s) events t is (quiet_here id s)
while_falls false s piece events t id is =
    let met = all_fall is.frames id s is.told is.met is.did in
    let few = fewer (lasts is.told) id is.told in
    let same : may_come id t ≡ may_come id is.met =
    ap (λ (u : State). may_come id u) is.state_is ∙ ap (λ (n : ℕ). is_block_of id is.met.block || ltb n id) (drained_highest is.told is.told is.met.history) in
    let ones = ap one same in
    subst (λ (es : List StreamEvent). Falls id (may_come id s) es t) (sym is.events_are) (omega (arith, met, few, ones))

pub asked_once : IsAskedOnce
asked_once s piece events t id is = while_falls s.ended s piece events t id is

-- Acts.

if_kept : (b : Bool) (id : ℕ) (s x y : State) → may_come id x ≡ may_come id s → may_come id y ≡ may_come id s → may_come id (cond b x y) ≡ may_come id s
if_kept true id s x y a c = a
if_kept false id s x y a c = c

ends_if_kept : (end : Bool) (n id : ℕ) (s : State) → may_come id (ends_if end n s) ≡ may_come id s
ends_if_kept true n id s = refl
ends_if_kept false n id s = refl

back_kept : (update : Option (ℕ × ℕ)) (id : ℕ) (s : State) → may_come id (gives_back update s) ≡ may_come id s
back_kept None id s = refl
back_kept (Some update) id s = refl

updates_kept : (bytes : List ℕ) (id : ℕ) (s : State) → may_come id (updates bytes s) ≡ may_come id s
updates_kept [] id s = back_kept (next_update s.history) id s
updates_kept (b ∷ bs) id s = refl

pub keeps_asked : KeepsAsked
keeps_asked = record {
  responds = λ n fields end s id.
      let m : State = record s { out = s.out ++ spelling_of (frame.Headers n (block_text s.owes_limit fields) end true); owes_limit = false } in
      if_kept (is_live n s.history) id s (responds n fields end s) s (ends_if_kept end n id m) refl;
  sends = λ n bytes s id. if_kept (is_live n s.history) id s (sends n bytes s) s (if_kept (ltb 0 (length bytes)) id s _ s refl refl) refl;
  ends = λ n s id. if_kept (is_live n s.history) id s (ends_stream n s) s refl refl;
  resets = λ n code s id. if_kept (is_live n s.history) id s (resets_stream n code s) s refl refl;
  consumes = λ n count s id. refl;
  act = λ s id. updates_kept (owed s) id s;
  writes = λ count s id. refl;
}
