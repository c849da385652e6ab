-- In an open tunnel bytes wait only for a window.
use Rattle.std.proofs.Common.{◌≡◌, ℕ, Bool, true, false, cond, eqb, ltb, ◌||◌, List, [], ◌∷◌, ◌++◌, length, Option, Some, None, Result, Ok, Err, refl, sym, ap, subst, ◌∙◌, arith, inl, inr, ◌⊎◌}
use Rattle.mq_frame.specs.declared.frame.Frame.{Frame}
use Rattle.mq_frame.specs.declared.frame.Frame.TheVariants as frame
use Rattle.mq_frame.specs.declared.frame.Setting.{Setting}
use Rattle.mq_hpack.specs.declared.field.Field.{Field}
use Rattle.mq_hpack.specs.declared.fault.HpackFault.{HpackFault}
use Rattle.mq_hpack.specs.Table.{Table}
use Rattle.mq_streams.specs.History.{History, Consumed, GivenBack}
use Rattle.mq_streams.specs.Answers.{count_of, after_count, grant_of, after_grant, next_update, room_of}
use Rattle.mq_streams.specs.declared.answers.Counted.{Counted}
use Rattle.mq_streams.specs.declared.answers.Counted.TheVariants as counted
use Rattle.mq_streams.specs.declared.answers.Granted.{Granted}
use Rattle.mq_streams.specs.declared.answers.Granted.TheVariants as granted
use Rattle.mq_client.specs.declared.block.OpenBlock.{OpenBlock}
use Rattle.mq_client.specs.declared.event.ClientEvent.{ClientEvent}
use Rattle.mq_client.specs.declared.event.ClientEvent.TheVariants.{Opened, Refused, Closed, BadPeer}
use Rattle.mq_client.specs.Asking.{stream}
use Rattle.mq_client.specs.Session.{Session, Stage, Greeting, Asked, Open, with_history, with_stage, puts, puts_frame, ended}
use Rattle.mq_client.specs.Sending.{sends, sends_at, sends_open, waits_more}
use Rattle.mq_client.specs.Settling.{shifts, offers_connect}
use Rattle.mq_client.specs.Statuses.{status_of, is_successful}
use Rattle.mq_client.specs.Frames.{Did, Is, quietly, tells, breaks, closing, max_block, fault_code, on_settled, on_settings, on_status, on_fields, on_read, OnSome, OnHeaders, OnContinuation, OnBytes, OnData, on_reset, on_window, on_ping, gives_back, updates_once, takes, Does, DoAll}
use Rattle.mq_client.specs.Talk.{Talk, is_over, ReadsFrames, session_sent}
use Rattle.mq_client.specs.Laws.{WaitsFor, IsAlwaysSent}
use Rattle.mq_client.proofs.Told.{ended_both}
use Rattle.mq_client.proofs.Windows.{sends_all}

abbrev Waits : Session → Type 0
Waits s = WaitsFor s.stage s

-- ---- what is framed

after_at : (st : Stage) (s : Session) → WaitsFor st (sends_at st s)
after_at (Greeting request) s = tt
after_at Asked s = tt
after_at (Open bytes) s = sends_all s

stage_at : (st : Stage) (s : Session) → (sends_at st s).stage ≡ s.stage
stage_at (Greeting request) s = refl
stage_at Asked s = refl
stage_at (Open bytes) s = refl

after_open : (s : Session) → Waits (sends_open s)
after_open s = subst (λ (st : Stage). WaitsFor st (sends_open s)) (sym (stage_at s.stage s)) (after_at s.stage s)

-- the same waits, for the same windows
same_by : (st : Stage) (s t : Session) → t.waits ≡ s.waits → room_of stream t.history ≡ room_of stream s.history → WaitsFor st s → WaitsFor st t
same_by (Greeting request) s t waits room w = tt
same_by Asked s t waits room w = tt
same_by (Open bytes) s t waits room w = elim w [ inl none ↦ inl (waits ∙ none) | inr full ↦ inr (room ∙ full) ]

-- what is done leaves it so, unless the last event is told
abbrev Leaves : Session → List ClientEvent → Session → Type 0
Leaves s events t = ended events ≡ false → Waits s → Waits t

by_did : (s : Session) (did : Did) (events : List ClientEvent) (t : Session) → Is did events t → Leaves s did.events did.after → Leaves s events t
by_did s did events t is x = λ on w. subst (λ (u : Session). Waits u) (sym is.1) (x (ap ended (sym is.0) ∙ on) w)

either : (s : Session) (b : Bool) (x y : Did) → Leaves s x.events x.after → Leaves s y.events y.after → Leaves s (cond b x y).events (cond b x y).after
either s true x y a c = a
either s false x y a c = c

broken : (s t : Session) (code : ℕ) → Leaves s (BadPeer code ∷ []) t
broken s t code = λ on w. absurd cc

-- ---- SETTINGS

settled : (st : Stage) (offered : Bool) (s u : Session) → st ≡ u.stage → u.stage ≡ s.stage → u.waits ≡ s.waits → Leaves s (on_settled st offered u).events (on_settled st offered u).after
settled (Greeting request) true s u e same waits = λ on w. tt
settled (Greeting request) false s u e same waits = λ on w. absurd cc
settled Asked offered s u e same waits = λ on w. subst (λ (st : Stage). WaitsFor st u) e tt
settled (Open bytes) offered s u e same waits = λ on w. after_open u

settings : (ack : Bool) (pairs : List Setting) (s : Session) → Leaves s (on_settings ack pairs s).events (on_settings ack pairs s).after
settings true pairs s = λ on w. w
settings false pairs s =
    let x : History × Bool = shifts pairs s.history in
    let t : Session = with_history x.0 s in
    let u : Session = puts_frame (frame.Settings true []) t in
    either s x.1 (on_settled s.stage (offers_connect pairs) u) (breaks 3 t) (settled s.stage (offers_connect pairs) s u refl refl refl) (broken s t 3)

-- ---- header blocks

status : (o : Option ℕ) (end : Bool) (s : Session) → Leaves s (on_status o end s).events (on_status o end s).after
status None end s = broken s s 1
status (Some n) end s =
    let t : Session = with_stage (Open []) s in
    either s (is_successful n) (tells (Opened ∷ closing end) (sends_open t)) (tells (Refused n ∷ []) s) (λ on w. after_open t) (λ on w. absurd cc)

fields : (st : Stage) (fs : List Field) (end : Bool) (s : Session) → Leaves s (on_fields st fs end s).events (on_fields st fs end s).after
fields (Greeting request) fs end s = broken s s 1
fields Asked fs end s = status (status_of fs) end s
fields (Open bytes) fs end s = λ on w. w

read : (r : Result (List Field × Table) HpackFault) (end : Bool) (s : Session) → Leaves s (on_read r end s).events (on_read r end s).after
read (Ok x) end s =
    let t : Session = record s { table = x.1; block = None } in
    λ on w. fields s.stage x.0 end t on (same_by s.stage s t refl refl w)
read (Err fault) end s = broken s s (fault_code fault)

some : (many whole : Bool) (b : OpenBlock) (s : Session) (events : List ClientEvent) (t : Session) → OnSome many whole b s events t → Leaves s events t
some true whole b s events t is = by_did s (breaks 11 s) events t is (broken s s 11)
some false true b s events t is = by_did s (on_read is.0 b.end s) events t is.2 (read is.0 b.end s)
some false false b s events t is =
    let u : Session = record s { block = Some b } in
    by_did s (quietly u) events t is (λ on w. same_by s.stage s u refl refl w)

headers : (own : Bool) (block : List ℕ) (end whole : Bool) (s : Session) (events : List ClientEvent) (t : Session) → OnHeaders own block end whole s events t → Leaves s events t
headers true block end whole s events t is = some (ltb max_block (length block)) whole (record { end = end; bytes = block }) s events t is
headers false block end whole s events t is = by_did s (breaks 1 s) events t is (broken s s 1)

continuation : (b : Option OpenBlock) (block : List ℕ) (whole : Bool) (s : Session) (events : List ClientEvent) (t : Session) → OnContinuation b block whole s events t
    → Leaves s events t
continuation None block whole s events t is = by_did s (breaks 1 s) events t is (broken s s 1)
continuation (Some b) block whole s events t is =
    some (ltb max_block (length (b.bytes ++ block))) whole (record { end = b.end; bytes = b.bytes ++ block }) s events t is

-- ---- DATA

-- the same stage, waits and room
record IsSame (s t : Session) : Type 0 where
  stage_is : t.stage ≡ s.stage
  waits : t.waits ≡ s.waits
  room : room_of stream t.history ≡ room_of stream s.history

same_both : (s t u : Session) → IsSame s t → IsSame t u → IsSame s u
same_both s t u a b = record { stage_is = b.stage_is ∙ a.stage_is; waits = b.waits ∙ a.waits; room = b.room ∙ a.room }

back_same : (o : Option (ℕ × ℕ)) (s : Session) → IsSame s (gives_back o s)
back_same None s = record { stage_is = refl; waits = refl; room = refl }
back_same (Some u) s = record { stage_is = refl; waits = refl; room = omega arith }

update_same : (s : Session) → IsSame s (updates_once s)
update_same s = back_same (next_update s.history) s

taken_same : (id len : ℕ) (s : Session) → IsSame s (takes id len s)
taken_same id len s =
    let t : Session = with_history (Consumed id len ∷ after_count counted.Yes id len s.history) s in
    let first : IsSame s t = record { stage_is = refl; waits = refl; room = omega arith } in
    same_both s (updates_once t) (takes id len s) (same_both s t (updates_once t) first (update_same t)) (update_same (updates_once t))

bytes : (st : Stage) (b : List ℕ) (end : Bool) (s u : Session) (events : List ClientEvent) (t : Session) → st ≡ u.stage → IsSame s u → OnBytes st b end u events t → Leaves s events t
bytes (Greeting request) b end s u events t e same is = by_did s (breaks 1 u) events t is (broken s u 1)
bytes Asked b end s u events t e same is = by_did s (breaks 1 u) events t is (broken s u 1)
bytes (Open earlier) b end s u events t e same is =
    let v : Session = with_stage (Open (earlier ++ b)) u in
    let at : s.stage ≡ Open earlier = sym same.stage_is ∙ sym e in
    by_did s (tells _ v) events t is.2
    (λ on w. same_by (Open (earlier ++ b)) s v same.waits same.room (subst (λ (st : Stage). WaitsFor st s) at w))

came : (k : Counted) (id : ℕ) (b : List ℕ) (len : ℕ) (end : Bool) (s : Session) (events : List ClientEvent) (t : Session) → OnData k id b len end s events t → Leaves s events t
came counted.Yes id b len end s events t is =
    let u : Session = takes id len s in
    bytes u.stage b end s u events t refl (taken_same id len s) is
came counted.Ignored id b len end s events t is = by_did s (breaks 1 (with_history (after_count counted.Ignored id len s.history) s)) events t is (broken s _ 1)
came counted.Idle id b len end s events t is = by_did s (breaks 1 s) events t is (broken s s 1)
came counted.OverConnection id b len end s events t is = by_did s (breaks 3 s) events t is (broken s s 3)
came counted.OverStream id b len end s events t is = by_did s (breaks 3 (with_history (after_count counted.OverStream id len s.history) s)) events t is (broken s _ 3)

-- ---- the other frames

window : (k : Granted) (id grow : ℕ) (s : Session) → Leaves s (on_window k id grow s).events (on_window k id grow s).after
window granted.Taken id grow s = λ on w. after_open (with_history (after_grant granted.Taken id grow s.history) s)
window granted.Ignored id grow s = λ on w. w
window granted.Idle id grow s = broken s s 1
window granted.Zero id grow s = broken s s 1
window granted.Over id grow s = broken s s 3

ping : (ack : Bool) (n : ℕ) (s : Session) → Leaves s (on_ping ack n s).events (on_ping ack n s).after
ping true n s = λ on w. w
ping false n s = λ on w. same_by s.stage s (puts_frame (frame.Ping true n) s) refl refl w

does : (g : Frame) (s : Session) (events : List ClientEvent) (t : Session) → Does g s events t → Leaves s events t
does (frame.Content id b len end) s events t is = came (count_of id len s.history) id b len end s events t is
does (frame.Headers id block end whole) s events t is = headers (eqb id stream) block end whole s events t is
does (frame.Continuation id block whole) s events t is = continuation s.block block whole s events t is
does (frame.Priority id) s events t is = by_did s (quietly s) events t is (λ on w. w)
does (frame.Reset id code) s events t is =
    by_did s (on_reset id s) events t is (either s (eqb id stream) (tells (Closed ∷ []) s) (breaks 1 s) (λ on w. absurd cc) (broken s s 1))
does (frame.Settings ack pairs) s events t is = by_did s (on_settings ack pairs s) events t is (settings ack pairs s)
does (frame.Ping ack n) s events t is = by_did s (on_ping ack n s) events t is (ping ack n s)
does (frame.GoAway last code) s events t is = by_did s (quietly s) events t is (λ on w. w)
does (frame.Window id grow) s events t is = by_did s (on_window (grant_of id grow s.history) id grow s) events t is (window (grant_of id grow s.history) id grow s)
does (frame.Unknown kind id) s events t is = by_did s (quietly s) events t is (λ on w. w)
does (frame.Fault code) s events t is = by_did s (breaks code s) events t is (broken s s code)

neither : (a b : Bool) → (a || b) ≡ false → (a ≡ false) × (b ≡ false)
neither true b e = absurd cc
neither false b e = (refl, e)

all_do : (over : Bool) (gs : List Frame) (s : Session) (events : List ClientEvent) (t : Session) → DoAll over gs s events t → Leaves s events t
all_do over [] s events t all = by_did s (quietly s) events t all (λ on w. w)
all_do true (g ∷ gs) s events t all = by_did s (quietly s) events t all (λ on w. w)
all_do false (g ∷ gs) s events t all = λ on w.
    let both = neither (ended all.0) (ended all.2) (sym (ended_both all.0 all.2) ∙ ap ended (sym all.5) ∙ on) in
    all_do (ended all.0) gs all.1 all.2 t all.4 both.1 (does g s all.0 all.1 all.3 both.0 w)

read_on : (s : Talk) (piece : List ℕ) (events : List ClientEvent) (t : Talk) → Waits s.session → ReadsFrames s piece events t → ended events ≡ false → Waits t.session
read_on s piece events t w reads on =
    subst (λ (u : Talk). Waits u.session) (sym reads.state_is) (all_do (is_over s) reads.frames s.session events reads.after reads.did on w)

pub always_sent : IsAlwaysSent
always_sent = record {
  begins = λ path host. tt;
  reads = read_on;
  sends = λ s payload on. subst (λ (b : Bool). Waits (session_sent b payload s.session)) (sym on) (after_open (waits_more _ s.session));
  writes = λ s count w. same_by s.session.stage s.session _ refl refl w;
}
