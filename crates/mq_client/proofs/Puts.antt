-- What each thing that is done puts for writing.
use Rattle.std.proofs.Common.{◌≡◌, ℕ, zero, suc, ◌<◌, ◌≤◌, Bool, true, false, cond, eqb, ltb, List, [], ◌∷◌, ◌++◌, length, take, drop, Option, Some, None, Result, Ok, Err, refl, sym, ap, subst, ◌∙◌, arith, append-nil, append_assoc, length-append}
use Rattle.std.specs.Prelude.{find, option_map, nat_le}
use Rattle.std.specs.List.{flat_map, AllByRecursion}
use Rattle.std.proofs.lemmas.Grind.{flat_map-append}
use Rattle.std.proofs.lemmas.List.{take-append-drop, length-take, length-take-le, length-drop}
use Rattle.std.proofs.lemmas.Bool.{leb-true}
use Rattle.mq_capsule.specs.Writing.{capsule_text, datagram}
use Rattle.mq_frame.specs.declared.frame.Frame.{Frame}
use Rattle.mq_frame.specs.declared.frame.Frame.TheVariants as frame
use Rattle.mq_frame.specs.declared.frame.Setting.{Setting}
use Rattle.mq_frame.specs.Numbers.{max_frame_size}
use Rattle.mq_frame.specs.Writing.{spelling_of}
use Rattle.mq_hpack.specs.declared.field.Field.{Field}
use Rattle.mq_hpack.specs.declared.fault.HpackFault.{HpackFault}
use Rattle.mq_hpack.specs.Table.{Table}
use Rattle.mq_hpack.specs.Writing.{block_text}
use Rattle.mq_streams.specs.History.{History, Event, Consumed, GivenBack, Shifted, live, total, sent, extended_on}
use Rattle.mq_streams.specs.Answers.{count_of, after_count, grant_of, after_grant, next_update, to_give_back, connection_to_give_back, can_shift}
use Rattle.mq_streams.specs.declared.answers.Counted.{Counted}
use Rattle.mq_streams.specs.declared.answers.Counted.TheVariants as counted
use Rattle.mq_streams.specs.declared.answers.Granted.{Granted}
use Rattle.mq_streams.specs.declared.answers.Granted.TheVariants as granted
use Rattle.mq_client.specs.declared.block.OpenBlock.{OpenBlock}
use Rattle.mq_client.specs.declared.event.ClientEvent.{ClientEvent}
use Rattle.mq_client.specs.declared.event.ClientEvent.TheVariants.{Opened, Refused, Closed}
use Rattle.mq_client.specs.Asking.{stream, preface, request_fields, request_frame}
use Rattle.mq_client.specs.Session.{Session, Stage, Greeting, Asked, Open, with_history, with_stage, puts, puts_frame, ended}
use Rattle.mq_client.specs.Sending.{parts, data_frame, sendable, sends, sends_at, sends_open, sends_until, waits_more}
use Rattle.mq_client.specs.Settling.{shift_of, shifts, offers_connect}
use Rattle.mq_client.specs.Statuses.{status_of, is_successful}
use Rattle.mq_client.specs.Frames.{Did, Is, quietly, tells, breaks, closing, max_block, on_settled, on_settings, on_status, on_fields, on_read, OnSome, OnHeaders, OnContinuation, OnBytes, OnData, on_reset, on_window, on_ping, gives_back, updates_once, takes, Does, DoAll}
use Rattle.mq_client.specs.Talk.{Talk, talk_begun, is_over, ReadsFrames, session_sent}
use Rattle.mq_client.specs.Framed.{contents, capsules_of, IsOwn, IsAsking, IsFramed, IsAlwaysFramed}

-- ---- lists of frames

all_both : (xs ys : List Frame) → AllByRecursion IsOwn xs → AllByRecursion IsOwn ys → AllByRecursion IsOwn (xs ++ ys)
all_both [] ys a b = b
all_both (x ∷ xs) ys a b = (a.0, all_both xs ys a.1 b)

-- ---- histories in which as much was sent

pub record AsMuch (g h : History) : Type 0 where
  pub sent_is : total sent h ≡ total sent g
  pub granted : total (extended_on 0) g ≤ total (extended_on 0) h

same_history : (h : History) → AsMuch h h
same_history h = record { sent_is = refl; granted = omega arith }

as_much_both : (f g h : History) → AsMuch f g → AsMuch g h → AsMuch f h
as_much_both f g h a b = record { sent_is = b.sent_is ∙ a.sent_is; granted = omega (arith, a.granted, b.granted) }

as_much_on : (e : Event) (h : History) → sent e ≡ 0 → AsMuch h (e ∷ h)
as_much_on e h none = record { sent_is = omega (arith, none); granted = omega arith }

-- ---- steps

-- nothing is put, and no DATA
module _ (payloads : List (List ℕ)) where
  keeps : (s t : Session) → t.put ≡ s.put → t.waits ≡ s.waits → AsMuch s.history t.history → IsAsking t.stage → IsFramed payloads s → IsFramed payloads t
  keeps s t put waits much asking f = record {
    frames = f.frames;
    put_is = put ∙ f.put_is;
    own = f.own;
    capsules = ap (λ (l : List ℕ). flat_map contents f.frames ++ l) waits ∙ f.capsules;
    counted = f.counted ∙ sym much.sent_is;
    within = omega (arith, f.within, much.sent_is, much.granted);
    asking = asking;
  }

  -- a frame without contents is put
  adds : (g : Frame) (s t : Session) → IsOwn g → contents g ≡ [] → t.put ≡ s.put ++ spelling_of g → t.waits ≡ s.waits → AsMuch s.history t.history → IsAsking t.stage
      → IsFramed payloads s → IsFramed payloads t
  adds g s t own none put waits much asking f =
      let fs : List Frame = f.frames ++ g ∷ [] in
      let joint : flat_map contents fs ≡ flat_map contents f.frames =
      flat_map-append contents f.frames (g ∷ []) ∙ ap (λ (l : List ℕ). flat_map contents f.frames ++ (l ++ [])) none ∙ append-nil (flat_map contents f.frames) in
      record {
        frames = fs;
        put_is =
            put ∙ ap (λ (l : List ℕ). l ++ spelling_of g) f.put_is ∙ append_assoc preface (flat_map spelling_of f.frames) (spelling_of g)
            ∙ ap (λ (l : List ℕ). preface ++ (flat_map spelling_of f.frames ++ l)) (sym (append-nil (spelling_of g)))
            ∙ ap (λ (l : List ℕ). preface ++ l) (sym (flat_map-append spelling_of f.frames (g ∷ [])));
        own = all_both f.frames (g ∷ []) f.own (own, tt);
        capsules = ap (λ (l : List ℕ). l ++ t.waits) joint ∙ ap (λ (l : List ℕ). flat_map contents f.frames ++ l) waits ∙ f.capsules;
        counted = ap length joint ∙ f.counted ∙ sym much.sent_is;
        within = omega (arith, f.within, much.sent_is, much.granted);
        asking = asking;
      }

-- ---- DATA

-- the frames of bytes
record Parted (n : ℕ) (bytes : List ℕ) : Type 0 where
  frames : List Frame
  text : flat_map data_frame (parts n bytes) ≡ flat_map spelling_of frames
  own : AllByRecursion IsOwn frames
  joined : flat_map contents frames ≡ bytes

few_taken : (n : ℕ) (bytes : List ℕ) → length (take n bytes) ≤ n
few_taken n bytes = omega (arith, length-take n bytes)

some_taken : (n : ℕ) (bytes : List ℕ) → 0 < n → 0 < length bytes → 0 < length (take n bytes)
some_taken n bytes some has = omega (arith, length-take n bytes, some, has)

parted : (n : ℕ) (bytes : List ℕ) → length bytes ≤ n → Parted n bytes
unfolding parts
parted zero [] few = record { frames = []; text = refl; own = tt; joined = refl }
parted zero (b ∷ bytes) few = absurd (omega (arith, few))
parted (suc n) [] few = record { frames = []; text = refl; own = tt; joined = refl }
parted (suc n) (b ∷ bytes) few =
    let all : List ℕ = b ∷ bytes in
    let part : List ℕ = take max_frame_size all in
    let rest : List ℕ = drop max_frame_size all in
    let later = parted n rest (omega (arith, few, length-drop max_frame_size all)) in
    record {
      frames = frame.Content stream part (length part) false ∷ later.frames;
      text = ap (λ (l : List ℕ). data_frame part ++ l) later.text;
      own = ((refl, refl, some_taken max_frame_size all (omega arith) (omega arith), few_taken max_frame_size all, refl), later.own);
      joined = ap (λ (l : List ℕ). part ++ l) later.joined ∙ take-append-drop max_frame_size all;
    }

module _ (payloads : List (List ℕ)) where
  framed_sends : (s : Session) → IsFramed payloads s → IsFramed payloads (sends s)
  framed_sends s f =
      let n : ℕ = sendable s in
      let bytes : List ℕ = take n s.waits in
      let p = parted (length bytes) bytes (omega arith) in
      let old : List ℕ = flat_map contents f.frames in
      let size : length bytes ≡ n = length-take-le n s.waits (omega arith) in
      let joint : flat_map contents (f.frames ++ p.frames) ≡ old ++ bytes =
      flat_map-append contents f.frames p.frames ∙ ap (λ (l : List ℕ). old ++ l) p.joined in
      record {
        frames = f.frames ++ p.frames;
        put_is =
            ap (λ (l : List ℕ). s.put ++ l) p.text ∙ ap (λ (l : List ℕ). l ++ flat_map spelling_of p.frames) f.put_is
            ∙ append_assoc preface (flat_map spelling_of f.frames) (flat_map spelling_of p.frames)
            ∙ ap (λ (l : List ℕ). preface ++ l) (sym (flat_map-append spelling_of f.frames p.frames));
        own = all_both f.frames p.frames f.own p.own;
        capsules =
            ap (λ (l : List ℕ). l ++ drop n s.waits) joint ∙ append_assoc old bytes (drop n s.waits)
            ∙ ap (λ (l : List ℕ). old ++ l) (take-append-drop n s.waits) ∙ f.capsules;
        counted = omega (arith, ap length joint, length-append old bytes, size, f.counted);
        within = omega (arith, f.within);
        asking = f.asking;
      }

  framed_at : (st : Stage) (s : Session) → IsFramed payloads s → IsFramed payloads (sends_at st s)
  framed_at (Greeting request) s f = f
  framed_at Asked s f = f
  framed_at (Open bytes) s f = framed_sends s f

  framed_open : (s : Session) → IsFramed payloads s → IsFramed payloads (sends_open s)
  framed_open s f = framed_at s.stage s f

  by_did : (did : Did) (events : List ClientEvent) (t : Session) → Is did events t → IsFramed payloads did.after → IsFramed payloads t
  by_did did events t is f = subst (λ (u : Session). IsFramed payloads u) (sym is.1) f

  either : (b : Bool) (x y : Did) → IsFramed payloads x.after → IsFramed payloads y.after → IsFramed payloads (cond b x y).after
  either true x y a c = a
  either false x y a c = c

  happened : (h : History) (s : Session) → AsMuch s.history h → IsFramed payloads s → IsFramed payloads (with_history h s)
  happened h s much f = keeps payloads s (with_history h s) refl refl much f.asking f

-- ---- SETTINGS

pick : (h : History) (c : Bool) (x y : History × Bool) → AsMuch h x.0 → AsMuch h y.0 → AsMuch h (cond c x y).0
pick h true x y a b = a
pick h false x y a b = b

shift_much : (p : Setting) (h : History) → AsMuch h (shift_of p h).0
shift_much p h =
    let shifted : History × Bool = cond (can_shift p.value h) (Shifted p.value ∷ h, true) (h, false) in
    pick h (eqb p.id 4) shifted (h, true)
    (pick h (can_shift p.value h) (Shifted p.value ∷ h, true) (h, false) (as_much_on (Shifted p.value) h refl) (same_history h)) (same_history h)

shifts_much : (ps : List Setting) (h : History) → AsMuch h (shifts ps h).0
shifts_much [] h = same_history h
shifts_much (p ∷ ps) h =
    let x : History × Bool = shift_of p h in
    pick h x.1 (shifts ps x.0) x (as_much_both h x.0 (shifts ps x.0).0 (shift_much p h) (shifts_much ps x.0)) (shift_much p h)

module _ (payloads : List (List ℕ)) where
  settled : (st : Stage) (offered : Bool) (s : Session) → IsAsking st → IsFramed payloads s → IsFramed payloads (on_settled st offered s).after
  settled (Greeting request) true s asking f =
      adds payloads (frame.Headers stream asking.0 false true) s (with_stage Asked (puts request s)) (refl, refl, refl) refl
      (ap (λ (l : List ℕ). s.put ++ l) asking.1) refl (same_history s.history) tt f
  settled (Greeting request) false s asking f = f
  settled Asked offered s asking f = f
  settled (Open bytes) offered s asking f = framed_open payloads s f

  settings : (ack : Bool) (pairs : List Setting) (s : Session) → IsFramed payloads s → IsFramed payloads (on_settings ack pairs s).after
  settings true pairs s f = f
  settings false pairs s f =
      let x : History × Bool = shifts pairs s.history in
      let t : Session = with_history x.0 s in
      let u : Session = puts_frame (frame.Settings true []) t in
      let on_t : IsFramed payloads t = happened payloads x.0 s (shifts_much pairs s.history) f in
      let on_u : IsFramed payloads u = adds payloads (frame.Settings true []) t u (refl, refl) refl refl refl (same_history x.0) f.asking on_t in
      either payloads x.1 (on_settled s.stage (offers_connect pairs) u) (breaks 3 t) (settled s.stage (offers_connect pairs) u f.asking on_u) on_t

  -- ---- header blocks

  status : (o : Option ℕ) (end : Bool) (s : Session) → IsFramed payloads s → IsFramed payloads (on_status o end s).after
  status None end s f = f
  status (Some n) end s f =
      let t : Session = with_stage (Open []) s in
      either payloads (is_successful n) (tells (Opened ∷ closing end) (sends_open t)) (tells (Refused n ∷ []) s)
      (framed_open payloads t (keeps payloads s t refl refl (same_history s.history) tt f)) f

  fields : (st : Stage) (fs : List Field) (end : Bool) (s : Session) → IsFramed payloads s → IsFramed payloads (on_fields st fs end s).after
  fields (Greeting request) fs end s f = f
  fields Asked fs end s f = status (status_of fs) end s f
  fields (Open bytes) fs end s f = f

  read : (r : Result (List Field × Table) HpackFault) (end : Bool) (s : Session) → IsFramed payloads s → IsFramed payloads (on_read r end s).after
  read (Ok x) end s f =
      let t : Session = record s { table = x.1; block = None } in
      fields s.stage x.0 end t (keeps payloads s t refl refl (same_history s.history) f.asking f)
  read (Err fault) end s f = f

  some : (many whole : Bool) (b : OpenBlock) (s : Session) (events : List ClientEvent) (t : Session) → OnSome many whole b s events t → IsFramed payloads s
      → IsFramed payloads t
  some true whole b s events t is f = by_did payloads (breaks 11 s) events t is f
  some false true b s events t is f = by_did payloads (on_read is.0 b.end s) events t is.2 (read is.0 b.end s f)
  some false false b s events t is f =
      let u : Session = record s { block = Some b } in
      by_did payloads (quietly u) events t is (keeps payloads s u refl refl (same_history s.history) f.asking f)

  headers : (own : Bool) (block : List ℕ) (end whole : Bool) (s : Session) (events : List ClientEvent) (t : Session) → OnHeaders own block end whole s events t
      → IsFramed payloads s → IsFramed payloads t
  headers true block end whole s events t is f = some (ltb max_block (length block)) whole (record { end = end; bytes = block }) s events t is f
  headers false block end whole s events t is f = by_did payloads (breaks 1 s) events t is f

  continuation : (b : Option OpenBlock) (block : List ℕ) (whole : Bool) (s : Session) (events : List ClientEvent) (t : Session) → OnContinuation b block whole s events t
      → IsFramed payloads s → IsFramed payloads t
  continuation None block whole s events t is f = by_did payloads (breaks 1 s) events t is f
  continuation (Some b) block whole s events t is f =
      some (ltb max_block (length (b.bytes ++ block))) whole (record { end = b.end; bytes = b.bytes ++ block }) s events t is f

-- ---- DATA that came

-- a WINDOW_UPDATE that is due gives something back
abbrev IsDue : Option (ℕ × ℕ) → Type 0
IsDue None = Unit {0}
IsDue (Some update) = 0 < update.1

due_by : (b : Bool) (id n : ℕ) (h : History) (rest : Option ℕ) → nat_le 16384 (to_give_back id h) ≡ b → IsDue (option_map (λ i. (i, to_give_back i h)) rest)
    → IsDue (option_map (λ i. (i, to_give_back i h)) (cond b (Some id) rest))
due_by true id n h rest e due = omega (arith, leb-true 16384 (to_give_back id h) e)
due_by false id n h rest e due = due

some_due : (ids : List ℕ) (h : History) → IsDue (option_map (λ i. (i, to_give_back i h)) (find (λ i. nat_le 16384 (to_give_back i h)) ids))
some_due [] h = tt
some_due (id ∷ ids) h = due_by (nat_le 16384 (to_give_back id h)) id 0 h (find (λ i. nat_le 16384 (to_give_back i h)) ids) refl (some_due ids h)

first_due : (b : Bool) (n : ℕ) (rest : Option (ℕ × ℕ)) → nat_le 16384 n ≡ b → IsDue rest → IsDue (cond b (Some (0, n)) rest)
first_due true n rest e due = omega (arith, leb-true 16384 n e)
first_due false n rest e due = due

update_due : (h : History) → IsDue (next_update h)
update_due h = first_due (nat_le 16384 (connection_to_give_back h)) (connection_to_give_back h) _ refl (some_due (live h) h)

module _ (payloads : List (List ℕ)) where
  back : (o : Option (ℕ × ℕ)) (s : Session) → IsDue o → IsFramed payloads s → IsFramed payloads (gives_back o s)
  back None s due f = f
  back (Some u) s due f =
      adds payloads (frame.Window u.0 u.1) s (gives_back (Some u) s) due refl refl refl (as_much_on (GivenBack u.0 u.1) s.history refl) f.asking f

  update : (s : Session) → IsFramed payloads s → IsFramed payloads (updates_once s)
  update s f = back (next_update s.history) s (update_due s.history) f

  taken : (id len : ℕ) (s : Session) → IsFramed payloads s → IsFramed payloads (takes id len s)
  taken id len s f =
      let h : History = Consumed id len ∷ after_count counted.Yes id len s.history in
      let much : AsMuch s.history h = record { sent_is = omega arith; granted = omega arith } in
      let t : Session = with_history h s in
      update (updates_once t) (update t (happened payloads h s much f))

  bytes : (st : Stage) (b : List ℕ) (end : Bool) (s : Session) (events : List ClientEvent) (t : Session) → OnBytes st b end s events t → IsFramed payloads s
      → IsFramed payloads t
  bytes (Greeting request) b end s events t is f = by_did payloads (breaks 1 s) events t is f
  bytes Asked b end s events t is f = by_did payloads (breaks 1 s) events t is f
  bytes (Open earlier) b end s events t is f =
      let u : Session = with_stage (Open (earlier ++ b)) s in
      by_did payloads _ events t is.2 (keeps payloads s u refl refl (same_history s.history) tt f)

  data_in : (k : Counted) (id : ℕ) (b : List ℕ) (len : ℕ) (end : Bool) (s : Session) (events : List ClientEvent) (t : Session) → OnData k id b len end s events t
      → IsFramed payloads s → IsFramed payloads t
  data_in counted.Yes id b len end s events t is f = bytes (takes id len s).stage b end (takes id len s) events t is (taken id len s f)
  data_in counted.Ignored id b len end s events t is f =
      by_did payloads _ events t is (happened payloads (after_count counted.Ignored id len s.history) s (record { sent_is = omega arith; granted = omega arith }) f)
  data_in counted.Idle id b len end s events t is f = by_did payloads (breaks 1 s) events t is f
  data_in counted.OverConnection id b len end s events t is f = by_did payloads (breaks 3 s) events t is f
  data_in counted.OverStream id b len end s events t is f =
      by_did payloads _ events t is (happened payloads (after_count counted.OverStream id len s.history) s (record { sent_is = omega arith; granted = omega arith }) f)

  -- ---- the other frames

  window : (k : Granted) (id grow : ℕ) (s : Session) → IsFramed payloads s → IsFramed payloads (on_window k id grow s).after
  window granted.Taken id grow s f =
      let h : History = after_grant granted.Taken id grow s.history in
      framed_open payloads (with_history h s) (happened payloads h s (record { sent_is = omega arith; granted = omega arith }) f)
  window granted.Ignored id grow s f = f
  window granted.Idle id grow s f = f
  window granted.Zero id grow s f = f
  window granted.Over id grow s f = f

  ping : (ack : Bool) (n : ℕ) (s : Session) → IsFramed payloads s → IsFramed payloads (on_ping ack n s).after
  ping true n s f = f
  ping false n s f =
      adds payloads (frame.Ping true n) s (puts_frame (frame.Ping true n) s) refl refl refl refl (same_history s.history) f.asking f

  does : (g : Frame) (s : Session) (events : List ClientEvent) (t : Session) → Does g s events t → IsFramed payloads s → IsFramed payloads t
  does (frame.Content id b len end) s events t is f = data_in (count_of id len s.history) id b len end s events t is f
  does (frame.Headers id block end whole) s events t is f = headers payloads (eqb id stream) block end whole s events t is f
  does (frame.Continuation id block whole) s events t is f = continuation payloads s.block block whole s events t is f
  does (frame.Priority id) s events t is f = by_did payloads (quietly s) events t is f
  does (frame.Reset id code) s events t is f = by_did payloads (on_reset id s) events t is (either payloads (eqb id stream) (tells (Closed ∷ []) s) (breaks 1 s) f f)
  does (frame.Settings ack pairs) s events t is f = by_did payloads _ events t is (settings payloads ack pairs s f)
  does (frame.Ping ack n) s events t is f = by_did payloads _ events t is (ping ack n s f)
  does (frame.GoAway last code) s events t is f = by_did payloads (quietly s) events t is f
  does (frame.Window id grow) s events t is f = by_did payloads _ events t is (window (grant_of id grow s.history) id grow s f)
  does (frame.Unknown kind id) s events t is f = by_did payloads (quietly s) events t is f
  does (frame.Fault code) s events t is f = by_did payloads (breaks code s) events t is f

  all_do : (over : Bool) (gs : List Frame) (s : Session) (events : List ClientEvent) (t : Session) → DoAll over gs s events t → IsFramed payloads s → IsFramed payloads t
  all_do over [] s events t all f = by_did payloads (quietly s) events t all f
  all_do true (g ∷ gs) s events t all f = by_did payloads (quietly s) events t all f
  all_do false (g ∷ gs) s events t all f = all_do (ended all.0) gs all.1 all.2 t all.4 (does g s all.0 all.1 all.3 f)

-- ---- a payload is sent

one_more : (payloads : List (List ℕ)) (payload : List ℕ) → capsules_of (payloads ++ payload ∷ []) ≡ capsules_of payloads ++ capsule_text (datagram payload)
one_more payloads payload =
    flat_map-append (λ (p : List ℕ). capsule_text (datagram p)) payloads (payload ∷ [])
    ∙ ap (λ (l : List ℕ). capsules_of payloads ++ l) (append-nil (capsule_text (datagram payload)))

framed_until : (payloads : List (List ℕ)) (over : Bool) (s : Session) → IsFramed payloads s → IsFramed payloads (sends_until over s)
framed_until payloads true s f = f
framed_until payloads false s f = framed_open payloads s f

sent_on : (payloads : List (List ℕ)) (over : Bool) (payload : List ℕ) (s : Session) → IsFramed payloads s → IsFramed (payloads ++ payload ∷ []) (session_sent over payload s)
sent_on payloads over payload s f =
    let capsule : List ℕ = capsule_text (datagram payload) in
    framed_until (payloads ++ payload ∷ []) over (waits_more capsule s) (record {
      frames = f.frames;
      put_is = f.put_is;
      own = f.own;
      capsules =
          sym (append_assoc (flat_map contents f.frames) s.waits capsule) ∙ ap (λ (l : List ℕ). l ++ capsule) f.capsules ∙ sym (one_more payloads payload);
      counted = f.counted;
      within = f.within;
      asking = f.asking;
    })

begun : (path host : List ℕ) → IsFramed [] (talk_begun path host).session
unfolding request_frame
begun path host = record {
  frames = [];
  put_is = sym (append-nil preface);
  own = tt;
  capsules = refl;
  counted = refl;
  within = omega arith;
  asking = (block_text true (request_fields path host), refl);
}

read_on : (payloads : List (List ℕ)) (s : Talk) (piece : List ℕ) (events : List ClientEvent) (t : Talk) → IsFramed payloads s.session → ReadsFrames s piece events t
    → IsFramed payloads t.session
read_on payloads s piece events t f reads =
    subst (λ (u : Talk). IsFramed payloads u.session) (sym reads.state_is) (all_do payloads (is_over s) reads.frames s.session events reads.after reads.did f)

pub always_framed : IsAlwaysFramed
always_framed = record {
  begins = begun;
  reads = read_on;
  sends = λ payloads s payload f. sent_on payloads (is_over s) payload s.session f;
  writes = λ payloads s count f. record {
    frames = f.frames;
    put_is = f.put_is;
    own = f.own;
    capsules = f.capsules;
    counted = f.counted;
    within = f.within;
    asking = f.asking;
  };
}
