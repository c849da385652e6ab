-- What each frame tells, and of which bytes.
use Rattle.std.proofs.Common.{◌≡◌, ℕ, Bool, true, false, cond, eqb, ltb, ◌||◌, List, [], ◌∷◌, ◌++◌, length, Option, Some, None, Result, Ok, Err, refl, sym, ap, subst, ◌∙◌, append-nil, append_assoc}
use Rattle.std.specs.List.{flat_map}
use Rattle.std.proofs.lemmas.Grind.{flat_map-append}
use Rattle.mq_capsule.specs.declared.item.Item.{Item}
use Rattle.mq_capsule.specs.Items.{ItemsOf}
use Rattle.mq_capsule.specs.Laws as capsule
use Rattle.mq_frame.specs.declared.frame.Frame.{Frame}
use Rattle.mq_frame.specs.declared.frame.Frame.TheVariants as frame
use Rattle.mq_frame.specs.declared.frame.Setting.{Setting}
use Rattle.mq_frame.specs.Stream.{FramesOf}
use Rattle.mq_frame.specs.Laws as frames
use Rattle.mq_hpack.specs.declared.field.Field.{Field}
use Rattle.mq_hpack.specs.declared.fault.HpackFault.{HpackFault}
use Rattle.mq_hpack.specs.Table.{Table}
use Rattle.mq_streams.specs.History.{History, Consumed}
use Rattle.mq_streams.specs.Answers.{count_of, after_count, grant_of, after_grant, next_update}
use Rattle.mq_streams.specs.declared.answers.Counted.{Counted}
use Rattle.mq_streams.specs.declared.answers.Counted.TheVariants as counted
use Rattle.mq_streams.specs.declared.answers.Granted.{Granted}
use Rattle.mq_streams.specs.declared.answers.Granted.TheVariants as granted
use Rattle.mq_client.specs.declared.block.OpenBlock.{OpenBlock}
use Rattle.mq_client.specs.declared.event.ClientEvent.{ClientEvent}
use Rattle.mq_client.specs.declared.event.ClientEvent.TheVariants.{Opened, Refused, Closed, BadPeer}
use Rattle.mq_client.specs.Asking.{stream}
use Rattle.mq_client.specs.Events.{is_last, events_of}
use Rattle.mq_client.specs.Framed.{contents}
use Rattle.mq_client.specs.Session.{Session, Stage, Greeting, Asked, Open, with_history, with_stage, puts_frame, ended}
use Rattle.mq_client.specs.Sending.{sends_at, sends_open, sends_until, waits_more}
use Rattle.mq_client.specs.Settling.{shifts, offers_connect}
use Rattle.mq_client.specs.Statuses.{status_of, is_successful}
use Rattle.mq_client.specs.Frames.{Did, Is, Says, quietly, tells, breaks, closing, unless_last, told_of, max_block, fault_code, on_settled, on_settings, on_status, on_fields, on_read, OnSome, OnHeaders, OnContinuation, OnBytes, OnData, on_reset, on_window, on_ping, gives_back, updates_once, takes, Does, DoAll}
use Rattle.mq_client.specs.Talk.{Talk, talk_begun, is_over, ReadsFrames, session_sent}
use Rattle.mq_client.specs.Telling.{read_of, IsLast, Tells, TellsOf, IsToldOf, IsAlwaysTold}
use Rattle.mq_client.proofs.Told.{ended_both, events_open}

-- ---- what a frame does to the stage, and what it tells

data Effect (g : Frame) : Stage → List ClientEvent → Stage → Type 0 where
  quiet : (st : Stage) → contents g ≡ [] → Effect g st [] st
  lasts : (st : Stage) (e : ClientEvent) → is_last e ≡ true → Effect g st (e ∷ []) st
  asks : (request : List ℕ) → contents g ≡ [] → Effect g (Greeting request) [] Asked
  opens : (end : Bool) → contents g ≡ [] → Effect g Asked (Opened ∷ closing end) (Open [])
  reads : (earlier : List ℕ) (later : List Item) (end : Bool) → Says earlier (contents g) later → Effect g (Open earlier) (told_of later end) (Open (earlier ++ contents g))

module _ (g : Frame) where
  at : (st a b : Stage) (events : List ClientEvent) → a ≡ b → Effect g st events a → Effect g st events b
  at st a b events e x = subst (λ (z : Stage). Effect g st events z) e x

  by_did : (st : Stage) (did : Did) (events : List ClientEvent) (t : Session) → Is did events t → Effect g st did.events did.after.stage → Effect g st events t.stage
  by_did st did events t is x =
      subst (λ (l : List ClientEvent). Effect g st l t.stage) (sym is.0) (subst (λ (u : Session). Effect g st did.events u.stage) (sym is.1) x)

  either : (st : Stage) (b : Bool) (x y : Did) → Effect g st x.events x.after.stage → Effect g st y.events y.after.stage
      → Effect g st (cond b x y).events (cond b x y).after.stage
  either st true x y a c = a
  either st false x y a c = c

  broken : (code : ℕ) (s : Session) → Effect g s.stage (BadPeer code ∷ []) s.stage
  broken code s = lasts s.stage (BadPeer code) refl

sent_at : (st : Stage) (s : Session) → (sends_at st s).stage ≡ s.stage
sent_at (Greeting request) s = refl
sent_at Asked s = refl
sent_at (Open bytes) s = refl

sent_stage : (s : Session) → (sends_open s).stage ≡ s.stage
sent_stage s = sent_at s.stage s

-- ---- SETTINGS

module _ (g : Frame) (none : contents g ≡ []) where
  settled : (st : Stage) (offered : Bool) (s : Session) → st ≡ s.stage → Effect g st (on_settled st offered s).events (on_settled st offered s).after.stage
  settled (Greeting request) true s e = asks request none
  settled (Greeting request) false s e = at g (Greeting request) (Greeting request) s.stage (Refused 0 ∷ []) e (lasts (Greeting request) (Refused 0) refl)
  settled Asked offered s e = at g Asked Asked s.stage [] e (quiet Asked none)
  settled (Open bytes) offered s e = at g (Open bytes) (Open bytes) (sends_open s).stage [] (e ∙ sym (sent_stage s)) (quiet (Open bytes) none)

  settings : (ack : Bool) (pairs : List Setting) (s : Session) → Effect g s.stage (on_settings ack pairs s).events (on_settings ack pairs s).after.stage
  settings true pairs s = quiet s.stage none
  settings false pairs s =
      let x : History × Bool = shifts pairs s.history in
      let t : Session = with_history x.0 s in
      let u : Session = puts_frame (frame.Settings true []) t in
      either g s.stage x.1 (on_settled s.stage (offers_connect pairs) u) (breaks 3 t) (settled s.stage (offers_connect pairs) u refl) (broken g 3 t)

  -- ---- header blocks

  closes : (end : Bool) (st : Stage) → Effect g st (closing end) st
  closes true st = lasts st Closed refl
  closes false st = quiet st none

  status : (o : Option ℕ) (end : Bool) (s : Session) → s.stage ≡ Asked → Effect g Asked (on_status o end s).events (on_status o end s).after.stage
  status None end s e = at g Asked Asked s.stage (BadPeer 1 ∷ []) (sym e) (lasts Asked (BadPeer 1) refl)
  status (Some n) end s e =
      let t : Session = with_stage (Open []) s in
      either g Asked (is_successful n) (tells (Opened ∷ closing end) (sends_open t)) (tells (Refused n ∷ []) s)
      (at g Asked (Open []) (sends_open t).stage (Opened ∷ closing end) (sym (sent_stage t)) (opens end none))
      (at g Asked Asked s.stage (Refused n ∷ []) (sym e) (lasts Asked (Refused n) refl))

  fields : (st : Stage) (fs : List Field) (end : Bool) (s : Session) → st ≡ s.stage → Effect g st (on_fields st fs end s).events (on_fields st fs end s).after.stage
  fields (Greeting request) fs end s e = at g (Greeting request) (Greeting request) s.stage (BadPeer 1 ∷ []) e (lasts (Greeting request) (BadPeer 1) refl)
  fields Asked fs end s e = status (status_of fs) end s (sym e)
  fields (Open bytes) fs end s e = at g (Open bytes) (Open bytes) s.stage (closing end) e (closes end (Open bytes))

  read : (r : Result (List Field × Table) HpackFault) (end : Bool) (s : Session) → Effect g s.stage (on_read r end s).events (on_read r end s).after.stage
  read (Ok x) end s = fields s.stage x.0 end (record s { table = x.1; block = None }) refl
  read (Err fault) end s = broken g (fault_code fault) s

  some : (many whole : Bool) (b : OpenBlock) (s : Session) (events : List ClientEvent) (t : Session) → OnSome many whole b s events t → Effect g s.stage events t.stage
  some true whole b s events t is = by_did g s.stage (breaks 11 s) events t is (broken g 11 s)
  some false true b s events t is = by_did g s.stage (on_read is.0 b.end s) events t is.2 (read is.0 b.end s)
  some false false b s events t is = by_did g s.stage (quietly (record s { block = Some b })) events t is (quiet s.stage none)

  headers : (own : Bool) (block : List ℕ) (end whole : Bool) (s : Session) (events : List ClientEvent) (t : Session) → OnHeaders own block end whole s events t
      → Effect g s.stage events t.stage
  headers true block end whole s events t is = some (ltb max_block (length block)) whole (record { end = end; bytes = block }) s events t is
  headers false block end whole s events t is = by_did g s.stage (breaks 1 s) events t is (broken g 1 s)

  continuation : (b : Option OpenBlock) (block : List ℕ) (whole : Bool) (s : Session) (events : List ClientEvent) (t : Session) → OnContinuation b block whole s events t
      → Effect g s.stage events t.stage
  continuation None block whole s events t is = by_did g s.stage (breaks 1 s) events t is (broken g 1 s)
  continuation (Some b) block whole s events t is =
      some (ltb max_block (length (b.bytes ++ block))) whole (record { end = b.end; bytes = b.bytes ++ block }) s events t is

  -- ---- the other frames

  window : (k : Granted) (id grow : ℕ) (s : Session) → Effect g s.stage (on_window k id grow s).events (on_window k id grow s).after.stage
  window granted.Taken id grow s =
      let t : Session = with_history (after_grant granted.Taken id grow s.history) s in
      at g s.stage s.stage (sends_open t).stage [] (sym (sent_stage t)) (quiet s.stage none)
  window granted.Ignored id grow s = quiet s.stage none
  window granted.Idle id grow s = broken g 1 s
  window granted.Zero id grow s = broken g 1 s
  window granted.Over id grow s = broken g 3 s

  ping : (ack : Bool) (n : ℕ) (s : Session) → Effect g s.stage (on_ping ack n s).events (on_ping ack n s).after.stage
  ping true n s = quiet s.stage none
  ping false n s = quiet s.stage none

-- ---- DATA

back_stage : (o : Option (ℕ × ℕ)) (s : Session) → (gives_back o s).stage ≡ s.stage
back_stage None s = refl
back_stage (Some u) s = refl

update_stage : (s : Session) → (updates_once s).stage ≡ s.stage
update_stage s = back_stage (next_update s.history) s

taken_stage : (id len : ℕ) (s : Session) → (takes id len s).stage ≡ s.stage
taken_stage id len s =
    let t : Session = with_history (Consumed id len ∷ after_count counted.Yes id len s.history) s in
    update_stage (updates_once t) ∙ update_stage t

module _ (id : ℕ) (b : List ℕ) (len : ℕ) (end : Bool) where
  abbrev g : Frame
  g = frame.Content id b len end

  bytes : (st : Stage) (s : Session) (events : List ClientEvent) (t : Session) → st ≡ s.stage → OnBytes st b end s events t → Effect g st events t.stage
  bytes (Greeting request) s events t e is = by_did g (Greeting request) (breaks 1 s) events t is
      (at g (Greeting request) (Greeting request) s.stage (BadPeer 1 ∷ []) e (lasts (Greeting request) (BadPeer 1) refl))
  bytes Asked s events t e is = by_did g Asked (breaks 1 s) events t is (at g Asked Asked s.stage (BadPeer 1 ∷ []) e (lasts Asked (BadPeer 1) refl))
  bytes (Open earlier) s events t e is =
      by_did g (Open earlier) (tells (told_of is.0 end) (with_stage (Open (earlier ++ b)) s)) events t is.2 (reads earlier is.0 end is.1)

  came : (k : Counted) (s : Session) (events : List ClientEvent) (t : Session) → OnData k id b len end s events t → Effect g s.stage events t.stage
  came counted.Yes s events t is =
      let u : Session = takes id len s in
      subst (λ (z : Stage). Effect g z events t.stage) (taken_stage id len s) (bytes u.stage u events t refl is)
  came counted.Ignored s events t is = by_did g s.stage _ events t is (broken g 1 s)
  came counted.Idle s events t is = by_did g s.stage (breaks 1 s) events t is (broken g 1 s)
  came counted.OverConnection s events t is = by_did g s.stage (breaks 3 s) events t is (broken g 3 s)
  came counted.OverStream s events t is = by_did g s.stage _ events t is (broken g 3 s)

effect : (f : Frame) (s : Session) (events : List ClientEvent) (t : Session) → Does f s events t → Effect f s.stage events t.stage
effect (frame.Content id b len end) s events t is = came id b len end (count_of id len s.history) s events t is
effect (frame.Headers id block end whole) s events t is = headers (frame.Headers id block end whole) refl (eqb id stream) block end whole s events t is
effect (frame.Continuation id block whole) s events t is = continuation (frame.Continuation id block whole) refl s.block block whole s events t is
effect (frame.Priority id) s events t is = by_did (frame.Priority id) s.stage (quietly s) events t is (quiet s.stage refl)
effect (frame.Reset id code) s events t is =
    let f : Frame = frame.Reset id code in
    by_did f s.stage (on_reset id s) events t is (either f s.stage (eqb id stream) (tells (Closed ∷ []) s) (breaks 1 s) (lasts s.stage Closed refl) (broken f 1 s))
effect (frame.Settings ack pairs) s events t is =
    by_did (frame.Settings ack pairs) s.stage (on_settings ack pairs s) events t is (settings (frame.Settings ack pairs) refl ack pairs s)
effect (frame.Ping ack n) s events t is = by_did (frame.Ping ack n) s.stage (on_ping ack n s) events t is (ping (frame.Ping ack n) refl ack n s)
effect (frame.GoAway last code) s events t is = by_did (frame.GoAway last code) s.stage (quietly s) events t is (quiet s.stage refl)
effect (frame.Window id grow) s events t is =
    by_did (frame.Window id grow) s.stage (on_window (grant_of id grow s.history) id grow s) events t is (window (frame.Window id grow) refl (grant_of id grow s.history) id grow s)
effect (frame.Unknown kind id) s events t is = by_did (frame.Unknown kind id) s.stage (quietly s) events t is (quiet s.stage refl)
effect (frame.Fault code) s events t is = by_did (frame.Fault code) s.stage (breaks code s) events t is (broken (frame.Fault code) code s)

-- ---- one more frame

-- no last event was told
no_last : (events : List ClientEvent) → IsLast events → ended events ≡ false → events ≡ []
no_last [] is none = refl
no_last (e ∷ events) is none = absurd (let last = is.0 in let neither : (is_last e || ended events) ≡ false = none in last_too (is_last e) (ended events) last neither)
  where
    last_too : (a b : Bool) → a ≡ true → (a || b) ≡ false → ⊥
    last_too true b t e = cc
    last_too false b t e = cc

later_none : (xs ys : List ClientEvent) → ended (xs ++ ys) ≡ false → (ended xs ≡ false) × (ended ys ≡ false)
later_none xs ys e = split (ended xs) (ended ys) (sym (ended_both xs ys) ∙ e)
  where
    split : (a b : Bool) → (a || b) ≡ false → (a ≡ false) × (b ≡ false)
    split true b e = absurd cc
    split false b e = (refl, e)

closing_last : (end : Bool) → IsLast (closing end)
closing_last true = (refl, refl)
closing_last false = tt

module _ (says : capsule.IsReadOnce) (nothing : ItemsOf false [] []) where
  -- one event, the last
  told_last : (st : Stage) (told : List ClientEvent) (e : ClientEvent) → Tells st told → ended told ≡ false → is_last e ≡ true → Tells st (told ++ e ∷ [])
  told_last (Greeting request) told e tells none last =
      subst (λ (l : List ClientEvent). IsLast (l ++ e ∷ [])) (sym (no_last told tells none)) (last, refl)
  told_last Asked told e tells none last = subst (λ (l : List ClientEvent). IsLast (l ++ e ∷ [])) (sym (no_last told tells none)) (last, refl)
  told_last (Open bytes) told e tells none last =
      let items = tells.0 in
      let all = later_none (Opened ∷ events_of items) tells.1 (ap ended (sym tells.4) ∙ none) in
      let gone : tells.1 ≡ [] = no_last tells.1 tells.3 all.1 in (
        items,
        e ∷ [],
        tells.2,
        (last, refl),
        ap (λ (l : List ClientEvent). l ++ e ∷ []) tells.4
            ∙ ap (λ (l : List ClientEvent). Opened ∷ ((events_of items ++ l) ++ e ∷ [])) gone
            ∙ ap (λ (l : List ClientEvent). Opened ∷ (l ++ e ∷ [])) (append-nil (events_of items)),
      )

  -- the contents of one frame more
  joined : (fs : List Frame) (f : Frame) → flat_map contents (fs ++ f ∷ []) ≡ flat_map contents fs ++ contents f
  joined fs f = flat_map-append contents fs (f ∷ []) ∙ ap (λ (l : List ℕ). flat_map contents fs ++ l) (append-nil (contents f))

  -- one that has none
  same_read : (fs : List Frame) (f : Frame) (bytes rest : List ℕ) → contents f ≡ [] → flat_map contents fs ≡ bytes ++ rest → flat_map contents (fs ++ f ∷ []) ≡ bytes ++ rest
  same_read fs f bytes rest none e = joined fs f ∙ ap (λ (l : List ℕ). flat_map contents fs ++ l) none ∙ append-nil (flat_map contents fs) ∙ e

  step : (f : Frame) (fs : List Frame) (st st' : Stage) (told first : List ClientEvent) → Effect f st first st' → TellsOf fs told st → ended told ≡ false
      → TellsOf (fs ++ f ∷ []) (told ++ first) st'
  step f fs st st' told first (quiet same empty) of none = record {
    rest = of.rest;
    read = same_read fs f (read_of same) of.rest empty of.read;
    whole = λ e. of.whole none;
    tells = subst (λ (l : List ClientEvent). Tells same l) (sym (append-nil told)) of.tells;
  }
  step f fs st st' told first (lasts same e last) of none = record {
    rest = of.rest ++ contents f;
    read = joined fs f ∙ ap (λ (l : List ℕ). l ++ contents f) of.read ∙ append_assoc (read_of same) of.rest (contents f);
    whole = λ on. absurd (let x = (later_none told (e ∷ []) on).1 in let y : (is_last e || false) ≡ false = x in last_or (is_last e) last y);
    tells = told_last same told e of.tells none last;
  }
    where
      last_or : (a : Bool) → a ≡ true → (a || false) ≡ false → ⊥
      last_or true t on = cc
      last_or false t on = cc
  step f fs st st' told first (asks request empty) of none = record {
    rest = of.rest;
    read = same_read fs f [] of.rest empty of.read;
    whole = λ e. of.whole none;
    tells = subst (λ (l : List ClientEvent). IsLast l) (sym (append-nil told)) of.tells;
  }
  step f fs st st' told first (opens end empty) of none =
      let gone : told ≡ [] = no_last told of.tells none in
      record {
        rest = of.rest;
        read = same_read fs f [] of.rest empty of.read;
        whole = λ e. of.whole none;
        tells = ([], closing end, nothing, closing_last end, ap (λ (l : List ClientEvent). l ++ Opened ∷ closing end) gone);
      }
  step f fs st st' told first (reads earlier later end new) of none =
      let tells = of.tells in
      let items = tells.0 in
      let all = later_none (Opened ∷ events_of items) tells.1 (ap ended (sym tells.4) ∙ none) in
      let gone : tells.1 ≡ [] = no_last tells.1 tells.3 all.1 in
      let on : ended (events_of items) ≡ false = all.0 in
      let same : items ≡ new.items = says false earlier items new.items tells.2 new.were in
      let both : events_of (items ++ later) ≡ events_of items ++ events_of later = events_open items later on in
      let tail : List ClientEvent = unless_last (ended (events_of later)) (closing end) in
      record {
        rest = [];
        read =
            joined fs f ∙ ap (λ (l : List ℕ). l ++ contents f) (of.read ∙ ap (λ (l : List ℕ). earlier ++ l) (of.whole none) ∙ append-nil earlier)
            ∙ sym (append-nil (earlier ++ contents f));
        whole = λ e. refl;
        tells = (
          items ++ later,
          tail,
          subst (λ (l : List Item). ItemsOf false (earlier ++ contents f) (l ++ later)) (sym same) new.are,
          tail_last (ended (events_of later)) end,
          ap (λ (l : List ClientEvent). l ++ told_of later end) tells.4
              ∙ ap (λ (l : List ClientEvent). Opened ∷ ((events_of items ++ l) ++ told_of later end)) gone
              ∙ ap (λ (l : List ClientEvent). Opened ∷ (l ++ told_of later end)) (append-nil (events_of items))
              ∙ ap (λ (l : List ClientEvent). Opened ∷ l) (sym (append_assoc (events_of items) (events_of later) tail))
              ∙ ap (λ (l : List ClientEvent). Opened ∷ (l ++ tail)) (sym both),
        );
      }
    where
      tail_last : (b : Bool) (c : Bool) → IsLast (unless_last b (closing c))
      tail_last true c = tt
      tail_last false c = closing_last c

  -- ---- all frames

  -- behind the last event
  more_frames : (fs gs : List Frame) (told : List ClientEvent) (st : Stage) → ended told ≡ true → TellsOf fs told st → TellsOf (fs ++ gs) told st
  more_frames fs gs told st over of = record {
    rest = of.rest ++ flat_map contents gs;
    read = flat_map-append contents fs gs ∙ ap (λ (l : List ℕ). l ++ flat_map contents gs) of.read ∙ append_assoc (read_of st) of.rest (flat_map contents gs);
    whole = λ on. absurd (let no_more : ended told ≡ false = on in cc);
    tells = of.tells;
  }

  all_tell : (over : Bool) (gs fs : List Frame) (s : Session) (told events : List ClientEvent) (t : Session) → ended told ≡ over → DoAll over gs s events t
      → TellsOf fs told s.stage → TellsOf (fs ++ gs) (told ++ events) t.stage
  all_tell over [] fs s told events t is all of =
      subst (λ (u : Session). TellsOf (fs ++ []) (told ++ events) u.stage) (sym all.1)
      (subst (λ (l : List ClientEvent). TellsOf (fs ++ []) (told ++ l) s.stage) (sym all.0)
      (subst (λ (l : List ClientEvent). TellsOf (fs ++ []) l s.stage) (sym (append-nil told)) (subst (λ (l : List Frame). TellsOf l told s.stage) (sym (append-nil fs)) of)))
  all_tell true (g ∷ gs) fs s told events t is all of =
      subst (λ (u : Session). TellsOf (fs ++ g ∷ gs) (told ++ events) u.stage) (sym all.1)
      (subst (λ (l : List ClientEvent). TellsOf (fs ++ g ∷ gs) (told ++ l) s.stage) (sym all.0)
      (subst (λ (l : List ClientEvent). TellsOf (fs ++ g ∷ gs) l s.stage) (sym (append-nil told)) (more_frames fs (g ∷ gs) told s.stage is of)))
  all_tell false (g ∷ gs) fs s told events t is all of =
      let first = all.0 in
      let mid = all.1 in
      let now : TellsOf (fs ++ g ∷ []) (told ++ first) mid.stage = step g fs s.stage mid.stage told first (effect g s first mid all.3) of is in
      let over : ended (told ++ first) ≡ ended first = ended_both told first ∙ ap (λ (b : Bool). b || ended first) is in
      let done = all_tell (ended first) gs (fs ++ g ∷ []) mid (told ++ first) all.2 t over all.4 now in
      subst (λ (l : List ClientEvent). TellsOf (fs ++ g ∷ gs) (told ++ l) t.stage) (sym all.5)
      (subst (λ (l : List ClientEvent). TellsOf (fs ++ g ∷ gs) l t.stage) (append_assoc told first all.2)
      (subst (λ (l : List Frame). TellsOf l ((told ++ first) ++ all.2) t.stage) (append_assoc fs (g ∷ []) gs) done))

  module _ (once : frames.IsReadOnce) where
    read_on : (s : Talk) (piece : List ℕ) (events : List ClientEvent) (t : Talk) → IsToldOf s → ReadsFrames s piece events t → IsToldOf t
    read_on s piece events t told read =
        let earlier : told.frames ≡ read.earlier = once s.came told.frames read.earlier told.are read.were in
        let of : TellsOf read.earlier s.told s.session.stage = subst (λ (fs : List Frame). TellsOf fs s.told s.session.stage) earlier told.of in
        subst (λ (u : Talk). IsToldOf u) (sym read.state_is) (record {
          frames = read.earlier ++ read.frames;
          are = read.are;
          of = all_tell (is_over s) read.frames read.earlier s.session s.told events read.after refl read.did of;
        })

until_stage : (over : Bool) (s : Session) → (sends_until over s).stage ≡ s.stage
until_stage true s = refl
until_stage false s = sent_stage s

begun : ItemsOf false [] [] → FramesOf [] [] → (path host : List ℕ) → IsToldOf (talk_begun path host)
begun nothing none path host = record { frames = []; are = none; of = record { rest = []; read = refl; whole = λ e. refl; tells = tt } }

sent_on : (s : Talk) (payload : List ℕ) → IsToldOf s → IsToldOf (record s { session = session_sent (is_over s) payload s.session })
sent_on s payload told = record {
  frames = told.frames;
  are = told.are;
  of = subst (λ (st : Stage). TellsOf told.frames s.told st) (sym (until_stage (is_over s) (waits_more _ s.session))) told.of;
}

pub always_told : capsule.IsReadOnce → ItemsOf false [] [] → FramesOf [] [] → frames.IsReadOnce → IsAlwaysTold
always_told says nothing none once = record {
  begins = begun nothing none;
  reads = read_on says nothing once;
  sends = sent_on;
  writes = λ s count told. record { frames = told.frames; are = told.are; of = told.of };
}
