-- What a step of the pump makes of a world.
use Rattle.std.proofs.Common.{◌≡◌, ℕ, suc, ◌+◌, ◌<◌, ◌≤◌, Bool, true, false, cond, List, [], ◌∷◌, ◌++◌, length, All, slice_get, Option, Some, None, Result, Ok, Err, refl, sym, ap, subst, ◌∙◌, arith}
use Rattle.std.specs.Prelude.{◌↔◌, option_map, unwrap_or, is_some, nat_lt}
use Rattle.std.specs.Bool.{MatchBool}
use Rattle.mq_wire.specs.declared.NoMemory.{NoMemory}
use Rattle.mq_addr.specs.declared.range.Flow.{Flow}
use Rattle.mq_talk.specs.declared.book.Config.{Config}
use Rattle.mq_talk.specs.declared.book.Entry.{Entry}
use Rattle.mq_talk.specs.declared.goal.Goal.{Goal}
use Rattle.mq_talk.specs.declared.note.Note.{Note}
use Rattle.mq_talk.specs.declared.place.Parcel.{Parcel}
use Rattle.mq_talk.specs.declared.place.Verdict.{Verdict}
use Rattle.mq_talk.specs.declared.place.Verdict.TheVariants as verdict
use Rattle.mq_talk.specs.Config.{IsConfig}
use Rattle.mq_talk.specs.Mails.{Boxes, box_at, has_room, Inboxes}
use Rattle.mq_talk.specs.Packets.{flow_of}
use Rattle.mq_talk.specs.Offices.{Seen, IsSound, Sees}
use Rattle.mq_outside.specs.Counts.{PortCounts, no_link_counts, no_port_counts}
use Rattle.mq_outside.specs.Nets.{Arrival, NetHolds}
use Rattle.mq_machine.specs.State.{Told, Held, Worker, Pump, Orders, Shared, State}
use Rattle.mq_machine.specs.Shared.{inbox_of}
use Rattle.mq_machine.specs.Placing.{ArePlaced}
use Rattle.mq_machine.specs.Acting.{Outside, Known, IsOpen, HasTunnel, Meets, NetRefills, PumpGave, PumpGives, PumpKnown, PumpLeaves, PumpSight, PumpSteps, bare_pump, shared_sight}
use Rattle.mq_machine.specs.Turn.{ThePump, PumpTry, PushHeld, SendHeld, SendNext, Receives, PumpNext, PumpTurn, IsMet, IsReceived, Turn, pump_try, parcel_pushed, net_sent, net_popped, net_judged, with_arrivals, last_of}
use Rattle.mq_mem.specs.Mails.{Mail as MailOf, shown}
use Rattle.mq_mem.specs.Offices.{Office as OfficeOf, seen_of}
use Rattle.mq_net.specs.Sims.{Sim, holds_of, told}
use Rattle.mq_pump.specs.declared.pump.Pump.{Pump as PumpBy}
use Rattle.mq_pump.specs.Holds.{IsPump, pump_sight}
use Rattle.mq_pump.proofs.Turns.{with_holds}
use Rattle.mq_plain.specs.Served.{Plain}
use Rattle.mq_plain.specs.Taking.{shared_of}
use Rattle.mq_actor.specs.Steps.{sight}
use Rattle.mq_world.specs.declared.workers.Workers.{Workers}
use Rattle.mq_world.specs.Worlds.{ActorGives, AreServed, IsWorld, common_of}
use Rattle.mq_world.proofs.Offered.{workers_long}

-- ---- its inbox

-- the last inbox is the pump's
last_at : (boxes : Boxes) (n : ℕ) → length boxes ≡ n + 1 → last_of boxes ≡ n
last_at [] n size = absurd (omega (arith, size))
last_at (box ∷ boxes) n size = omega (arith, size)

-- it stands behind those of so many workers
pub count_is : (old : Workers) (s : State) → IsWorld old s → (k : ℕ) → k ≡ length s.workers → k ≡ old.office.book.config.workers
count_is old s is k at = at ∙ workers_long old s is ∙ is.count

pub pump_box : (old : Workers) (s : State) → IsWorld old s → (k : ℕ) → k ≡ length s.workers → box_at s.shared.boxes (last_of s.shared.boxes) ≡ box_at old.mail.boxes k
pump_box old s is k at =
    ap (λ (sh : Shared). box_at sh.boxes (last_of sh.boxes)) is.shared
    ∙ ap (λ (i : ℕ). box_at old.mail.boxes i) (last_at old.mail.boxes old.office.book.config.workers is.boxes ∙ sym (count_is old s is k at))

-- ---- what is shared

-- nothing of it changes but the inboxes
abbrev KeptBy : Shared → Note × Pump × Shared → Type 0
KeptBy sh d = d.2 ≡ record sh { boxes = d.2.boxes }

abbrev KeptIn : Shared → Option (Note × Pump × Shared) → Type 0
KeptIn sh None = Unit {0}
KeptIn sh (Some d) = KeptBy sh d

kept_some : (sh : Shared) (o : Option (Note × Pump × Shared)) (d : Note × Pump × Shared) → KeptIn sh o → o ≡ Some d → KeptBy sh d
kept_some sh o d kept is = subst (KeptIn sh) is kept

kept_push : (p : Pump) (sh : Shared) (parcel : Parcel) (room : Bool) → KeptBy sh (parcel_pushed p sh parcel room)
kept_push p sh parcel true = refl
kept_push p sh parcel false = refl

kept_either : (b : Bool) (sh : Shared) (d e : Note × Pump × Shared) → KeptBy sh d → KeptBy sh e → KeptBy sh (cond b d e)
kept_either true sh d e x y = x
kept_either false sh d e x y = y

kept_sent : (p : Pump) (sh base : Shared) (parcel : Parcel) → sh ≡ record base { boxes = sh.boxes } → KeptBy base (net_sent p sh parcel)
kept_sent p sh base parcel is = kept_either p.net.holds.send_fails base _ _ is (kept_either p.net.holds.send_waits base _ _ is is)

kept_held : (p : Pump) (sh : Shared) (o : Option Parcel) → KeptIn sh (option_map (net_sent p sh) o)
kept_held p sh None = tt
kept_held p sh (Some parcel) = kept_sent p sh sh parcel refl

kept_pushes : (p : Pump) (sh : Shared) (o : Option Parcel) → KeptIn sh (option_map (λ (parcel : Parcel). parcel_pushed p sh parcel (has_room sh.boxes (inbox_of sh.boxes parcel.to))) o)
kept_pushes p sh None = tt
kept_pushes p sh (Some parcel) = kept_push p sh parcel (has_room sh.boxes (inbox_of sh.boxes parcel.to))

kept_popped : (p : Pump) (sh : Shared) (i : ℕ) (box : List Parcel) → KeptIn sh (net_popped p sh i box)
kept_popped p sh i [] = tt
kept_popped p sh i (parcel ∷ rest) = kept_sent p _ sh parcel refl

kept_judged : (p : Pump) (sh : Shared) (n : ℕ) (packet : List ℕ) (v : Verdict) → KeptBy sh (net_judged p sh n packet v)
kept_judged p sh n packet (verdict.Pass to) = refl
kept_judged p sh n packet verdict.Source = refl
kept_judged p sh n packet verdict.NoRoute = refl

kept_match : (b : Bool) (sh : Shared) (P Q : Type 0) (d : Note × Pump × Shared) → (P → KeptBy sh d) → (Q → KeptBy sh d) → MatchBool b P Q → KeptBy sh d
kept_match true sh P Q d f g x = f x
kept_match false sh P Q d f g x = g x

kept_met : (p : Pump) (sh : Shared) (n : ℕ) (packet : List ℕ) (o : Option Flow) (d : Note × Pump × Shared) → IsMet p sh n packet o d → KeptBy sh d
kept_met p sh n packet None d is = subst (KeptBy sh) (sym is) refl
kept_met p sh n packet (Some flow) d is =
    kept_match (nat_lt p.mtu (length packet)) sh _ _ d (λ e. subst (KeptBy sh) (sym e) refl) (λ y. subst (KeptBy sh) (sym y.2) (kept_judged p sh n packet y.0)) is

kept_received : (p : Pump) (sh : Shared) (arrived : List Arrival) (d : Note × Pump × Shared) → IsReceived p sh arrived d → KeptBy sh d
kept_received p sh [] d is = absurd is
kept_received p sh (first ∷ others) d is = kept_met (record p { net = with_arrivals others p.net }) sh p.net.received first.packet (flow_of first.packet) d is

kept_try : (p : Pump) (sh : Shared) (try : PumpTry) (d : Note × Pump × Shared) → PumpNext p sh try d → KeptBy sh d
kept_try p sh PushHeld d is = kept_some sh _ d (kept_pushes p sh p.to_push) is
kept_try p sh SendHeld d is = kept_some sh _ d (kept_held p sh p.to_send) is
kept_try p sh SendNext d is = kept_some sh _ d (kept_popped p sh (last_of sh.boxes) (box_at sh.boxes (last_of sh.boxes))) is
kept_try p sh Receives d is = kept_received p sh p.net.holds.arrived d is

-- ---- the workers

-- what is known of a worker says nothing of whom the office serves, nor of what waits in the inboxes
module _ (o : Outside) (seen now : Seen) (boxes after : Boxes) (config : now.config ≡ seen.config) (entries : now.entries ≡ seen.entries) (size : length after ≡ length boxes) where
  known_still : (w : Worker) → Known (sight o seen (shown boxes)) w → Known (sight o now (shown after)) w
  known_still w known = record {
    id = subst (λ (c : Config). w.id < c.workers) (sym config) known.id;
    pump = subst (λ (c : Config). w.setup.pump ≡ c.workers) (sym config) known.pump;
    tunnels = subst (λ (es : List Entry). (tunnel conn stream : ℕ) (goal : Goal) → HasTunnel w tunnel conn stream goal ↔ IsOpen es w.id tunnel conn stream goal) (sym entries) known.tunnels;
    last = subst (λ (es : List Entry). All (λ (h : Held). h.conn.next_tunnel ≤ length es) w.conns) (sym entries) known.last;
    places = subst (λ (c : Config). All (λ (h : Held). ArePlaced c.workers h.conn.due) w.conns) (sym config) known.places;
    boxes = λ bs is. let same : after ≡ bs = cc in ap (λ (x : Boxes). length x) (sym same) ∙ size ∙ known.boxes boxes refl ∙ ap (λ (c : Config). c.workers + 1) (sym config);
  }

module _ (links : List Told) (seen now : Seen) (boxes after : Boxes) (config : now.config ≡ seen.config) (entries : now.entries ≡ seen.entries) (size : length after ≡ length boxes) where
  served_still : (from : ℕ) (actors : List Plain) (ws : List Worker) → AreServed links seen boxes from actors ws → AreServed links now after from actors ws
  served_still from [] [] are = tt
  served_still from [] (w ∷ ws) are = absurd are
  served_still from (a ∷ actors) [] are = absurd are
  served_still from (a ∷ actors) (w ∷ ws) are = (
    record {
      stands = are.0.stands;
      tells = are.0.tells;
      known = λ o. known_still o seen now boxes after config entries size w (are.0.known o);
      id = are.0.id;
      own = are.0.own;
      ready = are.0.ready;
    },
    served_still (suc from) actors ws are.1,
  )

-- ---- the pump and its network

same_pump : (p q : Pump) → bare_pump p ≡ bare_pump q → p.net.holds ≡ q.net.holds → p ≡ q
same_pump p q same holds = ap (λ (x : Pump). with_holds x p.net.holds) same ∙ ap (λ (h : NetHolds). with_holds q h) holds

abbrev of_parts : Config → List Entry → Boxes → Orders → Shared
of_parts config book boxes orders = record { config = config; book = book; boxes = boxes; orders = orders }

-- what is shared is so, by its parts
shared_is : (sh : Shared) (config : Config) (book : List Entry) (boxes : Boxes) (orders : Orders) → sh.config ≡ config → sh.book ≡ book → sh.boxes ≡ boxes → sh.orders ≡ orders
    → sh ≡ record { config = config; book = book; boxes = boxes; orders = orders }
shared_is sh config book boxes orders is_config is_book is_boxes is_orders =
    ap (λ (c : Config). record { config = c; book = sh.book; boxes = sh.boxes; orders = sh.orders }) is_config
    ∙ ap (λ (es : List Entry). record { config = config; book = es; boxes = sh.boxes; orders = sh.orders }) is_book
    ∙ ap (λ (bs : Boxes). record { config = config; book = book; boxes = bs; orders = sh.orders }) is_boxes
    ∙ ap (λ (x : Orders). record { config = config; book = book; boxes = boxes; orders = x }) is_orders

-- who sees the whole book sees this
whole_book : (seen : Seen) (book : List Entry) → seen.is_whole ≡ true → Sees seen book → book ≡ seen.entries
whole_book seen book whole sees = sees.goes_on ∙ ap (λ (es : List Entry). seen.entries ++ es) (sees.whole whole) ∙ none_more seen.entries where
  none_more : (es : List Entry) → es ++ [] ≡ es
  none_more [] = refl
  none_more (e ∷ es) = ap (λ (xs : List Entry). e ∷ xs) (none_more es)

-- an outside of workers: the pump looks at none
abbrev none_outside : Outside
none_outside = record {
  link = λ conn. None;
  link_counts = λ conn. no_link_counts;
  port = λ tunnel. None;
  port_counts = λ tunnel. no_port_counts;
  binds = record { holds = None; faults = 0 };
}

-- ---- its step

-- the office and the mail, turned to it
abbrev pub turned_office : Workers → ℕ → OfficeOf
turned_office world k = record world.office { actor = k }

abbrev pub turned_mail : Workers → ℕ → MailOf
turned_mail world k = record world.mail { actor = k }

pub sound_turned : (office : OfficeOf) (k : ℕ) → IsSound (seen_of office) → IsSound (seen_of (record office { actor = k }))
sound_turned office k is = record { config = is.config; legal = is.legal }

module _ (old : Workers) (s : State) (is : IsWorld old s) (k : ℕ) (at : k ≡ length s.workers) (office : OfficeOf) (mail : MailOf) (pump : PumpBy Sim) (counts after_counts : PortCounts)
    (beside : pump.workers ≡ old.pump.workers) (config : office.book.config ≡ old.office.book.config) where
  abbrev seen : Seen
  seen = seen_of (turned_office old k)

  abbrev before : PumpSight
  before = pump_sight (told old.pump.net) counts seen (shown old.mail.boxes)

  abbrev behind : PumpSight
  behind = pump_sight (told pump.net) after_counts (seen_of office) (shown mail.boxes)

  abbrev world : Workers
  world = record old { pump = pump; office = office; mail = mail }

  known : PumpKnown before
  known = record { boxes = λ boxes e. let same : old.mail.boxes ≡ boxes = cc in ap (λ (bs : Boxes). length bs) (sym same) ∙ is.boxes }

  -- its number, by the configuration
  numbered : old.office.book.config.workers ≡ k
  numbered = sym (count_is old s is k at)

  -- nothing is made up of what was told
  was_pump : (now : Pump) → NetRefills (told old.pump.net) s.pump now → now ≡ s.pump
  was_pump now refills = same_pump now s.pump refills.same (refills.told ∙ sym is.pump.net)

  was_box : (box : List Parcel) → slice_get old.mail.boxes old.office.book.config.workers ≡ Some box → box ≡ box_at s.shared.boxes (last_of s.shared.boxes)
  was_box box has =
      sym (ap (λ (o : Option (List Parcel)). unwrap_or o []) has) ∙ ap (λ (i : ℕ). box_at old.mail.boxes i) numbered ∙ sym (pump_box old s is k at)

  was_shared : (sh after : Shared) → Meets s.shared.orders (shared_sight none_outside before) (shared_sight none_outside behind) sh after → sh ≡ s.shared
  was_shared sh after meets =
      shared_is sh old.office.book.config old.office.book.history old.mail.boxes s.shared.orders meets.config (whole_book seen sh.book refl meets.book) meets.boxes meets.orders_are
      ∙ ap (λ (x : Orders). of_parts old.office.book.config old.office.book.history old.mail.boxes x) (ap (λ (x : Shared). x.orders) is.shared)
      ∙ sym is.shared

  -- the world stands for what the step leaves
  stands : (t : Pump) (after : Shared) → IsPump pump t → t.net.holds ≡ holds_of pump.net → PumpKnown behind → office.book.history ≡ old.office.book.history → after ≡ shared_of (common_of world)
      → IsWorld world (record s { pump = t; shared = after })
  stands t after is_pump net known_after entries after_is =
      let workers : office.book.config.workers ≡ old.office.book.config.workers = ap (λ (c : Config). c.workers) config in
      let size : length mail.boxes ≡ office.book.config.workers + 1 = known_after.boxes mail.boxes refl in
      record {
        links = is.links;
        workers = served_still s.links (seen_of old.office) (seen_of office) old.mail.boxes mail.boxes config entries (size ∙ ap (λ (n : ℕ). n + 1) workers ∙ sym is.boxes)
            0 old.workers.items s.workers is.workers;
        shared = after_is;
        count = is.count ∙ sym workers;
        few = is.few;
        boxes = size;
        config = subst IsConfig (sym config) is.config;
        pump = record { stands = is_pump; net = net; workers_are = beside ∙ is.pump.workers_are ∙ sym workers };
        offered = is.offered;
        rests = is.rests;
      }

  -- it took its turn
  gave : (t : Pump) (note : Note) → IsPump pump t → t.net.holds ≡ holds_of pump.net → PumpKnown behind → PumpGave s.shared.orders none_outside before behind s.pump note t
      → (u : State) × IsWorld world u × Turn s ThePump note u
  gave t note is_pump net known_after q =
      let same = was_shared q.sh q.after q.meets in
      let turn : PumpTurn s.pump (box_at s.shared.boxes (last_of s.shared.boxes)) s.shared note t q.after =
      subst (λ (sh : Shared). PumpTurn s.pump (box_at s.shared.boxes (last_of s.shared.boxes)) sh note t q.after) same
      (subst (λ (box : List Parcel). PumpTurn s.pump box q.sh note t q.after) (was_box q.box q.was)
      (subst (λ (p : Pump). PumpTurn p q.box q.sh note t q.after) (was_pump q.now q.refills) q.turn)) in
      let kept : q.after ≡ record s.shared { boxes = q.after.boxes } = kept_try s.pump s.shared turn.try (note, t, q.after) turn.is in
      let entries : office.book.history ≡ old.office.book.history =
      q.meets.wrote ∙ ap (λ (x : Shared). x.book) kept ∙ ap (λ (x : Shared). x.book) is.shared in
      let after_is : q.after ≡ shared_of (common_of world) =
      shared_is q.after office.book.config office.book.history mail.boxes (record { bind = old.bind_fails })
      (ap (λ (x : Shared). x.config) kept ∙ ap (λ (x : Shared). x.config) is.shared ∙ sym config)
      (sym q.meets.wrote)
      q.meets.boxes_after
      (ap (λ (x : Shared). x.orders) kept ∙ ap (λ (x : Shared). x.orders) is.shared) in
      (record s { pump = t; shared = q.after }, stands t q.after is_pump net known_after entries after_is, record { pump = t; shared = q.after; turn = turn; new_is = refl })

  -- nothing changed
  left : (t : Pump) → IsPump pump t → t.net.holds ≡ holds_of pump.net → PumpKnown behind → PumpLeaves before behind → bare_pump t ≡ bare_pump s.pump → IsWorld world s
  left t is_pump net known_after leaves same =
      let holds : holds_of pump.net ≡ holds_of old.pump.net = let e = leaves.net in cc in
      let is_same : t ≡ s.pump = same_pump t s.pump same (net ∙ holds ∙ sym is.pump.net) in
      let entries : office.book.history ≡ old.office.book.history = ap (λ (x : Seen). x.entries) leaves.seen in
      let boxes : mail.boxes ≡ old.mail.boxes = ap (λ (m : Inboxes). unwrap_or m.told []) leaves.boxes in
      let after_is : s.shared ≡ shared_of (common_of world) =
      is.shared ∙ sym (shared_is (shared_of (common_of world)) old.office.book.config old.office.book.history old.mail.boxes (record { bind = old.bind_fails }) config entries boxes refl) in
      subst (λ (p : Pump). IsWorld world (record s { pump = p })) is_same (stands t s.shared is_pump net known_after entries after_is)

  pub pumped : (result : Result (Option Note) NoMemory) → PumpSteps (IsPump old.pump) (IsPump pump) before behind result → (t : State) × IsWorld world t × ActorGives s ThePump result t
  pumped result steps =
      let g = steps s.shared.orders none_outside s.pump is.pump.stands known in
      by_result result g.0 g.1 g.2 g.3 g.4 where
        by_result : (r : Result (Option Note) NoMemory) (t : Pump) → IsPump pump t → t.net.holds ≡ holds_of pump.net → PumpKnown behind
            → PumpGives s.shared.orders none_outside before behind s.pump r t → (u : State) × IsWorld world u × ActorGives s ThePump r u
        by_result (Ok (Some note)) t is_pump net known_after q = gave t note is_pump net known_after q
        by_result (Ok None) t is_pump net known_after q =
            let none : is_some (pump_try s.pump (box_at s.shared.boxes (last_of s.shared.boxes))) ≡ false =
            ap (λ (box : List Parcel). is_some (pump_try s.pump box)) (sym (was_box q.box q.was)) ∙ ap (λ (p : Pump). is_some (pump_try p q.box)) (sym (was_pump q.now q.refills)) ∙ ap (λ o. is_some o) q.none in
            (s, left t is_pump net known_after q.leaves q.same, (none, refl))
        by_result (Err refused) t is_pump net known_after q =
            let some : is_some (pump_try s.pump (box_at s.shared.boxes (last_of s.shared.boxes))) ≡ true =
            ap (λ (box : List Parcel). is_some (pump_try s.pump box)) (sym (was_box q.box q.was)) ∙ ap (λ (p : Pump). is_some (pump_try p q.box)) (sym (was_pump q.now q.refills)) ∙ q.some in
            (s, left t is_pump net known_after q.leaves q.same, (record { took = false; asked = false }, (refl, some, refl)))
