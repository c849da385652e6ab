-- What a step of one of its workers makes of a world.
use Rattle.std.proofs.Common.{◌≡◌, ℕ, zero, suc, ◌+◌, ◌<◌, ◌≤◌, Bool, false, List, [], ◌∷◌, length, All, slice_get, slice_set, Option, Some, None, Result, Ok, Err, refl, sym, ap, subst, ◌∙◌, arith}
use Rattle.std.specs.Prelude.{unwrap_or, is_some, option_and_then}
use Rattle.std.specs.Vec.{with_item}
use Rattle.std.specs.Global.{Vec}
use Rattle.std.specs.Prelude.{get_or}
use Rattle.std.proofs.lemmas.Option.{slice_get-get_or}
use Rattle.mq_wire.specs.declared.NoMemory.{NoMemory}
use Rattle.mq_talk.specs.declared.book.Config.{Config}
use Rattle.mq_talk.specs.declared.book.Entry.{Entry}
use Rattle.mq_talk.specs.declared.note.Note.{Note}
use Rattle.mq_talk.specs.declared.place.Parcel.{Parcel}
use Rattle.mq_talk.specs.Config.{IsConfig}
use Rattle.mq_talk.specs.Mails.{Boxes, box_at}
use Rattle.mq_machine.specs.State.{Told, Worker, Shared, Orders, State}
use Rattle.mq_machine.specs.Shared.{Ordered}
use Rattle.mq_machine.specs.Silent.{WorkerStarves}
use Rattle.mq_machine.specs.Turn.{WorkerOf, WorkerTurn, turn_of}
use Rattle.mq_mem.specs.Mails.{Mail as MailOf}
use Rattle.mq_mem.specs.Offices.{Office as OfficeOf, seen_of}
use Rattle.mq_actor.proofs.Others.{set_length}
use Rattle.mq_world.specs.declared.workers.Workers.{Workers}
use Rattle.mq_plain.specs.Served.{Plain, Serves}
use Rattle.mq_plain.specs.Taking.{Common, shared_of, Leads, Gives, Took}
use Rattle.mq_world.specs.Worlds.{IsWorld, ActorGives}
use Rattle.mq_world.proofs.Resting.{woken}
use Rattle.mq_world.proofs.Sharing.{seat_keeps, starved_keeps}
use Rattle.mq_world.proofs.Worlds.{served_turned, served_at, served_set}

-- what stands at a place is set there
set_own : {A : Type 0} (xs : List A) (i : ℕ) (x : A) → slice_get xs i ≡ Some x → slice_set xs i x ≡ xs
set_own [] i x at = absurd cc
set_own {A} (y ∷ xs) zero x at =
    let e : y ≡ x = cc in
    ap {B = List A} (λ (z : A). z ∷ xs) (sym e)
set_own {A} (y ∷ xs) (suc i) x at = ap {B = List A} (λ (zs : List A). y ∷ zs) (set_own xs i x at)

-- what is read in a list stands there
pub read_at : {A : Type 0} (xs : List A) (i : ℕ) (x : A) → i < length xs → x ≡ get_or xs i x → slice_get xs i ≡ Some x
read_at xs i x less is = slice_get-get_or xs i x less ∙ ap Some (sym is)

-- what is shared, by its parts
abbrev of_parts : Config → List Entry → Boxes → Orders → Shared
of_parts config book boxes orders = record { config = config; book = book; boxes = boxes; orders = orders }

parts_same : (c d : Config) (book read : List Entry) (boxes kept : Boxes) (orders : Orders) → c ≡ d → book ≡ read → boxes ≡ kept → of_parts c book boxes orders ≡ of_parts d read kept orders
parts_same c d book read boxes kept orders config is_book is_boxes =
    ap (λ (x : Config). of_parts x book boxes orders) config
    ∙ ap (λ (x : List Entry). of_parts d x boxes orders) is_book
    ∙ ap (λ (x : Boxes). of_parts d read x orders) is_boxes

-- the one whose turn it is, and what it shares then
abbrev pub turned : Workers → ℕ → Common
turned world k = record { office = record world.office { actor = k }; mail = record world.mail { actor = k }; bind_fails = world.bind_fails }

module _ (old : Workers) (s : State) (is : IsWorld old s) (k : ℕ) (less : k < length old.workers.items) where
  -- the worker that it stands for
  pub found : (a : Plain) → slice_get old.workers.items k ≡ Some a → (w : Worker) × (slice_get s.workers k ≡ Some w) × Serves s.links (seen_of (turned old k).office) old.mail.boxes k a w
  found a at =
      let f = served_at s.links (seen_of (turned old k).office) old.mail.boxes 0 k old.workers.items s.workers a
      (served_turned s.links (seen_of old.office) old.mail.boxes k 0 old.workers.items s.workers is.workers) at in
      let same : 0 + k ≡ k = omega arith in
      (f.0, f.1, subst (λ (n : ℕ). Serves s.links (seen_of (turned old k).office) old.mail.boxes n a f.0) same f.2)

  -- it takes its step, with the office and the mail turned to it
  pub begins : (office : OfficeOf) (mail : MailOf) (a : Plain) → office ≡ record old.office { actor = k } → mail ≡ record old.mail { actor = k } → slice_get old.workers.items k ≡ Some a
      → (w : Worker) × (slice_get s.workers k ≡ Some w) × Serves s.links (seen_of office) mail.boxes k a w
  begins office mail a office_is mail_is at =
      let f = found a at in (
        f.0,
        f.1,
        subst (λ (m : MailOf). Serves s.links (seen_of office) m.boxes k a f.0) (sym mail_is)
            (subst (λ (o : OfficeOf). Serves s.links (seen_of o) old.mail.boxes k a f.0) (sym office_is) f.2),
      )

  pub turned_took : (office : OfficeOf) (mail : MailOf) (new : Common) (b : Plain) (result : Result (Option Note) NoMemory) (w : Worker) → office ≡ record old.office { actor = k } → mail ≡ record old.mail { actor = k }
      → Took s.links k (record { office = office; mail = mail; bind_fails = old.bind_fails }) new b w result → Took s.links k (turned old k) new b w result
  turned_took office mail new b result w office_is mail_is took =
      subst (λ (m : MailOf). Took s.links k (record { office = record old.office { actor = k }; mail = m; bind_fails = old.bind_fails }) new b w result) mail_is
      (subst (λ (o : OfficeOf). Took s.links k (record { office = o; mail = mail; bind_fails = old.bind_fails }) new b w result) office_is took)

  module _ (new : Common) (rests : Vec Bool) (awake : rests.items ≡ slice_set old.rests.items k false) (b : Plain) (result : Result (Option Note) NoMemory) (w : Worker) (at : slice_get s.workers k ≡ Some w) (named : w.id ≡ k)
      (took : Took s.links k (turned old k) new b w result) where
    abbrev after : State
    after = record s { workers = slice_set s.workers k took.t; shared = shared_of new }

    abbrev behind : Workers
    behind = record old { workers = with_item old.workers k b; office = new.office; mail = new.mail; bind_fails = new.bind_fails; rests = rests }

    stands : IsWorld behind after
    stands =
        let workers : new.office.book.config.workers ≡ old.office.book.config.workers = ap (λ (c : Config). c.workers) took.config in
        record {
          links = is.links;
          workers = served_set s.links (seen_of (turned old k).office) (seen_of new.office) old.mail.boxes new.mail.boxes k refl took.writes took.config took.boxes
              0 k old.workers.items s.workers b took.t (omega arith) less
              (served_turned s.links (seen_of old.office) old.mail.boxes k 0 old.workers.items s.workers is.workers) took.serves;
          shared = refl;
          count = set_length old.workers.items k b ∙ is.count ∙ sym workers;
          few = subst (λ (n : ℕ). n ≤ 4) (sym (set_length old.workers.items k b)) is.few;
          boxes = took.boxes ∙ is.boxes ∙ ap (λ (n : ℕ). n + 1) (sym workers);
          config = subst IsConfig (sym took.config) is.config;
          pump = record { stands = is.pump.stands; net = is.pump.net; workers_are = is.pump.workers_are ∙ sym workers };
          offered = subst (λ (n : ℕ). All (λ (t : Told). t.worker < n) s.links) (sym (set_length old.workers.items k b)) is.offered;
          rests = woken old.rests.items rests.items old.workers.items k b is.rests awake;
        }

    box_is : (box : List Parcel) → slice_get old.mail.boxes w.id ≡ Some box → box ≡ box_at old.mail.boxes w.id
    box_is box was = sym (ap (λ (o : Option (List Parcel)). unwrap_or o []) was)

    -- the book, the inboxes and the orders of the state are those of the world
    of_state : (P : Shared → Type 0) → P (shared_of (turned old k)) → P s.shared
    of_state P p = subst P (sym is.shared) p

    ends : (sh : Shared) → Leads (turned old k) sh new → sh.config ≡ (shared_of (turned old k)).config → shared_of new ≡ record sh { orders = (shared_of new).orders }
    ends sh leads config = parts_same new.office.book.config sh.config new.office.book.history sh.book new.mail.boxes sh.boxes (shared_of new).orders
        (leads.config ∙ sym config) leads.book leads.boxes

    gives : (r : Result (Option Note) NoMemory) → Gives (turned old k) new w r took.t → ActorGives s (WorkerOf k) r after
    gives (Ok (Some note)) d =
        let here = subst (λ (box : List Parcel). WorkerTurn w box (shared_of (turned old k)) d.answer note took.t d.after) (box_is d.box d.was) d.turn in
        record {
          worker = w;
          next = took.t;
          answer = d.answer;
          shared = d.after;
          after = shared_of new;
          at = at;
          turn = of_state (λ (sh : Shared). WorkerTurn w (box_at sh.boxes w.id) sh d.answer note took.t d.after) here;
          ordered = of_state (λ (sh : Shared). Ordered sh.orders d.answer (shared_of new).orders) d.ordered;
          after_is = ends d.after d.leads (seat_keeps w (shared_of (turned old k)) d.turn.seat d.answer note took.t d.after d.turn.next);
          new_is = refl;
        }
    gives (Ok None) q =
        let none : is_some (turn_of w (box_at old.mail.boxes w.id)) ≡ false =
        ap (λ (box : List Parcel). is_some (turn_of w box)) (sym (box_is q.box q.was)) ∙ ap (λ o. is_some o) q.none in
        let quiet = of_state (λ (sh : Shared). is_some (turn_of w (box_at sh.boxes w.id)) ≡ false) none in
        let workers : slice_set s.workers k took.t ≡ s.workers = ap (λ (x : Worker). slice_set s.workers k x) q.same ∙ set_own s.workers k w at in (
          ap (λ (o : Option Worker). is_some (option_and_then (λ (x : Worker). turn_of x (box_at s.shared.boxes x.id)) o)) at ∙ quiet,
          ap {B = State} (λ (ws : List Worker). record s { workers = ws; shared = shared_of new }) workers
              ∙ ap {B = State} (λ (sh : Shared). record s { shared = sh }) (q.is ∙ sym is.shared),
        )
    gives (Err fault) q =
        let here = subst (λ (box : List Parcel). WorkerStarves w box (shared_of (turned old k)) q.reached q.answer took.t q.after) (box_is q.box q.was) q.starves in (
          q.reached,
          record {
            worker = w;
            next = took.t;
            answer = q.answer;
            shared = q.after;
            after = shared_of new;
            at = at;
            starves = of_state (λ (sh : Shared). WorkerStarves w (box_at sh.boxes w.id) sh q.reached q.answer took.t q.after) here;
            ordered = of_state (λ (sh : Shared). Ordered sh.orders q.answer (shared_of new).orders) q.ordered;
            after_is = ends q.after q.leads (starved_keeps w (shared_of (turned old k)) q.starves.seat q.reached q.answer took.t q.after q.starves.starves);
            new_is = refl;
          },
        )

    pub stepped : (t : State) × IsWorld behind t × ActorGives s (WorkerOf k) result t
    stepped = (after, stands, gives result took.gives)
