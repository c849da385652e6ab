-- What a step of a worker of a world gives, by what the step of its actor promises where all is told.
use Rattle.std.proofs.Common.{◌≡◌, ◌⊎◌, inl, inr, ℕ, zero, suc, Bool, true, false, not, List, [], ◌∷◌, ◌++◌, length, All, Option, Some, None, Result, Ok, Err, refl, sym, ap, subst, ◌∙◌}
use Rattle.std.specs.Prelude.{remove, MatchOption}
use Rattle.std.proofs.lemmas.List.Elements.{All-cons, All-head, All-tail}
use Rattle.mq_wire.specs.declared.NoMemory.{NoMemory}
use Rattle.mq_outside.specs.Ports.{PortsHolds, empty_port}
use Rattle.mq_talk.specs.declared.note.Note.{Note}
use Rattle.mq_talk.specs.Mails.{Boxes}
use Rattle.mq_talk.specs.Offices.{Seen}
use Rattle.mq_machine.specs.State.{Told, Worker, Shared, Orders}
use Rattle.mq_machine.specs.Want.{Answer, Said, Bound, Replied, Judged, Pushed, Put}
use Rattle.mq_machine.specs.Shared.{Ordered}
use Rattle.mq_machine.specs.Silent.{WorkerStarves}
use Rattle.mq_machine.specs.Turn.{WorkerTurn}
use Rattle.mq_machine.specs.Acting.{Outside, Binder, Binds, BindFits, Writes, Leaves, PlainGives, holding}
use Rattle.mq_mem.specs.Links.{Link as LinkOf}
use Rattle.mq_mem.specs.Mails.{Mail as MailOf, shown}
use Rattle.mq_mem.specs.Offices.{Office as OfficeOf, seen_of}
use Rattle.mq_mem.specs.Ports.{Port as PortOf}
use Rattle.mq_held.specs.declared.held.Held.{Held as HeldBy}
use Rattle.mq_actor.specs.declared.ring.Ring.{Ring}
use Rattle.mq_actor.specs.Ended.{conn_numbers, offer_numbers, numbers_in, LeftAlone, AreLeft}
use Rattle.mq_actor.specs.Plain.{Place, PlainStep}
use Rattle.mq_actor.specs.Steps.{sight}
use Rattle.mq_actor.proofs.Tunnels.{known_same}
use Rattle.mq_play.specs.Events.{with_held_ports}
use Rattle.mq_plain.specs.Served.{words, Plain, IsOf, Serves}
use Rattle.mq_plain.specs.Taking.{Common, shared_of, Leads, Gives, Took}
use Rattle.mq_plain.proofs.Turned.{turn_emptied, still_emptied, starved_emptied}

-- ---- the numbers that are left

without : (P : ℕ → Type 0) (xs ys : List ℕ) (k : ℕ) → All P (xs ++ ys) → All P (remove xs k ++ ys)
without P [] ys zero all = all
without P [] ys (suc k) all = all
without P (x ∷ xs) ys zero all = All-tail P x (xs ++ ys) all
without P (x ∷ xs) ys (suc k) all = All-cons P x (remove xs k ++ ys) (All-head P x (xs ++ ys) all) (without P xs ys k (All-tail P x (xs ++ ys) all))

left_all : (P : ℕ → Type 0) (conns offers : List ℕ) (s : Ring LinkOf) → All P (conns ++ offers) → AreLeft conns offers s → All P (numbers_in s)
left_all P conns offers s all left = by_ended s.ended left where
  A : List ℕ → Type 0
  A ns = All P ns

  by_ended : (o : Option (HeldBy LinkOf)) → MatchOption o (numbers_in s ≡ conns ++ offers) (λ (held : HeldBy LinkOf). LeftAlone conns offers held s) → All P (numbers_in s)
  by_ended None is = subst A (sym is) all
  by_ended (Some held) alone = subst A (sym alone.others) (without P conns offers alone.place all)

-- ---- what was ordered

-- what binds ports tells, and has failed so often
abbrev bare_binds : Bool → ℕ → Binder
bare_binds fails faults = record { holds = Some (record { bind_fails = fails; ports = None }); faults = faults }

abbrev fails_of : Option PortsHolds → Bool
fails_of None = false
fails_of (Some holds) = holds.bind_fails

abbrev orders_of : Bool → Orders
orders_of fails = record { bind = fails }

-- a bind that was answered as what binds ports tells is answered as it was ordered
ordered_by : (was is : Bool) (old new : Outside) (before behind : ℕ) (answer : Answer) → old.binds ≡ bare_binds was before → new.binds ≡ bare_binds is behind → BindFits old new answer
    → Ordered (orders_of was) answer (orders_of is)
ordered_by was is old new before behind answer old_is new_is fits = by_answer answer fits where
  now : Binder
  now = bare_binds was before

  after : Binder
  after = bare_binds is behind

  same : new.binds.holds ≡ old.binds.holds → orders_of is ≡ orders_of was
  same e = ap (λ h. orders_of (fails_of h)) (ap (λ (b : Binder). b.holds) (sym new_is) ∙ e ∙ ap (λ (b : Binder). b.holds) old_is)

  told : (done : Bool) → Binds done old.binds new.binds → Binds done now after
  told done b =
      let P : Binder → Type 0 = λ x. Binds done x new.binds in
      let Q : Binder → Type 0 = λ x. Binds done now x in
      subst Q new_is (subst P old_is b)

  bound : (done : Bool) → Binds done now after → (done ≡ not was) × (orders_of is ≡ orders_of false)
  bound true b = (ap not (sym b.told.0), ap (λ h. orders_of (fails_of h)) b.told.1 ∙ ap orders_of b.told.0)
  bound false b = (by_why b.told.0, ap (λ h. orders_of (fails_of h)) b.told.1) where
    by_why : (was ≡ true) ⊎ (Some (Some empty_port) ≡ None) → false ≡ not was
    by_why (inl fails) = ap not (sym fails)
    by_why (inr none) = absurd cc

  by_answer : (answer : Answer) → BindFits old new answer → Ordered (orders_of was) answer (orders_of is)
  by_answer Said fits = same fits
  by_answer (Bound done) fits = bound done (told done fits)
  by_answer (Replied reply) fits = same fits
  by_answer (Judged verdict at) fits = same fits
  by_answer (Pushed done) fits = same fits
  by_answer (Put put limit) fits = same fits

-- ---- the step

-- no bind is to fail
abbrev pub ready : Plain → Plain
ready a = record a { table = record a.table { ports = record a.table.ports { bind_fails = false } } }

-- what an actor has and sees
abbrev pub place_of : Plain → OfficeOf → MailOf → Place LinkOf PortOf
place_of a office mail = record {
  ring = a.ring;
  table = a.table.table;
  binds = bare_binds a.table.ports.bind_fails a.table.ports.faults;
  seen = seen_of office;
  boxes = shown mail.boxes;
}

module _ (links : List Told) (number : ℕ) (old new : Common) (a b s : Plain) (result : Result (Option Note) NoMemory)
    (ring : b.ring ≡ a.ring) (fails : b.table.ports.bind_fails ≡ old.bind_fails) (fails_now : s.table.ports.bind_fails ≡ new.bind_fails)
    (id : s.ring.id ≡ b.ring.id) (left : AreLeft (conn_numbers b.ring) (offer_numbers b.ring) s.ring) (size : length new.mail.boxes ≡ length old.mail.boxes)
    (w : Worker) (x : Serves links (seen_of old.office) old.mail.boxes number a w)
    (p : PlainStep words (shared_of old).orders old.mail.boxes (place_of b old.office old.mail) (place_of s new.office new.mail) w result) where
  abbrev pub next : ℕ
  next = length old.office.book.history

  -- the ring before it stood for the same
  pub serves_ready : Serves links (seen_of new.office) new.mail.boxes number (ready s) p.t
  serves_ready = record {
    stands = p.stands;
    tells = p.tells;
    known = λ o. known_same (sight p.behind (seen_of new.office) (shown new.mail.boxes)) (sight o (seen_of new.office) (shown new.mail.boxes)) p.t p.t p.known refl refl refl refl (λ bs is. p.known.boxes bs is);
    id = id ∙ ap (λ (r : Ring LinkOf). r.id) ring ∙ x.id;
    own = left_all (IsOf links number) (conn_numbers b.ring) (offer_numbers b.ring) s.ring (subst (λ (r : Ring LinkOf). All (IsOf links number) (conn_numbers r ++ offer_numbers r)) (sym ring) x.own) left;
    ready = refl;
  }

  abbrev pub emptied : Worker
  emptied = with_held_ports next (holding empty_port) p.t

  was_binds : p.before.binds ≡ bare_binds old.bind_fails b.table.ports.faults
  was_binds = p.binds ∙ ap (λ (z : Bool). bare_binds z b.table.ports.faults) fails

  now_binds : p.behind.binds ≡ bare_binds new.bind_fails s.table.ports.faults
  now_binds = p.binds_behind ∙ ap (λ (z : Bool). bare_binds z s.table.ports.faults) fails_now

  ordered : (answer : Answer) → BindFits p.before p.behind answer → Ordered (shared_of old).orders answer (shared_of new).orders
  ordered answer fits = ordered_by old.bind_fails new.bind_fails p.before p.behind b.table.ports.faults s.table.ports.faults answer was_binds now_binds fits

  leads : (after : Shared) → Leaves (sight p.before (seen_of old.office) (shown old.mail.boxes)) (sight p.behind (seen_of new.office) (shown new.mail.boxes)) after → Leads old after new
  leads after l = record { config = l.same.config; book = l.wrote; boxes = sym l.boxes }

  abbrev shared_with : Seen → Boxes → Orders → Shared
  shared_with seen boxes orders = record { config = seen.config; book = seen.entries; boxes = boxes; orders = orders }

  gives : (r : Result (Option Note) NoMemory)
      → PlainGives (shared_of old).orders (sight p.before (seen_of old.office) (shown old.mail.boxes)) (sight p.behind (seen_of new.office) (shown new.mail.boxes)) old.mail.boxes w r p.t
      → Gives old new w r emptied
  gives (Ok (Some note)) d =
      let is : emptied ≡ d.became =
      ap (λ (z : Worker). with_held_ports next (holding empty_port) z) d.is
      ∙ turn_emptied words.most a.table.table a.ring w x.stands p.before p.behind (seen_of old.office) (shown old.mail.boxes) d.box (shared_of old) d.answer note d.became d.after (x.known p.before) refl d.turn in
      record {
        box = d.box;
        answer = d.answer;
        after = d.after;
        was = d.was;
        turn = subst (λ (z : Worker). WorkerTurn w d.box (shared_of old) d.answer note z d.after) (sym is) d.turn;
        ordered = ordered d.answer d.binds;
        leads = leads d.after d.leaves;
      }
  gives (Ok None) q =
      let old_orders : Orders = (shared_of old).orders in
      let new_orders : Orders = (shared_of new).orders in
      let boxes : old.mail.boxes ≡ new.mail.boxes = q.boxes_after in
      record {
        box = q.box;
        was = q.was;
        none = q.none;
        same = ap (λ (z : Worker). with_held_ports next (holding empty_port) z) q.same
            ∙ still_emptied words.most a.table.table a.ring w x.stands p.before (seen_of old.office) (shown old.mail.boxes) (x.known p.before);
        is = ap (λ (z : Seen). shared_with z new.mail.boxes new_orders) q.seen
            ∙ ap (λ (bs : Boxes). shared_with (seen_of old.office) bs new_orders) (sym boxes)
            ∙ ap (λ (o : Binder). shared_with (seen_of old.office) old.mail.boxes (orders_of (fails_of o.holds))) (sym now_binds ∙ q.binds ∙ was_binds);
      }
  gives (Err fault) q =
      let is : emptied ≡ p.t =
      starved_emptied words.most a.table.table a.ring w x.stands p.before (seen_of old.office) (shown old.mail.boxes) q.box (shared_of old) q.reached q.answer p.t q.after (x.known p.before) q.starves in
      record {
        box = q.box;
        answer = q.answer;
        after = q.after;
        reached = q.reached;
        was = q.was;
        starves = subst (λ (z : Worker). WorkerStarves w q.box (shared_of old) q.reached q.answer z q.after) (sym is) q.starves;
        ordered = ordered q.answer q.binds;
        leads = leads q.after q.leaves;
      }

  config : (r : Result (Option Note) NoMemory) → Gives old new w r emptied → new.office.book.config ≡ old.office.book.config
  config (Ok (Some note)) d = d.leads.config
  config (Ok None) q = ap (λ (sh : Shared). sh.config) q.is
  config (Err fault) q = q.leads.config

  pub took : (q : Plain) → Serves links (seen_of new.office) new.mail.boxes number q emptied → Took links number old new q w result
  took q serves =
      let given = gives result p.gives in
      record {
        t = emptied;
        serves = serves;
        writes = subst (λ (k : ℕ). Writes (seen_of old.office) (seen_of new.office) k) (x.stands.id ∙ x.id) p.writes;
        config = config result given;
        boxes = size;
        gives = given;
      }
