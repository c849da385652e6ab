-- In a run a payload has one end at most: what there is of it, with what may still come, never rises above one.
use Rattle.std.proofs.Common.{◌≡◌, ◌≤◌, ◌+◌, ℕ, zero, suc, Bool, true, false, cond, ◌&&◌, List, [], ◌∷◌, ◌++◌, map, length, replicate, nat_le, slice_get, slice_set, Some, refl, sym, subst, ap, arith}
use Rattle.std.specs.Prelude.{◌==◌}
use Rattle.std.specs.List.{AllByRecursion, filter}
use Rattle.std.proofs.lemmas.List.{length_push}
use Rattle.mq_talk.specs.declared.note.From.{From}
use Rattle.mq_talk.specs.declared.note.From.TheVariants as source
use Rattle.mq_talk.specs.declared.note.Note.{Note}
use Rattle.mq_talk.specs.declared.note.Note.TheVariants as note
use Rattle.mq_machine.specs.declared.event.Event.{Event}
use Rattle.mq_machine.specs.declared.event.Event.TheVariants as event
use Rattle.mq_machine.specs.declared.setup.Setup.{Setup}
use Rattle.mq_machine.specs.Lawful.{StaysLawful}
use Rattle.mq_machine.specs.Silent.{Reached, SilentTurn}
use Rattle.mq_machine.specs.State.{Link, new_link, Port, Offer, Held, Worker, new_worker, Shared, Told, State}
use Rattle.mq_machine.specs.Turn.{Actor, WorkerOf, ThePump, Turn}
use Rattle.mq_play.specs.declared.plan.Plan.{Plan}
use Rattle.mq_play.specs.Events.{new_workers, state_of, at_offer, at_held, at_worker, with_ports, with_held_ports, with_port, offered_to, ended_at, happen}
use Rattle.mq_play.proofs.Lists.{if_both, each_append, each_map, each_at, each_set}
use Rattle.mq_runs.specs.Ends.{is_same, is_end, ends_of, IsCounted}
use Rattle.mq_runs.specs.Runs.{Moment, Happened, Noted, Refused, Goes, Run, notes_of}
use Rattle.mq_runs.proofs.Flight.{Key, past, end_of}
use Rattle.mq_runs.proofs.Keeping.{Sound, keeps_sound}
use Rattle.mq_runs.proofs.Kept.{on_goes, first_has}
use Rattle.mq_runs.proofs.Moving.{in_boxes, in_shared, in_held, port_left, at_less, unopened, from_less}
use Rattle.mq_runs.proofs.Pumps.{in_pump, net_left, pump_moves}
use Rattle.mq_runs.proofs.Sums.{total, total_append, total_map, total_set}
use Rattle.mq_runs.proofs.Took.{from_on, step_on}
use Rattle.mq_runs.proofs.Workers.{numbered, in_worker, seat_moves, starves_moves}

-- all that there is of a payload in a state, and what may still come
abbrev pub in_state : Key → State → ℕ
in_state k s = total (in_worker k) s.workers + in_pump k s.pump + in_shared k s.shared

-- no number of a link is used twice in a worker, and none that will be given
abbrev pub NumbersFit : ℕ → Worker → Type 0
NumbersFit n w = (m : ℕ) → numbered m w + from_on n m ≤ 1

abbrev pub AllFit : State → Type 0
AllFit s = AllByRecursion (NumbersFit (length s.links)) s.workers

-- what a step does: so many ends, and what is left
pub record Falls (k : Key) (old new : State) (gone : ℕ) : Type 0 where
  pub down : gone + in_state k new ≤ in_state k old
  pub fit : AllFit new

-- ---- turns

fit_less : (n : ℕ) (old new : Worker) → ((m : ℕ) → numbered m new ≤ numbered m old) → NumbersFit n old → NumbersFit n new
fit_less n old new less fit m = let one = less m in let two = fit m in omega (arith, one, two)

pub fit_few : (n : ℕ) (w : Worker) → NumbersFit n w → (m : ℕ) → numbered m w ≤ 1
fit_few n w fit m = let one = fit m in omega (arith, one)

worker_falls : (k : Key) (old : State) (number : ℕ) (worker next : Worker) (shared after : Shared) (new : State) (gone : ℕ) → AllFit old → slice_get old.workers number ≡ Some worker
    → gone + in_worker k next + in_shared k shared ≤ in_worker k worker + in_shared k old.shared → ((m : ℕ) → numbered m next ≤ numbered m worker)
    → after ≡ record shared { orders = after.orders } → new ≡ record old { workers = slice_set old.workers number next; shared = after } → Falls k old new gone
worker_falls k old number worker next shared after new gone fit at down numbers same is =
    let sum = total_set (in_worker k) old.workers number worker next at in
    let boxes = ap (λ (s : Shared). in_shared k s) same in
    let n = length old.links in
    let own = each_at (NumbersFit n) old.workers number worker fit at in
    let first : Falls k old (record old { workers = slice_set old.workers number next; shared = after }) gone =
    record { down = omega (arith, sum, boxes, down); fit = each_set (NumbersFit n) old.workers number next fit (fit_less n worker next numbers own) } in
    subst (λ (s : State). Falls k old s gone) (sym is) first

module _ (stays : StaysLawful) (k : Key) (counted : IsCounted k.from k.number) where
  abbrev pub Sounds : State → Type 0
  Sounds s = AllByRecursion (λ (w : Worker). AllByRecursion (λ (h : Held). Sound stays k (length s.shared.book) h.conn) w.conns) s.workers

  turn_falls : (old new : State) (actor : Actor) (said : Note) → Sounds old → AllFit old → Turn old actor said new → Falls k old new (end_of k said)
  turn_falls old new (WorkerOf number) said sound fit x =
      let w = each_at (λ (w : Worker). AllByRecursion (λ (h : Held). Sound stays k (length old.shared.book) h.conn) w.conns) old.workers number x.worker sound x.at in
      let own = each_at (NumbersFit (length old.links)) old.workers number x.worker fit x.at in
      let did = seat_moves stays k counted x.worker old.shared x.turn.seat x.answer said x.next x.shared (fit_few (length old.links) x.worker own) w x.turn.next in
      worker_falls k old number x.worker x.next x.shared x.after new (end_of k said) fit x.at did.down did.numbers x.after_is x.new_is
  turn_falls old new ThePump said sound fit x =
      let down = pump_moves k old.pump old.shared x.turn.try (said, x.pump, x.shared) counted x.turn.is in
      subst (λ (s : State). Falls k old s (end_of k said)) (sym x.new_is) (record { down = omega (arith, down); fit = fit })

silent_falls : (k : Key) (old new : State) (actor : Actor) (reached : Reached) → AllFit old → SilentTurn old actor reached new → Falls k old new 0
silent_falls k old new (WorkerOf number) reached fit x =
    let did = starves_moves k x.worker old.shared x.starves.seat reached x.answer x.next x.shared x.starves.starves in
    worker_falls k old number x.worker x.next x.shared x.after new 0 fit x.at did.down did.numbers x.after_is x.new_is
silent_falls k old new ThePump reached fit x = subst (λ (s : State). Falls k old s 0) (sym x.2) (record { down = omega arith; fit = fit })

-- ---- what happens

-- what is offered keeps its number where a link changes
offers_same : (m n : ℕ) (change : Link → Link) (os : List Offer) → total (λ (o : Offer). cond (o.number == m) 1 0) (map (at_offer n change) os) ≤ total (λ (o : Offer). cond (o.number == m) 1 0) os
offers_same m n change os = total_map (λ (o : Offer). cond (o.number == m) 1 0) (at_offer n change) os (λ o. if_both (λ (x : Offer). cond (x.number == m) 1 0 ≤ cond (o.number == m) 1 0) (o.number == n) (record o { link = change o.link }) o (omega arith) (omega arith))

helds_same : (m n : ℕ) (change : Link → Link) (hs : List Held) → total (λ (h : Held). cond (h.conn.number == m) 1 0) (map (at_held n change) hs) ≤ total (λ (h : Held). cond (h.conn.number == m) 1 0) hs
helds_same m n change hs = total_map (λ (h : Held). cond (h.conn.number == m) 1 0) (at_held n change) hs (λ h. if_both (λ (x : Held). cond (x.conn.number == m) 1 0 ≤ cond (h.conn.number == m) 1 0) (h.conn.number == n) (record h { link = change h.link }) h (omega arith) (omega arith))

link_falls : (k : Key) (n : ℕ) (change : Link → Link) (s t : State) → AllFit s → length t.links ≡ length s.links → t.workers ≡ map (at_worker n change) s.workers → t.pump ≡ s.pump → t.shared ≡ s.shared → Falls k s t 0
link_falls k n change s t fit links workers pump shared =
    let one = ap (total (in_worker k)) workers in
    let two = ap (in_pump k) pump in
    let three = ap (in_shared k) shared in
    let less = total_map (in_worker k) (at_worker n change) s.workers (λ w. total_map (in_held k) (at_held n change) w.conns (λ h. if_both (λ (x : Held). in_held k x ≤ in_held k h) (h.conn.number == n) (record h { link = change h.link }) h (omega arith) (omega arith))) in
    let all = each_map (NumbersFit (length s.links)) (NumbersFit (length s.links)) (at_worker n change) s.workers
    (λ w h. fit_less (length s.links) w (at_worker n change w) (λ m. let a = offers_same m n change w.offered in let b = helds_same m n change w.conns in omega (arith, a, b)) h) fit in
    record { down = omega (arith, one, two, three, less); fit = rw (links, workers) all }

ports_kept : (k : Key) (n : ℕ) (change : Port → Port) (w : Worker) → ((p : Port) → port_left k (change p) ≤ port_left k p) → in_worker k (with_held_ports n change w) ≤ in_worker k w
ports_kept k n change w h = total_map (in_held k) (with_ports n change) w.conns (λ g. let less = at_less k n change g.ports h in omega (arith, less))

port_numbers : (m n : ℕ) (change : Port → Port) (w : Worker) → numbered m (with_held_ports n change w) ≤ numbered m w
port_numbers m n change w = let same = total_map (λ (h : Held). cond (h.conn.number == m) 1 0) (with_ports n change) w.conns (λ g. omega arith) in omega (arith, same)

port_falls : (k : Key) (n : ℕ) (change : Port → Port) (s : State) → AllFit s → ((p : Port) → port_left k (change p) ≤ port_left k p) → Falls k s (with_port n change s) 0
port_falls k n change s fit h =
    let less = total_map (in_worker k) (with_held_ports n change) s.workers (λ w. ports_kept k n change w h) in
    record {
      down = omega (arith, less);
      fit = each_map (NumbersFit (length s.links)) (NumbersFit (length s.links)) (with_held_ports n change) s.workers (λ w h. fit_less (length s.links) w (with_held_ports n change w) (λ m. port_numbers m n change w) h) fit;
    }

ended_long : (n : ℕ) (ts : List Told) → length (ended_at n ts) ≡ length ts
ended_long n [] = refl
ended_long zero (t ∷ ts) = refl
ended_long (suc n) (t ∷ ts) = let rest = ended_long n ts in omega (arith, rest)

offered_same : (k : Key) (actor number : ℕ) (ws : List Worker) → total (in_worker k) (offered_to actor number ws) ≡ total (in_worker k) ws
offered_same k actor number [] = refl
offered_same k zero number (w ∷ ws) = refl
offered_same k (suc actor) number (w ∷ ws) = let rest = offered_same k actor number ws in omega (arith, rest)

fit_later : (n m : ℕ) (w : Worker) → n ≤ m → NumbersFit n w → NumbersFit m w
fit_later n m w long fit i = let one = fit i in let less = from_less n m i long in omega (arith, one, less)

all_later : (n m : ℕ) (ws : List Worker) → n ≤ m → AllByRecursion (NumbersFit n) ws → AllByRecursion (NumbersFit m) ws
all_later n m [] long h = tt
all_later n m (w ∷ ws) long h = (fit_later n m w long h.0, all_later n m ws long h.1)

offered_fit : (n actor : ℕ) (ws : List Worker) → AllByRecursion (NumbersFit n) ws → AllByRecursion (NumbersFit (n + 1)) (offered_to actor n ws)
offered_fit n actor [] h = tt
offered_fit n zero (w ∷ ws) h = (
  λ m.
      let one = h.0 m in
      let more = total_append (λ (o : Offer). cond (o.number == m) 1 0) w.offered (record { number = n; link = new_link } ∷ []) in
      let step = step_on n m in
      omega (arith, one, more, step),
  all_later n (n + 1) ws (omega arith) h.1,
)
offered_fit n (suc actor) (w ∷ ws) h = (fit_later n (n + 1) w (omega arith) h.0, offered_fit n actor ws h.1)

happen_falls : (k : Key) (s : State) (e : Event) → AllFit s → Falls k s (happen s e) 0
happen_falls k s (event.Conn actor) fit =
    let same = offered_same k actor (length s.links) s.workers in
    let long = length_push s.links (record { worker = actor; is_ended = false }) in
    record { down = omega (arith, same); fit = rw long (offered_fit (length s.links) actor s.workers fit) }
happen_falls k s (event.Piece conn bytes) fit = link_falls k conn (λ (l : Link). record l { pieces = l.pieces ++ bytes ∷ [] }) s (happen s (event.Piece conn bytes)) fit refl refl refl refl
happen_falls k s (event.End conn) fit = link_falls k conn (λ (l : Link). record l { is_ended = true }) s (happen s (event.End conn)) fit (ended_long conn s.links) refl refl refl
happen_falls k s (event.Room conn room) fit = link_falls k conn (λ (l : Link). record l { room = room }) s (happen s (event.Room conn room)) fit refl refl refl refl
happen_falls k s (event.FailRead conn) fit = link_falls k conn (λ (l : Link). record l { read_fails = true }) s (happen s (event.FailRead conn)) fit refl refl refl refl
happen_falls k s (event.FailWrite conn) fit = link_falls k conn (λ (l : Link). record l { write_fails = true }) s (happen s (event.FailWrite conn)) fit refl refl refl refl
happen_falls k s (event.Datagram tunnel bytes) fit = port_falls k tunnel (λ (p : Port). record p { arrived = p.arrived ++ bytes ∷ [] }) s fit (λ p. omega arith)
happen_falls k s (event.FailPort tunnel) fit = port_falls k tunnel (λ (p : Port). record p { send_fails = true }) s fit (λ p. omega arith)
happen_falls k s event.FailBind fit = record { down = omega arith; fit = fit }
happen_falls k s event.FailNet fit = record { down = omega arith; fit = fit }
happen_falls k s (event.Packet count bytes) fit = record { down = omega arith; fit = fit }
happen_falls k s (event.Step actor) fit = record { down = omega arith; fit = fit }

-- ---- runs

module _ (stays : StaysLawful) (k : Key) (counted : IsCounted k.from k.number) where
  pub goes_falls : (old new : State) (m : Moment) → Sounds stays k counted old → AllFit old → Goes old m new → Falls k old new (total (end_of k) (notes_of (m ∷ [])))
  goes_falls old new (Happened e) sound fit x = subst (λ (s : State). Falls k old s 0) (sym x.1) (happen_falls k old e fit)
  goes_falls old new (Noted actor said) sound fit x =
      let f = turn_falls stays k counted old new actor said sound fit x in let down = f.down in record { down = omega (arith, down); fit = f.fit }
  goes_falls old new (Refused actor reached) sound fit x = silent_falls k old new actor reached fit x

  notes_split : (m : Moment) (ms : List Moment) → total (end_of k) (notes_of (m ∷ ms)) ≡ total (end_of k) (notes_of (m ∷ [])) + total (end_of k) (notes_of ms)
  notes_split (Happened e) ms = omega arith
  notes_split (Noted actor said) ms = omega arith
  notes_split (Refused actor reached) ms = omega arith

  pub run_falls : (ms : List Moment) (old new : State) → Sounds stays k counted old → AllFit old → Run old ms new → total (end_of k) (notes_of ms) + in_state k new ≤ in_state k old
  run_falls [] old new sound fit x = let same = ap (in_state k) x in omega (arith, same)
  run_falls (m ∷ ms) old new sound fit x =
      let here = goes_falls old x.0 m sound fit x.1 in
      let next = (on_goes (λ setup n c. Sound stays k n c) (keeps_sound stays k) old x.0 m sound x.1).have in
      let later = run_falls ms x.0 new next here.fit x.2 in
      let split = notes_split m ms in
      let down = here.down in
      omega (arith, later, split, down)

-- ---- the first state

none_in : (k : Key) (setup : Setup) (n : ℕ) → total (in_worker k) (new_workers setup n) ≡ 0
none_in k setup zero = refl
none_in k setup (suc n) = let rest = none_in k setup n in let both = total_append (in_worker k) (new_workers setup n) (new_worker n setup ∷ []) in omega (arith, rest, both)

pub none_boxed : (k : Key) (n : ℕ) → in_boxes k (replicate n []) ≡ 0
none_boxed k zero = refl
none_boxed k (suc n) = let rest = none_boxed k n in omega (arith, rest)

pub first_few : (k : Key) (plan : Plan) → in_state k (state_of plan) ≤ 1
first_few k plan =
    let workers = none_in k plan.setup plan.workers in
    let boxes = none_boxed k (plan.workers + 1) in
    let rest = by_from k.from k.number in
    omega (arith, workers, boxes, rest)
  where
    one_on : (n : ℕ) → from_on 0 n ≤ 1
    one_on n = by_test (nat_le 0 n) where
      by_test : (b : Bool) → cond b 1 0 ≤ 1
      by_test true = omega arith
      by_test false = omega arith

    by_from : (f : From) (n : ℕ) → net_left f 0 n + unopened f 0 ≤ 1
    by_from (source.Tunnel t) n = let one = one_on t in omega (arith, one)
    by_from source.Net n = let one = one_on n in omega (arith, one)
    by_from (source.Port t) n = let one = one_on t in omega (arith, one)

pub first_fit : (setup : Setup) (n : ℕ) → AllByRecursion (NumbersFit 0) (new_workers setup n)
first_fit setup zero = tt
first_fit setup (suc n) = each_append (NumbersFit 0) (new_workers setup n) (new_worker n setup ∷ []) (first_fit setup n) (fits_new, tt) where
  fits_new : (m : ℕ) → numbered m (new_worker n setup) + from_on 0 m ≤ 1
  fits_new m = by_test (nat_le 0 m) where
    by_test : (b : Bool) → 0 + 0 + cond b 1 0 ≤ 1
    by_test true = omega arith
    by_test false = omega arith

-- ---- the law

both_tests : (a b : Bool) → ◌≡◌ {A = ℕ} (cond (a && b) 1 0) (cond a (cond b 1 0) 0)
both_tests true b = refl
both_tests false b = refl

past_is : (k : Key) (from : From) (m : ℕ) → k.to_the_end ≡ true → cond (is_same from k.from && m == k.number) 1 0 ≡ past k from m
past_is k from m whole = rw whole (both_tests (is_same from k.from) (m == k.number))

end_is : (k : Key) (said : Note) → k.to_the_end ≡ true → cond (is_end k.from k.number said) 1 0 ≡ end_of k said
end_is k (note.Sent from m packet) whole = past_is k from m whole
end_is k (note.Delivered from m to packet) whole = past_is k from m whole
end_is k (note.Dropped from m cause) whole = past_is k from m whole
end_is k said whole = refl

long_by : (b : Bool) (said : Note) (notes : List Note) → length (cond b (said ∷ notes) notes) ≡ cond b 1 0 + length notes
long_by true said notes = omega arith
long_by false said notes = omega arith

pub ends_are : (k : Key) (notes : List Note) → k.to_the_end ≡ true → ends_of k.from k.number notes ≡ total (end_of k) notes
ends_are k [] whole = refl
ends_are k (said ∷ notes) whole =
    let rest = ends_are k notes whole in
    let here = end_is k said whole in
    let long = long_by (is_end k.from k.number said) said (filter (is_end k.from k.number) notes) in
    omega (arith, rest, here, long)

pub one_end : StaysLawful → (k : Key) → k.to_the_end ≡ true → IsCounted k.from k.number → (plan : Plan) (ms : List Moment) (last : State) → Run (state_of plan) ms last → ends_of k.from k.number (notes_of ms) ≤ 1
one_end stays k whole counted plan ms last run =
    let sound = first_has (λ setup n c. Sound stays k n c) (keeps_sound stays k) plan in
    let falls = run_falls stays k counted ms (state_of plan) last sound (first_fit plan.setup plan.workers) run in
    let few = first_few k plan in
    let same = ends_are k (notes_of ms) whole in
    omega (arith, falls, few, same)
