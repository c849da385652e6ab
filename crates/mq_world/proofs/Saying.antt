-- That the end of a link was said.
use Rattle.std.proofs.Common.{◌≡◌, ℕ, zero, suc, ◌<◌, true, List, [], ◌∷◌, length, map, All, slice_get, slice_set, Option, Some, refl, sym, ap, ◌∙◌}
use Rattle.std.specs.Option.{option_map}
use Rattle.std.specs.Vec.{with_item}
use Rattle.std.proofs.lemmas.List.Elements.{All-cons, All-head, All-tail, All-nil, All-weaker}
use Rattle.mq_talk.specs.Mails.{Boxes}
use Rattle.mq_talk.specs.Offices.{Seen}
use Rattle.mq_machine.specs.State.{Told, Worker, State}
use Rattle.mq_mem.specs.Offices.{seen_of}
use Rattle.mq_actor.specs.Ended.{numbers_in}
use Rattle.mq_actor.proofs.Lists.{get_set_same}
use Rattle.mq_play.specs.Events.{ended_at}
use Rattle.mq_world.specs.declared.told.Told.{Told as ToldBy}
use Rattle.mq_world.specs.declared.workers.Workers.{Workers}
use Rattle.mq_plain.specs.Served.{Plain, IsOf, Serves}
use Rattle.mq_world.specs.Worlds.{told_of, AreServed, IsWorld}

abbrev pub ending : ToldBy → ToldBy
ending t = record t { is_ended = true }

ended_said : (ts : List ToldBy) (i : ℕ) (t : ToldBy) → slice_get ts i ≡ Some t → ended_at i (map told_of ts) ≡ map told_of (slice_set ts i (ending t))
ended_said [] i t at = absurd cc
ended_said (y ∷ ts) zero t at =
    let e : y ≡ t = cc in
    ap {B = List Told} (λ (x : ToldBy). told_of (ending x) ∷ map told_of ts) e
ended_said (y ∷ ts) (suc i) t at = ap {B = List Told} (λ (xs : List Told). told_of y ∷ xs) (ended_said ts i t at)

-- a link is that of the same worker
still_of : (links : List Told) (i m : ℕ) (t : Told) → slice_get links m ≡ Some t → (u : Told) × (slice_get (ended_at i links) m ≡ Some u) × (u.worker ≡ t.worker)
still_of [] i m t at = absurd cc
still_of (x ∷ links) zero zero t at = (record x { is_ended = true }, refl, let e : x ≡ t = cc in ap (λ (z : Told). z.worker) e)
still_of (x ∷ links) zero (suc m) t at = (t, at, refl)
still_of (x ∷ links) (suc i) zero t at = (t, at, refl)
still_of (x ∷ links) (suc i) (suc m) t at = still_of links i m t at

is_of_ended : (links : List Told) (i n m : ℕ) → IsOf links n m → IsOf (ended_at i links) n m
is_of_ended links i n m is =
    let u = still_of links i m is.said is.at in
    record { said = u.0; at = u.1; to = u.2 ∙ is.to }

serves_ended : (links : List Told) (i : ℕ) (seen : Seen) (boxes : Boxes) (number : ℕ) (a : Plain) (w : Worker) → Serves links seen boxes number a w → Serves (ended_at i links) seen boxes number a w
serves_ended links i seen boxes number a w x = record {
  stands = x.stands;
  tells = x.tells;
  known = x.known;
  id = x.id;
  own = All-weaker (IsOf links number) (IsOf (ended_at i links) number) (λ m is. is_of_ended links i number m is) (numbers_in a.ring) x.own;
  ready = x.ready;
}

served_ended : (links : List Told) (i : ℕ) (seen : Seen) (boxes : Boxes) (from : ℕ) (actors : List Plain) (ws : List Worker) → AreServed links seen boxes from actors ws
    → AreServed (ended_at i links) seen boxes from actors ws
served_ended links i seen boxes from [] [] are = tt
served_ended links i seen boxes from [] (w ∷ ws) are = absurd are
served_ended links i seen boxes from (a ∷ actors) [] are = absurd are
served_ended links i seen boxes from (a ∷ actors) (w ∷ ws) are =
    (serves_ended links i seen boxes from a w are.0, served_ended links i seen boxes (suc from) actors ws are.1)

workers_ended : (n : ℕ) (links : List Told) (i : ℕ) → All (λ (t : Told). t.worker < n) links → All (λ (t : Told). t.worker < n) (ended_at i links)
workers_ended n [] i all = All-nil (λ (t : Told). t.worker < n)
workers_ended n (t ∷ links) zero all =
    All-cons (λ (t : Told). t.worker < n) (record t { is_ended = true }) links (All-head (λ (t : Told). t.worker < n) t links all) (All-tail (λ (t : Told). t.worker < n) t links all)
workers_ended n (t ∷ links) (suc i) all =
    All-cons (λ (t : Told). t.worker < n) t (ended_at i links) (All-head (λ (t : Told). t.worker < n) t links all) (workers_ended n links i (All-tail (λ (t : Told). t.worker < n) t links all))

module _ (old : Workers) (s : State) (is : IsWorld old s) (conn : ℕ) (t : ToldBy) (at : slice_get old.links.items conn ≡ Some t) where
  abbrev pub said : Workers
  said = record old { links = with_item old.links conn (ending t) }

  abbrev pub heard : State
  heard = record s { links = ended_at conn s.links }

  pub stands_said : IsWorld said heard
  stands_said = record {
    links = ap (λ (ts : List Told). ended_at conn ts) is.links ∙ ended_said old.links.items conn t at;
    workers = served_ended s.links conn (seen_of old.office) old.mail.boxes 0 old.workers.items s.workers is.workers;
    shared = is.shared;
    count = is.count;
    few = is.few;
    boxes = is.boxes;
    config = is.config;
    pump = is.pump;
    offered = workers_ended (length old.workers.items) s.links conn is.offered;
    rests = is.rests;
  }

  -- its worker is the same
  pub still_told : (k : ℕ) → option_map (λ (u : ToldBy). u.worker) (slice_get old.links.items conn) ≡ Some k → option_map (λ (u : ToldBy). u.worker) (slice_get said.links.items conn) ≡ Some k
  still_told k told =
      ap (λ (o : Option ToldBy). option_map (λ (u : ToldBy). u.worker) o) (get_set_same old.links.items conn t (ending t) at)
      ∙ sym (ap (λ (o : Option ToldBy). option_map (λ (u : ToldBy). u.worker) o) at) ∙ told
