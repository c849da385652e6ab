-- What comes from outside, as an event of the machine.
use Rattle.std.proofs.Common.{◌≡◌, ℕ, zero, suc, ◌<◌, ◌≤◌, Bool, true, false, not, List, [], ◌∷◌, length, map, slice_get, slice_set, Option, Some, refl, sym, ap, subst, ◌∙◌, arith}
use Rattle.std.specs.Prelude.{nat_lt, take}
use Rattle.std.specs.Vec.{with_item}
use Rattle.std.specs.Global.{Vec}
use Rattle.std.proofs.lemmas.Bool.{leb-false}
use Rattle.std.proofs.lemmas.Option.{slice_get_within, get_or_from_slice_get}
use Rattle.mq_book.specs.Journal.{Journal}
use Rattle.mq_talk.specs.declared.book.Call.{Call}
use Rattle.mq_talk.specs.declared.book.Call.TheVariants as call
use Rattle.mq_talk.specs.declared.book.Config.{Config}
use Rattle.mq_talk.specs.declared.book.Entry.{Entry}
use Rattle.mq_talk.specs.declared.goal.Goal.TheVariants as goal
use Rattle.mq_talk.specs.Answers.{IsLegal, MayCall}
use Rattle.mq_talk.specs.Book.{History}
use Rattle.mq_machine.specs.State.{Port, Told, Worker, State}
use Rattle.mq_mem.specs.Offices.{seen_of}
use Rattle.mq_play.specs.Events.{is_ended, opens_port, with_held_ports, with_port}
use Rattle.mq_plain.specs.Served.{Plain, Serves}
use Rattle.mq_plain.proofs.Elsewhere.{still_elsewhere}
use Rattle.mq_world.specs.declared.told.Told.{Told as ToldBy}
use Rattle.mq_world.specs.declared.workers.Workers.{Workers}
use Rattle.mq_world.specs.Worlds.{told_of, IsWorld, opens_udp}
use Rattle.mq_world.proofs.Each.{stands_changed}

-- ---- links

-- whether its end was said
pub ended_there : (ts : List ToldBy) (i : ℕ) (t : ToldBy) → slice_get ts i ≡ Some t → is_ended (map told_of ts) i ≡ t.is_ended
ended_there [] i t at = absurd cc
ended_there (x ∷ ts) zero t at = let e : x ≡ t = cc in ap (λ (z : ToldBy). z.is_ended) e
ended_there (x ∷ ts) (suc i) t at = ended_there ts i t at

ended_behind : (ts : List ToldBy) (i : ℕ) → length ts ≤ i → is_ended (map told_of ts) i ≡ true
ended_behind [] i le = refl
ended_behind (x ∷ ts) zero le = absurd (omega (arith, le))
ended_behind (x ∷ ts) (suc i) le = ended_behind ts i (omega (arith, le))

pub ended_past : (ts : List ToldBy) (i : ℕ) → nat_lt i (length ts) ≡ false → is_ended (map told_of ts) i ≡ true
ended_past ts i none = let less = leb-false (suc i) (length ts) none in ended_behind ts i (omega (arith, less))

pub ended_in : (old : Workers) (s : State) → IsWorld old s → (conn : ℕ) (b : Bool) → is_ended (map told_of old.links.items) conn ≡ b → is_ended s.links conn ≡ b
ended_in old s is conn b e = ap (λ (ts : List Told). is_ended ts conn) is.links ∙ e

-- ---- tunnels

-- which calls open a port
pub opens_by : (e : Entry) → opens_port (Some e) ≡ opens_udp e.call
opens_by e = by_call e.call refl where
  by_call : (c : Call) → e.call ≡ c → opens_port (Some e) ≡ opens_udp c
  by_call (call.Open conn stream actor (goal.Udp addr port)) is = rw is refl
  by_call (call.Open conn stream actor (goal.Ip area protocol)) is = rw is refl
  by_call (call.Assign tunnel asked) is = rw is refl
  by_call (call.Advertise tunnel ranges) is = rw is refl
  by_call (call.Close tunnel) is = rw is refl

may_within : (config : Config) (before : History) (actor : ℕ) (c : Call) → opens_udp c ≡ true → MayCall config before actor c → actor < config.workers
may_within config before actor (call.Open conn stream names goal) opens may = may.0
may_within config before actor (call.Assign tunnel asked) opens may = may.0
may_within config before actor (call.Advertise tunnel ranges) opens may = may.0
may_within config before actor (call.Close tunnel) opens may = may.0

-- what opened it was a worker
pub opener_within : (config : Config) (book : History) (t : ℕ) (e : Entry) → IsLegal config book → slice_get book t ≡ Some e → opens_udp e.call ≡ true → e.actor < config.workers
opener_within config book t e legal at opens =
    let less = slice_get_within book t e at in
    let is = get_or_from_slice_get book t e e at in
    let f = legal t e less in
    may_within config (take t book) e.actor e.call opens (subst (λ (x : Entry). MayCall config (take t book) x.actor x.call) is f.may)

module _ (old : Workers) (s : State) (is : IsWorld old s) (tunnel k : ℕ) (e : Entry) (at_e : slice_get old.office.book.history tunnel ≡ Some e) (by : e.actor ≡ k) where
  pub stands_ported : (change : Port → Port) (rests : Vec Bool) → rests.items ≡ slice_set old.rests.items k false → (a b : Plain) → slice_get old.workers.items k ≡ Some a
      → ((w : Worker) → Serves s.links (seen_of old.office) old.mail.boxes k a w → Serves s.links (seen_of old.office) old.mail.boxes k b (with_held_ports tunnel change w))
      → IsWorld (record old { workers = with_item old.workers k b; rests = rests }) (with_port tunnel change s)
  stands_ported change rests awake a b at does =
      stands_changed old s is k (with_held_ports tunnel change) rests awake
      (λ n x w ne served. subst (λ (v : Worker). Serves s.links (seen_of old.office) old.mail.boxes n x v)
      (sym (still_elsewhere tunnel change s.links (seen_of old.office) old.mail.boxes n x w served e at_e (λ same. ne (sym same ∙ by)))) served)
      a b at does

  -- its port was opened
  pub opened_in : opens_udp e.call ≡ true → not (opens_port (slice_get s.shared.book tunnel)) ≡ false
  opened_in opens =
      ap (λ sh. not (opens_port (slice_get sh.book tunnel))) is.shared ∙ ap (λ (o : Option Entry). not (opens_port o)) at_e ∙ ap not (opens_by e ∙ opens)

pub unopened_in : (old : Workers) (s : State) → IsWorld old s → (tunnel : ℕ) → opens_port (slice_get old.office.book.history tunnel) ≡ false
    → not (opens_port (slice_get s.shared.book tunnel)) ≡ true
unopened_in old s is tunnel none = ap (λ sh. not (opens_port (slice_get sh.book tunnel))) is.shared ∙ ap not none

-- the port that an opener has
pub record Opener (old : Workers) (s : State) (tunnel k : ℕ) : Type 0 where
  pub e : Entry
  pub at : slice_get old.office.book.history tunnel ≡ Some e
  pub by : e.actor ≡ k
  pub less : k < length old.workers.items
  pub opens : not (opens_port (slice_get s.shared.book tunnel)) ≡ false

pub opener : (old : Workers) (s : State) → IsWorld old s → (tunnel k : ℕ) (book : Journal) (history : History) → book ≡ old.office.book → history ≡ book.history → IsLegal book.config book.history
    → (e : Entry) → slice_get history tunnel ≡ Some e → opens_port (Some e) ≡ true → e.actor ≡ k → Opener old s tunnel k
opener old s is tunnel k book history is_book is_history legal e at opens by =
    let udp : opens_udp e.call ≡ true = sym (opens_by e) ∙ opens in
    let whole : history ≡ old.office.book.history = is_history ∙ ap (λ (j : Journal). j.history) is_book in
    let there = ap (λ (h : History). slice_get h tunnel) (sym whole) ∙ at in
    let few = opener_within book.config book.history tunnel e legal (ap (λ (h : History). slice_get h tunnel) (sym is_history) ∙ at) udp in
    let count : length old.workers.items ≡ book.config.workers = is.count ∙ ap (λ (j : Journal). j.config.workers) (sym is_book) in
    record {
      e = e;
      at = there;
      by = by;
      less = omega (arith, few, count, by);
      opens = opened_in old s is tunnel k e there by udp;
    }
