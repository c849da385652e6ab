-- A new link is offered to one of the workers of a world.
use Rattle.std.proofs.Common.{◌≡◌, ◌≢◌, ℕ, zero, suc, ◌+◌, ◌<◌, ◌≤◌, Bool, true, false, ◌||◌, List, [], ◌∷◌, ◌++◌, length, map, All, slice_get, slice_set, Some, refl, sym, ap, subst, ◌∙◌, arith}
use Rattle.std.specs.Prelude.{nat_le}
use Rattle.std.specs.Vec.{with_item}
use Rattle.std.proofs.lemmas.Bool.{leb-false}
use Rattle.std.proofs.lemmas.List.{map-append}
use Rattle.std.proofs.lemmas.List.Elements.{All-append, All-cons, All-nil, All-weaker}
use Rattle.std.proofs.lemmas.Option.{slice_get_within}
use Rattle.mq_talk.specs.Mails.{Boxes}
use Rattle.mq_talk.specs.Offices.{Seen}
use Rattle.mq_machine.specs.declared.event.Event.TheVariants.{Conn}
use Rattle.mq_machine.specs.State.{Told, Worker, State, new_link, with_offer}
use Rattle.mq_mem.specs.Offices.{seen_of}
use Rattle.mq_actor.specs.Ended.{numbers_in}
use Rattle.mq_actor.proofs.Others.{set_length}
use Rattle.mq_play.specs.Events.{happen, is_missing, most_links, offered_to}
use Rattle.mq_plain.specs.Served.{Plain, IsOf, Serves}
use Rattle.mq_plain.proofs.Offering.{serves_more}
use Rattle.mq_world.specs.declared.told.Told.{Told as ToldBy}
use Rattle.mq_world.specs.declared.workers.Workers.{Workers}
use Rattle.mq_world.specs.Worlds.{told_of, AreServed, IsWorld}
use Rattle.mq_world.proofs.Resting.{woken}
use Rattle.mq_world.proofs.Worlds.{served_at}

module _ (links : List Told) (t : Told) (seen : Seen) (boxes : Boxes) (k : ℕ) where
  more_all : (from : ℕ) (actors : List Plain) (ws : List Worker) → AreServed links seen boxes from actors ws → AreServed (links ++ t ∷ []) seen boxes from actors ws
  more_all from [] [] are = tt
  more_all from [] (w ∷ ws) are = absurd are
  more_all from (a ∷ actors) [] are = absurd are
  more_all from (a ∷ actors) (w ∷ ws) are = (serves_more links t seen boxes from a w are.0, more_all (suc from) actors ws are.1)

  pub served_offered : (from j number : ℕ) (actors : List Plain) (ws : List Worker) (a b : Plain) → k ≡ from + j → slice_get actors j ≡ Some a → AreServed links seen boxes from actors ws
      → ((w : Worker) → Serves links seen boxes k a w → Serves (links ++ t ∷ []) seen boxes k b (with_offer number new_link w))
      → AreServed (links ++ t ∷ []) seen boxes from (slice_set actors j b) (offered_to j number ws)
  served_offered from j number [] ws a b is at are does = absurd cc
  served_offered from j number (y ∷ actors) [] a b is at are does = absurd are
  served_offered from zero number (y ∷ actors) (w ∷ ws) a b is at are does =
      let same : k ≡ from = omega (arith, is) in
      let e : y ≡ a = cc in
      let x : Serves links seen boxes k a w = subst (λ (z : Plain). Serves links seen boxes k z w) e (subst (λ (n : ℕ). Serves links seen boxes n y w) (sym same) are.0) in
      (subst (λ (n : ℕ). Serves (links ++ t ∷ []) seen boxes n b (with_offer number new_link w)) same (does w x), more_all (suc from) actors ws are.1)
  served_offered from (suc j) number (y ∷ actors) (w ∷ ws) a b is at are does =
      let next : k ≡ suc from + j = omega (arith, is) in
      (serves_more links t seen boxes from y w are.0, served_offered (suc from) j number actors ws a b next at are.1 does)

pub map_long : (ts : List ToldBy) → length (map told_of ts) ≡ length ts
map_long [] = refl
map_long (t ∷ ts) = ap (λ (n : ℕ). suc n) (map_long ts)

served_long : (links : List Told) (seen : Seen) (boxes : Boxes) (from : ℕ) (actors : List Plain) (ws : List Worker) → AreServed links seen boxes from actors ws → length ws ≡ length actors
served_long links seen boxes from [] [] are = refl
served_long links seen boxes from [] (w ∷ ws) are = absurd are
served_long links seen boxes from (a ∷ actors) [] are = absurd are
served_long links seen boxes from (a ∷ actors) (w ∷ ws) are = ap (λ (n : ℕ). suc n) (served_long links seen boxes (suc from) actors ws are.1)

module _ (old : Workers) (s : State) (is : IsWorld old s) where
  -- as many workers, and as many links
  pub workers_long : length s.workers ≡ length old.workers.items
  workers_long = served_long s.links (seen_of old.office) old.mail.boxes 0 old.workers.items s.workers is.workers

  pub links_many : length s.links ≡ length old.links.items
  links_many = ap (λ (ts : List Told). length ts) is.links ∙ map_long old.links.items

  module _ (k : ℕ) (a : Plain) (at : slice_get old.workers.items k ≡ Some a) where
    -- no link of its own has the next number
    pub fresh : All (λ other. other ≢ length old.links.items) (numbers_in a.ring)
    fresh =
        let f = served_at s.links (seen_of old.office) old.mail.boxes 0 k old.workers.items s.workers a is.workers at in
        All-weaker (IsOf s.links (0 + k)) (λ other. other ≢ length old.links.items)
        (λ other of e. let less = slice_get_within s.links other of.said of.at in omega (arith, less, links_many, e)) (numbers_in a.ring) f.2.own

    pub stands_offered : (now : Workers) (b : Plain) → now.links.items ≡ old.links.items ++ record { worker = k; is_ended = false } ∷ [] → now.rests.items ≡ slice_set old.rests.items k false
        → ((w : Worker) → Serves s.links (seen_of old.office) old.mail.boxes k a w
        → Serves (s.links ++ record { worker = k; is_ended = false } ∷ []) (seen_of old.office) old.mail.boxes k b (with_offer (length s.links) new_link w))
        → IsWorld (record old { links = now.links; workers = with_item old.workers k b; rests = now.rests }) (happen s (Conn k))
    stands_offered now b more awake does =
        let t : Told = record { worker = k; is_ended = false } in
        let within : k < length old.workers.items = slice_get_within old.workers.items k a at in
        let size = set_length old.workers.items k b in
        record {
          links = ap (λ (ts : List Told). ts ++ t ∷ []) is.links ∙ sym (map-append told_of old.links.items (record { worker = k; is_ended = false } ∷ [])) ∙ ap (λ (ts : List ToldBy). map told_of ts) (sym more);
          workers = served_offered s.links t (seen_of old.office) old.mail.boxes k 0 k (length s.links) old.workers.items s.workers a b (omega arith) at is.workers does;
          shared = is.shared;
          count = size ∙ is.count;
          few = subst (λ (n : ℕ). n ≤ 4) (sym size) is.few;
          boxes = is.boxes;
          config = is.config;
          pump = is.pump;
          offered = subst (λ (n : ℕ). All (λ (u : Told). u.worker < n) (s.links ++ t ∷ [])) (sym size)
              (All-append (λ (u : Told). u.worker < length old.workers.items) s.links (t ∷ []) is.offered
              (All-cons (λ (u : Told). u.worker < length old.workers.items) t [] within (All-nil (λ (u : Told). u.worker < length old.workers.items))));
          rests = woken old.rests.items now.rests.items old.workers.items k b is.rests awake;
        }

  -- there is such a worker, and a place
  pub missing_same : (actor : ℕ) → is_missing s (Conn actor) ≡ (nat_le (length old.workers.items) actor || nat_le most_links (length old.links.items))
  missing_same actor =
      ap (λ (n : ℕ). nat_le n actor || nat_le most_links (length s.links)) workers_long
      ∙ ap (λ (n : ℕ). nat_le (length old.workers.items) actor || nat_le most_links n) links_many

  -- only what links are said to be matters
  pub relinked : (now : Workers) → now.links.items ≡ old.links.items → IsWorld (record old { links = now.links }) s
  relinked now same = record {
    links = is.links ∙ ap (λ (ts : List ToldBy). map told_of ts) (sym same);
    workers = is.workers;
    shared = is.shared;
    count = is.count;
    few = is.few;
    boxes = is.boxes;
    config = is.config;
    pump = is.pump;
    offered = is.offered;
    rests = is.rests;
  }

pub placed : (n actor : ℕ) (full : Bool) → (nat_le n actor || full) ≡ false → actor < n
placed n actor full none = leb-false n actor (left (nat_le n actor) full none) where
  left : (a b : Bool) → (a || b) ≡ false → a ≡ false
  left true b e = absurd cc
  left false b e = refl
