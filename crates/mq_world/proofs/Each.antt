-- One of the workers of a world changes, as all do by one rule that leaves the others as they are.
use Rattle.std.proofs.Common.{◌≡◌, ◌≢◌, ℕ, zero, suc, ◌+◌, ◌<◌, ◌≤◌, List, [], ◌∷◌, map, All, slice_get, slice_set, Some, refl, sym, ap, subst, ◌∙◌, arith, Bool, false}
use Rattle.std.specs.Vec.{with_item}
use Rattle.std.specs.Global.{Vec}
use Rattle.mq_talk.specs.Mails.{Boxes}
use Rattle.mq_talk.specs.Offices.{Seen}
use Rattle.mq_machine.specs.State.{Told, Worker, State}
use Rattle.mq_mem.specs.Offices.{seen_of}
use Rattle.mq_actor.proofs.Others.{set_length}
use Rattle.mq_plain.specs.Served.{Plain, Serves}
use Rattle.mq_world.specs.declared.workers.Workers.{Workers}
use Rattle.mq_world.specs.Worlds.{AreServed, IsWorld}
use Rattle.mq_world.proofs.Resting.{woken}

module _ (links : List Told) (seen : Seen) (boxes : Boxes) (k : ℕ) (f : Worker → Worker)
    (still : (n : ℕ) (a : Plain) (w : Worker) → n ≢ k → Serves links seen boxes n a w → Serves links seen boxes n a (f w)) where
  all_else : (from : ℕ) (actors : List Plain) (ws : List Worker) → k < from → AreServed links seen boxes from actors ws → AreServed links seen boxes from actors (map f ws)
  all_else from [] [] less are = tt
  all_else from [] (w ∷ ws) less are = absurd are
  all_else from (a ∷ actors) [] less are = absurd are
  all_else from (a ∷ actors) (w ∷ ws) less are =
      let further : k < suc from = omega (arith, less) in
      (still from a w (λ e. omega (arith, e, less)) are.0, all_else (suc from) actors ws further are.1)

  pub served_there : (from j : ℕ) (actors : List Plain) (ws : List Worker) (a b : Plain) → k ≡ from + j → slice_get actors j ≡ Some a → AreServed links seen boxes from actors ws
      → ((w : Worker) → Serves links seen boxes k a w → Serves links seen boxes k b (f w)) → AreServed links seen boxes from (slice_set actors j b) (map f ws)
  served_there from j [] ws a b is at are does = absurd cc
  served_there from j (y ∷ actors) [] a b is at are does = absurd are
  served_there from zero (y ∷ actors) (w ∷ ws) a b is at are does =
      let same : k ≡ from = omega (arith, is) in
      let further : k < suc from = omega (arith, same) in
      let e : y ≡ a = cc in
      let x : Serves links seen boxes k a w = subst (λ (z : Plain). Serves links seen boxes k z w) e (subst (λ (n : ℕ). Serves links seen boxes n y w) (sym same) are.0) in
      (subst (λ (n : ℕ). Serves links seen boxes n b (f w)) same (does w x), all_else (suc from) actors ws further are.1)
  served_there from (suc j) (y ∷ actors) (w ∷ ws) a b is at are does =
      let next : k ≡ suc from + j = omega (arith, is) in
      (still from y w (λ e. omega (arith, e, is)) are.0, served_there (suc from) j actors ws a b next at are.1 does)

pub stands_changed : (old : Workers) (s : State) → IsWorld old s → (k : ℕ) (f : Worker → Worker) (rests : Vec Bool) → rests.items ≡ slice_set old.rests.items k false
    → ((n : ℕ) (a : Plain) (w : Worker) → n ≢ k → Serves s.links (seen_of old.office) old.mail.boxes n a w → Serves s.links (seen_of old.office) old.mail.boxes n a (f w))
    → (a b : Plain) → slice_get old.workers.items k ≡ Some a
    → ((w : Worker) → Serves s.links (seen_of old.office) old.mail.boxes k a w → Serves s.links (seen_of old.office) old.mail.boxes k b (f w))
    → IsWorld (record old { workers = with_item old.workers k b; rests = rests }) (record s { workers = map f s.workers })
stands_changed old s is k f rests awake still a b at does = record {
  links = is.links;
  workers = served_there s.links (seen_of old.office) old.mail.boxes k f still 0 k old.workers.items s.workers a b (omega arith) at is.workers does;
  shared = is.shared;
  count = set_length old.workers.items k b ∙ is.count;
  few = subst (λ (n : ℕ). n ≤ 4) (sym (set_length old.workers.items k b)) is.few;
  boxes = is.boxes;
  config = is.config;
  pump = is.pump;
  offered = subst (λ (n : ℕ). All (λ (t : Told). t.worker < n) s.links) (sym (set_length old.workers.items k b)) is.offered;
  rests = woken old.rests.items rests.items old.workers.items k b is.rests awake;
}

-- and so do all where none of them changes
pub stands_still : (old : Workers) (s : State) → IsWorld old s → (k : ℕ) (rests : Vec Bool) → rests.items ≡ slice_set old.rests.items k false → (a b : Plain) → slice_get old.workers.items k ≡ Some a
    → ((w : Worker) → Serves s.links (seen_of old.office) old.mail.boxes k a w → Serves s.links (seen_of old.office) old.mail.boxes k b w)
    → IsWorld (record old { workers = with_item old.workers k b; rests = rests }) s
stands_still old s is k rests awake a b at does =
    subst (λ (ws : List Worker). IsWorld (record old { workers = with_item old.workers k b; rests = rests }) (record s { workers = ws })) (map_same s.workers)
    (stands_changed old s is k (λ w. w) rests awake (λ n x w ne served. served) a b at does) where
      map_same : (ws : List Worker) → map (λ (w : Worker). w) ws ≡ ws
      map_same [] = refl
      map_same (w ∷ ws) = ap (λ (xs : List Worker). w ∷ xs) (map_same ws)
