-- The workers of a world, of which one takes a step.
use Rattle.std.proofs.Common.{◌≡◌, ◌≢◌, ℕ, zero, suc, ◌+◌, ◌<◌, true, List, [], ◌∷◌, length, slice_get, slice_set, Some, refl, sym, subst, ◌∙◌, arith}
use Rattle.mq_talk.specs.Mails.{Boxes}
use Rattle.mq_talk.specs.Offices.{Seen}
use Rattle.mq_machine.specs.State.{Told, Worker}
use Rattle.mq_machine.specs.Acting.{Outside, Known, Writes}
use Rattle.mq_actor.specs.Steps.{sight}
use Rattle.mq_plain.specs.Served.{Plain, Serves}
use Rattle.mq_world.specs.Worlds.{AreServed}
use Rattle.mq_plain.proofs.Beside.{known_beside}
use Rattle.mq_mem.specs.Mails.{shown}

-- ---- whose turn it is

-- what is known of a worker says nothing of whom the office serves
known_turned : (o : Outside) (seen : Seen) (boxes : Boxes) (k : ℕ) (w : Worker) → Known (sight o seen (shown boxes)) w → Known (sight o (record seen { actor = k }) (shown boxes)) w
known_turned o seen boxes k w known = record { id = known.id; pump = known.pump; tunnels = known.tunnels; last = known.last; places = known.places; boxes = known.boxes }

serves_turned : (links : List Told) (seen : Seen) (boxes : Boxes) (k number : ℕ) (a : Plain) (w : Worker) → Serves links seen boxes number a w → Serves links (record seen { actor = k }) boxes number a w
serves_turned links seen boxes k number a w x =
    record { stands = x.stands; tells = x.tells; known = λ o. known_turned o seen boxes k w (x.known o); id = x.id; own = x.own; ready = x.ready }

pub served_turned : (links : List Told) (seen : Seen) (boxes : Boxes) (k from : ℕ) (actors : List Plain) (ws : List Worker) → AreServed links seen boxes from actors ws
    → AreServed links (record seen { actor = k }) boxes from actors ws
served_turned links seen boxes k from [] [] are = tt
served_turned links seen boxes k from [] (w ∷ ws) are = absurd are
served_turned links seen boxes k from (a ∷ actors) [] are = absurd are
served_turned links seen boxes k from (a ∷ actors) (w ∷ ws) are =
    (serves_turned links seen boxes k from a w are.0, served_turned links seen boxes k (suc from) actors ws are.1)

-- ---- one of them

pub served_at : (links : List Told) (seen : Seen) (boxes : Boxes) (from j : ℕ) (actors : List Plain) (ws : List Worker) (a : Plain) → AreServed links seen boxes from actors ws
    → slice_get actors j ≡ Some a → (w : Worker) × (slice_get ws j ≡ Some w) × Serves links seen boxes (from + j) a w
served_at links seen boxes from j [] ws a are at = absurd cc
served_at links seen boxes from j (b ∷ actors) [] a are at = absurd are
served_at links seen boxes from zero (b ∷ actors) (w ∷ ws) a are at =
    let e : b ≡ a = cc in
    let same : from ≡ from + 0 = omega arith in
    (w, refl, subst (λ (n : ℕ). Serves links seen boxes n a w) same (subst (λ (z : Plain). Serves links seen boxes from z w) e are.0))
served_at links seen boxes from (suc j) (b ∷ actors) (w ∷ ws) a are at =
    let found = served_at links seen boxes (suc from) j actors ws a are.1 at in
    let same : suc from + j ≡ from + suc j = omega arith in
    (found.0, found.1, subst (λ (n : ℕ). Serves links seen boxes n a found.0) same found.2)

-- ---- behind its step

module _ (links : List Told) (old new : Seen) (boxes after : Boxes) (k : ℕ) (whole : old.is_whole ≡ true) (writes : Writes old new k)
    (config : new.config ≡ old.config) (size : length after ≡ length boxes) where
  serves_beside : (n : ℕ) (a : Plain) (w : Worker) → Serves links old boxes n a w → n ≢ k → Serves links new after n a w
  serves_beside n a w x ne = record {
    stands = x.stands;
    tells = x.tells;
    known = λ o. known_beside o o old new boxes after k w (x.known o) (λ e. ne (sym (x.stands.id ∙ x.id) ∙ e)) whole writes config size;
    id = x.id;
    own = x.own;
    ready = x.ready;
  }

  beside_all : (from : ℕ) (actors : List Plain) (ws : List Worker) → k < from → AreServed links old boxes from actors ws → AreServed links new after from actors ws
  beside_all from [] [] less are = tt
  beside_all from [] (w ∷ ws) less are = absurd are
  beside_all from (a ∷ actors) [] less are = absurd are
  beside_all from (a ∷ actors) (w ∷ ws) less are =
      let further : k < suc from = omega (arith, less) in
      (serves_beside from a w are.0 (λ e. omega (arith, e, less)), beside_all (suc from) actors ws further are.1)

  pub served_set : (from j : ℕ) (actors : List Plain) (ws : List Worker) (a : Plain) (w : Worker) → k ≡ from + j → j < length actors → AreServed links old boxes from actors ws
      → Serves links new after k a w → AreServed links new after from (slice_set actors j a) (slice_set ws j w)
  served_set from j [] ws a w is less are x = absurd (omega (arith, less))
  served_set from j (b ∷ actors) [] a w is less are x = absurd are
  served_set from zero (b ∷ actors) (v ∷ ws) a w is less are x =
      let same : k ≡ from = omega (arith, is) in
      let further : k < suc from = omega (arith, same) in
      (subst (λ (n : ℕ). Serves links new after n a w) same x, beside_all (suc from) actors ws further are.1)
  served_set from (suc j) (b ∷ actors) (v ∷ ws) a w is less are x =
      let next : k ≡ suc from + j = omega (arith, is) in
      let fewer : j < length actors = omega (arith, less) in
      (serves_beside from b v are.0 (λ e. omega (arith, e, is)), served_set (suc from) j actors ws a w next fewer are.1 x)
