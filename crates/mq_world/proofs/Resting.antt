-- Of which workers of a world it is said that they rest.
use Rattle.std.proofs.Common.{◌≡◌, ◌↔◌, ℕ, zero, suc, ◌+◌, Bool, true, false, List, [], ◌∷◌, length, slice_get, slice_set, Option, Some, None, refl, sym, ap, subst, ◌∙◌, arith}
use Rattle.std.specs.Global.{Vec}
use Rattle.std.specs.Prelude.{is_some, option_and_then, replicate}
use Rattle.mq_talk.specs.declared.place.Parcel.{Parcel}
use Rattle.mq_talk.specs.Mails.{Boxes, box_at}
use Rattle.mq_talk.specs.Offices.{Seen}
use Rattle.mq_machine.specs.State.{Told, Worker, State}
use Rattle.mq_machine.specs.Turn.{WorkerOf, has_turn, turn_of}
use Rattle.mq_mem.specs.Mails.{is_waiting}
use Rattle.mq_mem.specs.Offices.{seen_of}
use Rattle.mq_plain.specs.Served.{Plain, Serves}
use Rattle.mq_world.specs.declared.workers.Workers.{Workers}
use Rattle.mq_world.specs.Worlds.{AreServed, Rests, DoRest, IsWorld}

-- one is another from now on, and so is what is said of it
pub rest_set : (rests : List Bool) (actors : List Plain) (k : ℕ) (said : Bool) (b : Plain) → DoRest rests actors → (said ≡ true → Rests b) → DoRest (slice_set rests k said) (slice_set actors k b)
rest_set [] [] k said b are is = tt
rest_set [] (a ∷ actors) k said b are is = absurd are
rest_set (r ∷ rests) [] k said b are is = absurd are
rest_set (r ∷ rests) (a ∷ actors) zero said b are is = (is, are.1)
rest_set (r ∷ rests) (a ∷ actors) (suc k) said b are is = (are.0, rest_set rests actors k said b are.1 is)

-- nothing is said of it then
pub woken : (rests now : List Bool) (actors : List Plain) (k : ℕ) (b : Plain) → DoRest rests actors → now ≡ slice_set rests k false → DoRest now (slice_set actors k b)
woken rests now actors k b are is = subst (λ (said : List Bool). DoRest said (slice_set actors k b)) (sym is) (rest_set rests actors k false b are (λ e. absurd cc))

-- one is looked at
pub rest_said : (rests : List Bool) (actors : List Plain) (k : ℕ) (said : Bool) (a : Plain) → DoRest rests actors → slice_get actors k ≡ Some a → (said ≡ true → Rests a) → DoRest (slice_set rests k said) actors
rest_said [] [] k said a are at is = tt
rest_said [] (x ∷ actors) k said a are at is = absurd are
rest_said (r ∷ rests) [] k said a are at is = absurd are
rest_said (r ∷ rests) (x ∷ actors) zero said a are at is = let e : x ≡ a = cc in (λ yes. subst Rests (sym e) (is yes), are.1)
rest_said (r ∷ rests) (x ∷ actors) (suc k) said a are at is = (are.0, rest_said rests actors k said a are.1 at is)

pub rests_long : (rests : List Bool) (actors : List Plain) → DoRest rests actors → length rests ≡ length actors
rests_long [] [] are = refl
rests_long [] (a ∷ actors) are = absurd are
rests_long (r ∷ rests) [] are = absurd are
rests_long (r ∷ rests) (a ∷ actors) are = ap (λ (n : ℕ). suc n) (rests_long rests actors are.1)

-- of none is it said at first
pub none_said : (actors : List Plain) → DoRest (replicate (length actors) false) actors
none_said [] = tt
none_said (a ∷ actors) = (λ e. absurd cc, none_said actors)

-- ---- one that rests

-- it has no turn while its inbox is empty
resting : (links : List Told) (seen : Seen) (boxes : Boxes) (rests : List Bool) (from k : ℕ) (actors : List Plain) (ws : List Worker) → DoRest rests actors → AreServed links seen boxes from actors ws
    → slice_get rests k ≡ Some true → (w : Worker) × (slice_get ws k ≡ Some w) × (w.id ≡ from + k) × (turn_of w [] ≡ None)
resting links seen boxes [] from k actors ws rest are said = absurd cc
resting links seen boxes (r ∷ rests) from k [] ws rest are said = absurd rest
resting links seen boxes (r ∷ rests) from k (a ∷ actors) [] rest are said = absurd are
resting links seen boxes (r ∷ rests) from zero (a ∷ actors) (w ∷ ws) rest are said =
    let same : from ≡ from + 0 = omega arith in
    let yes : r ≡ true = cc in
    (w, refl, are.0.stands.id ∙ are.0.id ∙ same, rest.0 yes links seen boxes from w are.0)
resting links seen boxes (r ∷ rests) from (suc k) (a ∷ actors) (w ∷ ws) rest are said =
    let found = resting links seen boxes rests (suc from) k actors ws rest.1 are.1 said in
    let same : suc from + k ≡ from + suc k = omega arith in
    (found.0, found.1, found.2 ∙ same, found.3)

empty : (box : List Parcel) → is_waiting box ≡ false → box ≡ []
empty [] none = refl
empty (parcel ∷ parcels) none = absurd cc

module _ (old : Workers) (s : State) (is : IsWorld old s) (k : ℕ) where
  pub rest_quiet : slice_get old.rests.items k ≡ Some true → is_waiting (box_at old.mail.boxes k) ≡ false → has_turn s (WorkerOf k) ≡ false
  rest_quiet said none =
      let f = resting s.links (seen_of old.office) old.mail.boxes old.rests.items 0 k old.workers.items s.workers is.rests is.workers said in
      let start : 0 + k ≡ k = omega arith in
      let is_box : box_at s.shared.boxes f.0.id ≡ [] =
      ap (λ sh. box_at sh.boxes f.0.id) is.shared ∙ ap (λ (n : ℕ). box_at old.mail.boxes n) (f.2 ∙ start) ∙ empty (box_at old.mail.boxes k) none in
      ap (λ (o : Option Worker). is_some (option_and_then (λ (w : Worker). turn_of w (box_at s.shared.boxes w.id)) o)) f.1
      ∙ ap (λ (b : List Parcel). is_some (turn_of f.0 b)) is_box
      ∙ ap (λ o. is_some o) f.3

  -- what was found of it is said
  pub looked : (a : Plain) (quiet : Bool) (rests : Vec Bool) → slice_get old.workers.items k ≡ Some a
      → ((links : List Told) (seen : Seen) (boxes : Boxes) (number : ℕ) (w : Worker) → Serves links seen boxes number a w → (box : List Parcel) → (box ≡ [] ↔ true ≡ true) → (quiet ≡ true) ↔ (turn_of w box ≡ None))
      → rests.items ≡ slice_set old.rests.items k quiet → IsWorld (record old { rests = rests }) s
  looked a quiet rests at says set = record {
    links = is.links;
    workers = is.workers;
    shared = is.shared;
    count = is.count;
    few = is.few;
    boxes = is.boxes;
    config = is.config;
    pump = is.pump;
    offered = is.offered;
    rests = subst (λ (said : List Bool). DoRest said old.workers.items) (sym set) (rest_said old.rests.items old.workers.items k quiet a is.rests at
        (λ yes links seen boxes number w x. (says links seen boxes number w x [] (λ e. refl, λ e. refl)).0 yes));
  }
