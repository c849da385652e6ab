-- That no actor of a world has a turn.
use Rattle.std.proofs.Common.{◌≡◌, ◌↔◌, ◌⊎◌, inl, inr, ℕ, zero, suc, ◌+◌, ◌<◌, Bool, true, false, not, ◌||◌, List, [], ◌∷◌, length, map, slice_get, Option, Some, None, refl, sym, ap, ◌∙◌, arith}
use Rattle.std.specs.Prelude.{is_some, option_and_then}
use Rattle.std.specs.List.{list_any}
use Rattle.std.proofs.lemmas.List.{map-append}
use Rattle.std.proofs.lemmas.List.Folds.{list_any-append}
use Rattle.mq_talk.specs.declared.place.Parcel.{Parcel}
use Rattle.mq_talk.specs.Mails.{Boxes, box_at}
use Rattle.mq_talk.specs.Offices.{Seen}
use Rattle.mq_machine.specs.State.{Told, Worker, State}
use Rattle.mq_machine.specs.Turn.{Actor, WorkerOf, ThePump, Seat, has_turn, turn_of}
use Rattle.mq_mem.specs.Mails.{is_waiting}
use Rattle.mq_mem.specs.Offices.{seen_of}
use Rattle.mq_play.specs.Play.{actors_of, up_to}
use Rattle.mq_plain.specs.Served.{Plain, Serves}
use Rattle.mq_world.specs.declared.workers.Workers.{Workers}
use Rattle.mq_world.specs.Worlds.{IsWorld}
use Rattle.mq_world.proofs.Worlds.{served_at}

-- ---- a worker

no_parcel : (box : List Parcel) (waits : Bool) → waits ≡ is_waiting box → box ≡ [] ↔ not waits ≡ true
no_parcel [] waits is = (λ e. ap not is, λ e. refl)
no_parcel (parcel ∷ parcels) waits is = (λ e. absurd cc, λ e. let f : false ≡ true = sym (ap not is) ∙ e in absurd cc)

by_turn : (quiet : Bool) (o : Option Seat) → (quiet ≡ true) ↔ (o ≡ None) → is_some o ≡ not quiet
by_turn true o both = ap (λ (p : Option Seat). is_some p) (both.0 refl)
by_turn false None both = let e : false ≡ true = both.1 refl in absurd cc
by_turn false (Some seat) both = refl

module _ (old : Workers) (s : State) (is : IsWorld old s) where
  pub worker_quiet : (k : ℕ) (a : Plain) (quiet waits : Bool) → slice_get old.workers.items k ≡ Some a → waits ≡ is_waiting (box_at old.mail.boxes k)
      → ((links : List Told) (seen : Seen) (boxes : Boxes) (number : ℕ) (w : Worker) → Serves links seen boxes number a w → (box : List Parcel) → (box ≡ [] ↔ not waits ≡ true) → (quiet ≡ true) ↔ (turn_of w box ≡ None))
      → has_turn s (WorkerOf k) ≡ not quiet
  worker_quiet k a quiet waits at waiting says =
      let f = served_at s.links (seen_of old.office) old.mail.boxes 0 k old.workers.items s.workers a is.workers at in
      let start : 0 + k ≡ k = omega arith in
      let named : f.0.id ≡ k = f.2.stands.id ∙ f.2.id ∙ start in
      let box : List Parcel = box_at old.mail.boxes k in
      let is_box : box_at s.shared.boxes f.0.id ≡ box = ap (λ sh. box_at sh.boxes f.0.id) is.shared ∙ ap (λ (n : ℕ). box_at old.mail.boxes n) named in
      ap (λ (o : Option Worker). is_some (option_and_then (λ (w : Worker). turn_of w (box_at s.shared.boxes w.id)) o)) f.1
      ∙ ap (λ (b : List Parcel). is_some (turn_of f.0 b)) is_box
      ∙ by_turn quiet (turn_of f.0 box) (says s.links (seen_of old.office) old.mail.boxes (0 + k) f.0 f.2 box (no_parcel box waits waiting))

-- ---- all actors

-- none of so many workers has a turn
abbrev pub NoneBefore : State → ℕ → Type 0
NoneBefore s n = list_any (has_turn s) (map WorkerOf (up_to n)) ≡ false

any_one : (s : State) (n : ℕ) → list_any (has_turn s) (map WorkerOf (up_to (suc n))) ≡ (list_any (has_turn s) (map WorkerOf (up_to n)) || has_turn s (WorkerOf n))
any_one s n =
    ap (λ (xs : List Actor). list_any (has_turn s) xs) (map-append WorkerOf (up_to n) (n ∷ []))
    ∙ list_any-append (has_turn s) (map WorkerOf (up_to n)) (WorkerOf n ∷ [])
    ∙ ap (λ (b : Bool). list_any (has_turn s) (map WorkerOf (up_to n)) || b) (or_false (has_turn s (WorkerOf n))) where
      or_false : (b : Bool) → (b || false) ≡ b
      or_false true = refl
      or_false false = refl

pub one_quiet : (s : State) (n : ℕ) → NoneBefore s n → has_turn s (WorkerOf n) ≡ false → NoneBefore s (n + 1)
one_quiet s n before here =
    let next : n + 1 ≡ suc n = omega arith in
    ap (λ (k : ℕ). list_any (has_turn s) (map WorkerOf (up_to k))) next ∙ any_one s n ∙ ap (λ (b : Bool). b || has_turn s (WorkerOf n)) before ∙ here

any_acts : (s : State) (k n : ℕ) → k < n → has_turn s (WorkerOf k) ≡ true → list_any (has_turn s) (map WorkerOf (up_to n)) ≡ true
any_acts s k zero less here = absurd (omega (arith, less))
any_acts s k (suc n) less here = any_one s n ∙ by_place (below k n less) (λ l. any_acts s k n l here) where
  below : (k n : ℕ) → k < suc n → (k ≡ n) ⊎ (k < n)
  below zero zero less = inl refl
  below zero (suc n) less = inr (omega arith)
  below (suc k) zero less = absurd (omega (arith, less))
  below (suc k) (suc n) less = by_rest (below k n (omega (arith, less))) where
    by_rest : (k ≡ n) ⊎ (k < n) → (suc k ≡ suc n) ⊎ (suc k < suc n)
    by_rest (inl e) = inl (ap (λ (m : ℕ). suc m) e)
    by_rest (inr l) = inr (omega (arith, l))

  or_true : (b : Bool) → (b || true) ≡ true
  or_true true = refl
  or_true false = refl

  by_place : (k ≡ n) ⊎ (k < n) → (k < n → list_any (has_turn s) (map WorkerOf (up_to n)) ≡ true) → (list_any (has_turn s) (map WorkerOf (up_to n)) || has_turn s (WorkerOf n)) ≡ true
  by_place (inl e) earlier = ap (λ (m : ℕ). list_any (has_turn s) (map WorkerOf (up_to n)) || has_turn s (WorkerOf m)) (sym e) ∙ ap (λ (b : Bool). list_any (has_turn s) (map WorkerOf (up_to n)) || b) here ∙ or_true _
  by_place (inr l) earlier = ap (λ (b : Bool). b || has_turn s (WorkerOf n)) (earlier l)

any_actor : (s : State) → list_any (has_turn s) (actors_of s) ≡ (list_any (has_turn s) (map WorkerOf (up_to (length s.workers))) || list_any (has_turn s) (ThePump ∷ []))
any_actor s = list_any-append (has_turn s) (map WorkerOf (up_to (length s.workers))) (ThePump ∷ [])

-- one has a turn
pub some_acts : (s : State) (k : ℕ) → k < length s.workers → has_turn s (WorkerOf k) ≡ true → false ≡ not (list_any (has_turn s) (actors_of s))
some_acts s k less here =
    sym (ap not (any_actor s ∙ ap (λ (b : Bool). b || list_any (has_turn s) (ThePump ∷ [])) (any_acts s k (length s.workers) less here)))

-- none but the pump may have one
pub pump_alone : (s : State) → NoneBefore s (length s.workers) → list_any (has_turn s) (actors_of s) ≡ has_turn s ThePump
pump_alone s none = any_actor s ∙ ap (λ (b : Bool). b || list_any (has_turn s) (ThePump ∷ [])) none ∙ or_false (has_turn s ThePump) where
  or_false : (b : Bool) → (b || false) ≡ b
  or_false true = refl
  or_false false = refl
