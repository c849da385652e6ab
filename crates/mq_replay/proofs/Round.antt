-- Steps of all actors in turn.
use Rattle.std.proofs.Common.{◌≡◌, ℕ, zero, suc, ◌+◌, ◌-◌, ◌≤◌, ◌<◌, Bool, true, false, List, [], ◌∷◌, ◌++◌, map, length, take, drop, Option, Some, None, Result, Ok, Err, refl, sym, ap, subst, ◌∙◌, arith, append_assoc, append-nil, inr}
use Rattle.std.specs.Prelude.{find, cond, if◌then◌else◌, not}
use Rattle.std.specs.List.{list_any, slice_get, AllByRecursion}
use Rattle.std.specs.Option.{option_or, is_some, option_and_then}
use Rattle.std.proofs.lemmas.Bool.{le-ltb}
use Rattle.std.proofs.lemmas.List.{map-append}
use Rattle.std.proofs.lemmas.List.Folds.{find-append}
use Rattle.std.proofs.Math.Seq.{drop-append_seam, take-append_seam}
use Rattle.mq_machine.specs.State.{State, Worker}
use Rattle.mq_machine.specs.Turn.{Actor, WorkerOf, ThePump, has_turn}
use Rattle.mq_play.specs.Play.{Fate, Until, TheEnd, SomeStop, Goes, up_to, actors_of, place_behind, more_text}
use Rattle.mq_play.specs.Text.{printed, More}
use Rattle.mq_replay.specs.Playing.{IsAt, Acts, StepTo, FirstTo, GoesTo, IsCutOff, workers_from}
use Rattle.mq_output.specs.declared.stop.Stop.{Stop}
use Rattle.mq_output.specs.declared.stop.Stop.TheVariants.{BadLine, WriteFault, NoMemory}
use Rattle.mq_replay.proofs.Onward.{steps_same, all_more, all_same}
use Rattle.mq_world.specs.declared.world.World.{World}
use Rattle.mq_world.specs.Worlds.{IsWorld}

-- ---- the ring

workers_last : (number count : ℕ) → workers_from number (suc count) ≡ workers_from number count ++ WorkerOf (number + count) ∷ []
workers_last number zero = let e : number ≡ number + 0 = omega arith in ap (λ (n : ℕ). WorkerOf n ∷ []) e
workers_last number (suc count) =
    let e : (number + 1) + count ≡ number + suc count = omega arith in
    ap (λ (xs : List Actor). WorkerOf number ∷ xs) (workers_last (number + 1) count)
    ∙ ap (λ (n : ℕ). WorkerOf number ∷ (workers_from (number + 1) count ++ WorkerOf n ∷ [])) e

named : (count : ℕ) → map WorkerOf (up_to count) ≡ workers_from 0 count
named zero = refl
named (suc count) =
    let e : count ≡ 0 + count = omega arith in
    map-append WorkerOf (up_to count) (count ∷ [])
    ∙ ap (λ (xs : List Actor). xs ++ WorkerOf count ∷ []) (named count)
    ∙ ap (λ (n : ℕ). workers_from 0 count ++ WorkerOf n ∷ []) e
    ∙ sym (workers_last 0 count)

workers_cut : (number a b : ℕ) → workers_from number (a + b) ≡ workers_from number a ++ workers_from (number + a) b
workers_cut number zero b =
    let sum : 0 + b ≡ b = omega arith in
    let at : number ≡ number + 0 = omega arith in
    ap (λ (n : ℕ). workers_from number n) sum ∙ ap (λ (n : ℕ). workers_from n b) at
workers_cut number (suc a) b =
    let sum : suc a + b ≡ suc (a + b) = omega arith in
    let at : (number + 1) + a ≡ number + suc a = omega arith in
    ap (λ (n : ℕ). workers_from number n) sum
    ∙ ap (λ (xs : List Actor). WorkerOf number ∷ xs) (workers_cut (number + 1) a b)
    ∙ ap (λ (n : ℕ). WorkerOf number ∷ (workers_from (number + 1) a ++ workers_from n b)) at

workers_length : (number count : ℕ) → length (workers_from number count) ≡ count
workers_length number zero = refl
workers_length number (suc count) = let h = workers_length (number + 1) count in omega (arith, h)

-- the actors from a place on, and those before it
pub ring_is : (s : State) (at : ℕ) → at ≤ length s.workers
    → drop at (actors_of s) ++ take at (actors_of s) ≡ workers_from at (length s.workers - at) ++ (ThePump ∷ workers_from 0 at)
ring_is s at within =
    let count = length s.workers in
    let front = workers_from 0 at in
    let back = workers_from at (count - at) ++ ThePump ∷ [] in
    let sum : count ≡ at + (count - at) = omega (arith, within) in
    let from : 0 + at ≡ at = omega arith in
    let all : actors_of s ≡ front ++ back =
    ap (λ (xs : List Actor). xs ++ ThePump ∷ []) (named count ∙ ap (λ (n : ℕ). workers_from 0 n) sum ∙ workers_cut 0 at (count - at) ∙ ap (λ (n : ℕ). front ++ workers_from n (count - at)) from)
    ∙ append_assoc front (workers_from at (count - at)) (ThePump ∷ []) in
    let size = workers_length 0 at in
    let dropped : drop at (actors_of s) ≡ back =
    ap (λ (xs : List Actor). drop at xs) all ∙ subst (λ (n : ℕ). drop n (front ++ back) ≡ back) size (drop-append_seam front back) in
    let taken : take at (actors_of s) ≡ front =
    ap (λ (xs : List Actor). take at xs) all ∙ subst (λ (n : ℕ). take n (front ++ back) ≡ front) size (take-append_seam front back) in
    ap (λ (xs : List Actor). xs ++ take at (actors_of s)) dropped
    ∙ ap (λ (xs : List Actor). back ++ xs) taken
    ∙ append_assoc (workers_from at (count - at)) (ThePump ∷ []) front

-- ---- the first that has a turn

found_here : (b : Bool) (actor : Actor) (o : Option Actor) → b ≡ true → cond b (Some actor) o ≡ Some actor
found_here true actor o e = refl
found_here false actor o e = absurd cc

found_later : (b : Bool) (actor : Actor) (o : Option Actor) → b ≡ false → cond b (Some actor) o ≡ o
found_later true actor o e = absurd cc
found_later false actor o e = refl

pub find_here : (s : State) (actor : Actor) (actors : List Actor) → has_turn s actor ≡ true → find (has_turn s) (actor ∷ actors) ≡ Some actor
find_here s actor actors e = found_here (has_turn s actor) actor (find (has_turn s) actors) e

pub find_later : (s : State) (actor : Actor) (actors : List Actor) → has_turn s actor ≡ false → find (has_turn s) (actor ∷ actors) ≡ find (has_turn s) actors
find_later s actor actors e = found_later (has_turn s actor) actor (find (has_turn s) actors) e

find_front : (s : State) (xs ys : List Actor) (actor : Actor) → find (has_turn s) xs ≡ Some actor → find (has_turn s) (xs ++ ys) ≡ Some actor
find_front s xs ys actor e = find-append (has_turn s) xs ys ∙ ap (λ (o : Option Actor). option_or o (find (has_turn s) ys)) e

find_behind : (s : State) (xs ys : List Actor) → find (has_turn s) xs ≡ None → find (has_turn s) (xs ++ ys) ≡ find (has_turn s) ys
find_behind s xs ys e = find-append (has_turn s) xs ys ∙ ap (λ (o : Option Actor). option_or o (find (has_turn s) ys)) e

-- what the answer says of these actors, it says of others among which the same is found
pub first_same : (May : Fate → Type 0) (w : World) (s : State) (xs ys : List Actor) (shown : List ℕ) (answer : Result (Option ℕ) Stop) → find (has_turn s) ys ≡ find (has_turn s) xs → FirstTo May w s xs shown answer → FirstTo May w s ys shown answer
first_same May w s xs ys shown (Ok (Some next)) e told = (told.0, told.1, e ∙ told.2, told.3, told.4, told.5)
first_same May w s xs ys shown (Ok None) e told = (e ∙ told.0, told.1, told.2)
first_same May w s xs ys shown (Err BadLine) e told = told
first_same May w s xs ys shown (Err WriteFault) e told = (told.0, told.1, e ∙ told.2, told.3)
first_same May w s xs ys shown (Err NoMemory) e told = told

-- nothing was shown before
pub first_shown : (May : Fate → Type 0) (w : World) (s : State) (xs : List Actor) (before shown : List ℕ) (answer : Result (Option ℕ) Stop) → before ≡ [] → FirstTo May w s xs shown answer → FirstTo May w s xs (before ++ shown) answer
first_shown May w s xs before shown answer none told =
    let P : List ℕ → Type 0 = λ text. FirstTo May w s xs text answer in
    subst P (sym (ap (λ (text : List ℕ). text ++ shown) none)) told

-- one is found among the first of these
pub first_front : {May : Fate → Type 0} (w : World) (s : State) (xs ys : List Actor) (shown : List ℕ) (next : ℕ) → FirstTo May w s xs shown (Ok (Some next)) → FirstTo May w s (xs ++ ys) shown (Ok (Some next))
first_front w s xs ys shown next told = (told.0, told.1, find_front s xs ys told.0 told.2, told.3, told.4, told.5)

-- the search stopped among the first of these
pub first_stopped : (May : Fate → Type 0) (w : World) (s : State) (xs ys : List Actor) (shown : List ℕ) (why : Stop) → FirstTo May w s xs shown (Err why) → FirstTo May w s (xs ++ ys) shown (Err why)
first_stopped May w s xs ys shown BadLine told = told
first_stopped May w s xs ys shown WriteFault told = (told.0, told.1, find_front s xs ys told.0 told.2, told.3)
first_stopped May w s xs ys shown NoMemory told = told

-- none is found among the first of these
pub first_behind : (May : Fate → Type 0) (w : World) (s : State) (xs ys : List Actor) (before shown : List ℕ) (answer : Result (Option ℕ) Stop) → find (has_turn s) xs ≡ None → before ≡ [] → FirstTo May w s ys shown answer
    → FirstTo May w s (xs ++ ys) (before ++ shown) answer
first_behind May w s xs ys before shown answer e none told =
    first_shown May w s (xs ++ ys) before shown answer none (first_same May w s ys (xs ++ ys) shown answer (find_behind s xs ys e) told)

-- the first of these has a turn
pub first_acted : {May : Fate → Type 0} (w : World) (s t : State) (actor : Actor) (others : List Actor) (shown : List ℕ) → Acts May s actor shown t → IsWorld w t → FirstTo May w s (actor ∷ others) shown (Ok (Some (place_behind actor)))
first_acted w s t actor others shown acts stands = (actor, t, find_here s actor others acts.has, refl, acts, stands)

-- its step stopped
pub first_failed : (May : Fate → Type 0) (w after : World) (s : State) (actor : Actor) (others : List Actor) (shown : List ℕ) (why : Stop) → StepTo May after s actor shown (Err why) → FirstTo May w s (actor ∷ others) shown (Err why)
first_failed May w after s actor others shown BadLine step = absurd step
first_failed May w after s actor others shown WriteFault step = (actor, step.0, find_here s actor others step.1.has, step.1)
first_failed May w after s actor others shown NoMemory step = step

-- a worker before these has no turn
pub found_from : (s : State) (number count less : ℕ) → count ≡ suc less → has_turn s (WorkerOf number) ≡ false → find (has_turn s) (workers_from number count) ≡ find (has_turn s) (workers_from (number + 1) less)
found_from s number count less e quiet = ap (λ (n : ℕ). find (has_turn s) (workers_from number n)) e ∙ find_later s (WorkerOf number) (workers_from (number + 1) less) quiet

-- what the answer says of the workers from here on, it says of all, where those before have no turn
pub none_from : (May : Fate → Type 0) (w : World) (s : State) (from number all count less : ℕ) (before shown : List ℕ) (answer : Result (Option ℕ) Stop) → count ≡ suc less → before ≡ []
    → find (has_turn s) (workers_from from all) ≡ find (has_turn s) (workers_from number count) → FirstTo May w s (WorkerOf number ∷ workers_from (number + 1) less) shown answer
    → FirstTo May w s (workers_from from all) (before ++ shown) answer
none_from May w s from number all count less before shown answer e none same told =
    first_shown May w s (workers_from from all) before shown answer none
    (first_same May w s (WorkerOf number ∷ workers_from (number + 1) less) (workers_from from all) shown answer (same ∙ ap (λ (n : ℕ). find (has_turn s) (workers_from number n)) e) told)

-- the network's actor
pub pump_at : (s : State) (number : ℕ) → number ≡ length s.workers → IsAt s number ThePump
pump_at s number e = record {
  within = omega (arith, e);
  is = sym (ap (λ (b : Bool). if b then WorkerOf number else ThePump) (le-ltb number (length s.workers) (omega (arith, e))));
}

-- the actors from a place on, and those before it
abbrev pub ring : State → ℕ → List Actor
ring s at = drop at (actors_of s) ++ take at (actors_of s)

-- so many workers, as the world counts them
pub ring_at : (s : State) (at count : ℕ) → count ≡ length s.workers → at ≤ length s.workers → ring s at ≡ workers_from at (count - at) ++ (ThePump ∷ workers_from 0 at)
ring_at s at count all within =
    let P : ℕ → Type 0 = λ n. ring s at ≡ workers_from at (n - at) ++ (ThePump ∷ workers_from 0 at) in
    subst P (sym all) (ring_is s at within)

pub onto_ring : (May : Fate → Type 0) (w : World) (s : State) (at count : ℕ) (shown : List ℕ) (answer : Result (Option ℕ) Stop) → count ≡ length s.workers → at ≤ length s.workers
    → FirstTo May w s (workers_from at (count - at) ++ (ThePump ∷ workers_from 0 at)) shown answer → FirstTo May w s (ring s at) shown answer
onto_ring May w s at count shown answer all within told =
    first_same May w s (workers_from at (count - at) ++ (ThePump ∷ workers_from 0 at)) (ring s at) shown answer (ap (λ (xs : List Actor). find (has_turn s) xs) (ring_at s at count all within)) told

-- the network's actor has no turn
pub first_past : (May : Fate → Type 0) (w : World) (s : State) (at : ℕ) (before shown : List ℕ) (answer : Result (Option ℕ) Stop) → has_turn s ThePump ≡ false → before ≡ [] → FirstTo May w s (workers_from 0 (at - 0)) shown answer
    → FirstTo May w s (ThePump ∷ workers_from 0 at) (before ++ shown) answer
first_past May w s at before shown answer quiet none told =
    let all : at - 0 ≡ at = omega arith in
    let P : ℕ → Type 0 = λ n. FirstTo May w s (workers_from 0 n) shown answer in
    first_shown May w s (ThePump ∷ workers_from 0 at) before shown answer none
    (first_same May w s (workers_from 0 at) (ThePump ∷ workers_from 0 at) shown answer (find_later s ThePump (workers_from 0 at) quiet) (subst P all told))

-- ---- how far they went

within_list : (xs : List Worker) (number : ℕ) (test : Worker → Option Rattle.mq_machine.specs.Turn.Seat) → is_some (option_and_then test (slice_get xs number)) ≡ true → number < length xs
within_list [] number test e = absurd cc
within_list (x ∷ xs) zero test e = omega arith
within_list (x ∷ xs) (suc number) test e = let h = within_list xs number test e in omega (arith, h)

-- the place behind an actor that has a turn is one of the ring
pub place_within : (s : State) (actor : Actor) → has_turn s actor ≡ true → place_behind actor ≤ length s.workers
place_within s (WorkerOf number) e = let h = within_list s.workers number _ e in omega (arith, h)
place_within s ThePump e = omega arith

-- what goes on from here goes on from the start
pub record Round (May : Fate → Type 0) (s : State) (count : ℕ) (shown : List ℕ) (t : State) (at left : ℕ) : Type 0 where
  pub fates : List Fate
  pub goes : (until : Until) (more : List Fate) (rest : List ℕ) (new : State) → Goes until t at left more rest new → Goes until s 0 count (fates ++ more) (shown ++ rest) new
  pub heard : AllByRecursion May fates
  pub within : at ≤ length t.workers

pub round_none : {May : Fate → Type 0} (s : State) (count : ℕ) → Round May s count [] s 0 count
round_none s count = record { fates = []; goes = λ until more rest new r. r; heard = tt; within = omega arith }

-- one more step
pub round_more : {May : Fate → Type 0} (s t u : State) (actor : Actor) (count at left less next : ℕ) (shown more : List ℕ) → left ≡ suc less → Round May s count shown t at left
    → find (has_turn t) (drop at (actors_of t) ++ take at (actors_of t)) ≡ Some actor → next ≡ place_behind actor → Acts May t actor more u → Round May s count (shown ++ more) u next less
round_more {May = May} s t u actor count at left less next shown more e far first place acts =
    let same = steps_same t actor acts.fate more u acts.steps in
    let within = place_within t actor acts.has in
    record {
      fates = far.fates ++ acts.fate ∷ [];
      goes = λ until later rest new r.
          let P : ℕ → Type 0 = λ n. Goes until t at n (acts.fate ∷ later) (more ++ rest) new in
          let Q : List ℕ → Type 0 = λ text. Goes until s 0 count ((far.fates ++ acts.fate ∷ []) ++ later) text new in
          let R : List Fate → Type 0 = λ fates. Goes until s 0 count fates (shown ++ (more ++ rest)) new in
          let S : ℕ → Type 0 = λ n. Goes until u n less later rest new in
          let here = far.goes until (acts.fate ∷ later) (more ++ rest) new (subst P (sym e) (actor, u, more, rest, first, acts.steps, subst S place r, refl)) in
          subst Q (sym (append_assoc shown more rest)) (subst R (sym (append_assoc far.fates (acts.fate ∷ []) later)) here);
      heard = all_more May far.fates acts.fate far.heard acts.may;
      within = omega (arith, place, within, same);
    }

-- turns may stop anywhere
turns_stopped : (t : State) (at left : ℕ) → Goes SomeStop t at left [] [] t
turns_stopped t at zero = (inr refl, refl)
turns_stopped t at (suc left) = (tt, refl, refl)

pub round_cut : {May : Fate → Type 0} (s t : State) (count at left : ℕ) (shown : List ℕ) → Round May s count shown t at left → IsCutOff (λ until fates u. Goes until s 0 count fates shown u × AllByRecursion May fates) shown
round_cut {May = May} s t count at left shown far =
    let P : List ℕ → Type 0 = λ text. Goes SomeStop s 0 count (far.fates ++ []) text t in
    inr (far.fates ++ [], t, (subst P (append-nil shown) (far.goes SomeStop [] [] t (turns_stopped t at left)), all_same May far.fates far.heard))

-- no actor has a step
pub round_over : {May : Fate → Type 0} (w : World) (s t : State) (count at left less : ℕ) (shown more : List ℕ) → left ≡ suc less → Round May s count shown t at left
    → FirstTo May w t (drop at (actors_of t) ++ take at (actors_of t)) more (Ok None) → GoesTo May w s count (shown ++ more) (Ok tt)
round_over {May = May} w s t count at left less shown more e far told =
    let P : ℕ → Type 0 = λ n. Goes TheEnd t at n [] more t in
    (far.fates ++ [], t, (far.goes TheEnd [] more t (subst P (sym e) (told.0, told.1, refl)), all_same May far.fates far.heard), told.2)

-- no step is left, and that some actor has one was said where it is so
pub round_done : {May : Fate → Type 0} (w : World) (s t : State) (count at left : ℕ) (shown end : List ℕ) → left ≡ 0 → Round May s count shown t at left → end ≡ more_text t → IsWorld w t → GoesTo May w s count (shown ++ end) (Ok tt)
round_done {May = May} w s t count at left shown end none far is stands =
    let P : ℕ → Type 0 = λ n. Goes TheEnd t at n [] end t in
    (far.fates ++ [], t, (far.goes TheEnd [] end t (subst P (sym none) (is, refl)), all_same May far.fates far.heard), stands)

pub more_said : (s : State) (quiet : Bool) → quiet ≡ not (list_any (has_turn s) (actors_of s)) → quiet ≡ false → printed More ≡ more_text s
more_said s quiet is loud = by_test (list_any (has_turn s) (actors_of s)) (sym is ∙ loud) where
  by_test : (b : Bool) → not b ≡ false → printed More ≡ (if b then printed More else [])
  by_test true e = refl
  by_test false e = absurd cc

pub more_unsaid : (s : State) (quiet : Bool) → quiet ≡ not (list_any (has_turn s) (actors_of s)) → quiet ≡ true → [] ≡ more_text s
more_unsaid s quiet is all = by_test (list_any (has_turn s) (actors_of s)) (sym is ∙ all) where
  by_test : (b : Bool) → not b ≡ true → [] ≡ (if b then printed More else [])
  by_test true e = absurd cc
  by_test false e = refl

-- memory ran out behind what was shown
pub round_spent : {May : Fate → Type 0} (w : World) (s t : State) (count at left : ℕ) (shown : List ℕ) (why : Stop) → why ≡ NoMemory → Round May s count shown t at left → GoesTo May w s count shown (Err why)
round_spent {May = May} w s t count at left shown why e far =
    let P : Stop → Type 0 = λ stop. GoesTo May w s count shown (Err stop) in
    subst P (sym e) (round_cut s t count at left shown far)

-- a step stopped
pub round_stopped : {May : Fate → Type 0} (w after : World) (s t : State) (count at left less : ℕ) (shown more : List ℕ) (why : Stop) → left ≡ suc less → Round May s count shown t at left
    → FirstTo May after t (drop at (actors_of t) ++ take at (actors_of t)) more (Err why) → GoesTo May w s count (shown ++ more) (Err why)
round_stopped w after s t count at left less shown more BadLine e far step = absurd step
round_stopped w after s t count at left less shown more WriteFault e far step =
    round_cut s step.1 count (place_behind step.0) less (shown ++ more) (round_more s t step.1 step.0 count at left less (place_behind step.0) shown more e far step.2 refl step.3)
round_stopped {May = May} w after s t count at left less shown more NoMemory e far step =
    let P : List ℕ → Type 0 = λ text. GoesTo May w s count text (Err NoMemory) in
    subst P (sym (ap (λ (xs : List ℕ). shown ++ xs) step ∙ append-nil shown)) (round_cut s t count at left shown far)
