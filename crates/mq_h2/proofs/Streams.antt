-- The ids of the streams of a history, each of which was a frame's.
use Rattle.std.proofs.Common.{◌≡◌, ℕ, ◌^◌, ◌<◌, Bool, true, false, cond, not, ◌||◌, eqb, List, [], ◌∷◌, ◌++◌, filter, refl, subst, arith}
use Rattle.std.specs.List.{list_any, AllByRecursion}
use Rattle.std.proofs.lemmas.Bool.{eqb-true}
use Rattle.mq_frame.specs.Told.{IsStream}
use Rattle.mq_streams.specs.History.{Event, History, Opened, TurnedAway, Dropped, highest, live, is_live}

-- a stream that begins is one
abbrev pub BeginsStream : Event → Type 0
BeginsStream (Opened s) = IsStream s
BeginsStream (TurnedAway s) = IsStream s
BeginsStream _ = Unit {0}

pub highest_small : (h : History) → AllByRecursion BeginsStream h → highest h < 2 ^ 31
highest_small [] all = omega arith
highest_small (Opened s ∷ h) all = let small = highest_small h all.1 in let it = all.0.1 in omega arith
highest_small (TurnedAway s ∷ h) all = let small = highest_small h all.1 in let it = all.0.1 in omega arith
highest_small (_ ∷ h) all = highest_small h all.1

all_more : (ids : List ℕ) (id : ℕ) → AllByRecursion IsStream ids → IsStream id → AllByRecursion IsStream (ids ++ id ∷ [])
all_more [] id all is = (is, tt)
all_more (x ∷ ids) id all is = (all.0, all_more ids id all.1 is)

kept : (b : Bool) (id : ℕ) (ids : List ℕ) → IsStream id → AllByRecursion IsStream ids → AllByRecursion IsStream (cond b (id ∷ ids) ids)
kept true id ids is all = (is, all)
kept false id ids is all = all

all_but : (s : ℕ) (ids : List ℕ) → AllByRecursion IsStream ids → AllByRecursion IsStream (filter (λ id. not (eqb id s)) ids)
all_but s [] all = tt
all_but s (id ∷ ids) all = kept (not (eqb id s)) id _ all.0 (all_but s ids all.1)

pub live_streams : (h : History) → AllByRecursion BeginsStream h → AllByRecursion IsStream (live h)
live_streams [] all = tt
live_streams (Opened s ∷ h) all = all_more (live h) s (live_streams h all.1) all.0
live_streams (Dropped s ∷ h) all = all_but s (live h) (live_streams h all.1)
live_streams (_ ∷ h) all = live_streams h all.1

is_one : (b : Bool) (x id : ℕ) (ids : List ℕ) → eqb x id ≡ b → (b || list_any (λ s. eqb s id) ids) ≡ true → IsStream x
    → (list_any (λ s. eqb s id) ids ≡ true → IsStream id) → IsStream id
is_one true x id ids same e is rest = subst (λ (n : ℕ). IsStream n) (eqb-true x id same) is
is_one false x id ids same e is rest = rest e

among : (id : ℕ) (ids : List ℕ) → AllByRecursion IsStream ids → list_any (λ s. eqb s id) ids ≡ true → IsStream id
among id [] all e = absurd cc
among id (x ∷ ids) all e = is_one (eqb x id) x id ids refl e all.0 (λ later. among id ids all.1 later)

pub live_stream : (id : ℕ) (h : History) → AllByRecursion BeginsStream h → is_live id h ≡ true → IsStream id
live_stream id h all lives = among id (live h) (live_streams h all) lives
