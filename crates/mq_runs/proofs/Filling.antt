-- In a run each inbox has what was pushed there, but for what left it, in order.
use Rattle.std.proofs.Common.{◌≡◌, ◌+◌, ◌<◌, ℕ, zero, suc, Bool, true, false, cond, List, [], ◌∷◌, ◌++◌, map, length, replicate, slice_get, slice_set, Option, Some, refl, sym, subst, ap, ◌∙◌, inl, inr, append_assoc, append-nil, arith}
use Rattle.std.specs.Prelude.{◌==◌}
use Rattle.std.specs.List.{AllByRecursion, flat_map}
use Rattle.std.specs.Option.{unwrap_or}
use Rattle.std.proofs.lemmas.Bool.{eqb-true, eq-eqb}
use Rattle.std.proofs.lemmas.List.{map-append, length_push}
use Rattle.std.proofs.lemmas.List.Concat.{flat_map-append}
use Rattle.mq_capsule.specs.Laws.{IsWithinLimits}
use Rattle.mq_talk.specs.declared.note.From.{From}
use Rattle.mq_talk.specs.declared.note.Note.{Note}
use Rattle.mq_talk.specs.declared.place.Parcel.{Parcel}
use Rattle.mq_talk.specs.declared.place.Place.{Place}
use Rattle.mq_talk.specs.declared.place.Place.TheVariants as place
use Rattle.mq_talk.specs.Mails.{box_at, with_parcel, inbox_in}
use Rattle.mq_machine.specs.declared.event.Event.{Event}
use Rattle.mq_machine.specs.declared.event.Event.TheVariants as event
use Rattle.mq_machine.specs.declared.setup.Setup.{Setup}
use Rattle.mq_machine.specs.Lawful.{StaysLawful}
use Rattle.mq_machine.specs.Shared.{inbox_of}
use Rattle.mq_machine.specs.Silent.{Reached, SilentTurn, SeatStarves}
use Rattle.mq_machine.specs.State.{Held, Offer, Worker, new_worker, Pump, Shared, State}
use Rattle.mq_machine.specs.Turn.{Actor, WorkerOf, ThePump, Turn, Seat, Offers, Inbox, Of, SeatNext, accepted, popped, tunnel_in, last_of}
use Rattle.mq_machine.specs.Want.{Answer}
use Rattle.mq_play.specs.declared.plan.Plan.{Plan}
use Rattle.mq_play.specs.Events.{new_workers, state_of, offered_to, happen}
use Rattle.mq_play.proofs.Lists.{some_same, each_append, each_at}
use Rattle.mq_runs.specs.Inboxes.{parcel_name, held_names, pushed_in, left_in, sent_or_failed_in, pushed_by, left_by, sent_or_failed_by}
use Rattle.mq_runs.specs.Runs.{Moment, Happened, Noted, Refused, Goes, Run}
use Rattle.mq_runs.proofs.Asked.{Asked}
use Rattle.mq_runs.proofs.Behind.{AllAsked, asked_at}
use Rattle.mq_runs.proofs.Boxes.{starves_boxes, happen_boxes, set_box}
use Rattle.mq_runs.proofs.Bridge.{run_append}
use Rattle.mq_runs.proofs.Flight.{Key}
use Rattle.mq_runs.proofs.Kept.{cases_of}
use Rattle.mq_runs.proofs.Pushes.{pushed_note}
use Rattle.mq_runs.proofs.Saying.{HeldSays, SeatSays, seat_says, PumpSays, pump_says}

-- ---- lists

-- one more moment
pub behind : (f : Moment → List (From × ℕ)) (ms : List Moment) (m : Moment) → flat_map f (ms ++ m ∷ []) ≡ flat_map f ms ++ f m
behind f ms m = flat_map-append f ms (m ∷ []) ∙ ap (λ (l : List (From × ℕ)). flat_map f ms ++ l) (append-nil (f m))

-- what came is what left and what is there, and stays so where something comes and something leaves
pub stays : (came left there more less new : List (From × ℕ)) → came ≡ left ++ there → there ++ more ≡ less ++ new → came ++ more ≡ (left ++ less) ++ new
stays came left there more less new is step =
    ap (λ (l : List (From × ℕ)). l ++ more) is ∙ (append_assoc left there more ∙ (ap (λ (l : List (From × ℕ)). left ++ l) step ∙ sym (append_assoc left less new)))

set_long : {A : Type 0} (xs : List A) (i : ℕ) (x : A) → length (slice_set xs i x) ≡ length xs
set_long [] zero x = refl
set_long [] (suc i) x = refl
set_long (y ∷ xs) zero x = refl
set_long (y ∷ xs) (suc i) x = let rest = set_long xs i x in omega (arith, rest)

got_within : {A : Type 0} (xs : List A) (i : ℕ) (x : A) → slice_get xs i ≡ Some x → i < length xs
got_within [] zero x e = absurd cc
got_within [] (suc i) x e = absurd cc
got_within (y ∷ xs) zero x e = omega arith
got_within (y ∷ xs) (suc i) x e = let rest = got_within xs i x e in omega (arith, rest)

-- ---- one inbox

abbrev pub names : List (List Parcel) → ℕ → List (From × ℕ)
names boxes i = map parcel_name (box_at boxes i)

set_here : (boxes : List (List Parcel)) (i : ℕ) (box : List Parcel) → i < length boxes → box_at (slice_set boxes i box) i ≡ box
set_here [] i box within = absurd (omega (arith, within))
set_here (b ∷ boxes) zero box within = refl
set_here (b ∷ boxes) (suc i) box within = set_here boxes i box (omega (arith, within))

set_there : (boxes : List (List Parcel)) (i j : ℕ) (box : List Parcel) → (i == j) ≡ false → box_at (slice_set boxes i box) j ≡ box_at boxes j
set_there boxes i j box other = elim (set_box boxes i j box) [
  | inl same ↦ same
  | inr (at, is) ↦ absurd (let yes = eq-eqb i j at in let both = sym other ∙ yes in cc)
]

-- a parcel came to inbox i
came_by : (boxes : List (List Parcel)) (i j : ℕ) (parcel : Parcel) (b : Bool) → j < length boxes → (i == j) ≡ b → names (with_parcel boxes i parcel) j ≡ names boxes j ++ cond b (parcel_name parcel ∷ []) []
came_by boxes i j parcel true within is =
    let same : i ≡ j = eqb-true i j is in
    let now : box_at (with_parcel boxes j parcel) j ≡ box_at boxes j ++ parcel ∷ [] = set_here boxes j (box_at boxes j ++ parcel ∷ []) within in
    let all : names (with_parcel boxes j parcel) j ≡ names boxes j ++ parcel_name parcel ∷ [] = ap (map parcel_name) now ∙ map-append parcel_name (box_at boxes j) (parcel ∷ []) in
    subst (λ k. names (with_parcel boxes k parcel) j ≡ names boxes j ++ parcel_name parcel ∷ []) (sym same) all
came_by boxes i j parcel false within is = ap (map parcel_name) (set_there boxes i j (box_at boxes i ++ parcel ∷ []) is) ∙ sym (append-nil (names boxes j))

-- the front parcel of inbox i left it
left_at : (boxes : List (List Parcel)) (i j : ℕ) (parcel : Parcel) (rest : List Parcel) (b : Bool) → slice_get boxes i ≡ Some (parcel ∷ rest) → (i == j) ≡ b → names boxes j ≡ cond b (parcel_name parcel ∷ []) [] ++ names (slice_set boxes i rest) j
left_at boxes i j parcel rest true at is =
    let same : i ≡ j = eqb-true i j is in
    let was : box_at boxes i ≡ parcel ∷ rest = ap (λ (o : Option (List Parcel)). unwrap_or o []) at in
    let now : box_at (slice_set boxes i rest) i ≡ rest = set_here boxes i rest (got_within boxes i (parcel ∷ rest) at) in
    let all : names boxes i ≡ parcel_name parcel ∷ names (slice_set boxes i rest) i = ap (map parcel_name) was ∙ ap (λ (l : List Parcel). parcel_name parcel ∷ map parcel_name l) (sym now) in
    subst (λ k. names boxes k ≡ parcel_name parcel ∷ names (slice_set boxes i rest) k) same all
left_at boxes i j parcel rest false at is = sym (ap (map parcel_name) (set_there boxes i j rest is))

-- ---- the inboxes are those of the workers, and the pump's

inbox_is : (workers : ℕ) (boxes : List (List Parcel)) (to : Place) → length boxes ≡ workers + 1 → inbox_of boxes to ≡ inbox_in workers to
inbox_is workers boxes (place.Tunnel tunnel actor) long = refl
inbox_is workers [] place.Net long = absurd (omega (arith, long))
inbox_is workers (b ∷ boxes) place.Net long = omega (arith, long)

-- what is in an inbox is to go to its place
abbrev pub InPlace : ℕ → List (List Parcel) → Type 0
InPlace workers boxes = (j : ℕ) → AllByRecursion (λ (parcel : Parcel). inbox_in workers parcel.to ≡ j) (box_at boxes j)

came_in_place : (workers i : ℕ) (boxes : List (List Parcel)) (parcel : Parcel) → inbox_in workers parcel.to ≡ i → InPlace workers boxes → InPlace workers (with_parcel boxes i parcel)
came_in_place workers i boxes parcel is h j = elim (set_box boxes i j (box_at boxes i ++ parcel ∷ [])) [
  | inl same ↦ subst (AllByRecursion (λ (p : Parcel). inbox_in workers p.to ≡ j)) (sym same) (h j)
  | inr (at, now) ↦ subst (AllByRecursion (λ (p : Parcel). inbox_in workers p.to ≡ j)) (sym now)
      (each_append (λ (p : Parcel). inbox_in workers p.to ≡ j) (box_at boxes i) (parcel ∷ []) (subst (λ k. AllByRecursion (λ (p : Parcel). inbox_in workers p.to ≡ j) (box_at boxes k)) (sym at) (h j)) (is ∙ at, tt))
]

left_in_place : (workers i : ℕ) (boxes : List (List Parcel)) (parcel : Parcel) (rest : List Parcel) → slice_get boxes i ≡ Some (parcel ∷ rest) → InPlace workers boxes → InPlace workers (slice_set boxes i rest)
left_in_place workers i boxes parcel rest at h j = elim (set_box boxes i j rest) [
  | inl same ↦ subst (AllByRecursion (λ (p : Parcel). inbox_in workers p.to ≡ j)) (sym same) (h j)
  | inr (same, now) ↦ (
      let was : box_at boxes i ≡ parcel ∷ rest = ap (λ (o : Option (List Parcel)). unwrap_or o []) at in
      let here : AllByRecursion (λ (p : Parcel). inbox_in workers p.to ≡ j) (parcel ∷ rest) = subst (AllByRecursion (λ (p : Parcel). inbox_in workers p.to ≡ j)) was (subst (λ k. AllByRecursion (λ (p : Parcel). inbox_in workers p.to ≡ j) (box_at boxes k)) (sym same) (h j)) in
      subst (AllByRecursion (λ (p : Parcel). inbox_in workers p.to ≡ j)) (sym now) here.1)
]

-- the worker at each place has its number
abbrev pub Numbered : ℕ → List Worker → Type 0
Numbered i [] = Unit {0}
Numbered i (w ∷ ws) = (w.id ≡ i) × Numbered (i + 1) ws

number_at : (i k : ℕ) (ws : List Worker) (w : Worker) → Numbered i ws → slice_get ws k ≡ Some w → w.id ≡ i + k
number_at i zero [] w h e = absurd cc
number_at i (suc k) [] w h e = absurd cc
number_at i zero (x ∷ ws) w h e = let same = ap (λ (x : Worker). x.id) (some_same e) in let is = h.0 in omega (arith, same, is)
number_at i (suc k) (x ∷ ws) w h e = let rest = number_at (i + 1) k ws w h.1 e in omega (arith, rest)

number_set : (i k : ℕ) (ws : List Worker) (w new : Worker) → Numbered i ws → slice_get ws k ≡ Some w → new.id ≡ w.id → Numbered i (slice_set ws k new)
number_set i zero [] w new h e same = absurd cc
number_set i (suc k) [] w new h e same = absurd cc
number_set i zero (x ∷ ws) w new h e same = let was = ap (λ (x : Worker). x.id) (some_same e) in let is = h.0 in (omega (arith, was, is, same), h.1)
number_set i (suc k) (x ∷ ws) w new h e same = (h.0, number_set (i + 1) k ws w new h.1 e same)

number_map : (i : ℕ) (f : Worker → Worker) (ws : List Worker) → ((w : Worker) → (f w).id ≡ w.id) → Numbered i ws → Numbered i (map f ws)
number_map i f [] same h = tt
number_map i f (w ∷ ws) same h = (same w ∙ h.0, number_map (i + 1) f ws same h.1)

number_offered : (i actor number : ℕ) (ws : List Worker) → Numbered i ws → Numbered i (offered_to actor number ws)
number_offered i actor number [] h = tt
number_offered i zero number (w ∷ ws) h = h
number_offered i (suc actor) number (w ∷ ws) h = (h.0, number_offered (i + 1) actor number ws h.1)

number_append : (i : ℕ) (ws : List Worker) (w : Worker) → Numbered i ws → w.id ≡ i + length ws → Numbered i (ws ++ w ∷ [])
number_append i [] w h e = (omega (arith, e), tt)
number_append i (x ∷ ws) w h e = (h.0, number_append (i + 1) ws w h.1 (omega (arith, e)))

new_long : (setup : Setup) (n : ℕ) → length (new_workers setup n) ≡ n
new_long setup zero = refl
new_long setup (suc n) = let rest = new_long setup n in let more = length_push (new_workers setup n) (new_worker n setup) in omega (arith, rest, more)

new_numbered : (setup : Setup) (n : ℕ) → Numbered 0 (new_workers setup n)
new_numbered setup zero = tt
new_numbered setup (suc n) = let long = new_long setup n in number_append 0 (new_workers setup n) (new_worker n setup) (new_numbered setup n) (omega (arith, long))

-- there are as many workers, with their numbers, and as many inboxes
pub record Housed (workers : ℕ) (s : State) : Type 0 where
  pub numbered : Numbered 0 s.workers
  pub long : length s.workers ≡ workers
  pub boxes : length s.shared.boxes ≡ workers + 1

-- ---- a worker's number stays

popped_id : (w : Worker) (parcel : Parcel) → (popped w parcel).1.id ≡ w.id
popped_id w parcel = elim (cases_of (tunnel_in w parcel.to)) [
  | inl none ↦ rw none refl
  | inr (found, some) ↦ rw some refl
]

accepted_id : (w : Worker) (offered : List Offer) (said : Note) (new : Worker) → accepted w offered ≡ Some (said, new) → new.id ≡ w.id
accepted_id w [] said new e = absurd cc
accepted_id w (o ∷ offered) said new e = sym (ap (λ (d : Note × Worker). d.1.id) (some_same e))

seat_id : (w : Worker) (sh : Shared) (seat : Seat) (answer : Answer) (said : Note) (new : Worker) (after : Shared) → SeatNext w sh seat answer said new after → new.id ≡ w.id
seat_id w sh Offers answer said new after x = accepted_id w w.offered said new x.1
seat_id w sh Inbox answer said new after x = sym (ap (λ (d : Note × Worker). d.1.id) x.1.is) ∙ popped_id w x.1.parcel
seat_id w sh (Of n) answer said new after x = ap (λ (w : Worker). w.id) x.new_is

starves_id : (w : Worker) (sh : Shared) (seat : Seat) (reached : Reached) (answer : Answer) (new : Worker) (after : Shared) → SeatStarves w sh seat reached answer new after → new.id ≡ w.id
starves_id w sh Offers reached answer new after x = ap (λ (w : Worker). w.id) x.2
starves_id w sh Inbox reached answer new after x = absurd x
starves_id w sh (Of n) reached answer new after x = ap (λ (w : Worker). w.id) x.new_is

housed_worker : (workers : ℕ) (s t : State) (k : ℕ) (w new : Worker) (after : Shared) → Housed workers s → slice_get s.workers k ≡ Some w → new.id ≡ w.id → length after.boxes ≡ length s.shared.boxes
    → t ≡ record s { workers = slice_set s.workers k new; shared = after } → Housed workers t
housed_worker workers s t k w new after h at same boxes is =
    let long = set_long s.workers k new in
    let was = h.long in
    let had = h.boxes in
    subst (Housed workers) (sym is) (record { numbered = number_set 0 k s.workers w new h.numbered at same; long = omega (arith, long, was); boxes = omega (arith, boxes, had) })

-- ---- a step

-- what a step pushes to inbox i, and what it takes from it, in its order
abbrev pub Fills : ℕ → ℕ → State → Moment → State → Type 0
Fills workers i s m t = names s.shared.boxes i ++ pushed_by workers i m ≡ left_by i m ++ names t.shared.boxes i

-- what the pump has of its inbox
abbrev pub pumped : ℕ → State → List (From × ℕ)
pumped workers s = held_names s.pump.to_send ++ names s.shared.boxes workers

pub record Step (workers : ℕ) (s : State) (m : Moment) (t : State) : Type 0 where
  pub housed : Housed workers t
  pub placed : InPlace workers s.shared.boxes → InPlace workers t.shared.boxes
  pub each : (i : ℕ) → i < workers → Fills workers i s m t
  pub pump : pumped workers s ++ pushed_by workers workers m ≡ sent_or_failed_by m ++ pumped workers t

-- what was pushed, by the inbox
pushed_of : (workers i : ℕ) (boxes : List (List Parcel)) (said : Note) (parcel : Parcel) → length boxes ≡ workers + 1 → said ≡ pushed_note parcel
    → pushed_in workers i said ≡ cond (inbox_of boxes parcel.to == i) (parcel_name parcel ∷ []) []
pushed_of workers i boxes said parcel long says =
    ap (pushed_in workers i) says ∙ ap (λ j. cond (j == i) (parcel_name parcel ∷ []) []) (sym (inbox_is workers boxes parcel.to long))

none_both : (b : Bool) → ◌≡◌ {A = List (From × ℕ)} (cond b [] []) []
none_both true = refl
none_both false = refl

-- where nothing is pushed and nothing leaves
same_fill : (old new more less : List (From × ℕ)) → new ≡ old → more ≡ [] → less ≡ [] → old ++ more ≡ less ++ new
same_fill old new more less same none gone = ap (λ (l : List (From × ℕ)). old ++ l) none ∙ (append-nil old ∙ (sym same ∙ sym (ap (λ (l : List (From × ℕ)). l ++ new) gone)))

-- where something may be pushed and nothing leaves
more_fill : (old new more less : List (From × ℕ)) → new ≡ old ++ more → less ≡ [] → old ++ more ≡ less ++ new
more_fill old new more less is gone = sym is ∙ sym (ap (λ (l : List (From × ℕ)). l ++ new) gone)

-- where nothing is pushed
less_fill : (old new more less : List (From × ℕ)) → old ≡ less ++ new → more ≡ [] → old ++ more ≡ less ++ new
less_fill old new more less is none = ap (λ (l : List (From × ℕ)). old ++ l) none ∙ (append-nil old ∙ is)

-- a worker's turn, by the inbox
held_fills : (workers k i : ℕ) (sh after : Shared) (said : Note) → length sh.boxes ≡ workers + 1 → i < length sh.boxes → HeldSays sh said after
    → names sh.boxes i ++ pushed_in workers i said ≡ cond (k == i) (left_in said) [] ++ names after.boxes i
held_fills workers k i sh after said long within (inl (plain, same)) =
    same_fill (names sh.boxes i) (names after.boxes i) (pushed_in workers i said) (cond (k == i) (left_in said) []) (ap (λ (boxes : List (List Parcel)). names boxes i) same) (plain.pushed workers i)
    (ap (λ (l : List (From × ℕ)). cond (k == i) l []) plain.left ∙ none_both (k == i))
held_fills workers k i sh after said long within (inr (parcel, says, pushes)) =
    let j = inbox_of sh.boxes parcel.to in
    let pushed = pushed_of workers i sh.boxes said parcel long says in
    let came = came_by sh.boxes j i parcel (j == i) within refl in
    more_fill (names sh.boxes i) (names after.boxes i) (pushed_in workers i said) (cond (k == i) (left_in said) [])
    (ap (λ (boxes : List (List Parcel)). names boxes i) pushes.is ∙ (came ∙ ap (λ (l : List (From × ℕ)). names sh.boxes i ++ l) (sym pushed)))
    (ap (λ (y : Note). cond (k == i) (left_in y) []) says ∙ none_both (k == i))

seat_fills : (workers k i : ℕ) (w : Worker) (sh after : Shared) (said : Note) → length sh.boxes ≡ workers + 1 → w.id ≡ k → i < length sh.boxes → SeatSays w sh said after
    → names sh.boxes i ++ pushed_in workers i said ≡ cond (k == i) (left_in said) [] ++ names after.boxes i
seat_fills workers k i w sh after said long id within (inl held) = held_fills workers k i sh after said long within held
seat_fills workers k i w sh after said long id within (inr (parcel, rest, at, is, leaves)) =
    let here : slice_get sh.boxes k ≡ Some (parcel ∷ rest) = subst (λ j. slice_get sh.boxes j ≡ Some (parcel ∷ rest)) id at in
    let now : after.boxes ≡ slice_set sh.boxes k rest = subst (λ j. after.boxes ≡ slice_set sh.boxes j rest) id is in
    let left = left_at sh.boxes k i parcel rest (k == i) here refl in
    less_fill (names sh.boxes i) (names after.boxes i) (pushed_in workers i said) (cond (k == i) (left_in said) [])
    (left ∙ (ap (λ (l : List (From × ℕ)). l ++ names (slice_set sh.boxes k rest) i) (sym (ap (λ (l : List (From × ℕ)). cond (k == i) l []) leaves.left)) ∙ ap (λ (boxes : List (List Parcel)). cond (k == i) (left_in said) [] ++ names boxes i) (sym now)))
    (leaves.pushed workers i)

seat_long : (w : Worker) (sh after : Shared) (said : Note) → SeatSays w sh said after → length after.boxes ≡ length sh.boxes
seat_long w sh after said (inl (inl (plain, same))) = ap length same
seat_long w sh after said (inl (inr (parcel, says, pushes))) = ap length pushes.is ∙ set_long sh.boxes (inbox_of sh.boxes parcel.to) (box_at sh.boxes (inbox_of sh.boxes parcel.to) ++ parcel ∷ [])
seat_long w sh after said (inr (parcel, rest, at, is, leaves)) = ap length is ∙ set_long sh.boxes w.id rest

not_same : (k i : ℕ) → k < i → (k == i) ≡ false
not_same k i less = by_test (k == i) refl where
  by_test : (b : Bool) → (k == i) ≡ b → b ≡ false
  by_test true is = let same = eqb-true k i is in absurd (omega (arith, same, less))
  by_test false is = refl

in_between : (hand old more new : List (From × ℕ)) → old ++ more ≡ new → (hand ++ old) ++ more ≡ hand ++ new
in_between hand old more new is = append_assoc hand old more ∙ ap (λ (l : List (From × ℕ)). hand ++ l) is

held_placed : (workers : ℕ) (sh after : Shared) (said : Note) → length sh.boxes ≡ workers + 1 → HeldSays sh said after → InPlace workers sh.boxes → InPlace workers after.boxes
held_placed workers sh after said long (inl (plain, same)) h = subst (InPlace workers) (sym same) h
held_placed workers sh after said long (inr (parcel, says, pushes)) h =
    subst (InPlace workers) (sym pushes.is) (came_in_place workers (inbox_of sh.boxes parcel.to) sh.boxes parcel (sym (inbox_is workers sh.boxes parcel.to long)) h)

seat_placed : (workers : ℕ) (w : Worker) (sh after : Shared) (said : Note) → length sh.boxes ≡ workers + 1 → SeatSays w sh said after → InPlace workers sh.boxes → InPlace workers after.boxes
seat_placed workers w sh after said long (inl held) h = held_placed workers sh after said long held h
seat_placed workers w sh after said long (inr (parcel, rest, at, is, leaves)) h = subst (InPlace workers) (sym is) (left_in_place workers w.id sh.boxes parcel rest at h)

pump_placed : (workers : ℕ) (p : Pump) (sh : Shared) (d : Note × Pump × Shared) → length sh.boxes ≡ workers + 1 → PumpSays p sh d → InPlace workers sh.boxes → InPlace workers d.2.boxes
pump_placed workers p sh d long (inl (still, same, hand)) h = subst (InPlace workers) (sym same) h
pump_placed workers p sh d long (inr (inl (parcel, says, pushes, hand))) h =
    subst (InPlace workers) (sym pushes.is) (came_in_place workers (inbox_of sh.boxes parcel.to) sh.boxes parcel (sym (inbox_is workers sh.boxes parcel.to long)) h)
pump_placed workers p sh d long (inr (inr (parcel, sends, inl (held, same)))) h = subst (InPlace workers) (sym same) h
pump_placed workers p sh d long (inr (inr (parcel, sends, inr (rest, none, at, is)))) h = subst (InPlace workers) (sym is) (left_in_place workers (last_of sh.boxes) sh.boxes parcel rest at h)

worker_step : (workers : ℕ) (s t : State) (k : ℕ) (said : Note) → Housed workers s → AllAsked s → Turn s (WorkerOf k) said t → Step workers s (Noted (WorkerOf k) said) t
worker_step workers s t k said h asked x =
    let w = x.worker in
    let asked_w = each_at (λ (w : Worker). AllByRecursion (λ (g : Held). Asked w.setup.mtu g.conn) w.conns) s.workers k w asked x.at in
    let says = seat_says w s.shared x.turn.seat x.answer said x.next x.shared asked_w x.turn.next in
    let numbered = number_at 0 k s.workers w h.numbered x.at in
    let id : w.id ≡ k = omega (arith, numbered) in
    let long = h.boxes in
    let few = h.long in
    let below = got_within s.workers k w x.at in
    let same : x.after.boxes ≡ x.shared.boxes = ap (λ (sh : Shared). sh.boxes) x.after_is in
    let now : t.shared.boxes ≡ x.shared.boxes = ap (λ (s : State). s.shared.boxes) x.new_is ∙ same in
    let fills = λ (i : ℕ) (within : i < length s.shared.boxes). seat_fills workers k i w s.shared x.shared said long id within says in
    let hand : held_names t.pump.to_send ≡ held_names s.pump.to_send = ap (λ (s : State). held_names s.pump.to_send) x.new_is in
    let last = fills workers (omega (arith, long)) in
    let none : cond (k == workers) (left_in said) [] ≡ [] = ap (λ b. cond b (left_in said) []) (not_same k workers (omega (arith, below, few))) in
    let kept : names s.shared.boxes workers ++ pushed_in workers workers said ≡ names t.shared.boxes workers =
    last ∙ (ap (λ (l : List (From × ℕ)). l ++ names x.shared.boxes workers) none ∙ ap (λ (boxes : List (List Parcel)). names boxes workers) (sym now)) in
    record {
      placed = λ placed. subst (InPlace workers) (sym now) (seat_placed workers w s.shared x.shared said long says placed);
      housed = housed_worker workers s t k w x.next x.after h x.at (seat_id w s.shared x.turn.seat x.answer said x.next x.shared x.turn.next) (ap length same ∙ seat_long w s.shared x.shared said says) x.new_is;
      each = λ i less. fills i (omega (arith, long, less)) ∙ ap (λ (boxes : List (List Parcel)). left_by i (Noted (WorkerOf k) said) ++ names boxes i) (sym now);
      pump = in_between (held_names s.pump.to_send) (names s.shared.boxes workers) (pushed_in workers workers said) (names t.shared.boxes workers) kept ∙ ap (λ (l : List (From × ℕ)). l ++ names t.shared.boxes workers) (sym hand);
    }

-- the pump's turn, by a worker's inbox and by its own
pump_each : (workers i : ℕ) (p : Pump) (sh : Shared) (d : Note × Pump × Shared) → length sh.boxes ≡ workers + 1 → i < workers → PumpSays p sh d
    → names sh.boxes i ++ pushed_in workers i d.0 ≡ names d.2.boxes i
pump_each workers i p sh d long less (inl (still, same, hand)) =
    ap (λ (l : List (From × ℕ)). names sh.boxes i ++ l) (still.pushed workers i) ∙ (append-nil (names sh.boxes i) ∙ sym (ap (λ (boxes : List (List Parcel)). names boxes i) same))
pump_each workers i p sh d long less (inr (inl (parcel, says, pushes, hand))) =
    let j = inbox_of sh.boxes parcel.to in
    ap (λ (l : List (From × ℕ)). names sh.boxes i ++ l) (pushed_of workers i sh.boxes d.0 parcel long says)
    ∙ (sym (came_by sh.boxes j i parcel (j == i) (omega (arith, long, less)) refl) ∙ sym (ap (λ (boxes : List (List Parcel)). names boxes i) pushes.is))
pump_each workers i p sh d long less (inr (inr (parcel, sends, inl (held, same)))) =
    ap (λ (l : List (From × ℕ)). names sh.boxes i ++ l) (sends.pushed workers i) ∙ (append-nil (names sh.boxes i) ∙ sym (ap (λ (boxes : List (List Parcel)). names boxes i) same))
pump_each workers i p sh d long less (inr (inr (parcel, sends, inr (rest, none, at, is)))) =
    let last : last_of sh.boxes ≡ workers = inbox_is workers sh.boxes place.Net long in
    let apart : (last_of sh.boxes == i) ≡ false = ap (λ k. k == i) last ∙ not_same_back i workers less in
    ap (λ (l : List (From × ℕ)). names sh.boxes i ++ l) (sends.pushed workers i)
    ∙ (append-nil (names sh.boxes i) ∙ (left_at sh.boxes (last_of sh.boxes) i parcel rest false at apart ∙ sym (ap (λ (boxes : List (List Parcel)). names boxes i) is)))
  where
    not_same_back : (i k : ℕ) → i < k → (k == i) ≡ false
    not_same_back i k less = by_test (k == i) refl where
      by_test : (b : Bool) → (k == i) ≡ b → b ≡ false
      by_test true is = let same = eqb-true k i is in absurd (omega (arith, same, less))
      by_test false is = refl

-- what it has of its own inbox
abbrev pump_has : ℕ → Pump → Shared → List (From × ℕ)
pump_has workers p sh = held_names p.to_send ++ names sh.boxes workers

pump_own : (workers : ℕ) (p : Pump) (sh : Shared) (d : Note × Pump × Shared) → length sh.boxes ≡ workers + 1 → PumpSays p sh d
    → pump_has workers p sh ++ pushed_in workers workers d.0 ≡ sent_or_failed_in d.0 ++ pump_has workers d.1 d.2
pump_own workers p sh d long (inl (still, same, hand)) =
    same_fill (pump_has workers p sh) (pump_has workers d.1 d.2) (pushed_in workers workers d.0) (sent_or_failed_in d.0)
    (ap (λ (o : Option Parcel). held_names o ++ names d.2.boxes workers) hand ∙ ap (λ (boxes : List (List Parcel)). held_names p.to_send ++ names boxes workers) same) (still.pushed workers workers) still.sent
pump_own workers p sh d long (inr (inl (parcel, says, pushes, hand))) =
    let j = inbox_of sh.boxes parcel.to in
    let came : names d.2.boxes workers ≡ names sh.boxes workers ++ pushed_in workers workers d.0 =
    ap (λ (boxes : List (List Parcel)). names boxes workers) pushes.is
    ∙ (came_by sh.boxes j workers parcel (j == workers) (omega (arith, long)) refl ∙ ap (λ (l : List (From × ℕ)). names sh.boxes workers ++ l) (sym (pushed_of workers workers sh.boxes d.0 parcel long says))) in
    more_fill (pump_has workers p sh) (pump_has workers d.1 d.2) (pushed_in workers workers d.0) (sent_or_failed_in d.0)
    (ap (λ (o : Option Parcel). held_names o ++ names d.2.boxes workers) hand ∙ (ap (λ (l : List (From × ℕ)). held_names p.to_send ++ l) came ∙ sym (append_assoc (held_names p.to_send) (names sh.boxes workers) (pushed_in workers workers d.0))))
    (ap sent_or_failed_in says)
pump_own workers p sh d long (inr (inr (parcel, sends, inl (held, same)))) =
    less_fill (pump_has workers p sh) (pump_has workers d.1 d.2) (pushed_in workers workers d.0) (sent_or_failed_in d.0)
    (ap (λ (o : Option Parcel). held_names o ++ names sh.boxes workers) held ∙ (ap (λ (l : List (From × ℕ)). l ++ names sh.boxes workers) (sym sends.sent)
    ∙ (append_assoc (sent_or_failed_in d.0) (held_names d.1.to_send) (names sh.boxes workers) ∙ ap (λ (boxes : List (List Parcel)). sent_or_failed_in d.0 ++ (held_names d.1.to_send ++ names boxes workers)) (sym same))))
    (sends.pushed workers workers)
pump_own workers p sh d long (inr (inr (parcel, sends, inr (rest, none, at, is)))) =
    let last : last_of sh.boxes ≡ workers = inbox_is workers sh.boxes place.Net long in
    let here : slice_get sh.boxes workers ≡ Some (parcel ∷ rest) = subst (λ j. slice_get sh.boxes j ≡ Some (parcel ∷ rest)) last at in
    let now : d.2.boxes ≡ slice_set sh.boxes workers rest = subst (λ j. d.2.boxes ≡ slice_set sh.boxes j rest) last is in
    let yes : (workers == workers) ≡ true = eq-eqb workers workers refl in
    let left = left_at sh.boxes workers workers parcel rest true here yes in
    less_fill (pump_has workers p sh) (pump_has workers d.1 d.2) (pushed_in workers workers d.0) (sent_or_failed_in d.0)
    (ap (λ (o : Option Parcel). held_names o ++ names sh.boxes workers) none ∙ (left ∙ (ap (λ (l : List (From × ℕ)). l ++ names (slice_set sh.boxes workers rest) workers) (sym sends.sent)
    ∙ (append_assoc (sent_or_failed_in d.0) (held_names d.1.to_send) (names (slice_set sh.boxes workers rest) workers) ∙ ap (λ (boxes : List (List Parcel)). sent_or_failed_in d.0 ++ (held_names d.1.to_send ++ names boxes workers)) (sym now)))))
    (sends.pushed workers workers)

pump_long : (p : Pump) (sh : Shared) (d : Note × Pump × Shared) → PumpSays p sh d → length d.2.boxes ≡ length sh.boxes
pump_long p sh d (inl (still, same, hand)) = ap length same
pump_long p sh d (inr (inl (parcel, says, pushes, hand))) = ap length pushes.is ∙ set_long sh.boxes (inbox_of sh.boxes parcel.to) (box_at sh.boxes (inbox_of sh.boxes parcel.to) ++ parcel ∷ [])
pump_long p sh d (inr (inr (parcel, sends, inl (held, same)))) = ap length same
pump_long p sh d (inr (inr (parcel, sends, inr (rest, none, at, is)))) = ap length is ∙ set_long sh.boxes (last_of sh.boxes) rest

pump_step : (workers : ℕ) (s t : State) (said : Note) → Housed workers s → Turn s ThePump said t → Step workers s (Noted ThePump said) t
pump_step workers s t said h x =
    let says = pump_says s.pump (box_at s.shared.boxes (last_of s.shared.boxes)) s.shared x.turn.try (said, x.pump, x.shared) x.turn.tries x.turn.is in
    let long = pump_long s.pump s.shared (said, x.pump, x.shared) says in
    let had = h.boxes in
    subst (Step workers s (Noted ThePump said)) (sym x.new_is) (record {
      placed = pump_placed workers s.pump s.shared (said, x.pump, x.shared) h.boxes says;
      housed = record { numbered = h.numbered; long = h.long; boxes = omega (arith, long, had) };
      each = λ i less. pump_each workers i s.pump s.shared (said, x.pump, x.shared) h.boxes less says;
      pump = pump_own workers s.pump s.shared (said, x.pump, x.shared) h.boxes says;
    })

-- where nothing is said
quiet_step : (workers : ℕ) (s t : State) (m : Moment) → Housed workers t → t.shared.boxes ≡ s.shared.boxes → t.pump.to_send ≡ s.pump.to_send → ((i : ℕ) → pushed_by workers i m ≡ []) → ((i : ℕ) → left_by i m ≡ []) → sent_or_failed_by m ≡ []
    → Step workers s m t
quiet_step workers s t m h boxes hand pushed left sent = record {
  placed = subst (InPlace workers) (sym boxes);
  housed = h;
  each = λ i less. same_fill (names s.shared.boxes i) (names t.shared.boxes i) (pushed_by workers i m) (left_by i m) (ap (λ (boxes : List (List Parcel)). names boxes i) boxes) (pushed i) (left i);
  pump = same_fill (pumped workers s) (pumped workers t) (pushed_by workers workers m) (sent_or_failed_by m)
      (ap (λ (o : Option Parcel). held_names o ++ names t.shared.boxes workers) hand ∙ ap (λ (boxes : List (List Parcel)). held_names s.pump.to_send ++ names boxes workers) boxes) (pushed workers) sent;
}

silent_step : (workers : ℕ) (s t : State) (actor : Actor) (reached : Reached) → Housed workers s → SilentTurn s actor reached t → Step workers s (Refused actor reached) t
silent_step workers s t (WorkerOf k) reached h x =
    let same = starves_boxes x.worker s.shared x.starves.seat reached x.answer x.next x.shared x.starves.starves in
    let boxes : x.after.boxes ≡ s.shared.boxes = ap (λ (sh : Shared). sh.boxes) x.after_is ∙ same in
    let housed = housed_worker workers s t k x.worker x.next x.after h x.at (starves_id x.worker s.shared x.starves.seat reached x.answer x.next x.shared x.starves.starves) (ap length boxes) x.new_is in
    quiet_step workers s t (Refused (WorkerOf k) reached) housed (ap (λ (s : State). s.shared.boxes) x.new_is ∙ boxes) (ap (λ (s : State). s.pump.to_send) x.new_is) (λ i. refl) (λ i. refl) refl
silent_step workers s t ThePump reached h x =
    quiet_step workers s t (Refused ThePump reached) (subst (Housed workers) (sym x.2) h) (ap (λ (s : State). s.shared.boxes) x.2) (ap (λ (s : State). s.pump.to_send) x.2) (λ i. refl) (λ i. refl) refl

map_long : (f : Worker → Worker) (ws : List Worker) → length (map f ws) ≡ length ws
map_long f [] = refl
map_long f (w ∷ ws) = let rest = map_long f ws in omega (arith, rest)

offered_long : (actor number : ℕ) (ws : List Worker) → length (offered_to actor number ws) ≡ length ws
offered_long actor number [] = refl
offered_long zero number (w ∷ ws) = refl
offered_long (suc actor) number (w ∷ ws) = let rest = offered_long actor number ws in omega (arith, rest)

mapped : (workers : ℕ) (s t : State) (f : Worker → Worker) → Housed workers s → ((w : Worker) → (f w).id ≡ w.id) → t.workers ≡ map f s.workers → t.shared.boxes ≡ s.shared.boxes → Housed workers t
mapped workers s t f h same is boxes =
    let long = map_long f s.workers in
    let was = h.long in
    let had = h.boxes in
    record {
      numbered = subst (Numbered 0) (sym is) (number_map 0 f s.workers same h.numbered);
      long = let now = ap length is in omega (arith, long, was, now);
      boxes = let now = ap length boxes in omega (arith, had, now);
    }

happen_housed : (workers : ℕ) (s : State) (e : Event) → Housed workers s → Housed workers (happen s e)
happen_housed workers s (event.Conn actor) h =
    let long = offered_long actor (length s.links) s.workers in
    let was = h.long in
    record { numbered = number_offered 0 actor (length s.links) s.workers h.numbered; long = omega (arith, long, was); boxes = h.boxes }
happen_housed workers s (event.Piece conn bytes) h = mapped workers s (happen s (event.Piece conn bytes)) _ h (λ w. refl) refl refl
happen_housed workers s (event.End conn) h = mapped workers s (happen s (event.End conn)) _ h (λ w. refl) refl refl
happen_housed workers s (event.Room conn room) h = mapped workers s (happen s (event.Room conn room)) _ h (λ w. refl) refl refl
happen_housed workers s (event.FailRead conn) h = mapped workers s (happen s (event.FailRead conn)) _ h (λ w. refl) refl refl
happen_housed workers s (event.FailWrite conn) h = mapped workers s (happen s (event.FailWrite conn)) _ h (λ w. refl) refl refl
happen_housed workers s (event.Datagram tunnel bytes) h = mapped workers s (happen s (event.Datagram tunnel bytes)) _ h (λ w. refl) refl refl
happen_housed workers s (event.FailPort tunnel) h = mapped workers s (happen s (event.FailPort tunnel)) _ h (λ w. refl) refl refl
happen_housed workers s event.FailBind h = record { numbered = h.numbered; long = h.long; boxes = h.boxes }
happen_housed workers s event.FailNet h = record { numbered = h.numbered; long = h.long; boxes = h.boxes }
happen_housed workers s (event.Packet count bytes) h = record { numbered = h.numbered; long = h.long; boxes = h.boxes }
happen_housed workers s (event.Step actor) h = h

happen_hand : (s : State) (e : Event) → (happen s e).pump.to_send ≡ s.pump.to_send
happen_hand s (event.Conn actor) = refl
happen_hand s (event.Piece conn bytes) = refl
happen_hand s (event.End conn) = refl
happen_hand s (event.Room conn room) = refl
happen_hand s (event.FailRead conn) = refl
happen_hand s (event.FailWrite conn) = refl
happen_hand s (event.Datagram tunnel bytes) = refl
happen_hand s (event.FailPort tunnel) = refl
happen_hand s event.FailBind = refl
happen_hand s event.FailNet = refl
happen_hand s (event.Packet count bytes) = refl
happen_hand s (event.Step actor) = refl

goes_step : (workers : ℕ) (s t : State) (m : Moment) → Housed workers s → AllAsked s → Goes s m t → Step workers s m t
goes_step workers s t (Happened e) h asked x =
    quiet_step workers s t (Happened e) (subst (Housed workers) (sym x.1) (happen_housed workers s e h)) (ap (λ (s : State). s.shared.boxes) x.1 ∙ happen_boxes s e) (ap (λ (s : State). s.pump.to_send) x.1 ∙ happen_hand s e) (λ i. refl) (λ i. refl) refl
goes_step workers s t (Noted (WorkerOf k) said) h asked x = worker_step workers s t k said h asked x
goes_step workers s t (Noted ThePump said) h asked x = pump_step workers s t said h x
goes_step workers s t (Refused actor reached) h asked x = silent_step workers s t actor reached h x

-- ---- runs

-- each inbox has what was pushed there, but for what left it
pub record Filled (workers : ℕ) (ms : List Moment) (s : State) : Type 0 where
  pub housed : Housed workers s
  pub placed : InPlace workers s.shared.boxes
  pub each : (i : ℕ) → i < workers → flat_map (pushed_by workers i) ms ≡ flat_map (left_by i) ms ++ names s.shared.boxes i
  pub pump : flat_map (pushed_by workers workers) ms ≡ flat_map sent_or_failed_by ms ++ pumped workers s

filled_on : (workers : ℕ) (ms : List Moment) (s : State) (m : Moment) (t : State) → Filled workers ms s → Step workers s m t → Filled workers (ms ++ m ∷ []) t
filled_on workers ms s m t h x = record {
  housed = x.housed;
  placed = x.placed h.placed;
  each = λ i less. behind (pushed_by workers i) ms m
      ∙ (stays (flat_map (pushed_by workers i) ms) (flat_map (left_by i) ms) (names s.shared.boxes i) (pushed_by workers i m) (left_by i m) (names t.shared.boxes i) (h.each i less) (x.each i less)
      ∙ ap (λ (l : List (From × ℕ)). l ++ names t.shared.boxes i) (sym (behind (left_by i) ms m)));
  pump = behind (pushed_by workers workers) ms m
      ∙ (stays (flat_map (pushed_by workers workers) ms) (flat_map sent_or_failed_by ms) (pumped workers s) (pushed_by workers workers m) (sent_or_failed_by m) (pumped workers t) h.pump x.pump
      ∙ ap (λ (l : List (From × ℕ)). l ++ pumped workers t) (sym (behind sent_or_failed_by ms m)));
}

empty_boxes : (n i : ℕ) → names (replicate n []) i ≡ []
empty_boxes zero zero = refl
empty_boxes zero (suc i) = refl
empty_boxes (suc n) zero = refl
empty_boxes (suc n) (suc i) = empty_boxes n i

none_placed : (P : Parcel → Type 0) (n j : ℕ) → AllByRecursion P (box_at (replicate n []) j)
none_placed P zero zero = tt
none_placed P zero (suc j) = tt
none_placed P (suc n) zero = tt
none_placed P (suc n) (suc j) = none_placed P n j

replicate_long : (n : ℕ) → length {A = List Parcel} (replicate n []) ≡ n
replicate_long zero = refl
replicate_long (suc n) = let rest = replicate_long n in omega (arith, rest)

first_filled : (plan : Plan) → Filled plan.workers [] (state_of plan)
first_filled plan = record {
  housed = record { numbered = new_numbered plan.setup plan.workers; long = new_long plan.setup plan.workers; boxes = replicate_long (plan.workers + 1) };
  placed = λ j. none_placed (λ (parcel : Parcel). inbox_in plan.workers parcel.to ≡ j) (plan.workers + 1) j;
  each = λ i less. sym (empty_boxes (plan.workers + 1) i);
  pump = sym (empty_boxes (plan.workers + 1) plan.workers);
}

module _ (limits : IsWithinLimits) (stays : StaysLawful) (k : Key) (plan : Plan) where
  run_filled : (before ms : List Moment) (s t : State) → Run (state_of plan) before s → Filled plan.workers before s → Run s ms t → Filled plan.workers (before ++ ms) t
  run_filled before [] s t run h x = rw append-nil (subst (Filled plan.workers before) (sym x) h)
  run_filled before (m ∷ ms) s t run h x =
      let here = filled_on plan.workers before s m x.0 h (goes_step plan.workers s x.0 m h.housed (asked_at limits stays k plan before s run) x.1) in
      let on = run_append before (m ∷ []) (state_of plan) s x.0 run (x.0, x.1, refl) in
      let later = run_filled (before ++ m ∷ []) ms x.0 t on here x.2 in
      subst (λ (l : List Moment). Filled plan.workers l t) (append_assoc before (m ∷ []) ms) later

  pub filled_at : (ms : List Moment) (s : State) → Run (state_of plan) ms s → Filled plan.workers ms s
  filled_at ms s run = run_filled [] ms (state_of plan) s refl (first_filled plan) run

-- the front parcel of a worker's inbox is to go to that worker
pub front_place : (workers : ℕ) (ms : List Moment) (s : State) (number : ℕ) (w : Worker) (parcel : Parcel) (rest : List Parcel) (id actor : ℕ) → Filled workers ms s → slice_get s.workers number ≡ Some w
    → slice_get s.shared.boxes w.id ≡ Some (parcel ∷ rest) → parcel.to ≡ place.Tunnel id actor → actor ≡ number
front_place workers ms s number w parcel rest id actor h works at to =
    let was : box_at s.shared.boxes w.id ≡ parcel ∷ rest = ap (λ (o : Option (List Parcel)). unwrap_or o []) at in
    let here : AllByRecursion (λ (p : Parcel). inbox_in workers p.to ≡ w.id) (parcel ∷ rest) = subst (AllByRecursion (λ (p : Parcel). inbox_in workers p.to ≡ w.id)) was (h.placed w.id) in
    let own : actor ≡ w.id = sym (ap (inbox_in workers) to) ∙ here.0 in
    let numbered = number_at 0 number s.workers w h.housed.numbered works in
    omega (arith, own, numbered)
