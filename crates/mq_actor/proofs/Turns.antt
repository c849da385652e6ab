-- The turn of the connection at a place of a ring.
use Rattle.std.proofs.Common.{◌≡◌, ◌↔◌, ℕ, zero, suc, ◌+◌, Bool, true, false, List, [], ◌∷◌, length, remove, slice_get, slice_set, Option, Some}
use Rattle.std.proofs.Common.{Result, Ok, Err, refl, sym, ap, subst, ◌∙◌, true≢false}
use Rattle.std.proofs.lemmas.List.{length-set}
use Rattle.std.specs.Result.{IsErr}
use Rattle.mq_wire.specs.declared.NoMemory.{NoMemory}
use Rattle.mq_talk.specs.declared.note.Note.{Note}
use Rattle.mq_machine.specs.declared.setup.Setup.{Setup}
use Rattle.mq_held.specs.declared.held.Held.{Held as HeldBy}
use Rattle.mq_step.specs.Notes.{SteppedWith, Quiet, Did, Ended}
use Rattle.mq_actor.specs.declared.ring.Ring.{Ring}
use Rattle.mq_actor.specs.Seen.{Words, Moment}
use Rattle.mq_actor.specs.Holds.{HaveOwnPorts}
use Rattle.mq_actor.specs.Passing.{is_in_part, InPart, Passed, Acts, TurnsAt, Acted, TryGives, AreKnown}
use Rattle.mq_actor.proofs.Lists.{get_set_same}
use Rattle.mq_actor.proofs.Passings.{none_passed, passed_as, one_passed}

-- ---- of lists and parts

-- what was set where something is then removed is gone
pub remove_set : {A : Type 0} (xs : List A) (i : ℕ) (y : A) → remove (slice_set xs i y) i ≡ remove xs i
remove_set [] zero y = refl
remove_set [] (suc i) y = refl
remove_set (x ∷ xs) zero y = refl
remove_set {A} (x ∷ xs) (suc i) y = ap (λ (ys : List A). x ∷ ys) (remove_set xs i y)

-- whether the seat of a number was found in a part
pub seat_part : (upper : Bool) (from number seat : ℕ) (r b : Bool) → seat ≡ number + 2 → r ≡ is_in_part upper from seat → r ≡ b
    → is_in_part upper from (number + 2) ≡ b
seat_part upper from number seat r b seat_is is so = ap (λ (k : ℕ). is_in_part upper from k) (sym seat_is) ∙ sym is ∙ so

-- the connection at a place is one alone, which has its seat in one part
pub part_at : {L : Type 0} (conns : List (HeldBy L)) (upper : Bool) (from place : ℕ) (held was : HeldBy L) → slice_get conns place ≡ Some held
    → slice_get conns place ≡ Some was → InPart upper from was.number → is_in_part upper from (held.number + 2) ≡ true
part_at {L} conns upper from place held was at at_was part =
    let both : Some held ≡ Some was = sym at ∙ at_was in
    let e : held ≡ was = cc in
    ap (λ (h : HeldBy L). is_in_part upper from (h.number + 2)) e ∙ part

-- ---- it wasn't tried, or did nothing

-- the one at the place has its seat in the other part
pub try_skips : {L Q : Type 0} (words : Words L Q) (m : Moment L Q) (upper : Bool) (from place : ℕ) (held : HeldBy L) → slice_get m.conns place ≡ Some held
    → is_in_part upper from (held.number + 2) ≡ false → Passed words m m (λ i number. (i ≡ place) × InPart upper from number)
try_skips {L} words m upper from place held at not_so = none_passed words m (λ i number. (i ≡ place) × InPart upper from number) none where
  none : (i : ℕ) (h : HeldBy L) → slice_get m.conns i ≡ Some h → (i ≡ place) × InPart upper from h.number → ⊥
  none i h at_h (here, is) =
      let P : ℕ → Type 0 = λ k. slice_get m.conns k ≡ Some h in
      let both : Some held ≡ Some h = sym at ∙ subst P here at_h in
      let e : held ≡ h = cc in
      true≢false (sym is ∙ ap (λ (x : HeldBy L). is_in_part upper from (x.number + 2)) (sym e) ∙ not_so)

-- what is said of the turn is said of its result
same_turn : {L Q : Type 0} (words : Words L Q) (setup : Setup) (place : ℕ) (old new : Moment L Q) (x y : SteppedWith) → x ≡ y
    → TurnsAt words setup place old new (Ok x) → TurnsAt words setup place old new (Ok y)
same_turn words setup place old new x y same turns = let P : SteppedWith → Type 0 = λ z. TurnsAt words setup place old new (Ok z) in subst P same turns

-- each of its tries was in vain
pub try_waits : {L Q : Type 0} (words : Words L Q) (setup : Setup) (old new : Moment L Q) (upper : Bool) (from place : ℕ) (held : HeldBy L) (x : SteppedWith)
    → x ≡ Quiet → AreKnown words old → HaveOwnPorts old.conns → slice_get old.conns place ≡ Some held → is_in_part upper from (held.number + 2) ≡ true
    → TurnsAt words setup place old new (Ok x) → Passed words old new (λ i number. (i ≡ place) × InPart upper from number)
try_waits {L} words setup old new upper from place held x quiet known own at part turns =
    let t = same_turn words setup place old new x Quiet quiet turns held at in
    passed_as words old new (λ i number. i ≡ place) (λ i number. (i ≡ place) × InPart upper from number) same
    (one_passed words setup old new place held t.0 known own at t.1 t.2) where
      in_part : (i : ℕ) (h : HeldBy L) → slice_get old.conns i ≡ Some h → i ≡ place → InPart upper from h.number
      in_part i h at_h here =
          let P : ℕ → Type 0 = λ k. slice_get old.conns k ≡ Some h in
          let both : Some held ≡ Some h = sym at ∙ subst P here at_h in
          let e : held ≡ h = cc in
          ap (λ (y : HeldBy L). is_in_part upper from (y.number + 2)) (sym e) ∙ part

      same : (i : ℕ) (h : HeldBy L) → slice_get old.conns i ≡ Some h → i ≡ place ↔ ((i ≡ place) × InPart upper from h.number)
      same i h at_h = (λ here. (here, in_part i h at_h here), λ both. both.0)

-- there are as many connections as there were
pub turn_length : {L : Type 0} (conns after : List (HeldBy L)) (place : ℕ) (held : HeldBy L) (A : HeldBy L → HeldBy L → Type 0)
    → ((was : HeldBy L) → slice_get conns place ≡ Some was → (now : HeldBy L) × (after ≡ slice_set conns place now) × A was now)
    → slice_get conns place ≡ Some held → length after ≡ length conns
turn_length {L} conns after place held A turns at =
    let t = turns held at in
    ap (λ (hs : List (HeldBy L)). length hs) t.1 ∙ length-set conns place t.0

-- ---- it acted

-- the connections of the moment behind don't matter
acts_among : {L Q : Type 0} (words : Words L Q) (setup : Setup) (old new : Moment L Q) (conns : List (HeldBy L)) (r : Result SteppedWith NoMemory)
    (was now : HeldBy L) → Acts words setup old (record new { conns = conns }) r was now → Acts words setup old new r was now
acts_among words setup old new conns r was now a = record { number = a.number; others = a.others; stays = a.stays; calm = a.calm; apart = a.apart; ends = a.ends; still = a.still; gives = a.gives }

module _ {L Q : Type 0} (words : Words L Q) (upper : Bool) (place : ℕ) (r mid : Ring L) (old new : Moment L Q) (held : HeldBy L) where
  -- the ring is as it was, but for its connections and rooms
  abbrev pub Same : Type 0
  Same = mid ≡ record r { conns = mid.conns; rooms = mid.rooms }

  -- and this is what the turn of the one at the place gave
  abbrev pub Turns : Result SteppedWith NoMemory → Type 0
  Turns result = TurnsAt words r.setup place old (record new { conns = mid.conns.items }) result

  next_seat : (k : ℕ) → k ≡ held.number + 3 → Same
      → record mid { next_seat = k } ≡ record r { conns = mid.conns; rooms = mid.rooms; next_seat = held.number + 3 }
  next_seat k is same =
      ap {B = Ring L} (λ (x : Ring L). record x { next_seat = k }) same
      ∙ ap {B = Ring L} (λ (j : ℕ). record r { conns = mid.conns; rooms = mid.rooms; next_seat = j }) is

  -- It did something, and stays in the ring.
  pub try_does : (x : SteppedWith) (note : Note) (k : ℕ) → x ≡ Did note → k ≡ held.number + 3 → slice_get old.conns place ≡ Some held
      → is_in_part upper r.next_seat (held.number + 2) ≡ true → Same → Turns (Ok x)
      → Acted words upper place r (record mid { next_seat = k }) old new (Ok (Some note))
  try_does x note k did seat at part same turns =
      let t = same_turn words r.setup place old (record new { conns = mid.conns.items }) x (Did note) did turns held at in
      record {
        stepped = Ok (Did note);
        was = held;
        now = t.0;
        at = at;
        turn = part;
        acts = acts_among words r.setup old new mid.conns.items (Ok (Did note)) held t.0 t.2;
        leaves = (refl, t.1, next_seat k seat same);
      }

  -- Memory was refused.
  pub try_refused : (why : NoMemory) (result : Result (Option Note) NoMemory) → IsErr result → slice_get old.conns place ≡ Some held
      → is_in_part upper r.next_seat (held.number + 2) ≡ true → Same → Turns (Err why) → TryGives words upper place r mid old new result
  try_refused why (Ok did) is at part same turns = absurd cc
  try_refused why (Err refused) is at part same turns =
      let t = turns held at in
      record {
        stepped = Err refused;
        was = held;
        now = t.0;
        at = at;
        turn = part;
        acts = acts_among words r.setup old new mid.conns.items (Err refused) held t.0 t.2;
        leaves = (refl, t.1, same);
      }

  ended_ring : (s : Ring L) (k : ℕ) (now : HeldBy L) → s ≡ record mid { conns = s.conns; next_seat = k; ended = s.ended } → s.ended ≡ Some now
      → k ≡ held.number + 3 → Same → s ≡ record r { conns = s.conns; rooms = s.rooms; next_seat = held.number + 3; ended = Some now }
  ended_ring s k now is kept seat same =
      is
      ∙ ap {B = Ring L} (λ (h : Option (HeldBy L)). record mid { conns = s.conns; next_seat = k; ended = h }) kept
      ∙ ap {B = Ring L} (λ (x : Ring L). record x { conns = s.conns; next_seat = k; ended = Some now }) same
      ∙ ap {B = Ring L} (λ (j : ℕ). record r { conns = s.conns; rooms = mid.rooms; next_seat = j; ended = Some now }) seat
      ∙ ap {B = Ring L} (λ (x : Ring L). record r { conns = s.conns; rooms = x.rooms; next_seat = held.number + 3; ended = Some now }) (sym is)

  -- It is over, and leaves the ring.
  pub try_ends : (s : Ring L) (x : SteppedWith) (note : Note) (k : ℕ) → x ≡ Ended note → k ≡ held.number + 3
      → slice_get old.conns place ≡ Some held → is_in_part upper r.next_seat (held.number + 2) ≡ true → s.ended ≡ slice_get mid.conns.items place
      → s.conns.items ≡ remove mid.conns.items place
      → s ≡ record mid { conns = s.conns; next_seat = k; ended = s.ended } → Same → Turns (Ok x) → Acted words upper place r s old new (Ok (Some note))
  try_ends s x note k over seat at part kept rest is same turns =
      let t = same_turn words r.setup place old (record new { conns = mid.conns.items }) x (Ended note) over turns held at in
      let stands : slice_get mid.conns.items place ≡ Some t.0 =
      ap (λ (hs : List (HeldBy L)). slice_get hs place) t.1 ∙ get_set_same old.conns place held t.0 at in
      record {
        stepped = Ok (Ended note);
        was = held;
        now = t.0;
        at = at;
        turn = part;
        acts = acts_among words r.setup old new mid.conns.items (Ok (Ended note)) held t.0 t.2;
        leaves = (
          refl,
          rest ∙ ap (λ (hs : List (HeldBy L)). remove hs place) t.1 ∙ remove_set old.conns place t.0,
          ended_ring s k t.0 is (kept ∙ stands) seat same,
        );
      }
