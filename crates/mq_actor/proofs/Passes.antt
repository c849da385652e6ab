-- The connections of a part of the ring, each in its turn.
use Rattle.std.proofs.Common.{◌≡◌, ◌⊎◌, ◌↔◌, inl, inr, ℕ, ◌+◌, ◌<◌, ◌≤◌, Bool, true, false, List, length, slice_get, Option, Some, None, Result, Ok, Err, sym}
use Rattle.std.proofs.Common.{ap, subst, ◌∙◌, arith}
use Rattle.std.specs.Result.{IsErr}
use Rattle.std.proofs.lemmas.Bool.{cases_lt}
use Rattle.mq_wire.specs.declared.NoMemory.{NoMemory}
use Rattle.mq_talk.specs.declared.note.Note.{Note}
use Rattle.mq_held.specs.declared.held.Held.{Held as HeldBy}
use Rattle.mq_step.specs.Notes.{SteppedWith, Quiet, Did, Ended, Noteless}
use Rattle.mq_step.proofs.Others.{at_within}
use Rattle.mq_actor.specs.declared.ring.Ring.{Ring}
use Rattle.mq_actor.specs.Seen.{Words, Moment}
use Rattle.mq_actor.specs.Holds.{HaveOwnPorts}
use Rattle.mq_actor.specs.Passing.{is_in_part, InPart, Tried, Passed, LeavesRing, Acted, TryGives, PassGives}
use Rattle.mq_actor.proofs.Passings.{none_passed, passed_as, passed_then}

-- those before this place that have their seats in this part
abbrev pub before : Bool → ℕ → ℕ → Tried
before upper from place i number = (i < place) × InPart upper from number

-- the one at this place, where it has its seat there
abbrev pub alone : Bool → ℕ → ℕ → Tried
alone upper from place i number = (i ≡ place) × InPart upper from number

-- before the first place of this part is none of it
pub pass_begins : {L Q : Type 0} (words : Words L Q) (m : Moment L Q) (upper : Bool) (from first : ℕ)
    → ((i : ℕ) (h : HeldBy L) → slice_get m.conns i ≡ Some h → i < first → is_in_part upper from (h.number + 2) ≡ false) → Passed words m m (before upper from first)
pass_begins words m upper from first none = none_passed words m (before upper from first) (λ i h at is. let no : false ≡ true = sym (none i h at is.0) ∙ is.1 in absurd cc)

before_next : (upper : Bool) (from place i number : ℕ)
    → (before upper from place i number ⊎ alone upper from place i number) ↔ before upper from (place + 1) i number
before_next upper from place i number = (onward, back) where
  onward : before upper from place i number ⊎ alone upper from place i number → before upper from (place + 1) i number
  onward (inl (less, is)) = (omega (arith, less), is)
  onward (inr (same, is)) = (omega (arith, same), is)

  back : before upper from (place + 1) i number → before upper from place i number ⊎ alone upper from place i number
  back (less, is) = by_case (cases_lt i place) where
    by_case : (i < place) ⊎ (place ≤ i) → before upper from place i number ⊎ alone upper from place i number
    by_case (inl low) = inl (low, is)
    by_case (inr high) = inr (omega (arith, less, high), is)

-- every place is before the end
pub pass_ends : {L Q : Type 0} (words : Words L Q) (old new : Moment L Q) (upper : Bool) (from place : ℕ) → length old.conns ≤ place
    → Passed words old new (before upper from place) → Passed words old new (λ i number. InPart upper from number)
pass_ends {L} words old new upper from place all passed =
    passed_as words old new (before upper from place) (λ i number. InPart upper from number) same passed where
      same : (i : ℕ) (h : HeldBy L) → slice_get old.conns i ≡ Some h → before upper from place i h.number ↔ InPart upper from h.number
      same i h at = (λ both. both.1, λ is. let less = at_within old.conns i h at in (omega (arith, less, all), is))

-- ---- from the ring as it was at the start

leaves_from : {L : Type 0} (place : ℕ) (was now : HeldBy L) (conns : List (HeldBy L)) (r s mid : Ring L) (stepped : Result SteppedWith NoMemory)
    (result : Result (Option Note) NoMemory) → LeavesRing place was now conns (record r { conns = mid.conns; rooms = mid.rooms }) s stepped result
    → LeavesRing place was now conns r s stepped result
leaves_from place was now conns r s mid (Ok (Did note)) result leaves = leaves
leaves_from place was now conns r s mid (Ok (Ended note)) result leaves = leaves
leaves_from place was now conns r s mid (Ok Quiet) result leaves = leaves
leaves_from place was now conns r s mid (Ok Noteless) result leaves = leaves
leaves_from place was now conns r s mid (Err refused) result leaves = leaves

-- its note is what was told
pub told_passes : {L Q : Type 0} (words : Words L Q) (upper : Bool) (r s : Ring L) (old new : Moment L Q) (told : Option Note) (said : Note) → told ≡ Some said
    → PassGives words upper r s old new (Ok (Some said)) → PassGives words upper r s old new (Ok told)
told_passes words upper r s old new told said is gives = let P : Option Note → Type 0 = λ z. PassGives words upper r s old new (Ok z) in subst P (sym is) gives

module _ {L Q : Type 0} (words : Words L Q) (upper : Bool) (place : ℕ) (r mid s : Ring L) (old now new : Moment L Q) where
  -- what acted in the ring as it is acted in the ring as it was
  acted_from : (result : Result (Option Note) NoMemory) → mid ≡ record r { conns = mid.conns; rooms = mid.rooms } → Acted words upper place mid s now new result
      → Acted words upper place r s now new result
  acted_from result same acted =
      let P : Ring L → Type 0 = λ x. Acted words upper place x s now new result in
      let a = subst P same acted in
      record {
        stepped = a.stepped;
        was = a.was;
        now = a.now;
        at = a.at;
        turn = a.turn;
        acts = a.acts;
        leaves = leaves_from place a.was a.now now.conns r s mid a.stepped result a.leaves;
      }

  -- The connection at this place did something.
  pub pass_stops : (did : Option Note) (said : Note) → did ≡ Some said → mid ≡ record r { conns = mid.conns; rooms = mid.rooms }
      → Passed words old now (before upper r.next_seat place) → HaveOwnPorts now.conns → TryGives words upper place mid s now new (Ok did)
      → PassGives words upper r s old new (Ok (Some said))
  pass_stops did said is same passed own gives =
      let G : Option Note → Type 0 = λ z. TryGives words upper place mid s now new (Ok z) in
      record { mid = now; place = place; passed = passed; ports = own; acted = acted_from (Ok (Some said)) same (subst G is gives) }

  -- It was refused memory.
  pub pass_fails : (why : NoMemory) (result : Result (Option Note) NoMemory) → IsErr result → mid ≡ record r { conns = mid.conns; rooms = mid.rooms }
      → Passed words old now (before upper r.next_seat place) → HaveOwnPorts now.conns → TryGives words upper place mid s now new (Err why)
      → PassGives words upper r s old new result
  pass_fails why (Ok did) is same passed own gives = absurd cc
  pass_fails why (Err refused) is same passed own gives = record { mid = now; place = place; passed = passed; ports = own; acted = acted_from (Err refused) same gives }

  -- It was passed over, too.
  pub pass_goes : (got : Option Note) → got ≡ None → mid ≡ record r { conns = mid.conns; rooms = mid.rooms }
      → Passed words old now (before upper r.next_seat place) → TryGives words upper place mid s now new (Ok got)
      → Passed words old new (before upper r.next_seat (place + 1)) × (s ≡ record r { conns = s.conns; rooms = s.rooms })
  pass_goes got none same passed gives =
      let G : Option Note → Type 0 = λ x. TryGives words upper place mid s now new (Ok x) in
      let gave = subst G none gives in
      let from : mid.next_seat ≡ r.next_seat = ap (λ (x : Ring L). x.next_seat) same in
      let P : ℕ → Type 0 = λ k. Passed words now new (alone upper k place) in
      let V : Tried = before upper r.next_seat place in
      let W : Tried = alone upper r.next_seat place in
      let both = passed_then words old now new V W passed (subst P from gave.0)
      (λ i number v w. let less = v.0 in let here = w.0 in omega (arith, less, here)) in (
        passed_as words old new (λ i number. V i number ⊎ W i number) (before upper r.next_seat (place + 1))
            (λ i h at. before_next upper r.next_seat place i h.number) both,
        gave.1 ∙ ap {B = Ring L} (λ (x : Ring L). record x { conns = s.conns; rooms = s.rooms }) same,
      )
