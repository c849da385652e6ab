-- What keeps the receive windows of a history: no more came than they allow, and no more was consumed than came.
use Rattle.std.proofs.Common.{◌≡◌, ℕ, ◌+◌, ◌≤◌, Bool, true, false, ltb, ◌∷◌, [], refl, subst, inl, inr, arith}
use Rattle.std.proofs.lemmas.Bool.{cases_eq, eq-eqb, ne_eqb, ltb-false}
use Rattle.mq_streams.specs.History.{Event, History, Arrived, Discarded, first_window, total, arrived_on, arrived, given_back_on, is_live, has_finished}
use Rattle.mq_streams.specs.Stand.{ConsumesWhatCame}
use Rattle.mq_streams.specs.Answers.{receive_window, connection_receive_window, is_idle, count_of, after_count}
use Rattle.mq_streams.specs.declared.answers.Counted.{Counted}
use Rattle.mq_streams.specs.declared.answers.Counted.TheVariants as counted
use Rattle.mq_h2.proofs.Lives.{by_tests}

pub record Flows (h : History) : Type 0 where
  pub came : ConsumesWhatCame h
  pub all : total arrived h ≤ first_window + total (given_back_on 0) h
  pub each : (id : ℕ) → total (arrived_on id) h ≤ first_window + total (given_back_on id) h

pub none_flow : Flows []
none_flow = record { came = tt; all = omega arith; each = λ id. omega arith }

-- an event by which no DATA comes
pub flows_on : (e : Event) (h : History) → arrived e ≡ 0 → ((id : ℕ) → arrived_on id e ≡ 0) → ConsumesWhatCame (e ∷ h) → Flows h → Flows (e ∷ h)
flows_on e h none nowhere came flow = record {
  came = came;
  all = omega (arith, none, flow.all);
  each = λ id. omega (arith, nowhere id, flow.each id);
}

pub arrived_flow : (id size : ℕ) (h : History) → size ≤ connection_receive_window h → size ≤ receive_window id h → Flows h → Flows (Arrived id size ∷ h)
arrived_flow id size h on_all on_it flow = record {
  came = flow.came;
  all = omega (arith, flow.all, on_all);
  each = λ other.
      elim (cases_eq id other) [
        | inl same ↦
            let on_other : size ≤ receive_window other h = subst (λ (n : ℕ). size ≤ receive_window n h) same on_it in
            rw (eq-eqb id other same) (omega (arith, flow.each other, on_other))
        | inr differs ↦ rw (ne_eqb id other differs) (omega (arith, flow.each other))
      ];
}

pub discarded_flow : (id size : ℕ) (h : History) → size ≤ connection_receive_window h → Flows h → Flows (Discarded id size ∷ h)
discarded_flow id size h on_all flow = record {
  came = flow.came;
  all = omega (arith, flow.all, on_all);
  each = λ other. omega (arith, flow.each other);
}

-- the tests that DATA passed
yes_tests : (a b l f w : Bool) → by_tests a b l f w ≡ counted.Yes → (a ≡ false) × (w ≡ false)
yes_tests true b l f w e = absurd cc
yes_tests false true l f w e = absurd cc
yes_tests false false false f w e = absurd cc
yes_tests false false true true w e = absurd cc
yes_tests false false true false true e = absurd cc
yes_tests false false true false false e = (refl, refl)

ignored_tests : (a b l f w : Bool) → by_tests a b l f w ≡ counted.Ignored → a ≡ false
ignored_tests true b l f w e = absurd cc
ignored_tests false b l f w e = refl

over_tests : (a b l f w : Bool) → by_tests a b l f w ≡ counted.OverStream → a ≡ false
over_tests true b l f w e = absurd cc
over_tests false b l f w e = refl

module _ (id size : ℕ) (h : History) where
  abbrev wide : Bool
  wide = ltb (connection_receive_window h) size

  abbrev far : Bool
  far = ltb (receive_window id h) size

  counted_flow : (k : Counted) → count_of id size h ≡ k → Flows h → Flows (after_count k id size h)
  counted_flow counted.Yes e flow =
      let tests = yes_tests wide (is_idle id h) (is_live id h) (has_finished id h) far e in
      arrived_flow id size h (ltb-false _ _ tests.0) (ltb-false _ _ tests.1) flow
  counted_flow counted.Ignored e flow =
      discarded_flow id size h (ltb-false _ _ (ignored_tests wide (is_idle id h) (is_live id h) (has_finished id h) far e)) flow
  counted_flow counted.OverStream e flow =
      discarded_flow id size h (ltb-false _ _ (over_tests wide (is_idle id h) (is_live id h) (has_finished id h) far e)) flow
  counted_flow counted.OverConnection e flow = flow
  counted_flow counted.Idle e flow = flow

pub counts_flow : (k : Counted) (id size : ℕ) (h : History) → count_of id size h ≡ k → Flows h → Flows (after_count k id size h)
counts_flow k id size h e flow = counted_flow id size h k e flow
