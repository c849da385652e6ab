-- On all streams together, no more is consumed than came.
use Rattle.std.proofs.Common.{◌≡◌, ◌≢◌, ℕ, ◌+◌, ◌≤◌, ◌∷◌, [], List, All, Bool, true, not, ◌&&◌, refl, sym, ap, ◌∙◌, subst, inl, inr, arith, eqb, cond}
use Rattle.std.proofs.lemmas.Bool.{eq-eqb, ne_eqb, cases_Bool, cases_eq}
use Rattle.mq_streams.specs.History.{Event, History, Arrived, Discarded, Consumed, total, arrived_on, arrived, consumed_on, consumed}
use Rattle.mq_streams.specs.Stand.{IsRow, IsConnection, AreOf, ConsumesWhatCame}
use Rattle.mq_streams.specs.declared.stream.Stream.{Stream}
use Rattle.mq_streams.specs.declared.connection.Connection.{Connection}
use Rattle.mq_streams.proofs.Steps.{Before, of_another, has_no_part, after_none}

-- a sum of sums
total_sum : (f g k : Event → ℕ) → ((event : Event) → f event ≡ g event + k event) → (h : History) → total f h ≡ total g h + total k h
total_sum f g k each [] = refl
total_sum f g k each (event ∷ h) = omega (arith, each event, total_sum f g k each h)

-- the DATA that came, and that was consumed, on the streams that pass a test
arrived_where : (ℕ → Bool) → Event → ℕ
arrived_where p (Arrived s n) = cond (p s) n 0
arrived_where p _ = 0

consumed_where : (ℕ → Bool) → Event → ℕ
consumed_where p (Consumed s n) = cond (p s) n 0
consumed_where p _ = 0

discarded : Event → ℕ
discarded (Discarded s n) = n
discarded _ = 0

abbrev but : (ℕ → Bool) → ℕ → ℕ → Bool
but p s id = p id && not (eqb id s)

part : (p : ℕ → Bool) (s : ℕ) → p s ≡ true → (id n : ℕ) → cond (p id) n 0 ≡ cond (but p s id) n 0 + cond (eqb id s) n 0
part p s passes id n =
    elim (cases_eq id s) [
      | inl same ↦ let y : p id ≡ true = ap p same ∙ passes in rw (y, eq-eqb id s same) (omega arith)
      | inr differs ↦ rw (ne_eqb id s differs) (elim (cases_Bool (p id)) [
        | inl y ↦ rw y (omega arith)
        | inr y ↦ rw y (omega arith)
      ])
    ]

module _ (p : ℕ → Bool) (s : ℕ) (passes : p s ≡ true) where
  arrived_parts : (event : Event) → arrived_where p event ≡ arrived_where (but p s) event + arrived_on s event
  unfolding arrived_where
  arrived_parts (Arrived id n) = part p s passes id n
  arrived_parts _ = refl

  consumed_parts : (event : Event) → consumed_where p event ≡ consumed_where (but p s) event + consumed_on s event
  unfolding consumed_where
  consumed_parts (Consumed id n) = part p s passes id n
  consumed_parts _ = refl

arrived_kinds : (event : Event) → arrived event ≡ arrived_where (λ _. true) event + discarded event
unfolding arrived_where discarded
arrived_kinds (Arrived id n) = omega arith
arrived_kinds (Discarded id n) = omega arith
arrived_kinds _ = refl

consumed_kinds : (event : Event) → consumed event ≡ consumed_where (λ _. true) event + discarded event
unfolding consumed_where discarded
consumed_kinds (Consumed id n) = omega arith
consumed_kinds (Discarded id n) = omega arith
consumed_kinds _ = refl

within_where : (h : History) → ConsumesWhatCame h → (p : ℕ → Bool) → total (consumed_where p) h ≤ total (arrived_where p) h
unfolding arrived_where consumed_where
within_where [] came p = omega arith
within_where (Consumed s n ∷ h) came p =
    elim (cases_Bool (p s)) [
      | inl passes ↦ rw passes (
          let a = total_sum (arrived_where p) (arrived_where (but p s)) (arrived_on s) (arrived_parts p s passes) h in
          let k = total_sum (consumed_where p) (consumed_where (but p s)) (consumed_on s) (consumed_parts p s passes) h in
          omega (arith, a, k, came.0, within_where h came.1 (but p s)))
      | inr no_part ↦ rw no_part (omega (arith, within_where h came.1 p))
    ]
within_where (_ ∷ h) came p = omega (arith, within_where h came p)

-- what is consumed on one stream is within what came on all
pub within_all : (h : History) → ConsumesWhatCame h → (id n : ℕ) → total (consumed_on id) h + n ≤ total (arrived_on id) h → total consumed h + n ≤ total arrived h
within_all h came id n within =
    let all : ℕ → Bool = λ _. true in
    let a = total_sum arrived (arrived_where all) discarded arrived_kinds h in
    let k = total_sum consumed (consumed_where all) discarded consumed_kinds h in
    let a' = total_sum (arrived_where all) (arrived_where (but all id)) (arrived_on id) (arrived_parts all id refl) h in
    let k' = total_sum (consumed_where all) (consumed_where (but all id)) (consumed_on id) (consumed_parts all id refl) h in
    omega (arith, a, k, a', k', within, within_where h came (but all id))

module _ (h : History) (b f : ℕ) (c : Connection) (rows : List Stream) (is : AreOf h b f c rows) (id n : ℕ) (within : total (consumed_on id) h + n ≤ total (arrived_on id) h) where
  pub connection_has_place : c.receiving.room + c.receiving.consumed + n ≤ 65535
  connection_has_place = omega (arith, is.connection_is.receiving.room, is.connection_is.receiving.consumed_is, within_all h is.came_first id n within)

  pub row_has_place : (row : Stream) → IsRow h id row → row.receiving.room + row.receiving.consumed + n ≤ 65535
  row_has_place row is_row = omega (arith, is_row.receiving.room, is_row.receiving.consumed_is, within)

  -- the stream isn't live any more
  pub consumed_elsewhere : Before h b f c rows → All (λ row. row.id ≢ id) rows → (c' : Connection) → IsConnection (Consumed id n ∷ h) c' → AreOf (Consumed id n ∷ h) b f c' rows
  consumed_elsewhere before none c' connection =
      after_none h b f c rows before (Consumed id n) refl refl
      (λ k d below. of_another (Consumed id n) _ (λ e. none k d below (sym e)))
      (λ j above. elim (cases_eq id j) [
        | inl same ↦
            let fresh = is.later_are_fresh j above in
            let i = subst (λ k. total (arrived_on k) h ≡ 0) (sym same) fresh.no_arrived in
            let nothing : n ≡ 0 = omega (arith, i, within) in
            has_no_part (Consumed id n) j (λ earlier. refl) refl (rw (nothing, eq-eqb id j same) refl) refl refl refl
        | inr differs ↦ of_another (Consumed id n) j differs
      ])
      f is.first_is c' connection (within, is.came_first) tt

-- on one stream
pub within_one : (h : History) → ConsumesWhatCame h → (id : ℕ) → total (consumed_on id) h ≤ total (arrived_on id) h
within_one [] came id = omega arith
within_one (Consumed s n ∷ h) came id =
    elim (cases_eq s id) [
      | inl same ↦ let first = subst (λ j. total (consumed_on j) h + n ≤ total (arrived_on j) h) same came.0 in rw (eq-eqb s id same) (omega arith)
      | inr differs ↦ rw (ne_eqb s id differs) (omega (arith, within_one h came.1 id))
    ]
within_one (_ ∷ h) came id = omega (arith, within_one h came id)
