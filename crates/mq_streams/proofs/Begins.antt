-- A stream that begins, is turned away or closes.
use Rattle.std.proofs.Common.{◌≡◌, ◌≢◌, ℕ, ◌<◌, ◌++◌, ◌∷◌, [], List, All, not, length, get_or, refl, sym, ap, ◌∙◌, subst, arith, eqb, zero, suc}
use Rattle.std.specs.List.{filter, remove}
use Rattle.std.proofs.lemmas.Bool.{eq-eqb, ne_eqb}
use Rattle.std.proofs.lemmas.List.{map_push}
use Rattle.std.proofs.lemmas.List.Elements.{All-tail, All-push}
use Rattle.mq_streams.specs.History.{History, Opened, TurnedAway, Dropped}
use Rattle.mq_streams.specs.Stand.{IsRow, IsFresh, IsConnection, AreOf}
use Rattle.mq_streams.specs.declared.stream.Stream.{Stream}
use Rattle.mq_streams.specs.declared.connection.Connection.{Connection}
use Rattle.mq_streams.proofs.Live.{ids}
use Rattle.mq_streams.proofs.Place.{all_without}
use Rattle.mq_streams.proofs.Steps.{Before, HasNoPart, has_no_part, stays_fresh, each_stays, apart}

-- no id is this one, so none is left out
none_out : (rows : List Stream) (id : ℕ) → All (λ row. row.id ≢ id) rows → filter (λ j. not (eqb j id)) (ids rows) ≡ ids rows
none_out [] id none = refl
none_out (row ∷ rows) id none = rw (ne_eqb row.id id (none 0 row (omega arith))) (ap (λ (js : List ℕ). row.id ∷ js) (none_out rows id (All-tail (λ (r : Stream). r.id ≢ id) row rows none)))

-- the ids without the one of a place
one_out : (rows : List Stream) (at id : ℕ) → at < length rows → ((d : Stream) → (get_or rows at d).id ≡ id) → ((k : ℕ) (d : Stream) → k < length rows → k ≢ at → (get_or rows k d).id ≢ id) →
    ids (remove rows at) ≡ filter (λ j. not (eqb j id)) (ids rows)
one_out [] at id within here others = absurd (omega arith)
one_out (row ∷ rows) zero id within here others =
    rw (eq-eqb row.id id (here row)) (sym (none_out rows id (λ k d below. others (suc k) d (omega arith) (omega arith))))
one_out (row ∷ rows) (suc at) id within here others =
    rw (ne_eqb row.id id (others 0 row (omega arith) (omega arith)))
    (ap (λ (js : List ℕ). row.id ∷ js) (one_out rows at id (omega arith) here (λ k d below differs. others (suc k) d (omega arith) (omega arith))))

module _ (h : History) (b f : ℕ) (c : Connection) (rows : List Stream) (before : Before h b f c rows) where
  pub after_drop : (id at : ℕ) → (within : at < length rows) → ((d : Stream) → (get_or rows at d).id ≡ id) → (b' : ℕ) → b' ≡ b → (rows' : List Stream) → rows' ≡ remove rows at →
      IsConnection (Dropped id ∷ h) c → AreOf (Dropped id ∷ h) b' f c rows'
  after_drop id at within here b' b_is rows' rows_are connection =
      let is = before.is in
      let event = Dropped id in
      let quiet : (j : ℕ) → HasNoPart event j = λ j. has_no_part event j (λ earlier. refl) refl refl refl refl refl in
      let each = each_stays h event rows before.rise is.each (λ k d below. quiet _) in
      let others : (k : ℕ) (d : Stream) → k < length rows → k ≢ at → (get_or rows k d).id ≢ id = λ k d below differs e. apart rows before.rise k at d below within differs (e ∙ sym (here d)) in
      record {
        begun_is = b_is ∙ is.begun_is;
        first_is = is.first_is;
        live_are = ap ids rows_are ∙ one_out rows at id within here others ∙ ap (λ (js : List ℕ). filter (λ j. not (eqb j id)) js) is.live_are;
        each = rw rows_are (all_without rows at within (λ (row : Stream). IsRow (event ∷ h) row.id row) each);
        connection_is = connection;
        later_are_fresh = λ j above. stays_fresh h event j (quiet j) (is.later_are_fresh j (omega arith));
        came_first = is.came_first;
        kept = (tt, is.kept);
      }

  pub after_open : (id : ℕ) → b < id → (b' : ℕ) → b' ≡ id → (rows' : List Stream) (row : Stream) → rows' ≡ rows ++ row ∷ [] → row.id ≡ id → (IsFresh h id → IsRow (Opened id ∷ h) id row) →
      IsConnection (Opened id ∷ h) c → AreOf (Opened id ∷ h) b' f c rows'
  after_open id above b' b_is rows' row rows_are id_is fresh connection =
      let is = before.is in
      let event = Opened id in
      let quiet : (j : ℕ) → HasNoPart event j = λ j. has_no_part event j (λ earlier. refl) refl refl refl refl refl in
      let each = each_stays h event rows before.rise is.each (λ k d below. quiet _) in
      let new : IsRow (event ∷ h) row.id row = subst (λ j. IsRow (event ∷ h) j row) (sym id_is) (fresh (is.later_are_fresh id above)) in
      record {
        begun_is = let e = is.begun_is in omega arith;
        first_is = is.first_is;
        live_are = ap ids rows_are ∙ map_push (λ (r : Stream). r.id) rows row ∙ ap (λ (j : ℕ). ids rows ++ j ∷ []) id_is ∙ ap (λ (js : List ℕ). js ++ id ∷ []) is.live_are;
        each = rw rows_are (All-push (λ (r : Stream). IsRow (event ∷ h) r.id r) rows row each new);
        connection_is = connection;
        later_are_fresh = λ j later. stays_fresh h event j (quiet j) (is.later_are_fresh j (omega arith));
        came_first = is.came_first;
        kept = (tt, is.kept);
      }

  pub after_turning_away : (id : ℕ) → b < id → (b' : ℕ) → b' ≡ id → (rows' : List Stream) → rows' ≡ rows → IsConnection (TurnedAway id ∷ h) c → AreOf (TurnedAway id ∷ h) b' f c rows'
  after_turning_away id above b' b_is rows' rows_are connection =
      let is = before.is in
      let event = TurnedAway id in
      let quiet : (j : ℕ) → HasNoPart event j = λ j. has_no_part event j (λ earlier. refl) refl refl refl refl refl in
      record {
        begun_is = let e = is.begun_is in omega arith;
        first_is = is.first_is;
        live_are = ap ids rows_are ∙ is.live_are;
        each = rw rows_are (each_stays h event rows before.rise is.each (λ k d below. quiet _));
        connection_is = connection;
        later_are_fresh = λ j later. stays_fresh h event j (quiet j) (is.later_are_fresh j (omega arith));
        came_first = is.came_first;
        kept = (tt, is.kept);
      }
