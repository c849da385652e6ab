-- What one more event leaves: the rows and sums of the other streams, and what a row becomes.
use Rattle.std.proofs.Common.{◌≡◌, ◌≢◌, ℕ, ◌+◌, ◌<◌, ◌≤◌, ◌∷◌, [], List, All, length, get_or, set, map, refl, sym, ap, ◌∙◌, subst, inl, inr, arith, eqb, cond, zero, suc}
use Rattle.std.proofs.lemmas.Bool.{cases_lt, cases_eq, ne_eqb}
use Rattle.std.proofs.lemmas.List.{get_or-set_same, get_or-set_other, length-set}
use Rattle.mq_streams.specs.History.{Event, History, Opened, TurnedAway, Arrived, Discarded, Consumed, GivenBack, Extended, Shifted, Sent, Finished, Dropped, total, arrived_on, consumed_on, given_back_on, extended_on, sent_on, initial, highest, live, has_finished}
use Rattle.mq_streams.specs.Stand.{IsRow, IsFresh, IsConnection, AreOf, ConsumesWhatCame}
use Rattle.mq_streams.specs.Windows.{KeepsTo}
use Rattle.mq_streams.specs.declared.stream.Stream.{Stream}
use Rattle.mq_streams.specs.declared.connection.Connection.{Connection}
use Rattle.mq_streams.specs.Rows.{Rise, AreUpTo}

-- the event adds nothing to a stream's sums
pub record HasNoPart (event : Event) (id : ℕ) : Type 0 where
  pub finished : (h : History) → has_finished id (event ∷ h) ≡ has_finished id h
  pub arrives : arrived_on id event ≡ 0
  pub consumes : consumed_on id event ≡ 0
  pub gives_back : given_back_on id event ≡ 0
  pub extends : extended_on id event ≡ 0
  pub sends : sent_on id event ≡ 0

-- the stream, or 0, that an event is of
abbrev pub stream_of : Event → ℕ
stream_of (Opened s) = s
stream_of (TurnedAway s) = s
stream_of (Arrived s n) = s
stream_of (Discarded s n) = s
stream_of (Consumed s n) = s
stream_of (GivenBack s n) = s
stream_of (Extended s n) = s
stream_of (Shifted value) = 0
stream_of (Sent s n) = s
stream_of (Finished s) = s
stream_of (Dropped s) = s

picked : (s id n : ℕ) → s ≢ id → cond (eqb s id) n 0 ≡ 0
picked s id n other = rw (ne_eqb s id other) refl

pub of_another : (event : Event) (id : ℕ) → stream_of event ≢ id → HasNoPart event id
of_another (Opened s) id other = record { finished = λ h. refl; arrives = refl; consumes = refl; gives_back = refl; extends = refl; sends = refl }
of_another (TurnedAway s) id other = record { finished = λ h. refl; arrives = refl; consumes = refl; gives_back = refl; extends = refl; sends = refl }
of_another (Arrived s n) id other = record { finished = λ h. refl; arrives = picked s id n other; consumes = refl; gives_back = refl; extends = refl; sends = refl }
of_another (Discarded s n) id other = record { finished = λ h. refl; arrives = refl; consumes = refl; gives_back = refl; extends = refl; sends = refl }
of_another (Consumed s n) id other = record { finished = λ h. refl; arrives = refl; consumes = picked s id n other; gives_back = refl; extends = refl; sends = refl }
of_another (GivenBack s n) id other = record { finished = λ h. refl; arrives = refl; consumes = refl; gives_back = picked s id n other; extends = refl; sends = refl }
of_another (Extended s n) id other = record { finished = λ h. refl; arrives = refl; consumes = refl; gives_back = refl; extends = picked s id n other; sends = refl }
of_another (Shifted value) id other = record { finished = λ h. refl; arrives = refl; consumes = refl; gives_back = refl; extends = refl; sends = refl }
of_another (Sent s n) id other = record { finished = λ h. refl; arrives = refl; consumes = refl; gives_back = refl; extends = refl; sends = picked s id n other }
of_another (Finished s) id other = record { finished = λ h. rw (ne_eqb s id other) refl; arrives = refl; consumes = refl; gives_back = refl; extends = refl; sends = refl }
of_another (Dropped s) id other = record { finished = λ h. refl; arrives = refl; consumes = refl; gives_back = refl; extends = refl; sends = refl }

-- these events have no part in any stream's sums
pub has_no_part : (event : Event) (id : ℕ) → ((h : History) → has_finished id (event ∷ h) ≡ has_finished id h) → arrived_on id event ≡ 0 → consumed_on id event ≡ 0 → given_back_on id event ≡ 0 → extended_on id event ≡ 0 → sent_on id event ≡ 0 → HasNoPart event id
has_no_part event id f a c g e s = record { finished = f; arrives = a; consumes = c; gives_back = g; extends = e; sends = s }

none_more : (a b : ℕ) → a ≡ 0 → a + b ≡ b
none_more a b none = omega arith

module _ (h : History) (event : Event) (id : ℕ) (none : HasNoPart event id) where
  pub row_stays : (row : Stream) → IsRow h id row → IsRow (event ∷ h) id row
  row_stays row is = record {
    ended = is.ended ∙ sym (none.finished h);
    receiving = record { room = omega (arith, is.receiving.room, none.arrives, none.gives_back); consumed_is = omega (arith, is.receiving.consumed_is, none.consumes, none.gives_back) };
    balance = rw (none_more (extended_on id event) (total (extended_on id) h) none.extends, none_more (sent_on id event) (total (sent_on id) h) none.sends) is.balance;
  }

  pub stays_fresh : IsFresh h id → IsFresh (event ∷ h) id
  stays_fresh is = record {
    open_yet = none.finished h ∙ is.open_yet;
    no_arrived = omega (arith, is.no_arrived, none.arrives);
    no_consumed = omega (arith, is.no_consumed, none.consumes);
    no_given_back = omega (arith, is.no_given_back, none.gives_back);
    no_extended = omega (arith, is.no_extended, none.extends);
    no_sent = omega (arith, is.no_sent, none.sends);
  }

-- ids that rise are apart
pub apart : (rows : List Stream) → Rise rows → (i j : ℕ) (d : Stream) → i < length rows → j < length rows → i ≢ j → (get_or rows i d).id ≢ (get_or rows j d).id
apart rows rise i j d in_i in_j other same =
    elim (cases_lt i j) [
      | inl less ↦ let l = rise i j d less in_j in omega arith
      | inr more ↦ let l = rise j i d (omega arith) in_i in omega arith
    ]

module _ (h : History) (event : Event) (rows : List Stream) (rise : Rise rows) (each : All (λ row. IsRow h row.id row) rows) where
  -- a row is put into the place of the event's stream
  pub each_put : (at : ℕ) → at < length rows → (new : Stream) → ((d : Stream) → (get_or rows at d).id ≡ new.id) → stream_of event ≡ new.id → IsRow (event ∷ h) new.id new →
      All (λ row. IsRow (event ∷ h) row.id row) (set rows at new)
  each_put at within new same of is k d below =
      let short = length-set rows at new in
      elim (cases_eq k at) [
        | inl here ↦ rw (here, get_or-set_same rows at new d within) is
        | inr elsewhere ↦
            let old = get_or rows k d in
            let differs : stream_of event ≢ old.id = λ e. apart rows rise k at d (omega arith) within elsewhere (sym e ∙ of ∙ sym (same d)) in
            rw (get_or-set_other rows at k new d elsewhere) (row_stays h event old.id (of_another event old.id differs) old (each k d (omega arith)))
      ]

  -- no row changes
  pub each_stays : All (λ row. HasNoPart event row.id) rows → All (λ row. IsRow (event ∷ h) row.id row) rows
  each_stays none k d below = let row = get_or rows k d in row_stays h event row.id (none k d below) row (each k d below)

-- the ids stay where a row of the same stream is put
pub ids_put : (rows : List Stream) (at : ℕ) (new : Stream) → ((d : Stream) → (get_or rows at d).id ≡ new.id) → map (λ (row : Stream). row.id) (set rows at new) ≡ map (λ (row : Stream). row.id) rows
ids_put [] at new same = refl
ids_put (row ∷ rows) zero new same = ap (λ (id : ℕ). id ∷ map (λ (row : Stream). row.id) rows) (sym (same new))
ids_put (row ∷ rows) (suc at) new same = ap (λ (ids : List ℕ). row.id ∷ ids) (ids_put rows at new same)

-- what holds of the parts before an event
pub record Before (h : History) (b f : ℕ) (c : Connection) (rows : List Stream) : Type 0 where
  pub is : AreOf h b f c rows
  pub rise : Rise rows
  pub upto : AreUpTo b rows

-- the row of the event's stream is replaced
pub record Puts (h : History) (event : Event) (rows rows' : List Stream) (new : Stream) (c : Connection) : Type 0 where
  pub at : ℕ
  pub id : ℕ
  pub within : at < length rows
  pub here : (d : Stream) → (get_or rows at d).id ≡ id
  pub new_id : new.id ≡ id
  pub rows_are : rows' ≡ set rows at new
  pub of : stream_of event ≡ id
  pub row : IsRow (event ∷ h) id new
  pub connection : IsConnection (event ∷ h) c
  pub came : ConsumesWhatCame (event ∷ h)
  pub keeps : KeepsTo event h

-- the event begins no stream, closes none, and is no new initial window
pub record LeavesStreams (h : History) (event : Event) : Type 0 where
  pub highest_is : highest (event ∷ h) ≡ highest h
  pub initial_is : initial (event ∷ h) ≡ initial h
  pub live_is : live (event ∷ h) ≡ live h

pub after_put : (h : History) (b f : ℕ) (c : Connection) (rows : List Stream) → Before h b f c rows → (event : Event) → LeavesStreams h event →
    (b' : ℕ) → b' ≡ b → (c' : Connection) (rows' : List Stream) (new : Stream) → Puts h event rows rows' new c' → AreOf (event ∷ h) b' f c' rows'
after_put h b f c rows before event leaves b' b_is c' rows' new puts =
    let is = before.is in
    let low : puts.id ≤ b = let l = before.upto puts.at new puts.within in let e = puts.here new in omega arith in
    let same : (d : Stream) → (get_or rows puts.at d).id ≡ new.id = λ d. puts.here d ∙ sym puts.new_id in
    let row : IsRow (event ∷ h) new.id new = subst (λ j. IsRow (event ∷ h) j new) (sym puts.new_id) puts.row in
    record {
      begun_is = b_is ∙ is.begun_is ∙ sym leaves.highest_is;
      first_is = is.first_is ∙ sym leaves.initial_is;
      live_are = ap (λ (rs : List Stream). map (λ (row : Stream). row.id) rs) puts.rows_are ∙ ids_put rows puts.at new same ∙ is.live_are ∙ sym leaves.live_is;
      each = rw puts.rows_are (each_put h event rows before.rise is.each puts.at puts.within new same (puts.of ∙ sym puts.new_id) row);
      connection_is = puts.connection;
      later_are_fresh = λ id above. stays_fresh h event id (of_another event id (λ e. let o = puts.of in omega arith)) (is.later_are_fresh id (omega arith));
      came_first = puts.came;
      kept = (puts.keeps, is.kept);
    }

-- the row that was found, by the history
pub found_row : (h : History) (b f : ℕ) (c : Connection) (rows : List Stream) → AreOf h b f c rows → (at : ℕ) → at < length rows → (old : Stream) → ((d : Stream) → get_or rows at d ≡ old) →
    (id : ℕ) → ((d : Stream) → (get_or rows at d).id ≡ id) → IsRow h id old
found_row h b f c rows is at within old old_is id here =
    let r : IsRow h (get_or rows at old).id (get_or rows at old) = is.each at old within in
    let s : IsRow h id (get_or rows at old) = subst (λ j. IsRow h j (get_or rows at old)) (here old) r in
    subst (λ (row : Stream). IsRow h id row) (old_is old) s

-- no row changes
pub after_none : (h : History) (b f : ℕ) (c : Connection) (rows : List Stream) → Before h b f c rows → (event : Event) →
    highest (event ∷ h) ≡ highest h → live (event ∷ h) ≡ live h →
    All (λ row. HasNoPart event row.id) rows → ((id : ℕ) → b < id → HasNoPart event id) →
    (f' : ℕ) → f' ≡ initial (event ∷ h) → (c' : Connection) → IsConnection (event ∷ h) c' → ConsumesWhatCame (event ∷ h) → KeepsTo event h → AreOf (event ∷ h) b f' c' rows
after_none h b f c rows before event highest_is live_is none later f' f_is c' connection came keeps =
    let is = before.is in
    record {
      begun_is = is.begun_is ∙ sym highest_is;
      first_is = f_is;
      live_are = is.live_are ∙ sym live_is;
      each = each_stays h event rows before.rise is.each none;
      connection_is = connection;
      later_are_fresh = λ id above. stays_fresh h event id (later id above) (is.later_are_fresh id above);
      came_first = came;
      kept = (keeps, is.kept);
    }

-- a row is no connection's
pub not_zero : (row : Stream) → 0 ≢ row.id
not_zero row e = let above = row.is_no_connection in omega arith
