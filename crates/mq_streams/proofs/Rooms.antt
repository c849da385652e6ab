-- The answers, by what the rows and windows say.
use Rattle.std.proofs.Common.{◌≡◌, ℕ, ◌+◌, ◌-◌, ◌<◌, ◌∷◌, [], List, All, Any, Bool, true, false, length, get_or, refl, sym, ap, ◌∙◌, subst, arith, zero, suc, min}
use Rattle.std.specs.List.{list_all}
use Rattle.std.proofs.lemmas.List.{get_or_default}
use Rattle.mq_streams.specs.History.{History, total, extended_on, sent_on, initial}
use Rattle.mq_streams.specs.Balance.{IsBalance, stays_within}
use Rattle.mq_streams.specs.Answers.{receive_window, connection_receive_window, send_window, connection_send_window, to_give_back, connection_to_give_back, room_of, can_shift}
use Rattle.mq_streams.specs.Rows.{CanShift}
use Rattle.mq_streams.specs.Stand.{IsRow, AreOf}
use Rattle.mq_streams.specs.declared.stream.Stream.{Stream}
use Rattle.mq_streams.specs.declared.connection.Connection.{Connection}
use Rattle.mq_streams.proofs.Live.{ids}

module _ (h : History) (b f : ℕ) (c : Connection) (rows : List Stream) (is : AreOf h b f c rows) where
  -- the room of a stream's row is the lesser of the two windows
  pub room_is : (id : ℕ) (row : Stream) → IsRow h id row → (room : ℕ) → ((extended sent : ℕ) → IsBalance row.balance extended sent → room ≡ min (f + extended - sent) c.room) → room ≡ room_of id h
  room_is id row is_row room exact =
      let e = total (extended_on id) h in
      let s = total (sent_on id) h in
      let limit : c.room ≡ connection_send_window h = let r = is.connection_is.room in omega arith in
      exact e s is_row.balance ∙ ap (λ (first : ℕ). min (first + e - s) c.room) is.first_is ∙ ap (λ (r : ℕ). min (send_window id h) r) limit

  pub window_is : c.receiving.room ≡ connection_receive_window h
  window_is = let r = is.connection_is.receiving.room in omega arith

  pub stream_window_is : (id : ℕ) (row : Stream) → IsRow h id row → row.receiving.room ≡ receive_window id h
  stream_window_is id row is_row = let r = is_row.receiving.room in omega arith

  pub waits_is : c.receiving.consumed ≡ connection_to_give_back h
  waits_is = let r = is.connection_is.receiving.consumed_is in omega arith

  pub stream_waits_is : (id : ℕ) (row : Stream) → IsRow h id row → row.receiving.consumed ≡ to_give_back id h
  stream_waits_is id row is_row = let r = is_row.receiving.consumed_is in omega arith

  -- each live window is within the largest, or one isn't
  shifts_all : (value : ℕ) (p : ℕ → Bool) (rs : List Stream) → ((k : ℕ) (d : Stream) → k < length rs → p (get_or rs k d).id ≡ true) → list_all p (ids rs) ≡ true
  shifts_all value p [] all = refl
  shifts_all value p (r ∷ rs) all = rw (all 0 r (omega arith)) (shifts_all value p rs (λ k d below. all (suc k) d (omega arith)))

  shifts_not : (p : ℕ → Bool) (rs : List Stream) (k : ℕ) → k < length rs → ((d : Stream) → p (get_or rs k d).id ≡ false) → list_all p (ids rs) ≡ false
  shifts_not p [] k below no_shift = absurd (omega arith)
  shifts_not p (r ∷ rs) zero below no_shift = rw (no_shift r) refl
  shifts_not p (r ∷ rs) (suc k) below no_shift = grind (arith, shifts_not p rs k (omega arith) no_shift)

  pub can_shift_is : (value : ℕ) → All (λ row. CanShift value row true) rows → can_shift value h ≡ true
  can_shift_is value all =
      let p = λ (id : ℕ). stays_within (value + total (extended_on id) h) (total (sent_on id) h) in
      rw (← is.live_are) (shifts_all value p rows (λ k d below. sym (all k d below _ _ (is.each k d below).balance)))

  pub can_not_shift_is : (value : ℕ) → Any (λ row. CanShift value row false) rows → can_shift value h ≡ false
  can_not_shift_is value one =
      let p = λ (id : ℕ). stays_within (value + total (extended_on id) h) (total (sent_on id) h) in
      let k = one.0 in
      let row = one.1 in
      let at = one.3 in
      let here : (d : Stream) → get_or rows k d ≡ row = λ d. get_or_default rows k d row one.2 ∙ at in
      rw (← is.live_are) (shifts_not p rows k one.2 (λ d. let e : CanShift value (get_or rows k d) false = subst (λ (r : Stream). CanShift value r false) (sym (here d)) one.4 in sym (e _ _ (is.each k d one.2).balance)))

  -- what a row says of a grant
  pub grows_within : (id grow : ℕ) (row : Stream) → IsRow h id row → (within : Bool) → ((extended sent : ℕ) → IsBalance row.balance extended sent → stays_within (f + extended + grow) sent ≡ within) →
      stays_within (initial h + total (extended_on id) h + grow) (total (sent_on id) h) ≡ within
  grows_within id grow row is_row within exact =
      ap (λ (first : ℕ). stays_within (first + total (extended_on id) h + grow) (total (sent_on id) h)) (sym is.first_is) ∙ exact _ _ is_row.balance
