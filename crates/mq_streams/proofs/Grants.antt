-- Which answer a WINDOW_UPDATE gets, and DATA.
use Rattle.std.proofs.Common.{◌≡◌, ℕ, ◌+◌, Bool, true, false, not, ◌&&◌, ◌||◌, refl, ap, ◌∙◌, eqb, ltb, cond}
use Rattle.mq_streams.specs.History.{History, total, extended_on, sent_on, initial, is_live, has_finished}
use Rattle.mq_streams.specs.Balance.{stays_within}
use Rattle.mq_streams.specs.Answers.{is_idle, grant_of, receive_window, connection_receive_window, stream_count_of, count_of}
use Rattle.mq_streams.specs.declared.answers.Granted.{Granted}
use Rattle.mq_streams.specs.declared.answers.Granted.TheVariants as granted
use Rattle.mq_streams.specs.declared.answers.Counted.TheVariants as counted

pub chosen : {X : Type 0} (b t : Bool) (x y : X) → b ≡ t → cond b x y ≡ cond t x y
chosen b t x y e = rw e refl

module _ (h : History) (id grow : ℕ) where
  -- the tests, one after another
  pub idle_grant : is_idle id h ≡ true → grant_of id grow h ≡ granted.Idle
  idle_grant idle = chosen (is_idle id h) true _ _ idle

  pub ignored_grant : is_idle id h ≡ false → eqb id 0 ≡ false → is_live id h ≡ false → grant_of id grow h ≡ granted.Ignored
  ignored_grant idle some dead = chosen (is_idle id h) false _ _ idle ∙ chosen (not (eqb id 0) && not (is_live id h)) true _ _ (rw (some, dead) refl)

  live_grant : is_idle id h ≡ false → eqb id 0 ≡ false → is_live id h ≡ true → grant_of id grow h ≡ cond (eqb grow 0) granted.Zero (cond (stays_within (initial h + total (extended_on id) h + grow) (total (sent_on id) h)) granted.Taken granted.Over)
  live_grant idle some lives =
      chosen (is_idle id h) false _ _ idle
      ∙ chosen (not (eqb id 0) && not (is_live id h)) false _ _ (rw (some, lives) refl)
      ∙ ap (λ (g : Granted). cond (eqb grow 0) granted.Zero g) (chosen (eqb id 0) false _ _ some)

  pub zero_grant : is_idle id h ≡ false → eqb id 0 ≡ false → is_live id h ≡ true → eqb grow 0 ≡ true → grant_of id grow h ≡ granted.Zero
  zero_grant idle some lives nothing = live_grant idle some lives ∙ chosen (eqb grow 0) true _ _ nothing

  pub some_grant : is_idle id h ≡ false → eqb id 0 ≡ false → is_live id h ≡ true → eqb grow 0 ≡ false → (within : Bool) → stays_within (initial h + total (extended_on id) h + grow) (total (sent_on id) h) ≡ within →
      grant_of id grow h ≡ cond within granted.Taken granted.Over
  some_grant idle some lives nothing within is = live_grant idle some lives ∙ chosen (eqb grow 0) false _ _ nothing ∙ chosen (stays_within (initial h + total (extended_on id) h + grow) (total (sent_on id) h)) within _ _ is

module _ (h : History) (id size : ℕ) where
  pub over_count : ltb (connection_receive_window h) size ≡ true → count_of id size h ≡ counted.OverConnection
  over_count over = chosen (ltb (connection_receive_window h) size) true _ _ over

  pub idle_count : ltb (connection_receive_window h) size ≡ false → is_idle id h ≡ true → count_of id size h ≡ counted.Idle
  idle_count within idle = chosen (ltb (connection_receive_window h) size) false _ _ within ∙ chosen (is_idle id h) true _ _ idle

  pub begun_count : ltb (connection_receive_window h) size ≡ false → is_idle id h ≡ false → count_of id size h ≡ stream_count_of id size h
  begun_count within idle = chosen (ltb (connection_receive_window h) size) false _ _ within ∙ chosen (is_idle id h) false _ _ idle

  pub dead_count : is_live id h ≡ false → stream_count_of id size h ≡ counted.Ignored
  dead_count dead = chosen (not (is_live id h) || has_finished id h) true _ _ (rw dead refl)

  pub ended_count : is_live id h ≡ true → has_finished id h ≡ true → stream_count_of id size h ≡ counted.Ignored
  ended_count lives finished = chosen (not (is_live id h) || has_finished id h) true _ _ (rw (lives, finished) refl)

  pub open_count : is_live id h ≡ true → has_finished id h ≡ false → (over : Bool) → ltb (receive_window id h) size ≡ over → stream_count_of id size h ≡ cond over counted.OverStream counted.Yes
  open_count lives finished over is = chosen (not (is_live id h) || has_finished id h) false _ _ (rw (lives, finished) refl) ∙ chosen (ltb (receive_window id h) size) over _ _ is
