-- On which answers of the streams a stream is live.
use Rattle.std.proofs.Common.{◌≡◌, ℕ, ◌+◌, Bool, true, false, not, ◌&&◌, ◌||◌, refl, eqb, ltb, cond}
use Rattle.std.specs.Bool.{IsTrue}
use Rattle.mq_streams.specs.History.{History, first_window, total, extended_on, sent_on, sent, initial, is_live, has_finished}
use Rattle.mq_streams.specs.Balance.{stays_within}
use Rattle.mq_streams.specs.Answers.{is_idle, grant_of, receive_window, connection_receive_window, count_of}
use Rattle.mq_streams.specs.declared.answers.Counted.{Counted}
use Rattle.mq_streams.specs.declared.answers.Counted.TheVariants as counted
use Rattle.mq_streams.specs.declared.answers.Granted.{Granted}
use Rattle.mq_streams.specs.declared.answers.Granted.TheVariants as granted

-- the tests of DATA, one after another
abbrev pub by_tests : Bool → Bool → Bool → Bool → Bool → Counted
by_tests a b l f w = cond a counted.OverConnection (cond b counted.Idle (cond (not l || f) counted.Ignored (cond w counted.OverStream counted.Yes)))

yes_by : (a b l f w : Bool) → by_tests a b l f w ≡ counted.Yes → l ≡ true
yes_by true b l f w e = absurd cc
yes_by false true l f w e = absurd cc
yes_by false false true f w e = refl
yes_by false false false f w e = absurd cc

over_by : (a b l f w : Bool) → by_tests a b l f w ≡ counted.OverStream → l ≡ true
over_by true b l f w e = absurd cc
over_by false true l f w e = absurd cc
over_by false false true f w e = refl
over_by false false false f w e = absurd cc

module _ (h : History) (id size : ℕ) where
  pub taken_on_live : count_of id size h ≡ counted.Yes → IsTrue (is_live id h)
  taken_on_live e = yes_by (ltb (connection_receive_window h) size) (is_idle id h) (is_live id h) (has_finished id h) (ltb (receive_window id h) size) e

  pub over_on_live : count_of id size h ≡ counted.OverStream → IsTrue (is_live id h)
  over_on_live e = over_by (ltb (connection_receive_window h) size) (is_idle id h) (is_live id h) (has_finished id h) (ltb (receive_window id h) size) e

-- the tests of WINDOW_UPDATE
abbrev by_grants : Bool → Bool → Bool → Bool → Bool → Bool → Granted
by_grants i z l n a b =
    cond i granted.Idle (cond (not z && not l) granted.Ignored (cond n granted.Zero (cond z (cond a granted.Taken granted.Over) (cond b granted.Taken granted.Over))))

zero_by : (i z l n a b : Bool) → by_grants i z l n a b ≡ granted.Zero → (z || l) ≡ true
zero_by true z l n a b e = absurd cc
zero_by false true l n a b e = refl
zero_by false false true n a b e = refl
zero_by false false false n a b e = absurd cc

exceeds_by : (i z l n a b : Bool) → by_grants i z l n a b ≡ granted.Over → (z || l) ≡ true
exceeds_by true z l n a b e = absurd cc
exceeds_by false true l n a b e = refl
exceeds_by false false true n a b e = refl
exceeds_by false false false n a b e = absurd cc

module _ (h : History) (id grow : ℕ) where
  pub zero_on_live : grant_of id grow h ≡ granted.Zero → IsTrue (eqb id 0 || is_live id h)
  zero_on_live e = zero_by (is_idle id h) (eqb id 0) (is_live id h) (eqb grow 0)
      (stays_within (first_window + total (extended_on 0) h + grow) (total sent h)) (stays_within (initial h + total (extended_on id) h + grow) (total (sent_on id) h)) e

  pub exceeds_on_live : grant_of id grow h ≡ granted.Over → IsTrue (eqb id 0 || is_live id h)
  exceeds_on_live e = exceeds_by (is_idle id h) (eqb id 0) (is_live id h) (eqb grow 0)
      (stays_within (first_window + total (extended_on 0) h + grow) (total sent h)) (stays_within (initial h + total (extended_on id) h + grow) (total (sent_on id) h)) e
