use Rattle.std.proofs.Common.{◌≡◌, ℕ, suc, ◌-◌, ◌++◌, List, [], Ok, refl, sym, ◌∙◌, subst, arith, append-nil}
use Rattle.std.proofs.lemmas.Result.{err_from_is_err_and}
use Rattle.mq_play.specs.Text.{printed, More}
use Rattle.mq_replay.proofs.Round.{round_none, round_more, round_over, round_done, round_spent, round_stopped, more_said, more_unsaid}
use Rattle.mq_replay.specs.Playing.{GoesTo}
use Rattle.mq_replay.proofs.turns.take_turns.Goals as goal

pub loop-left-init : goal.loop-left-init
loop-left-init g c = ([], g.met.L.Listener.hears_none _, (λ s is. (s, is, round_none s c.args.count)), refl)

pub loop-left-preserved : goal.loop-left-preserved
loop-left-preserved g c =
    let inv = c.loop-left.invariant in
    let step = c.in_ok-next.ensures.first in
    let at = c.loop-left.at in
    let left = c.loop-left.left in
    let e : left ≡ suc (left - 1) = omega arith in (
      inv.0 ++ step.0,
      g.met.L.Listener.hears_more _ _ _ inv.0 step.0 inv.1 step.1,
      (λ s is.
          let far = inv.2 s is in
          let told = rw c.in-Some.is at (step.2 far.0 far.1 far.2.within) in
          (told.1, told.5, round_more s far.0 told.1 told.0 c.args.count at left (left - 1) c.in-Some.next inv.0 step.0 e far.2 told.2 told.3 told.4)),
      c.in_ok-next.ensures.counts ∙ inv.3,
    )

pub returns-in_err-next-clause-goes : goal.returns-in_err-next-clause-goes
returns-in_err-next-clause-goes g c =
    let inv = c.loop-left.invariant in
    let step = c.in_err-next.ensures.first in
    let at = c.loop-left.at in
    let left = c.loop-left.left in
    let e : left ≡ suc (left - 1) = omega arith in (
      inv.0 ++ step.0,
      g.met.L.Listener.hears_more _ _ _ inv.0 step.0 inv.1 step.1,
      λ s is.
          let far = inv.2 s is in
          let w = c.take_turn.new.world in
          let p = err_from_is_err_and c.from_residual.result c.from_residual.ensures.1 in
          rw (p.1, p.2) (round_stopped w w s far.0 c.args.count at left (left - 1) inv.0 step.0 c.in_err-next.field-0.0 e far.2 (step.2 far.0 far.1 far.2.within)),
    )

pub returns-in-None-clause-goes : goal.returns-in-None-clause-goes
returns-in-None-clause-goes g c =
    let inv = c.loop-left.invariant in
    let step = c.in_ok-next.ensures.first in
    let at = c.loop-left.at in
    let left = c.loop-left.left in
    let e : left ≡ suc (left - 1) = omega arith in (
      inv.0 ++ step.0,
      g.met.L.Listener.hears_more _ _ _ inv.0 step.0 inv.1 step.1,
      λ s is.
          let far = inv.2 s is in
          let told = rw c.in-None.is at (step.2 far.0 far.1 far.2.within) in
          round_over c.take_turn.new.world s far.0 c.args.count at left (left - 1) inv.0 step.0 e far.2 told,
    )

pub returns-in_err-more-clause-goes : goal.returns-in_err-more-clause-goes
returns-in_err-more-clause-goes g c =
    let inv = c.loop-left.invariant in (
      inv.0 ++ [],
      g.met.L.Listener.hears_more _ _ _ inv.0 [] inv.1 (c.in_err-more.ensures.err),
      λ s is.
          let far = inv.2 s is in
          let answer = c.from_residual-in_err-more in
          let p = err_from_is_err_and answer.result answer.ensures.1 in
          let P : List ℕ → Type 0 = λ text. GoesTo g.L.Listener.may_hear c.loop-left.world s c.args.count text answer.result in
          subst P (sym (append-nil inv.0)) (rw p.1 (round_spent c.loop-left.world s far.0 c.args.count c.loop-left.at c.loop-left.left inv.0 _ p.2 far.2)),
    )

pub returns-in_ok-more-clause-goes : goal.returns-in_ok-more-clause-goes
returns-in_ok-more-clause-goes g c =
    let inv = c.loop-left.invariant in
    let end = printed More in
    let left = c.loop-left.left in
    let none : left ≡ 0 = omega arith in (
      inv.0 ++ end,
      g.met.L.Listener.hears_more _ _ _ inv.0 end inv.1 (c.in_ok-more.ensures.ok),
      λ s is.
          let far = inv.2 s is in
          let more = more_said far.0 c.quiet.result (c.quiet.ensures far.0 far.1) c.if-not-quiet.true in
          round_done c.loop-left.world s far.0 c.args.count c.loop-left.at left inv.0 end none far.2 more far.1,
    )

pub returns-else-not-quiet-clause-goes : goal.returns-else-not-quiet-clause-goes
returns-else-not-quiet-clause-goes g c =
    let inv = c.loop-left.invariant in
    let left = c.loop-left.left in
    let none : left ≡ 0 = omega arith in (
      inv.0,
      inv.1,
      λ s is.
          let far = inv.2 s is in
          let less = more_unsaid far.0 c.quiet.result (c.quiet.ensures far.0 far.1) c.if-not-quiet.false in
          let P : List ℕ → Type 0 = λ text. GoesTo g.L.Listener.may_hear c.loop-left.world s c.args.count text (Ok tt) in
          subst P (append-nil inv.0) (round_done c.loop-left.world s far.0 c.args.count c.loop-left.at left inv.0 [] none far.2 less far.1),
    )
