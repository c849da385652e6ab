use Rattle.std.proofs.Common.{Ok, [], refl, ◌≡◌, suc, ◌-◌, ◌++◌, ◌∙◌, sym, ap, subst, arith, ℕ, List, append-nil}
use Rattle.std.proofs.lemmas.Result.{err_from_is_err_and}
use Rattle.mq_play.specs.Play.{actor_of}
use Rattle.mq_play.specs.Text.{printed, Idle}
use Rattle.mq_replay.proofs.Onward.{steps_same, at_same, far_none, far_more, far_done, far_idle, far_spent, far_stopped}
use Rattle.mq_replay.specs.Playing.{RunsTo}
use Rattle.mq_replay.proofs.steps.take_steps.Goals as goal

pub loop-left-init : goal.loop-left-init
loop-left-init g c = ([], g.met.L.Listener.hears_none _, (λ s is at. (s, is, at, far_none s (actor_of c.args.name) c.args.count)), refl)

pub loop-left-preserved : goal.loop-left-preserved
loop-left-preserved g c =
    let inv = c.loop-left.invariant in
    let step = c.in_ok-take_step.ensures.step in
    let actor = actor_of c.args.name in
    let left = c.loop-left.left in
    let e : left ≡ suc (left - 1) = omega arith in (
      inv.0 ++ step.0,
      g.met.L.Listener.hears_more _ _ _ inv.0 step.0 inv.1 step.1,
      (λ s is at.
          let far = inv.2 s is at in
          let told = rw c.in-Acted.is at (step.2 far.0 actor far.1 far.2) in
          let same = steps_same far.0 actor told.1.fate step.0 told.0 told.1.steps in
          (told.0, told.2, at_same far.0 told.0 c.args.number actor same far.2, far_more s far.0 told.0 actor c.args.count left (left - 1) inv.0 step.0 e far.3 told.1)),
      c.in_ok-take_step.ensures.counts ∙ inv.3,
    )

pub returns-in_err-take_step-clause-runs : goal.returns-in_err-take_step-clause-runs
returns-in_err-take_step-clause-runs g c =
    let inv = c.loop-left.invariant in
    let step = c.in_err-take_step.ensures.step in
    let actor = actor_of c.args.name in
    let left = c.loop-left.left in
    let e : left ≡ suc (left - 1) = omega arith in (
      inv.0 ++ step.0,
      g.met.L.Listener.hears_more _ _ _ inv.0 step.0 inv.1 step.1,
      λ s is at.
          let far = inv.2 s is at in
          let p = err_from_is_err_and c.from_residual.result c.from_residual.ensures.1 in
          let w = c.take_step.new.world in
          rw (p.1, p.2) (far_stopped w w s far.0 actor c.args.count left (left - 1) inv.0 step.0 c.in_err-take_step.field-0.0 e far.3 (step.2 far.0 actor far.1 far.2)),
    )

pub returns-in-Idle-clause-runs : goal.returns-in-Idle-clause-runs
returns-in-Idle-clause-runs g c =
    let inv = c.loop-left.invariant in
    let step = c.in_ok-take_step.ensures.step in
    let actor = actor_of c.args.name in
    let idle = printed (Idle actor) in
    let left = c.loop-left.left in
    let e : left ≡ suc (left - 1) = omega arith in
    let before = g.met.L.Listener.hears_more _ _ _ inv.0 step.0 inv.1 step.1 in (
      (inv.0 ++ step.0) ++ idle,
      g.met.L.Listener.hears_more _ _ _ (inv.0 ++ step.0) idle before (c.in_ok-idle-in-Idle.ensures.ok),
      λ s is at.
          let far = inv.2 s is at in
          let told = rw c.in-Idle.is at (step.2 far.0 actor far.1 far.2) in
          let P : List ℕ → Type 0 = λ text. RunsTo g.L.Listener.may_hear c.take_step.new.world s actor c.args.count (text ++ idle) (Ok tt) in
          subst P (sym (ap (λ (text : List ℕ). inv.0 ++ text) told.1 ∙ append-nil inv.0))
          (far_idle c.take_step.new.world s far.0 actor c.args.count left (left - 1) inv.0 idle e far.3 told.0 refl told.2),
    )

pub returns-in_err-idle-in-Idle-clause-runs : goal.returns-in_err-idle-in-Idle-clause-runs
returns-in_err-idle-in-Idle-clause-runs g c =
    let inv = c.loop-left.invariant in
    let step = c.in_ok-take_step.ensures.step in
    let actor = actor_of c.args.name in
    let before = g.met.L.Listener.hears_more _ _ _ inv.0 step.0 inv.1 step.1 in (
      (inv.0 ++ step.0) ++ [],
      g.met.L.Listener.hears_more _ _ _ (inv.0 ++ step.0) [] before (c.in_err-idle-in-Idle.ensures.err),
      λ s is at.
          let far = inv.2 s is at in
          let told = rw c.in-Idle.is at (step.2 far.0 actor far.1 far.2) in
          let answer = c.from_residual-in_err-idle-in-Idle in
          let p = err_from_is_err_and answer.result answer.ensures.1 in
          let P : List ℕ → Type 0 = λ text. RunsTo g.L.Listener.may_hear c.take_step.new.world s actor c.args.count text answer.result in
          let none : (inv.0 ++ step.0) ++ [] ≡ inv.0 = append-nil (inv.0 ++ step.0) ∙ ap (λ (text : List ℕ). inv.0 ++ text) told.1 ∙ append-nil inv.0 in
          subst P (sym none) (rw p.1 (far_spent c.take_step.new.world s far.0 actor c.args.count c.loop-left.left inv.0 _ p.2 far.3)),
    )

pub returns-clause-runs : goal.returns-clause-runs
returns-clause-runs g c =
    let inv = c.loop-left.invariant in
    let left = c.loop-left.left in
    let none : left ≡ 0 = omega arith in (
      inv.0,
      inv.1,
      λ s is at.
          let far = inv.2 s is at in
          far_done c.loop-left.world s far.0 (actor_of c.args.name) c.args.count left inv.0 none far.3 far.1,
    )
