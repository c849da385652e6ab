use Rattle.std.proofs.Common.{[]}
use Rattle.std.proofs.lemmas.Result.{err_from_is_err_and}
use Rattle.mq_world.specs.Worlds.{IsWorld}
use Rattle.mq_replay.proofs.Onward.{step_refused, step_idle, step_missing, told_did, told_stops}
use Rattle.mq_replay.proofs.steps.take_told.Goals as goal

pub returns-in_ok-hear-in-Ok-Did-clause-step : goal.returns-in_ok-hear-in-Ok-Did-clause-step
returns-in_ok-hear-in-Ok-Did-clause-step g c =
    told_did g.L.Listener.may_hear g.L.Listener.hears _ _ (λ s. IsWorld c.args.world.now s) c.act.new.self c.args.number c.act.new.told _ c.in_ok-hear-in-Ok-Did.ensures.says
    (λ s is. rw c.in-Ok-Did.field-0-is at (c.in-Ok-Did.ensures s is)) g.met.L.Listener.hears_notes c.turn_or_quiet.ensures

pub returns-in_err-hear-in-Ok-Did-clause-step : goal.returns-in_err-hear-in-Ok-Did-clause-step
returns-in_err-hear-in-Ok-Did-clause-step g c =
    let p = err_from_is_err_and c.from_residual.result c.from_residual.ensures.1 in
    let stops = told_stops g.L.Listener.may_hear g.L.Listener.hears _ _ (λ s. IsWorld c.args.world.now s) c.act.new.self c.args.number c.act.new.told c.in_err-hear-in-Ok-Did.field-0.0
    c.in_err-hear-in-Ok-Did.ensures.says (λ s is. rw c.in-Ok-Did.field-0-is at (c.in-Ok-Did.ensures s is)) g.met.L.Listener.hears_notes c.turn_or_quiet.ensures in
    (stops.0, stops.1, λ s actor is at. rw (p.1, p.2) (stops.2 s actor is at))

pub returns-in_ok-refused-in-Ok-Refused-clause-step : goal.returns-in_ok-refused-in-Ok-Refused-clause-step
returns-in_ok-refused-in-Ok-Refused-clause-step g c = (
  [],
  c.in_ok-refused-in-Ok-Refused.ensures.says,
  λ s actor is at.
      let told = rw c.in-Ok-Refused.field-0-is at (c.in-Ok-Refused.ensures s is) in
      step_refused c.act.new.self s c.args.number actor c.in_ok-refused-in-Ok-Refused.ensures.goes_on c.silent_or_quiet.ensures at told,
)

pub returns-in-Ok-Idle-clause-step : goal.returns-in-Ok-Idle-clause-step
returns-in-Ok-Idle-clause-step g c = (
  [],
  g.met.L.Listener.hears_none _,
  λ s actor is at.
      let told = rw c.in-Ok-Idle.field-0-is at (c.in-Ok-Idle.ensures s is) in
      step_idle g.L.Listener.may_hear c.act.new.self s c.args.number actor at told,
)

pub returns-in-Err-clause-step : goal.returns-in-Err-clause-step
returns-in-Err-clause-step g c = (
  [],
  g.met.L.Listener.hears_none _,
  λ s actor is at. step_missing g.L.Listener.may_hear c.act.new.self s c.args.number actor _ at (c.in-Err.ensures s is),
)
