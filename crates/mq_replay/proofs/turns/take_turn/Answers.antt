use Rattle.std.proofs.Common.{◌-◌, ◌++◌, ◌∷◌, Ok, Err, Some, arith}
use Rattle.std.proofs.lemmas.Result.{err_from_is_err_and}
use Rattle.mq_machine.specs.Turn.{ThePump}
use Rattle.mq_replay.proofs.Round.{first_acted, first_behind, first_failed, first_front, first_past, first_stopped, onto_ring, pump_at}
use Rattle.mq_replay.specs.Playing.{workers_from}
use Rattle.mq_replay.proofs.turns.take_turn.Goals as goal

pub returns-in_err-next-clause-first : goal.returns-in_err-next-clause-first
returns-in_err-next-clause-first g c =
    let count = c.workers-count.result in
    let at = c.args.at in
    let told = c.in_err-next.ensures.first in (
      told.0,
      told.1,
      λ s is within.
          let all = c.workers-count.ensures s is in
          let w = c.take_worker.new.world in
          let why = c.in_err-next.field-0.0 in
          let p = err_from_is_err_and c.from_residual.result c.from_residual.ensures.1 in
          let stopped = first_stopped g.L.Listener.may_hear w s (workers_from at (count - at)) (ThePump ∷ workers_from 0 at) told.0 why (told.2 s is (omega (arith, all))) in
          rw (p.1, p.2) (onto_ring g.L.Listener.may_hear w s at count told.0 (Err why) all within stopped),
    )

pub returns-in-Some-clause-first : goal.returns-in-Some-clause-first
returns-in-Some-clause-first g c =
    let count = c.workers-count.result in
    let at = c.args.at in
    let next = c.in-Some.next in
    let told = c.in_ok-next.ensures.first in (
      told.0,
      told.1,
      λ s is within.
          let all = c.workers-count.ensures s is in
          let w = c.take_worker.new.world in
          let found = rw c.in-Some.is at (told.2 s is (omega (arith, all))) in
          onto_ring g.L.Listener.may_hear w s at count told.0 (Ok (Some next)) all within (first_front w s (workers_from at (count - at)) (ThePump ∷ workers_from 0 at) told.0 next found),
    )

pub returns-in_err-take_step-clause-first : goal.returns-in_err-take_step-clause-first
returns-in_err-take_step-clause-first g c =
    let count = c.workers-count.result in
    let at = c.args.at in
    let first = c.in_ok-next.ensures.first in
    let step = c.in_err-take_step.ensures.step in (
      first.0 ++ step.0,
      g.met.L.Listener.hears_more _ _ _ first.0 step.0 first.1 step.1,
      λ s is within.
          let all = c.workers-count.ensures s is in
          let w = c.take_step.new.world in
          let why = c.in_err-take_step.field-0.0 in
          let p = err_from_is_err_and c.from_residual-in_err-take_step.result c.from_residual-in_err-take_step.ensures.1 in
          let none = rw c.in_default.is at (first.2 s is (omega (arith, all))) in
          let failed = first_failed g.L.Listener.may_hear w w s ThePump (workers_from 0 at) step.0 why (step.2 s ThePump none.2 (pump_at s count all)) in
          rw (p.1, p.2) (onto_ring g.L.Listener.may_hear w s at count (first.0 ++ step.0) (Err why) all within
          (first_behind g.L.Listener.may_hear w s (workers_from at (count - at)) (ThePump ∷ workers_from 0 at) first.0 step.0 (Err why) none.0 none.1 failed)),
    )

pub returns-in-Acted-clause-first : goal.returns-in-Acted-clause-first
returns-in-Acted-clause-first g c =
    let count = c.workers-count.result in
    let at = c.args.at in
    let first = c.in_ok-next.ensures.first in
    let step = c.in_ok-take_step.ensures.step in (
      first.0 ++ step.0,
      g.met.L.Listener.hears_more _ _ _ first.0 step.0 first.1 step.1,
      λ s is within.
          let all = c.workers-count.ensures s is in
          let w = c.take_step.new.world in
          let none = rw c.in_default.is at (first.2 s is (omega (arith, all))) in
          let told = rw c.in-Acted.is at (step.2 s ThePump none.2 (pump_at s count all)) in
          let acted = first_acted w s told.0 ThePump (workers_from 0 at) step.0 told.1 told.2 in
          onto_ring g.L.Listener.may_hear w s at count (first.0 ++ step.0) (Ok (Some 0)) all within
          (first_behind g.L.Listener.may_hear w s (workers_from at (count - at)) (ThePump ∷ workers_from 0 at) first.0 step.0 (Ok (Some 0)) none.0 none.1 acted),
    )

pub returns-in-Idle-clause-first : goal.returns-in-Idle-clause-first
returns-in-Idle-clause-first g c =
    let count = c.workers-count.result in
    let at = c.args.at in
    let first = c.in_ok-next.ensures.first in
    let step = c.in_ok-take_step.ensures.step in
    let last = c.take_worker-in-Idle.ensures.first in (
      first.0 ++ (step.0 ++ last.0),
      g.met.L.Listener.hears_more _ _ _ first.0 (step.0 ++ last.0) first.1 (g.met.L.Listener.hears_more _ _ _ step.0 last.0 step.1 last.1),
      λ s is within.
          let all = c.workers-count.ensures s is in
          let w = c.take_worker-in-Idle.new.world in
          let answer = c.take_worker-in-Idle.result in
          let none = rw c.in_default.is at (first.2 s is (omega (arith, all))) in
          let told = rw c.in-Idle.is at (step.2 s ThePump none.2 (pump_at s count all)) in
          let past = first_past g.L.Listener.may_hear w s at step.0 last.0 answer told.0 told.1 (last.2 s told.2 within) in
          onto_ring g.L.Listener.may_hear w s at count (first.0 ++ (step.0 ++ last.0)) answer all within
          (first_behind g.L.Listener.may_hear w s (workers_from at (count - at)) (ThePump ∷ workers_from 0 at) first.0 (step.0 ++ last.0) answer none.0 none.1 past),
    )
