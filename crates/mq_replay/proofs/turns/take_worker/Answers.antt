use Rattle.std.proofs.Common.{[], Ok, Err, Some, refl, ◌≡◌, ℕ, suc, ◌+◌, ◌-◌, ◌++◌, ◌∙◌, ap, arith, List}
use Rattle.std.specs.Prelude.{find}
use Rattle.std.proofs.lemmas.Result.{err_from_is_err_and}
use Rattle.mq_machine.specs.Turn.{WorkerOf, has_turn}
use Rattle.mq_replay.proofs.Onward.{worker_at}
use Rattle.mq_replay.proofs.Round.{first_acted, first_failed, found_from, none_from}
use Rattle.mq_replay.specs.Playing.{workers_from}
use Rattle.mq_replay.proofs.turns.take_worker.Goals as goal

pub loop-number-init : goal.loop-number-init
loop-number-init g c = ([], g.met.L.Listener.hears_none _, (λ s is within. (refl, is, refl)), refl)

pub loop-number-preserved : goal.loop-number-preserved
loop-number-preserved g c =
    let inv = c.loop-number.invariant in
    let step = c.in_ok-take_step.ensures.step in
    let number = c.loop-number.number in
    let to = c.args.to in
    let e : to - number ≡ suc (to - (number + 1)) = omega arith in (
      inv.0 ++ step.0,
      g.met.L.Listener.hears_more _ _ _ inv.0 step.0 inv.1 step.1,
      (λ s is within.
          let far = inv.2 s is within in
          let told = rw c.in-Idle.is at (step.2 s (WorkerOf number) far.1 (worker_at s number (omega (arith, within)))) in
          (ap (λ (text : List ℕ). text ++ step.0) far.0 ∙ told.1, told.2, far.2 ∙ found_from s number (to - number) (to - (number + 1)) e told.0)),
      c.in_ok-take_step.ensures.counts ∙ inv.3,
    )

pub returns-in_err-take_step-clause-first : goal.returns-in_err-take_step-clause-first
returns-in_err-take_step-clause-first g c =
    let inv = c.loop-number.invariant in
    let step = c.in_err-take_step.ensures.step in
    let number = c.loop-number.number in
    let from = c.args.from in
    let to = c.args.to in
    let e : to - number ≡ suc (to - (number + 1)) = omega arith in (
      inv.0 ++ step.0,
      g.met.L.Listener.hears_more _ _ _ inv.0 step.0 inv.1 step.1,
      λ s is within.
          let far = inv.2 s is within in
          let w = c.take_step.new.world in
          let why = c.in_err-take_step.field-0.0 in
          let p = err_from_is_err_and c.from_residual.result c.from_residual.ensures.1 in
          let told = step.2 s (WorkerOf number) far.1 (worker_at s number (omega (arith, within))) in
          let here = first_failed g.L.Listener.may_hear w w s (WorkerOf number) (workers_from (number + 1) (to - (number + 1))) step.0 why told in
          rw (p.1, p.2) (none_from g.L.Listener.may_hear w s from number (to - from) (to - number) (to - (number + 1)) inv.0 step.0 (Err why) e far.0 far.2 here),
    )

pub returns-in-Acted-clause-first : goal.returns-in-Acted-clause-first
returns-in-Acted-clause-first g c =
    let inv = c.loop-number.invariant in
    let step = c.in_ok-take_step.ensures.step in
    let number = c.loop-number.number in
    let from = c.args.from in
    let to = c.args.to in
    let e : to - number ≡ suc (to - (number + 1)) = omega arith in (
      inv.0 ++ step.0,
      g.met.L.Listener.hears_more _ _ _ inv.0 step.0 inv.1 step.1,
      λ s is within.
          let far = inv.2 s is within in
          let w = c.take_step.new.world in
          let told = rw c.in-Acted.is at (step.2 s (WorkerOf number) far.1 (worker_at s number (omega (arith, within)))) in
          let here = first_acted w s told.0 (WorkerOf number) (workers_from (number + 1) (to - (number + 1))) step.0 told.1 told.2 in
          none_from g.L.Listener.may_hear w s from number (to - from) (to - number) (to - (number + 1)) inv.0 step.0 (Ok (Some (number + 1))) e far.0 far.2 here,
    )

pub returns-clause-first : goal.returns-clause-first
returns-clause-first g c =
    let inv = c.loop-number.invariant in
    let number = c.loop-number.number in
    let none : c.args.to - number ≡ 0 = omega arith in (
      inv.0,
      inv.1,
      λ s is within. let far = inv.2 s is within in (far.2 ∙ ap (λ (n : ℕ). find (has_turn s) (workers_from number n)) none, far.0, far.1),
    )
