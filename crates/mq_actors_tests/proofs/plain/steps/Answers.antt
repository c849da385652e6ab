use Rattle.std.proofs.Common.{◌≡◌, ℕ, ◌+◌, sym, ap, ◌∙◌}
use Rattle.mq_machine.specs.declared.setup.Setup.{Setup}
use Rattle.mq_actors_tests.proofs.plain.steps.Goals as goal

-- the pump's number is how many workers the office knows
pub step-requires-clause-inboxes : goal.step-requires-clause-inboxes
step-requires-clause-inboxes g c =
    let before = c.loop.invariant in
    let pump : c.loop.worker.ring.setup.pump ≡ c.loop.office.office.book.config.workers = sym (ap (λ (s : Setup). s.pump) before.known.2.setup) ∙ before.known.3.pump in
    before.inboxes ∙ ap (λ (n : ℕ). n + 1) pump

pub loop-preserved : goal.loop-preserved
loop-preserved g c =
    let before = c.loop.invariant in
    let behind = c.step.ensures.stands before.known.0 before.known.1 before.known.2 before.known.3 in
    let id = sym c.step.ensures.ring.1 in
    record {
      known = (before.known.0, behind.0, behind.1, behind.2);
      sound = c.step.ensures.sound before.sound;
      office = c.step.ensures.office ∙ before.office ∙ id;
      mail = c.step.ensures.mail ∙ before.mail ∙ id;
      inboxes = c.step.ensures.inboxes ∙ before.inboxes ∙ ap (λ (s : Setup). s.pump + 1) (sym c.step.ensures.ring.2);
    }
