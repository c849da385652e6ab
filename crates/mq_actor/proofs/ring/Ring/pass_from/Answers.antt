use Rattle.std.proofs.Common.{rules, ◌≡◌, ◌+◌, length, refl, ◌∙◌, arith}
use Rattle.std.specs.Vec.{vec_len}
use Rattle.mq_actor.specs.Passing.{is_in_part}
use Rattle.mq_actor.proofs.Lending.{fails_before}
use Rattle.mq_actor.proofs.Passings.{known_passed}
use Rattle.mq_held.specs.Notes.{note_by, note_with}
use Rattle.mq_actor.proofs.Noting.{note_is, none_is, note_err}
use Rattle.mq_actor.proofs.Passes.{told_passes, pass_begins, pass_stops, pass_fails, pass_goes, pass_ends}
use Rattle.mq_actor.proofs.ring.Ring.pass_from.Goals as goal

pub loop-place-init : goal.loop-place-init
loop-place-init g c = record {
  passed = pass_begins _ _ c.args.upper c.args.self.now.next_seat c.args.first (λ k h at. fails_before (λ h. is_in_part c.args.upper c.args.self.now.next_seat (h.number + 2)) c.args.self.now.conns.items c.args.first k c.requires.first h at);
  rest = refl;
  ports = c.requires.ports;
  rooms = c.requires.rooms;
  actor = refl;
  mail = (refl, refl, refl);
  inboxes = c.requires.inboxes;
  sound = λ is. is;
  balanced = λ is. is;
}

pub try_at-requires-clause-known : goal.try_at-requires-clause-known
try_at-requires-clause-known g c = known_passed _ _ _ _ c.loop-place.invariant.passed c.requires.known

pub returns-in_err-try_at-clause-gives : goal.returns-in_err-try_at-clause-gives
returns-in_err-try_at-clause-gives g c =
    let i = c.loop-place.invariant in
    pass_fails _ c.args.upper c.loop-place.place c.args.self.now c.loop-place.self c.try_at.new.self _ _ _ c.in_err-try_at.field-0.0
    (note_with c.from_residual.result c.try_at.new.told) (note_err c.from_residual.result c.try_at.new.told c.from_residual.ensures.0) i.rest i.passed i.ports c.in_err-try_at.ensures.gives

pub returns-then-branch-clause-gives : goal.returns-then-branch-clause-gives
returns-then-branch-clause-gives g c =
    let i = c.loop-place.invariant in
    let e = c.in_ok-try_at.ensures in
    let told = note_is c.in_ok-try_at.field-0 c.try_at.new.told c.if-branch.true (e.told c.if-branch.true) in
    told_passes _ c.args.upper c.args.self.now c.try_at.new.self _ _ c.try_at.new.told told.0 told.2
    (pass_stops _ c.args.upper c.loop-place.place c.args.self.now c.loop-place.self c.try_at.new.self _ _ _ (note_by c.in_ok-try_at.field-0 c.try_at.new.told) told.0 told.1
    i.rest i.passed i.ports e.gives)

pub loop-place-preserved : goal.loop-place-preserved
loop-place-preserved g c =
    let i = c.loop-place.invariant in
    let goes = pass_goes _ c.args.upper c.loop-place.place c.args.self.now c.loop-place.self c.try_at.new.self _ _ _ (note_by c.in_ok-try_at.field-0 c.try_at.new.told) (none_is c.in_ok-try_at.field-0 c.try_at.new.told c.if-branch.false)
    i.rest i.passed c.in_ok-try_at.ensures.gives in
    record {
      passed = goes.0;
      rest = goes.1;
      ports = c.in_ok-try_at.ensures.ports;
      rooms = c.in_ok-try_at.ensures.rooms;
      actor = c.in_ok-try_at.ensures.actor ∙ i.actor;
      mail = (c.in_ok-try_at.ensures.mail.0 ∙ i.mail.0, c.in_ok-try_at.ensures.mail.1 ∙ i.mail.1, c.in_ok-try_at.ensures.mail.2 ∙ i.mail.2);
      inboxes = c.in_ok-try_at.ensures.inboxes;
      sound = λ is. c.in_ok-try_at.ensures.sound (i.sound is);
      balanced = λ is. c.in_ok-try_at.ensures.balanced (i.balanced is);
    }

pub returns-clause-gives : goal.returns-clause-gives
returns-clause-gives g c =
    let i = c.loop-place.invariant in
    let conns = c.args.self.now.conns in
    let len : vec_len conns ≡ length conns.items = search rules in
    let end = c.len-place-end.ensures in
    let past = c.loop-place-test.false in
    (pass_ends _ _ _ c.args.upper c.args.self.now.next_seat c.loop-place.place (omega (arith, len, end, past)) i.passed, i.rest)
