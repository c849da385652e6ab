use Rattle.std.proofs.Common.{◌≡◌, ℕ, ◌+◌, length, sym, ap, ◌∙◌}
use Rattle.mq_machine.specs.declared.setup.Setup.{Setup}
use Rattle.mq_mem.specs.Mails.{Mail as MailOf}
use Rattle.mq_mem.specs.Offices.{seen_of}
use Rattle.mq_plain.proofs.Serving.{nowhere}
use Rattle.mq_actors_tests.proofs.plain.played.Goals as goal

pub steps-requires-clause-known : goal.steps-requires-clause-known
steps-requires-clause-known c =
    let size : length c.in_ok-mail.mail.boxes ≡ 2 = ap (λ (m : MailOf). length m.boxes) c.in_ok-mail.ensures in
    let x = c.in_ok-worker.ensures (seen_of c.args.office.now.office) c.in_ok-mail.mail.boxes c.requires.config c.requires.empty size in
    (nowhere, x.1, x.2.stands, x.2.known nowhere)

pub steps-requires-clause-office : goal.steps-requires-clause-office
steps-requires-clause-office c =
    let size : length c.in_ok-mail.mail.boxes ≡ 2 = ap (λ (m : MailOf). length m.boxes) c.in_ok-mail.ensures in
    let x = c.in_ok-worker.ensures (seen_of c.args.office.now.office) c.in_ok-mail.mail.boxes c.requires.config c.requires.empty size in
    c.requires.actor ∙ sym x.2.id

pub steps-requires-clause-mail : goal.steps-requires-clause-mail
steps-requires-clause-mail c =
    let size : length c.in_ok-mail.mail.boxes ≡ 2 = ap (λ (m : MailOf). length m.boxes) c.in_ok-mail.ensures in
    let x = c.in_ok-worker.ensures (seen_of c.args.office.now.office) c.in_ok-mail.mail.boxes c.requires.config c.requires.empty size in
    ap (λ (m : MailOf). m.actor) c.in_ok-mail.ensures ∙ sym x.2.id

pub steps-requires-clause-inboxes : goal.steps-requires-clause-inboxes
steps-requires-clause-inboxes c =
    let size : length c.in_ok-mail.mail.boxes ≡ 2 = ap (λ (m : MailOf). length m.boxes) c.in_ok-mail.ensures in
    let x = c.in_ok-worker.ensures (seen_of c.args.office.now.office) c.in_ok-mail.mail.boxes c.requires.config c.requires.empty size in
    let pump : x.1.setup.pump ≡ 1 = (x.2.known nowhere).pump ∙ c.requires.config in
    size ∙ ap (λ (n : ℕ). n + 1) (sym pump ∙ ap (λ (s : Setup). s.pump) x.2.stands.setup)
