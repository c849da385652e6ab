use Rattle.std.proofs.Common.{◌≡◌}
use Rattle.mq_mem.specs.Mails.{empty_boxes}
use Rattle.mq_mem.proofs.mail.PlainMail.new.Given as goal

-- so many empty inboxes were made
abbrev pub invariant-loop : goal.invariant-loop
invariant-loop l = l.boxes.items ≡ empty_boxes l.counter
