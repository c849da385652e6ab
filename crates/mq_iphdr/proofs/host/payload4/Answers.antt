use Rattle.std.proofs.Common.{sym, ◌∙◌}
use Rattle.mq_iphdr.proofs.Echoes.{replied4}
use Rattle.mq_iphdr.proofs.host.payload4.Goals as goal

pub returns-then-is_request-clause-answer : goal.returns-then-is_request-clause-answer
returns-then-is_request-clause-answer c =
    replied4 c.args.protocol c.args.payload.now c.reply.new.message c.if-protocol-eq1.true (sym c.is_request.ensures ∙ c.if-is_request.true) c.reply.ensures
