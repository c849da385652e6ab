use Rattle.std.proofs.Common.{ℕ, sym, ap, ◌∙◌}
use Rattle.mq_addr.specs.Packet.{ones_sum}
use Rattle.mq_iphdr.specs.Echo.{pseudo_header}
use Rattle.mq_iphdr.proofs.Echoes.{replied6}
use Rattle.mq_iphdr.proofs.host.payload6.Goals as goal

pub returns-then-is_request-clause-answer : goal.returns-then-is_request-clause-answer
returns-then-is_request-clause-answer c =
    replied6 c.args.header.now c.args.protocol c.pseudo_sum-before.result c.args.payload.now c.reply.new.message c.if-protocol-eq58.true (sym c.is_request.ensures ∙ c.if-is_request.true)
    (c.pseudo_sum-before.ensures ∙ ap (λ (n : ℕ). ones_sum (pseudo_header c.args.header.now n)) c.requires.whole) c.requires.fixed c.reply.ensures
