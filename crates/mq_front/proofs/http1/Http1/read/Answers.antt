use Rattle.std.proofs.Common.{sym, ◌∙◌}
use Rattle.mq_front.proofs.OneStream.{reads_taken, reads_over, reads_none}
use Rattle.mq_front.proofs.http1.Http1.read.Goals as goal

pub returns-then-is_empty : goal.returns-then-is_empty
returns-then-is_empty c = reads_none c.args.mtu c.args.self.now c.args.bytes.now c.args.due.now (sym c.is_empty.ensures ∙ c.if-is_empty.true)

pub returns-in-Some : goal.returns-in-Some
returns-in-Some c =
    reads_taken c.args.mtu c.args.self.now c.in-Some.stream c.take.new.self c.args.bytes.now c.args.due.now c.take.new.due c.take.result c.in-Some.is (sym c.is_empty.ensures ∙ c.if-is_empty.false) c.take.ensures

pub returns-in-None : goal.returns-in-None
returns-in-None c = reads_over c.args.mtu c.args.self.now c.args.bytes.now c.args.due.now c.in-None.is
