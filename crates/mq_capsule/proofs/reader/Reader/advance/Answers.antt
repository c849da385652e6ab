use Rattle.std.proofs.Common.{sym, ◌∙◌}
use Rattle.mq_capsule.proofs.Readers.{whole_went, whole_some, whole_boundary}
use Rattle.mq_capsule.proofs.reader.Reader.advance.Goals as goal

pub returns-in-Some-clause-some : goal.returns-in-Some-clause-some
returns-in-Some-clause-some c = λ control bytes stands there. whole_some c.args.self.now.control c.args.piece.now c.in-Some.whole c.in-Some.ensures

pub returns-in-Some-clause-went : goal.returns-in-Some-clause-went
returns-in-Some-clause-went c =
    whole_went c.args.self.now c.args.piece.now c.in-Some.whole c.in_ok-item.item (sym c.is_between.ensures ∙ c.if-is_between.true) c.in-Some.ensures
    c.in_ok-item.ensures

pub returns-in-Some-clause-boundary : goal.returns-in-Some-clause-boundary
returns-in-Some-clause-boundary c =
    whole_boundary c.args.self.now c.args.piece.now c.in-Some.whole c.in_ok-item.item (sym c.is_between.ensures ∙ c.if-is_between.true) c.in-Some.ensures
    c.in_ok-item.ensures
