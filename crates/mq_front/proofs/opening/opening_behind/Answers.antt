use Rattle.mq_front.proofs.Starts.{cut, finds_other, finds_part, finds_whole}
use Rattle.mq_front.proofs.opening.opening_behind.Goals as goal

pub returns-then-ne : goal.returns-then-ne
returns-then-ne c = λ few.
    finds_other c.args.count c.args.piece.now c.split_at.result.0.now c.split_at.result.1.now c.split_at-2.result.0.now c.split_at-2.result.1.now c.split_at-3.result.0.now c.ne.result
    (cut c.args.count c.min.result c.min-2.result c.min-3.result c.args.piece.now c.split_at.result.0.now c.split_at.result.1.now c.split_at-2.result.0.now c.split_at-2.result.1.now c.split_at-3.result.0.now few
    c.min.ensures c.split_at.ensures.front c.split_at.ensures.back c.min-2.ensures c.split_at-2.ensures.front c.split_at-2.ensures.back c.min-3.ensures c.split_at-3.ensures.front)
    c.ne.ensures c.if-ne.true

pub returns-then-front-awaited : goal.returns-then-front-awaited
returns-then-front-awaited c = λ few.
    finds_part c.args.count c.args.piece.now c.split_at.result.0.now c.split_at.result.1.now c.split_at-2.result.0.now c.split_at-2.result.1.now c.split_at-3.result.0.now c.ne.result few
    (cut c.args.count c.min.result c.min-2.result c.min-3.result c.args.piece.now c.split_at.result.0.now c.split_at.result.1.now c.split_at-2.result.0.now c.split_at-2.result.1.now c.split_at-3.result.0.now few
    c.min.ensures c.split_at.ensures.front c.split_at.ensures.back c.min-2.ensures c.split_at-2.ensures.front c.split_at-2.ensures.back c.min-3.ensures c.split_at-3.ensures.front)
    c.ne.ensures c.if-ne.false c.if-front-awaited.true

pub returns : goal.returns
returns c = λ few.
    finds_whole c.args.count c.args.piece.now c.split_at.result.0.now c.split_at.result.1.now c.split_at-2.result.0.now c.split_at-2.result.1.now c.split_at-3.result.0.now c.ne.result
    (cut c.args.count c.min.result c.min-2.result c.min-3.result c.args.piece.now c.split_at.result.0.now c.split_at.result.1.now c.split_at-2.result.0.now c.split_at-2.result.1.now c.split_at-3.result.0.now few
    c.min.ensures c.split_at.ensures.front c.split_at.ensures.back c.min-2.ensures c.split_at-2.ensures.front c.split_at-2.ensures.back c.min-3.ensures c.split_at-3.ensures.front)
    c.ne.ensures c.if-ne.false c.if-front-awaited.false
