use Rattle.std.proofs.Common.{◌++◌, take, ◌∙◌, sym, ap, arith}
use Rattle.mq_frame.specs.Table.{frame_at}
use Rattle.mq_frame.proofs.Steps.{front_begun, step_part, step_ends, begun_at, header_alone, header_only, large_step}
use Rattle.mq_frame.proofs.step.begin.Goals as goal

pub returns-then-header-gt-MAX_FRAME_SIZE-clause-gives : goal.returns-then-header-gt-MAX_FRAME_SIZE-clause-gives
returns-then-header-gt-MAX_FRAME_SIZE-clause-gives c = λ head len header.
    large_step c.args.place head c.args.piece.now c.args.header c.whole.result c.requires len header c.if-header-gt-MAX_FRAME_SIZE.true
    c.whole.ensures.frame c.whole.ensures.used c.whole.ensures.state

pub returns-then-piece-length-clause-gives : goal.returns-then-piece-length-clause-gives
returns-then-piece-length-clause-gives c = λ head len header.
    let piece = c.args.piece.now in
    let begun = begun_at c.args.header head piece len header c.if-header-gt-MAX_FRAME_SIZE.false c.if-piece-length.true in
    step_part c.args.place head piece c.in_ok-state.state (front_begun c.args.place _ _ _ begun)
    (c.in_ok-state.ensures (head ++ piece) begun (sym (header_alone head piece len)))

pub returns-clause-gives : goal.returns-clause-gives
returns-clause-gives c = λ head len header.
    let piece = c.args.piece.now in
    let contents = c.split_at.ensures.front ∙ sym (header_only head (take c.args.header.length piece) len) in
    step_ends c.args.place head piece c.args.header c.args.header.length c.in_ok-frame.frame c.whole-2.result
    c.requires (omega arith) header c.if-header-gt-MAX_FRAME_SIZE.false (omega arith) c.if-piece-length.false
    (c.in_ok-frame.ensures ∙ ap (frame_at c.args.place c.args.header) contents)
    c.whole-2.ensures.frame c.whole-2.ensures.used c.whole-2.ensures.state
