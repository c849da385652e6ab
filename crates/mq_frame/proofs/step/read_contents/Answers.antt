use Rattle.std.proofs.Common.{◌≡◌, ℕ, List, ◌++◌, drop, take, ◌∙◌, sym, ap}
use Rattle.std.proofs.lemmas.List.{drop-append-le}
use Rattle.mq_frame.specs.Table.{frame_at}
use Rattle.mq_frame.proofs.Steps.{more_begun, front_begun, step_part, step_ends}
use Rattle.mq_frame.proofs.step.read_contents.Goals as goal

pub returns-then-piece-missing-clause-gives : goal.returns-then-piece-missing-clause-gives
returns-then-piece-missing-clause-gives c = λ rest begun unskipped kept.
    let piece = c.args.piece.now in
    let more = more_begun _ _ rest piece begun c.if-piece-missing.true in
    let seam = drop-append-le 9 rest piece begun.begun in
    step_part c.args.place rest piece _ (front_begun c.args.place _ _ _ more)
    (more, unskipped, c.in_ok-extend_from_slice.ensures.items ∙ ap (λ (b : List ℕ). b ++ piece) kept ∙ sym seam)

pub returns-clause-gives : goal.returns-clause-gives
returns-clause-gives c = λ rest begun unskipped kept.
    let end = take c.args.missing c.args.piece.now in
    let items : c.extend_from_slice-2.new.self.items ≡ drop 9 rest ++ end =
    c.in_ok-extend_from_slice-2.ensures.items ∙ ap (λ (b : List ℕ). b ++ c.split_at.result.0.now) kept ∙ ap (λ (b : List ℕ). drop 9 rest ++ b) c.split_at.ensures.front in
    step_ends c.args.place rest c.args.piece.now c.args.header c.args.missing c.in_ok-frame.frame c.whole.result
    c.requires begun.begun begun.header_is begun.fits begun.count c.if-piece-missing.false
    (c.in_ok-frame.ensures ∙ ap (frame_at c.args.place c.args.header) items)
    c.whole.ensures.frame c.whole.ensures.used c.whole.ensures.state
