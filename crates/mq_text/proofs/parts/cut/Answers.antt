use Rattle.std.proofs.Common.{◌≡◌, sym, ◌∙◌, ap, drop}
use Rattle.mq_text.proofs.Cutting.{no_place, cut_at_place}
use Rattle.mq_text.proofs.parts.cut.Goals as goal

pub returns-in_err-at : goal.returns-in_err-at
returns-in_err-at c = rw c.from_residual.ensures (no_place c.args.separator c.args.text.now (sym c.in_err-at.ensures.place))

pub returns : goal.returns
returns c =
    let front = c.split_at.ensures.front in
    let back : c.split_at-2.result.1.now ≡ drop 1 (drop c.in_ok-at.at c.args.text.now) = c.split_at-2.ensures.back ∙ ap (drop 1) c.split_at.ensures.back in
    rw (front, back) (cut_at_place c.args.separator c.args.text.now c.in_ok-at.at (sym c.in_ok-at.ensures.place))
