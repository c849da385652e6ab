use Rattle.std.proofs.Common.{◌≡◌, ◌∙◌, ap, drop}
use Rattle.mq_replay.proofs.Newlines.{nowhere, cut_there}
use Rattle.mq_replay.proofs.line.cut_line.Goals as goal

pub returns-in_err-at : goal.returns-in_err-at
returns-in_err-at c = rw c.from_residual.ensures (nowhere 10 c.args.text.now c.in_err-at.ensures)

pub returns : goal.returns
returns c =
    let front = c.split_at.ensures.front in
    let back : c.split_at-2.result.1.now ≡ drop 1 (drop c.in_ok-at.at c.args.text.now) = c.split_at-2.ensures.back ∙ ap (drop 1) c.split_at.ensures.back in
    rw (front, back) (cut_there 10 c.args.text.now c.in_ok-at.at c.in_ok-at.ensures)
