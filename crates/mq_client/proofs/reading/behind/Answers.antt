use Rattle.std.proofs.Common.{drop, ap, ◌∙◌}
use Rattle.std.proofs.lemmas.List.{drop_min}
use Rattle.mq_client.proofs.reading.behind.Goals as goal

pub returns : goal.returns
returns c =
    let piece = c.args.piece.now in
    c.split_at.ensures.back ∙ ap (λ n. drop n piece) c.min.ensures ∙ drop_min c.args.used piece
