use Rattle.std.proofs.Common.{Err, ap, arith}
use Rattle.mq_client.proofs.Heads.{fits_room}
use Rattle.mq_client.proofs.front.parse.Goals as goal

pub returns-in-Err : goal.returns-in-Err
returns-in-Err c =
    c.in-Err.ensures.invalid (λ full. fits_room _ c.args.front.now (omega (arith, c.requires)) (c.in-Err.ensures.too_many (ap Err full)))
