use Rattle.std.proofs.Common.{◌<◌, arith}
use Rattle.mq_huff.proofs.Rules.{entry_at}
use Rattle.mq_huff.proofs.codes.code_at.Goals as goal

pub returns : goal.returns
returns c =
    let fits : c.args.byte < 256 = omega arith in
    let e = entry_at c.args.byte c.from-symbol.result fits c.from-symbol.ensures in
    record { code = e.0; short = e.1; fits = e.2 }
