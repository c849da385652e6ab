use Rattle.std.proofs.Common.{◌<◌, map, take, length, subst, sym, arith}
use Rattle.std.proofs.lemmas.List.{length-map, length-take-le}
use Rattle.httparse.specs.Spans.{header_bytes}
use Rattle.mq_head.specs.Kept.{HasFewer}
use Rattle.mq_head.proofs.KeptLemmas.{few_kept}
use Rattle.mq_head.proofs.fields.Fields.of.Goals as goal

pub keep-requires-clause-room : goal.keep-requires-clause-room
keep-requires-clause-room c =
    let headers = c.args.headers.now in
    let at = c.loop-header.header-index in
    let seen = take at headers in
    let here : at < length headers = omega (arith, c.loop-header-test.true) in
    subst (HasFewer 64) (sym c.loop-header.invariant)
    (few_kept 64 (map (header_bytes c.args.buf.now) seen) (omega (arith, c.requires.few, here, length-map seen (header_bytes c.args.buf.now), length-take-le at headers (omega (arith, here)))))
