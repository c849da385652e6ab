use Rattle.std.proofs.Common.{◌≡◌, [], take, map}
use Rattle.httparse.specs.Spans.{header_bytes}
use Rattle.http_header.specs.HeaderMap.{append_all}
use Rattle.mq_head.specs.Kept.{kept}
use Rattle.mq_head.proofs.fields.Fields.of.Given as goal

abbrev pub invariant-loop-header : goal.invariant-loop-header
invariant-loop-header l = l.map ≡ append_all [] (map kept (map (header_bytes l.buf) (take l.header-index l.headers)))
