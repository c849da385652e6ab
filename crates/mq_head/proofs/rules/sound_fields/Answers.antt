use Rattle.std.proofs.Common.{◌≤◌, [], length, map, take, arith, sym, ap, ◌∙◌}
use Rattle.std.proofs.lemmas.List.{length-map, length-take-le}
use Rattle.httparse.specs.Spans.{name_and_value, header_bytes}
use Rattle.http_header.specs.HeaderMap.{append_all}
use Rattle.mq_head.specs.Rules.{fields_of}
use Rattle.mq_head.specs.Kept.{kept, Keeps}
use Rattle.mq_head.proofs.RulesLemmas.{sound_from}
use Rattle.mq_head.proofs.KeptLemmas.{keepable_all}
use Rattle.mq_head.proofs.rules.sound_fields.Goals as goal

pub of-requires-clause-fields : goal.of-requires-clause-fields
of-requires-clause-fields c =
    let head = c.args.head.now in
    let section = c.requires.within.section in
    let at = c.requires.found.1 in
    keepable_all c.args.buf.now head.len (take head.headers c.args.headers.now) c.requires.found.0.fields section.len_fits (omega (arith, c.requires.short)) section.headers_fit at.fields at.reads.0.fields

pub returns-then-hosts-eq1 : goal.returns-then-hosts-eq1
returns-then-hosts-eq1 c = λ h at.
    let keeps : Keeps c.in_ok-fields.fields (fields_of h) =
    c.in_ok-fields.ensures ∙ ap (λ fields. append_all [] (map kept fields)) at.fields in
    let few : length h.fields ≤ 64 = omega (
      arith,
      c.if-head-gt-MAX_FIELDS.false,
      length-map h.fields name_and_value,
      ap length at.fields,
      length-map (take c.args.head.now.headers c.args.headers.now) (header_bytes c.args.buf.now),
      length-take-le c.args.head.now.headers c.args.headers.now c.requires.within.section.count_fits,
    ) in
    (sound_from h few (sym at.version ∙ c.if-head-ne1.false) (sym (c.hosts.ensures (fields_of h) keeps) ∙ c.if-hosts-eq1.true), keeps)
