use Rattle.std.proofs.Common.{◌∙◌, ap, ◌<◌, length, rules}
use Rattle.clap.proofs.WalkLemmas.{first_value-rows}
use Rattle.clap.specs.Words.{first_of, found_of, rows_of}
use Rattle.mq_words.proofs.Telling.{told_none, told_some}
use Rattle.mq_words.proofs.parser.values_of.Goals as goal
use Rattle.mq_words.proofs.parser.values_of.Goals.{in-Some+in_ok-push-2, in_default}

pub loop-id-preserved : goal.loop-id-preserved
loop-id-preserved c =
    let line = c.args.line.now in
    let ids = c.ids_of-id-items.result.now in
    let within : c.loop-id.id-index < length ids = search rules in
    let told = c.get_str.ensures ∙ first_value-rows (found_of line) _ in
    elim c.match-get_str.branch [
      | in-Some+in_ok-push-2 w ↦
          told_some (λ id. first_of id (rows_of (found_of line))) c.loop-id.values.items c.match-get_str.values.items ids c.loop-id.id-index _ c.get_str.result _ within told c.loop-id.invariant
          w.in-Some.value w.in-Some.is (ap (λ v. v.items) w.values-is ∙ w.in_ok-push-2.ensures.items)
      | in_default w ↦
          told_none (λ id. first_of id (rows_of (found_of line))) c.loop-id.values.items c.match-get_str.values.items ids c.loop-id.id-index _ c.get_str.result _ within told c.loop-id.invariant
          w.in_default.is (ap (λ v. v.items) w.values-is)
    ]
