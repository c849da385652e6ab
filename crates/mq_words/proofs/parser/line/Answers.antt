use Rattle.std.proofs.Common.{◌<◌, ◌∙◌, ap, length, rules}
use Rattle.clap.specs.Words.{app_of, with_rule}
use Rattle.mq_words.proofs.Telling.{argument_added}
use Rattle.mq_words.proofs.parser.line.Goals as goal

pub loop-id-preserved : goal.loop-id-preserved
loop-id-preserved c =
    let within : c.loop-id.id-index < length c.args.ids.now = search rules in
    let added = c.in_ok-line.ensures.shape c.value.ensures.local ∙ ap (with_rule (app_of c.loop-id.line)) c.value.ensures.rule in
    argument_added (app_of c.loop-id.line) (app_of c.in_ok-line.line) c.args.ids.now c.loop-id.id-index _ _ within added c.loop-id.invariant
