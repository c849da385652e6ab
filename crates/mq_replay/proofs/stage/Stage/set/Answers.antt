use Rattle.std.proofs.Common.{Bool, [], Ok, subst}
use Rattle.mq_play.specs.declared.line.Line.TheVariants as line
use Rattle.mq_play.specs.declared.line.SettingLine.{SettingLine}
use Rattle.mq_script.specs.Settings.{Adds}
use Rattle.mq_replay.proofs.Playing.{set_more}
use Rattle.mq_replay.specs.Listening.{MayBeNone}
use Rattle.mq_replay.specs.Playing.{SaidTo}
use Rattle.mq_replay.specs.Stages.{IsStage}
use Rattle.mq_replay.specs.declared.stage.Stage.{Stage}
use Rattle.mq_replay.specs.declared.stage.Stage.TheVariants as stage
use Rattle.mq_replay.proofs.stage.Stage.set.Goals as goal

pub returns-in-Ok-true-clause-sets : goal.returns-in-Ok-true-clause-sets
returns-in-Ok-true-clause-sets c = λ s stands.
    let old = c.in-Settings.told in
    let new = c.add.new.self in
    let told = c.into_line.result in
    let P : Stage → Type 0 = λ x. IsStage x s in
    let S : SettingLine → Type 0 = λ setting. SaidTo MayBeNone s (line.Setting setting) [] (Ok tt) (stage.Settings new) in
    subst S c.into_line.ensures (set_more old new s told (subst P c.in-Settings.is stands) (λ lines settings.
    let Q : Bool → Type 0 = λ added. Adds old lines told (Ok added) new in
    subst Q c.in-Ok-true.field-0-test (c.in-Ok-true.ensures.adds lines settings)))
