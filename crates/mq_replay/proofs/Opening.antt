-- The world of settings begins.
use Rattle.std.proofs.Common.{◌≡◌, List, subst}
use Rattle.mq_play.specs.declared.line.SettingLine.{SettingLine}
use Rattle.mq_play.specs.Events.{state_of}
use Rattle.mq_play.specs.Play as spec
use Rattle.mq_play.specs.Play.{Settings, Running, opened}
use Rattle.mq_play.specs.Settings.{plan_of}
use Rattle.mq_script.specs.Settings.{Made, IsSettings}
use Rattle.mq_replay.specs.Stages.{IsStage}
use Rattle.mq_replay.specs.declared.stage.Stage.{Stage}
use Rattle.mq_replay.specs.declared.stage.Stage.TheVariants as stage
use Rattle.mq_world.specs.declared.world.World.{World}
use Rattle.mq_world.specs.Worlds.{IsWorld}

-- it stands for the first state of their plan
pub begun : (x : Stage) (told : Made) (w : World) → x ≡ stage.Settings told → ((lines : List SettingLine) → IsSettings told lines → IsWorld w (state_of (plan_of lines)))
    → (s : spec.Stage) → IsStage x s → IsWorld w (opened s)
begun x told w is begins s stands = by_stage s (subst (λ (y : Stage). IsStage y s) is stands) where
  by_stage : (s : spec.Stage) → IsStage (stage.Settings told) s → IsWorld w (opened s)
  by_stage (Settings lines) are = begins lines are
  by_stage (Running state) are = absurd are
