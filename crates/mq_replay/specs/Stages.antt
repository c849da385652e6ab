-- What the stage of a script stands for.
use Rattle.mq_play.specs.Play as spec
use Rattle.mq_play.specs.Play.{Settings, Running}
use Rattle.mq_script.specs.Settings.{IsSettings}
use Rattle.mq_replay.specs.declared.stage.Stage.{Stage}
use Rattle.mq_replay.specs.declared.stage.Stage.TheVariants as stage
use Rattle.mq_world.specs.Worlds.{IsWorld}

-- settings alone, or a world
abbrev pub IsStage : Stage → spec.Stage → Type 0
IsStage (stage.Settings told) (Settings lines) = IsSettings told lines
IsStage (stage.Settings told) (Running s) = ⊥
IsStage (stage.Running world) (Settings lines) = ⊥
IsStage (stage.Running world) (Running s) = IsWorld world s
IsStage stage.Spent s = ⊥

-- the world has begun
abbrev pub IsRunning : Stage → Type 0
IsRunning (stage.Settings told) = ⊥
IsRunning (stage.Running world) = Unit {0}
IsRunning stage.Spent = ⊥
