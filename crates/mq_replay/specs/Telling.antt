-- What lines told: settings, and anything else that a line says.
use Rattle.std.specs.Prelude.{ℕ, ◌≤◌, List, length}
use Rattle.mq_play.specs.declared.line.Line.{Line}
use Rattle.mq_play.specs.declared.line.SettingLine.{SettingLine}
use Rattle.mq_play.specs.Lines.{Says}
use Rattle.mq_play.specs.Play.{Fate, Settings, opening, Plays, line_limit}
use Rattle.mq_script.specs.Settings.{Made, IsSettings}

-- a line within its limit says this
pub record IsSpoken (said : Line) : Type 0 where
  pub text : List ℕ
  pub fits : length text ≤ line_limit
  pub says : Says text said

-- the first lines of some script told these settings
pub record AreTold (made : Made) : Type 0 where
  pub lines : List (List ℕ)
  pub fates : List (List Fate)
  pub text : List ℕ
  pub told : List SettingLine
  pub plays : Plays opening lines fates text (Settings told)
  pub stands : IsSettings made told
