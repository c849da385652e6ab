-- The plan of settings that lines told.
use Rattle.std.proofs.Common.{◌≡◌, List, sym, subst}
use Rattle.std.specs.Prelude.{Result, Ok, Err, IfOk}
use Rattle.mq_wire.specs.declared.NoMemory.{NoMemory}
use Rattle.mq_play.specs.declared.line.SettingLine.{SettingLine}
use Rattle.mq_play.specs.declared.plan.Plan.{Plan}
use Rattle.mq_play.specs.Laws.{MakesAPlan}
use Rattle.mq_play.specs.Settings.{IsPlan, plan_of}
use Rattle.mq_script.specs.Settings.{Made, IsSettings}
use Rattle.mq_replay.specs.Telling.{AreTold}

-- it is one that a proxy may have
pub is_a_plan : (result : Result Plan NoMemory) (made : Made) → MakesAPlan → AreTold made → IfOk result (λ plan. (lines : List SettingLine) → IsSettings made lines → plan ≡ plan_of lines) → IfOk result IsPlan
is_a_plan (Ok plan) made law told is = subst IsPlan (sym (is told.told told.stands)) (law told.lines told.fates told.text told.told told.plays)
is_a_plan (Err refused) made law told is = tt
