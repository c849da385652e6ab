use Rattle.std.proofs.Common.{◌≡◌, List, subst}
use Rattle.std.specs.Prelude.{IfOk}
use Rattle.mq_play.specs.declared.line.SettingLine.{SettingLine}
use Rattle.mq_play.specs.Settings.{plan_of}
use Rattle.mq_script.specs.Settings.{Made, IsSettings}
use Rattle.mq_replay.proofs.Planning.{is_a_plan}
use Rattle.mq_replay.proofs.told.Told.plan.Goals as goal

pub returns-clause-of_lines : goal.returns-clause-of_lines
returns-clause-of_lines c = subst (λ (made : Made). IfOk c.plan.result (λ plan. (lines : List SettingLine) → IsSettings made lines → plan ≡ plan_of lines)) c.self.view_is c.plan.ensures.of_lines

pub returns-clause-is_plan : goal.returns-clause-is_plan
returns-clause-is_plan c = is_a_plan c.plan.result c.self.inside.settings c.makes_a_plan.ensures c.self.invariant c.plan.ensures.of_lines
