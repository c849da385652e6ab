use Rattle.std.proofs.Common.{◌≡◌, List, [], refl, sym, subst}
use Rattle.std.proofs.lemmas.Result.{IfOk-weaker}
use Rattle.mq_play.specs.declared.plan.Plan.{Plan}
use Rattle.mq_play.specs.declared.line.SettingLine.{SettingLine}
use Rattle.mq_play.specs.Settings.{IsPlan, plan_of}
use Rattle.mq_script.specs.Settings.{IsSettings}
use Rattle.masque.proofs.tests.meeting.unset.Goals as goal

-- No line was told, so the first lines of the empty script told these settings.
pub returns : goal.returns
returns c =
    let none : IsPlan (plan_of []) = c.makes_a_plan.ensures [] [] [] [] (refl, refl) in
    IfOk-weaker c.plan.result (λ (plan : Plan). (lines : List SettingLine) → IsSettings c.new.result lines → plan ≡ plan_of lines) IsPlan
    (λ plan same. subst IsPlan (sym (same [] c.new.ensures)) none) c.plan.ensures.of_lines
