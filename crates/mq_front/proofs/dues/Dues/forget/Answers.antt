use Rattle.std.proofs.Common.{rules, not, List, ap, ◌∙◌}
use Rattle.std.specs.Prelude.{filter}
use Rattle.std.proofs.lemmas.Fn.{filter_same}
use Rattle.mq_machine.specs.Done.{is_on}
use Rattle.mq_machine.specs.declared.act.Due.{Due}
use Rattle.mq_front.proofs.dues.Dues.forget.Goals as goal

pub returns : goal.returns
returns c =
    filter_same _ (λ (d : Due). not (is_on c.args.stream d)) _ (λ x b f' k. search rules) _ _ c.retain.ensures.filtered
    ∙ ap (λ (ds : List Due). filter (λ (d : Due). not (is_on c.args.stream d)) ds) c.self.view_is
