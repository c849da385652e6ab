use Rattle.std.proofs.Common.{sym, ◌∙◌}
use Rattle.mq_target.specs.declared.target.Host.TheVariants.{Name}
use Rattle.mq_words.proofs.Asking.{on_err}
use Rattle.mq_words.proofs.words.target_of.Goals as goal

pub returns-clause-err : goal.returns-clause-err
returns-clause-err c = on_err c.host_of.result _ _ (λ named. (Name named.0, (sym c.begins_with_dash.ensures ∙ c.if-begins_with_dash.false, named.1))) c.host_of.ensures.err
