use Rattle.std.proofs.Common.{List, ℕ, [], ◌∷◌, ap, ◌∙◌, rules}
use Rattle.mq_words.proofs.Asking.{as_many, one_word, script_asks}
use Rattle.mq_words.proofs.words.found_in.Goals as goal

pub returns-in-1-clause-ok : goal.returns-in-1-clause-ok
returns-in-1-clause-ok g c = one_word _ (as_many _ c.args.words.now 1 c.in-1.is) ∙ ap (λ (w : List ℕ). w ∷ []) (search rules)

pub returns-in-3-clause-ok : goal.returns-in-3-clause-ok
returns-in-3-clause-ok g c = script_asks _ (as_many _ c.args.words.now 3 c.in-3.is) c.script_of.result c.script_of.ensures
