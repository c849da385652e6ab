use Rattle.std.proofs.Common.{ℕ, List, ◌∙◌, ap}
use Rattle.std.specs.FinMap as finite
use Rattle.mq_policy.proofs.Trees.{get_is}
use Rattle.mq_policy.proofs.names.Names.get.Goals as goal

pub returns : goal.returns
returns c =
    c.copied.ensures ∙ c.get.ensures.value ∙ get_is c.as_slice.result.now c.self.inside.addrs ∙ ap (λ table. finite.get table c.as_slice.result.now) c.self.view_is
    ∙ ap (λ (name : List ℕ). finite.get c.args.self.now name) c.as_slice.ensures.same
