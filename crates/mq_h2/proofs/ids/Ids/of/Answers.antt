use Rattle.std.proofs.Common.{◌==◌, sym}
use Rattle.std.proofs.lemmas.List.Sorted.{IsNonDecreasingBy-from_sort, list_any-IsPermutation}
use Rattle.mq_h2.proofs.ids.Ids.of.Goals as goal

pub invariant_of-result : goal.invariant_of-result
invariant_of-result c = record { rise = IsNonDecreasingBy-from_sort (λ x. x) c.sort_unstable.new.self.items c.sort_unstable.ensures.sorted }

pub returns : goal.returns
returns c = λ id. sym (list_any-IsPermutation (λ g. g == id) c.args.ids.items c.sort_unstable.new.self.items c.sort_unstable.ensures.permutation)
