use Rattle.std.proofs.Common.{◌∙◌, List, ℕ, subst}
use Rattle.std.specs.List.Sorted.{IsBinarySearchResult}
use Rattle.std.specs.Ordering.{nat_cmp}
use Rattle.mq_h2.proofs.Search.{found}
use Rattle.mq_h2.proofs.ids.Ids.has.Goals as goal

pub returns : goal.returns
returns c =
    let is : IsBinarySearchResult (λ y. nat_cmp y c.args.id) c.args.self.now.ids.items c.binary_search.result =
    subst (λ (xs : List ℕ). IsBinarySearchResult (λ y. nat_cmp y c.args.id) xs c.binary_search.result) c.as_slice.ensures.value c.binary_search.ensures.position in
    c.is_ok.ensures.value ∙ found c.args.self.now.ids.items c.args.id c.binary_search.result is c.args.self.now.rise
