-- Each range behind those before it: that is the order of a list.
use Rattle.std.proofs.Common.{◌≡◌, ℕ, ◌<◌, List, length, get_or, take, sym, subst, arith}
use Rattle.std.proofs.lemmas.List.{get_or-take, get_or_default, length-take-le}
use Rattle.mq_addr.specs.declared.range.Range.{Range}
use Rattle.mq_addr.specs.Ranges.{Precedes, IsOrdered}
use Rattle.mq_route.specs.Orders.{MayFollow}

-- the range at a place may stand behind those before it
pub record FollowsAt (list : List Range) (j : ℕ) : Type 0 where
  pub follows : (d : Range) → MayFollow (take j list) (get_or list j d)

pub ordered : (list : List Range) → ((j : ℕ) → j < length list → FollowsAt list j) → IsOrdered list
ordered list each = record {
  ranges_are = λ k d less. ((each k less).follows d).is_range;
  ordered = λ i j d less within.
      let long : length (take j list) ≡ j = length-take-le j list (omega (arith, within)) in
      let below : i < length (take j list) = omega (arith, long, less) in
      subst (λ r. Precedes 0 r (get_or list j d)) (get_or-take j list i d less) (((each j within).follows d).behind i d below);
}

pub follows_at : (list : List Range) (j : ℕ) → j < length list → IsOrdered list → FollowsAt list j
follows_at list j within is = record {
  follows = λ d. record {
    is_range = is.ranges_are j d within;
    behind = λ i e below.
        let long : length (take j list) ≡ j = length-take-le j list (omega (arith, within)) in
        let less : i < j = omega (arith, long, below) in
        let there : i < length list = omega (arith, less, within) in
        let same = get_or_default list i d e there in
        let mine : Precedes 0 (get_or list i e) (get_or list j d) = subst (λ r. Precedes 0 r (get_or list j d)) same (is.ordered i j d less within) in
        subst (λ r. Precedes 0 r (get_or list j d)) (sym (get_or-take j list i e less)) mine;
  };
}

pub at_place : (list before : List Range) (j : ℕ) (d : Range) → j < length list → before ≡ take j list → MayFollow before (get_or list j d) → FollowsAt list j
at_place list before j d within is may = record {
  follows = λ e. subst (λ b. MayFollow b (get_or list j e)) is (subst (λ r. MayFollow before r) (get_or_default list j d e within) may);
}

pub from_place : (list before : List Range) (j : ℕ) (d : Range) → before ≡ take j list → FollowsAt list j → MayFollow before (get_or list j d)
from_place list before j d is at = subst (λ b. MayFollow b (get_or list j d)) (sym is) (at.follows d)
