-- Blocks of which none has an address of those before it: no two have an address in common.
use Rattle.std.proofs.Common.{◌≡◌, Bool, false, IsTrue, ℕ, ◌<◌, ◌≤◌, List, ◌++◌, length, get_or, take, sym, subst, ◌∙◌, ap, arith}
use Rattle.std.specs.List.{All, Any, AllPairs}
use Rattle.std.proofs.lemmas.List.{get_or-take, get_or_default, length-take-le}
use Rattle.mq_addr.specs.declared.prefix.Prefix.{Prefix}
use Rattle.mq_addr.specs.Block.{Overlap}
use Rattle.mq_addr.specs.Ranges.{IsOrdered}
use Rattle.mq_talk.specs.Config.{HasNoZero, IsConfig}
use Rattle.mq_talk.specs.declared.book.Config.{Config}

-- no block before the one at this place has an address of it
pub record IsApartAt (blocks : List Prefix) (j : ℕ) : Type 0 where
  pub apart : (i : ℕ) (d : Prefix) → i < j → Overlap (get_or blocks i d) (get_or blocks j d) → ⊥

is_not : (b : Bool) → b ≡ false → IsTrue b → ⊥
is_not b isnt is = absurd cc

pub all_apart : (blocks : List Prefix) → ((j : ℕ) → j < length blocks → IsApartAt blocks j) → AllPairs (λ a b. ¬ (Overlap a b)) blocks
all_apart blocks each i j d less within = (each j within).apart i d less

pub none_before : (blocks before : List Prefix) (j : ℕ) (d : Prefix) → j < length blocks → before ≡ take j blocks → (b : Bool) → (Any (λ other. Overlap other (get_or blocks j d)) before → IsTrue b)
    → b ≡ false → IsApartAt blocks j
none_before blocks before j d within is b met isnt = record {
  apart = λ i e less both.
      let there : i < length blocks = omega (arith, less, within) in
      let long : length (take j blocks) ≡ j = length-take-le j blocks (omega (arith, within)) in
      let below : i < length (take j blocks) = omega (arith, long, less) in
      let first = subst (λ b. Overlap b (get_or blocks j e)) (sym (get_or-take j blocks i e less)) both in
      let second = subst (λ b. Overlap (get_or (take j blocks) i e) b) (get_or_default blocks j e d within) first in
      is_not b isnt (met (subst (λ l. Any (λ other. Overlap other (get_or blocks j d)) l) (sym is) (i, get_or (take j blocks) i e, below, get_or_default (take j blocks) i (get_or (take j blocks) i e) e below, second)));
}

meets : (blocks : List Prefix) (j : ℕ) (d : Prefix) → j < length blocks → AllPairs (λ a b. ¬ (Overlap a b)) blocks → Any (λ other. Overlap other (get_or blocks j d)) (take j blocks) → ⊥
meets blocks j d within all (k, x, less, is, p) =
    let long : length (take j blocks) ≡ j = length-take-le j blocks (omega (arith, within)) in
    let before : k < j = omega (arith, long, less) in
    let there : k < length blocks = omega (arith, before, within) in
    let same : get_or blocks k d ≡ x = get_or_default blocks k d x there ∙ sym (get_or-take j blocks k x before) ∙ is in
    all k j d before within (subst (λ b. Overlap b (get_or blocks j d)) (sym same) p)

pub one_before : (blocks before : List Prefix) (j : ℕ) (d : Prefix) → j < length blocks → before ≡ take j blocks → Any (λ other. Overlap other (get_or blocks j d)) before
    → AllPairs (λ a b. ¬ (Overlap a b)) blocks → ⊥
one_before blocks before j d within is any all = meets blocks j d within all (subst (λ l. Any (λ other. Overlap other (get_or blocks j d)) l) is any)

-- the blocks of a configuration
pub apart_of : (config : Config) (blocks : List Prefix) → blocks ≡ config.pool ++ config.reach → IsConfig config → AllPairs (λ a b. ¬ (Overlap a b)) blocks
apart_of config blocks is may = subst (AllPairs (λ a b. ¬ (Overlap a b))) (sym is) may.apart

pub no_zero_of : (config : Config) (blocks : List Prefix) → blocks ≡ config.pool ++ config.reach → IsConfig config → All HasNoZero blocks
no_zero_of config blocks is may = subst (All HasNoZero) (sym is) may.no_zero

pub config_is : (config : Config) (blocks : List Prefix) → blocks ≡ config.pool ++ config.reach
    → (length config.pool ≤ 16) × (length config.reach ≤ 16) × (length config.routes ≤ 32)
    → AllPairs (λ a b. ¬ (Overlap a b)) blocks → All HasNoZero blocks → IsOrdered config.routes → IsConfig config
config_is config blocks is short apart none ordered = record {
  few_pools = short.0;
  few_reaches = short.1;
  few_routes = short.2;
  apart = subst (AllPairs (λ a b. ¬ (Overlap a b))) is apart;
  no_zero = subst (All HasNoZero) is none;
  ordered = ordered;
}

pub joined : (config : Config) (slice items front pool reach : List Prefix) → slice ≡ items → items ≡ front ++ reach → front ≡ pool → pool ≡ config.pool → reach ≡ config.reach
    → slice ≡ config.pool ++ config.reach
joined config slice items front pool reach a b c d e = a ∙ b ∙ ap (λ l. l ++ reach) (c ∙ d) ∙ ap (λ l. config.pool ++ l) e
