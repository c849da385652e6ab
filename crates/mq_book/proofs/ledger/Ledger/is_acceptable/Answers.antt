use Rattle.std.proofs.Common.{sym, subst}
use Rattle.std.specs.List.{All}
use Rattle.std.proofs.lemmas.Bool.{both_ways}
use Rattle.mq_book.specs.Stand.{IsReachable, IsClear}
use Rattle.mq_book.proofs.Changes.{reachable, from_reachable, all_clear, from_clear}
use Rattle.mq_book.proofs.ledger.Ledger.is_acceptable.Goals as goal

pub returns-then-all_reachable : goal.returns-then-all_reachable
returns-then-all_reachable c =
    let l = c.args.self.now in (
      λ passed. record {
        inside = reachable l.setup c.args.offered.now (subst (λ rs. All (λ r. IsReachable l.setup r) rs) c.ranges-2.ensures.value (c.all_reachable.ensures.0 c.if-all_reachable.true));
        apart = all_clear l.history.items l.live.items c.args.tunnel c.args.offered.now c.requires.live
            (subst (λ ts. All (IsClear c.args.tunnel c.args.offered.now) ts) c.as_slice.ensures.value (c.is_apart.ensures.0 passed));
      },
      λ good. c.is_apart.ensures.1 (subst (λ ts. All (IsClear c.args.tunnel c.args.offered.now) ts) (sym c.as_slice.ensures.value)
          (from_clear l.history.items l.live.items c.args.tunnel c.args.offered.now c.requires.live good.apart)),
    )

pub returns-else-all_reachable : goal.returns-else-all_reachable
returns-else-all_reachable c = (
  λ passed. absurd (both_ways c.all_reachable.result c.if-all_reachable.false passed),
  λ good. c.all_reachable.ensures.1 (subst (λ rs. All (λ r. IsReachable c.args.self.now.setup r) rs) (sym c.ranges-2.ensures.value) (from_reachable c.args.self.now.setup c.args.offered.now good.inside)),
)
