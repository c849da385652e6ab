use Rattle.std.proofs.Common.{inl, sym, subst}
use Rattle.std.proofs.lemmas.Bool.{both_ways}
use Rattle.mq_addr.specs.Ranges.{Leads}
use Rattle.mq_book.proofs.Judged.{judged, owns_its}
use Rattle.mq_book.proofs.ledger.Ledger.judge_of_live.Goals as goal

pub returns-then-not-allows : goal.returns-then-not-allows
returns-then-not-allows c = (
  owns_its c.args.self.now.history.items c.args.tunnel.now c.args.flow.now.source c.args.flow.now.protocol c.requires.tunnel (c.owns.ensures.0 c.if-not-owns.false),
  inl (λ routed. both_ways c.allows.result c.if-not-allows.true (c.allows.ensures.1 (subst (λ l. Leads l c.args.flow.now.target c.args.flow.now.protocol) (sym c.requires.tunnel.routes_is) routed))),
)

pub returns-else-not-allows : goal.returns-else-not-allows
returns-else-not-allows c =
    judged c.args.self.now.setup c.args.self.now.history.items c.args.tunnel.now.number c.args.flow.now c.judge_target.result
    (owns_its c.args.self.now.history.items c.args.tunnel.now c.args.flow.now.source c.args.flow.now.protocol c.requires.tunnel (c.owns.ensures.0 c.if-not-owns.false))
    (subst (λ l. Leads l c.args.flow.now.target c.args.flow.now.protocol) c.requires.tunnel.routes_is (c.allows.ensures.0 c.if-not-allows.false))
    c.judge_target.ensures
