use Rattle.std.proofs.Common.{inl, inr, sym, ◌∙◌}
use Rattle.std.proofs.lemmas.Bool.{both_ways}
use Rattle.mq_book.proofs.Judged.{inward, at_tunnel, at_owner, some_owner, none_owner}
use Rattle.mq_book.proofs.ledger.Ledger.judge_of_net.Goals.{then-is_some-via-then-is_some, then-is_some-via-else-is_some+then-is_ours}
use Rattle.mq_book.proofs.ledger.Ledger.judge_of_net.Goals as goal

pub returns-then-is_some : goal.returns-then-is_some
returns-then-is_some c = elim c.then-is_some.branch [
  | then-is_some-via-then-is_some w ↦ inl (some_owner c.args.self.now.history.items c.args.self.now.live.items c.args.flow.now.source c.owner.result c.owner.ensures (sym c.is_some.ensures ∙ w.if-is_some.true))
  | then-is_some-via-else-is_some+then-is_ours w ↦ inr (w.is_ours.ensures.0 w.if-is_ours.true)
]

pub returns-in-Some : goal.returns-in-Some
returns-in-Some c =
    let t = c.index.result.now in
    let is = at_tunnel c.args.self.now.history.items c.args.self.now.live.items c.in-Some.at t c.requires.live c.in-Some.ensures.0 c.index.ensures in
    let owner = at_owner c.args.self.now.history.items c.args.self.now.live.items c.in-Some.at t c.args.flow.now.target c.index.ensures c.in-Some.ensures.1 in
    let free = none_owner c.args.self.now.history.items c.args.self.now.live.items c.args.flow.now.source c.owner.result c.owner.ensures (sym c.is_some.ensures ∙ c.if-is_some.false) in
    inward c.args.self.now.setup c.args.self.now.history.items t c.args.flow.now c.toward.result c.one_owner.ensures c.requires.config c.requires.legal
    (λ inner. elim inner [
      | inl found ↦ free found.0 found.1
      | inr ours ↦ both_ways c.is_ours.result c.if-is_ours.false (c.is_ours.ensures.1 ours)
    ]) is owner c.toward.ensures
