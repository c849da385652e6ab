use Rattle.mq_book.proofs.Judged.{onward, at_tunnel, at_owner}
use Rattle.mq_book.proofs.ledger.Ledger.judge_target.Goals as goal

pub returns-in-Some : goal.returns-in-Some
returns-in-Some c =
    let t = c.index.result.now in
    let is = at_tunnel c.args.self.now.history.items c.args.self.now.live.items c.in-Some.at t c.requires.live c.in-Some.ensures.0 c.index.ensures in
    let owner = at_owner c.args.self.now.history.items c.args.self.now.live.items c.in-Some.at t c.args.flow.now.target c.index.ensures c.in-Some.ensures.1 in
    onward c.args.self.now.setup c.args.self.now.history.items t c.args.flow.now c.toward.result is owner c.toward.ensures
