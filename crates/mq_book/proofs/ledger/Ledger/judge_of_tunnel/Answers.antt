use Rattle.std.proofs.Common.{ap, ◌∙◌, subst}
use Rattle.mq_talk.specs.declared.place.Origin.TheVariants as origin
use Rattle.mq_talk.specs.Judging.{IsJudged}
use Rattle.mq_book.specs.declared.tunnel.Tunnel.{Tunnel}
use Rattle.mq_book.proofs.Standing.{listed}
use Rattle.mq_book.proofs.ledger.Ledger.judge_of_tunnel.Goals as goal

pub returns-in-None : goal.returns-in-None
returns-in-None c = λ owns. listed c.args.self.now.history.items c.args.self.now.live.items c.args.number c.requires.live owns.live c.in-None.ensures

pub returns-in-Some : goal.returns-in-Some
returns-in-Some c =
    let same = ap (λ (t : Tunnel). t.number) c.index.ensures ∙ c.in-Some.ensures.1 c.index.result.now in
    subst (λ n. IsJudged c.args.self.now.setup c.args.self.now.history.items (origin.Tunnel n) c.args.flow.now c.judge_of_live.result) same c.judge_of_live.ensures
