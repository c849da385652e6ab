use Rattle.std.proofs.Common.{rules, sym, ◌∙◌, ap, List, ◌++◌, ℕ}
use Rattle.std.specs.Option.{unwrap_or}
use Rattle.mq_iphdr.specs.Echo.{header4_back, payload4_back}
use Rattle.mq_iphdr.proofs.Echoes.{turned4}
use Rattle.mq_iphdr.proofs.host.echo4.Goals as goal

pub returns-then-answered-clause-answer : goal.returns-then-answered-clause-answer
returns-then-answered-clause-answer c =
    turned4 c.args.packet.now c.args.view.now c.turn4.new.header c.payload4-answered.new.payload c.if-view-ne20.false
    (search rules) (c.payload4-answered.ensures.answer ∙ ap (λ (l : List ℕ). unwrap_or (payload4_back c.args.view.now.flow.protocol l) l) c.split_at_mut-header.ensures.back) (c.turn4.ensures ∙ ap (λ (l : List ℕ). header4_back l) c.split_at_mut-header.ensures.front)
