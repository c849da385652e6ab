use Rattle.std.proofs.Common.{rules, sym, ◌∙◌, ap, List, ◌++◌, take, ℕ}
use Rattle.std.specs.Option.{unwrap_or}
use Rattle.mq_iphdr.specs.Echo.{header6_back, payload6_back}
use Rattle.mq_iphdr.proofs.Echoes.{said6, turned6, left6}
use Rattle.mq_iphdr.proofs.host.echo6.Goals as goal

pub returns-then-answered-clause-answered : goal.returns-then-answered-clause-answered
returns-then-answered-clause-answered c = said6 c.args.packet.now c.args.view.now c.payload6-answered.result c.if-view-ne40.false (search rules)

pub returns-then-answered-clause-answer : goal.returns-then-answered-clause-answer
returns-then-answered-clause-answer c =
    turned6 c.args.packet.now c.args.view.now c.turn6.new.header c.payload6-answered.new.payload c.if-view-ne40.false
    (search rules) (c.payload6-answered.ensures.answer
    ∙ ap (λ (l : List ℕ). unwrap_or (payload6_back l c.args.view.now.flow.protocol c.split_at_mut-header.result.1.now) c.split_at_mut-header.result.1.now) c.split_at_mut-header.ensures.front
    ∙ ap (λ (l : List ℕ). unwrap_or (payload6_back (take 40 c.args.packet.now) c.args.view.now.flow.protocol l) l) c.split_at_mut-header.ensures.back) (c.turn6.ensures ∙ ap (λ (l : List ℕ). header6_back l) c.split_at_mut-header.ensures.front)

pub returns-else-answered-clause-answered : goal.returns-else-answered-clause-answered
returns-else-answered-clause-answered c = said6 c.args.packet.now c.args.view.now c.payload6-answered.result c.if-view-ne40.false (search rules)

pub returns-else-answered-clause-answer : goal.returns-else-answered-clause-answer
returns-else-answered-clause-answer c =
    ap (λ (l : List ℕ). l ++ c.payload6-answered.new.payload) c.split_at_mut-header.ensures.front
    ∙ left6 c.args.packet.now c.args.view.now c.payload6-answered.new.payload c.if-view-ne40.false (search rules) (c.payload6-answered.ensures.answer
    ∙ ap (λ (l : List ℕ). unwrap_or (payload6_back l c.args.view.now.flow.protocol c.split_at_mut-header.result.1.now) c.split_at_mut-header.result.1.now) c.split_at_mut-header.ensures.front
    ∙ ap (λ (l : List ℕ). unwrap_or (payload6_back (take 40 c.args.packet.now) c.args.view.now.flow.protocol l) l) c.split_at_mut-header.ensures.back)
