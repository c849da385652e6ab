use Rattle.std.proofs.Common.{List, ℕ, [], get_or, ap, ◌∙◌, subst, rules}
use Rattle.mq_script.specs.declared.generator.Next.TheVariants.{Nothing, Opening, Packets, Step}
use Rattle.mq_script.specs.Left.{IsInOpening}
use Rattle.mq_script.proofs.Generating.{first_last, first_none, first_opening, first_packet, first_step, told}
use Rattle.mq_script.proofs.generator.Generator.append_first.Goals as goal

pub returns-in-Opening : goal.returns-in-Opening
returns-in-Opening c =
    let s = c.self.inside in
    let now = told c.args.self.now s.next (Opening c.in-Opening.number) s.state s.packet s.left c.self.view_is c.in-Opening.is in
    let first = ap (λ (lines : List (List ℕ)). get_or lines 0 []) now ∙ first_opening c.in-Opening.number s.state s.packet s.left (subst IsInOpening c.in-Opening.is c.self.invariant.0) in
    rw first c.append_opening.ensures

pub returns-in-Packets : goal.returns-in-Packets
returns-in-Packets c =
    let s = c.self.inside in
    let now = told c.args.self.now s.next Packets s.state s.packet s.left c.self.view_is c.in-Packets.is in
    let first = ap (λ (lines : List (List ℕ)). get_or lines 0 []) now ∙ first_packet s.state s.packet s.left c.if-self-gt0.true in
    let drawn = c.drawn.ensures in
    let state = c.next_state.ensures in
    rw first (rw (drawn, state) at c.append_piece.ensures)

pub returns-in-Packets-2 : goal.returns-in-Packets-2
returns-in-Packets-2 c =
    let s = c.self.inside in
    let now = told c.args.self.now s.next Packets s.state s.packet s.left c.self.view_is c.in-Packets.is in
    let first = ap (λ (lines : List (List ℕ)). get_or lines 0 []) now ∙ first_last s.state s.packet s.left c.if-self-gt0.false in
    rw first c.append.ensures

pub returns-in-Step : goal.returns-in-Step
returns-in-Step c =
    let s = c.self.inside in
    let now = told c.args.self.now s.next (Step c.in-Step.drawn) s.state s.packet s.left c.self.view_is c.in-Step.is in
    let first = ap (λ (lines : List (List ℕ)). get_or lines 0 []) now ∙ first_step c.in-Step.drawn s.state s.packet s.left in
    rw first c.append_step.ensures

pub returns-in-Nothing : goal.returns-in-Nothing
returns-in-Nothing c =
    let s = c.self.inside in
    let now = told c.args.self.now s.next Nothing s.state s.packet s.left c.self.view_is c.in-Nothing.is in
    let first = ap (λ (lines : List (List ℕ)). get_or lines 0 []) now ∙ first_none s.state s.packet s.left in
    rw first (search rules)
