use Rattle.std.proofs.Common.{List, ℕ, drop, arith, ap, subst, ◌∙◌, sym}
use Rattle.mq_script.specs.declared.generator.Next.TheVariants.{Nothing, Opening, Packets, Step}
use Rattle.mq_script.specs.Left.{IsInOpening, left_of}
use Rattle.mq_script.proofs.Generating.{behind_last, behind_last_opening, behind_opening, behind_packet, told}
use Rattle.mq_script.proofs.generator.Generator.advance.Goals as goal

pub returns-in-Opening : goal.returns-in-Opening
returns-in-Opening c =
    let s = c.self.inside in
    let now = told c.args.self.now s.next (Opening c.in-Opening.number) s.state s.packet s.left c.self.view_is c.in-Opening.is in
    behind_opening c.in-Opening.number s.state s.packet s.left (omega arith) ∙ ap (λ (lines : List (List ℕ)). drop 1 lines) (sym now)

pub returns-in-Opening-2 : goal.returns-in-Opening-2
returns-in-Opening-2 c =
    let s = c.self.inside in
    let now = told c.args.self.now s.next (Opening c.in-Opening.number) s.state s.packet s.left c.self.view_is c.in-Opening.is in
    let within = subst IsInOpening c.in-Opening.is c.self.invariant.0 in
    behind_last_opening c.in-Opening.number s.state s.packet s.left within c.if-number-lt-OPENING.false ∙ ap (λ (lines : List (List ℕ)). drop 1 lines) (sym now)

pub returns-in-Packets : goal.returns-in-Packets
returns-in-Packets c =
    let s = c.self.inside in
    let now = told c.args.self.now s.next Packets s.state s.packet s.left c.self.view_is c.in-Packets.is in
    rw (c.drawn.ensures, c.next_state-self-inside.ensures) (behind_packet s.state s.packet s.left c.if-self-gt0.true ∙ ap (λ (lines : List (List ℕ)). drop 1 lines) (sym now))

pub returns-in-Packets-2 : goal.returns-in-Packets-2
returns-in-Packets-2 c =
    let s = c.self.inside in
    let now = told c.args.self.now s.next Packets s.state s.packet s.left c.self.view_is c.in-Packets.is in
    behind_last s.state s.packet s.left c.if-self-gt0.false ∙ ap (λ (lines : List (List ℕ)). drop 1 lines) (sym now)

pub returns-in-Step : goal.returns-in-Step
unfolding left_of
returns-in-Step c =
    let s = c.self.inside in
    let now = told c.args.self.now s.next (Step c.in-Step.field-0) s.state s.packet s.left c.self.view_is c.in-Step.is in
    ap (λ (lines : List (List ℕ)). drop 1 lines) (sym now)

pub returns-in-Nothing : goal.returns-in-Nothing
unfolding left_of
returns-in-Nothing c =
    let s = c.self.inside in
    let now = told c.args.self.now s.next Nothing s.state s.packet s.left c.self.view_is c.in-Nothing.is in
    now ∙ ap (λ (lines : List (List ℕ)). drop 1 lines) (sym now)
