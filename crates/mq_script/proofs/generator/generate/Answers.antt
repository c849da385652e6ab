use Rattle.std.proofs.Common.{List, ℕ, ◌++◌, ◌-◌, Bool, drop, subst, sym, ap, ◌∙◌, Some, Ok}
use Rattle.mq_script.specs.Generated.{generated}
use Rattle.mq_script.specs.Left.{GivesLine}
use Rattle.mq_script.proofs.Generating.{counted_from_one, got_line, no_line}
use Rattle.mq_script.proofs.generator.generate.Goals as goal

pub returns-then-branch : goal.returns-then-branch
returns-then-branch c =
    let lines = generated c.args.seed c.args.count in
    let left = c.skip.ensures ∙ ap (λ (all : List (List ℕ)). drop (c.args.line - 1) all) c.new-generator.ensures in
    let taken = subst (λ (b : Bool). GivesLine c.skip.new.self c.new-text.result.items (Ok b) c.next_line.new.self c.next_line.new.out.items) c.if-branch.true c.in_ok-next_line.ensures in
    let text = c.from_vec.ensures ∙ taken.2 ∙ ap (λ (start : List ℕ). start ++ taken.0) c.new-text.ensures.items in
    let found = got_line lines (c.args.line - 1) taken.0 c.next_line.new.self (sym left ∙ taken.1) in
    ap Some text ∙ sym (counted_from_one lines c.args.line c.if-line-eq0.false ∙ found)

pub returns-else-branch : goal.returns-else-branch
returns-else-branch c =
    let lines = generated c.args.seed c.args.count in
    let left = c.skip.ensures ∙ ap (λ (all : List (List ℕ)). drop (c.args.line - 1) all) c.new-generator.ensures in
    let taken = subst (λ (b : Bool). GivesLine c.skip.new.self c.new-text.result.items (Ok b) c.next_line.new.self c.next_line.new.out.items) c.if-branch.false c.in_ok-next_line.ensures in
    sym (counted_from_one lines c.args.line c.if-line-eq0.false ∙ no_line lines (c.args.line - 1) (sym left ∙ taken.0))
