use Rattle.std.proofs.Common.{sym, ◌∙◌}
use Rattle.mq_head.proofs.TextLemmas.{last_line_behind, last_line_lacking, behind_shorter}
use Rattle.mq_head.proofs.short.last_line.Goals as goal

pub loop-rest-smaller : goal.loop-rest-smaller
loop-rest-smaller c = behind_shorter 10 c.loop-rest.bytes.now c.in-Some.rest.now (sym c.in-Some.ensures)

pub loop-rest-preserved : goal.loop-rest-preserved
loop-rest-preserved c =
    sym (last_line_behind c.loop-rest.bytes.now c.in-Some.rest.now (sym c.in-Some.ensures)) ∙ c.loop-rest.invariant

pub returns : goal.returns
returns c = sym (last_line_lacking c.loop-rest.bytes.now (sym c.in_default.ensures)) ∙ c.loop-rest.invariant
