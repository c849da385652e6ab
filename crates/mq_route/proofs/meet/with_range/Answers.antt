use Rattle.std.proofs.Common.{ap, sym, subst, ◌∙◌}
use Rattle.mq_route.specs.Puts.{IsMore, put}
use Rattle.mq_route.proofs.Meets.{more_by}
use Rattle.mq_route.proofs.meet.with_range.Goals as goal

pub returns-in_ok-new-in-Some : goal.returns-in_ok-new-in-Some
returns-in_ok-new-in-Some c =
    let is = c.in_ok-new-in-Some.ensures ∙ ap (λ l. put c.in-Some.part l) c.as_slice.ensures.value in
    subst (λ l. IsMore c.args.list.items c.args.range.now c.args.area.now c.args.asked l) (sym is)
    (more_by c.args.list.items c.args.range.now c.in-Some.part c.args.area.now c.args.asked c.in-Some.ensures)
