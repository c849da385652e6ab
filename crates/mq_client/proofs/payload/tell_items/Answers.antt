use Rattle.std.proofs.Common.{◌∙◌, sym}
use Rattle.mq_client.proofs.Told.{told_next, told_last, taken_next}
use Rattle.std.specs.Vec.Iter.{into_iter_items}
use Rattle.mq_client.proofs.payload.tell_items.Goals as goal

pub loop-item-preserved : goal.loop-item-preserved
loop-item-preserved c =
    let next =
    told_next c.loop-item.yielded c.in-Some.item c.args.events.now.items c.loop-item.events.items c.tell_item.new.events.items c.in_ok-tell_item.field-0
    c.loop-item.invariant c.in_ok-tell_item.ensures in
    (next.0, sym next.1 ∙ c.if-branch.false)

pub returns-then-branch-clause-told : goal.returns-then-branch-clause-told
returns-then-branch-clause-told c =
    let are =
    sym c.into_iter-item-iterator.ensures.into_iter_gives.0
    ∙ taken_next c.into_iter-item-iterator.result c.loop-item.yielded c.loop-item.item-iterator c.next.new.self c.in-Some.item c.loop-item.yielded_by c.in-Some.ensures.steps.0 in
    (told_last c.args.items.items c.loop-item.yielded c.in-Some.item (into_iter_items c.next.new.self) c.args.events.now.items c.loop-item.events.items
    c.tell_item.new.events.items c.in_ok-tell_item.field-0 are c.loop-item.invariant c.in_ok-tell_item.ensures c.if-branch.true).0

pub returns-then-branch-clause-last : goal.returns-then-branch-clause-last
returns-then-branch-clause-last c =
    let are =
    sym c.into_iter-item-iterator.ensures.into_iter_gives.0
    ∙ taken_next c.into_iter-item-iterator.result c.loop-item.yielded c.loop-item.item-iterator c.next.new.self c.in-Some.item c.loop-item.yielded_by c.in-Some.ensures.steps.0 in
    (told_last c.args.items.items c.loop-item.yielded c.in-Some.item (into_iter_items c.next.new.self) c.args.events.now.items c.loop-item.events.items
    c.tell_item.new.events.items c.in_ok-tell_item.field-0 are c.loop-item.invariant c.in_ok-tell_item.ensures c.if-branch.true).1
