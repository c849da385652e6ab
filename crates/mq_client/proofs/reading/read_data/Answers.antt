use Rattle.std.proofs.Common.{List, ◌++◌, sym, ap, ◌∙◌}
use Rattle.mq_capsule.specs.declared.item.Item.{Item}
use Rattle.mq_client.specs.Events.{events_of}
use Rattle.mq_client.proofs.Told.{ended}
use Rattle.mq_client.proofs.Stages.{reads_over, reads_open}
use Rattle.mq_client.proofs.reading.read_data.Goals as goal

pub returns-then-over : goal.returns-then-over
returns-then-over c =
    let before = c.args.events.now.items in
    let told = c.in_ok-over.ensures.told ∙ ap (λ (i : List Item). before ++ events_of i) c.into_vec.ensures in
    let last = ap (λ (i : List Item). ended (events_of i)) (sym c.into_vec.ensures) ∙ sym c.in_ok-over.ensures.last in
    reads_over c.args.reader c.feed.new.self c.args.piece.now c.in_ok-items.items before c.tell_items.new.events.items
    c.in_ok-items.ensures.items c.in_ok-items.ensures.stands told (last ∙ c.if-over.true)

pub returns-else-over : goal.returns-else-over
returns-else-over c =
    let before = c.args.events.now.items in
    let told = c.in_ok-over.ensures.told ∙ ap (λ (i : List Item). before ++ events_of i) c.into_vec.ensures in
    let last = ap (λ (i : List Item). ended (events_of i)) (sym c.into_vec.ensures) ∙ sym c.in_ok-over.ensures.last in
    reads_open c.args.reader c.feed.new.self c.args.piece.now c.in_ok-items.items before c.tell_items.new.events.items
    c.in_ok-items.ensures.items c.in_ok-items.ensures.stands told (last ∙ c.if-over.false)
