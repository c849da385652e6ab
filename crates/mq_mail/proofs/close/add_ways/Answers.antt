use Rattle.std.proofs.Common.{◌<◌, length, map, sym, ap, ◌∙◌, le_refl, arith}
use lib.ListN.{length-map}
use Rattle.mq_mail.specs.Keys.{id_of}
use Rattle.mq_mail.specs.PostParts.{inbox_id}
use Rattle.mq_mail.proofs.Closing.{next_way, joins_more, joins_all}
use Rattle.mq_mail.proofs.InboxMoves.{pushes_too}
use Rattle.mq_mail.proofs.KeyMoves.{alike, read_at, within}
use Rattle.mq_mail.proofs.close.add_ways.Goals as goal

pub absorb-requires-clause-queue : goal.absorb-requires-clause-queue
absorb-requires-clause-queue c =
    let h = c.loop-i.invariant in
    let ids = h.ids ∙ c.requires.ids in
    let lt : c.loop-i.i < length c.args.inboxes.now = c.loop-i-test.true in
    let far : c.loop-i.i < length (map inbox_id c.args.inboxes.now) = omega (arith, lt, length-map c.args.inboxes.now inbox_id) in
    let at = read_at _ _ _ (within id_of _ _ c.loop-i.i ids far) c.index_mut.ensures.value in
    let there = read_at _ c.loop-i.i _ lt c.index-inboxes-i.is in
    let way = next_way _ _ _ _ _ _ _ h c.first_of-way.ensures in (
      (alike id_of inbox_id _ _ c.loop-i.i _ _ ids at there, c.requires.free c.loop-i.i _ (sym (h.later c.loop-i.i (le_refl c.loop-i.i)) ∙ at)),
      (alike id_of inbox_id _ _ c.loop-i.i _ _ c.requires.ways.0 way there, c.requires.ways.1 c.loop-i.i _ way),
    )

pub absorb-requires-clause-rule : goal.absorb-requires-clause-rule
absorb-requires-clause-rule c = pushes_too _ _ _ _

pub loop-i-preserved : goal.loop-i-preserved
loop-i-preserved c =
    let h = c.loop-i.invariant in
    let ids = h.ids ∙ c.requires.ids in
    let lt : c.loop-i.i < length c.args.inboxes.now = c.loop-i-test.true in
    let far : c.loop-i.i < length (map inbox_id c.args.inboxes.now) = omega (arith, lt, length-map c.args.inboxes.now inbox_id) in
    let at = read_at _ _ _ (within id_of _ _ c.loop-i.i ids far) c.index_mut.ensures.value in
    let free = c.requires.free c.loop-i.i _ (sym (h.later c.loop-i.i (le_refl c.loop-i.i)) ∙ at) in
    let queue = c.absorb.ensures.queue in
    joins_more _ _ _ _ _ c.loop-i.i _ _ _ h at c.first_of-way.ensures queue.0 (queue.2 ∙ free) c.absorb.ensures.rule

pub returns : goal.returns
returns c =
    let sizes = ap length c.requires.ids in
    joins_all _ _ _ _ _ c.loop-i.invariant
    (omega (arith, sizes, length-map c.args.passes.now.items id_of, length-map c.args.inboxes.now inbox_id, c.loop-i-test.false, c.loop-i.auto.i-end))
