use Rattle.std.proofs.Common.{◌≡◌, ◌<◌, ℕ, List, length, map, sym, ap, subst, arith}
use lib.ListN.{length-map}
use Rattle.mq_mail.specs.declared.inbox_rule.Part.{Part}
use Rattle.mq_mail.specs.Keys.{InboxPass}
use Rattle.mq_mail.specs.Made.{AreWaysTo}
use Rattle.mq_mail.specs.PostParts.{inbox_id}
use Rattle.mq_mail.proofs.InboxMoves.{makes}
use Rattle.mq_mail.proofs.KeyMoves.{at_map, read_at}
use Rattle.mq_mail.proofs.MatrixMoves.{AreHalfway, half_length, half_at, half_more, half_all, ways_more}
use Rattle.mq_mail.proofs.start.make_ways.Goals as goal

pub loop-i-init : goal.loop-i-init
loop-i-init c = record {
  firsts = c.requires;
  ways = subst (λ (l : List InboxPass). AreWaysTo c.args.actor 0 (map inbox_id c.args.inboxes.now) l) (sym c.in_ok-ways.ensures.items) tt;
}

pub index_mut-requires : goal.index_mut-requires
index_mut-requires c =
    let e = half_length _ _ _ _ c.loop-i.invariant.firsts in
    let m = length-map c.args.inboxes.now inbox_id in
    let lt : c.loop-i.i < length c.args.inboxes.now = c.loop-i-test.true in
    omega (arith, e, m, lt, c.loop-i.firsts.ok)

pub another-way-requires-clause-queue : goal.another-way-requires-clause-queue
another-way-requires-clause-queue c =
    let e = half_length _ _ _ _ c.loop-i.invariant.firsts in
    let m = length-map c.args.inboxes.now inbox_id in
    let lt : c.loop-i.i < length c.args.inboxes.now = c.loop-i-test.true in
    let there = at_map inbox_id _ c.loop-i.i _ (read_at _ c.loop-i.i _ lt c.index-inboxes-i.is) in
    let at = read_at _ c.loop-i.i _ (omega (arith, e, m, lt)) c.index_mut.ensures.value in
    let first = half_at _ c.loop-i.i _ _ _ _ c.loop-i.invariant.firsts there at in
    (first.id, first.rest)

pub another-way-requires-clause-rule : goal.another-way-requires-clause-rule
another-way-requires-clause-rule c =
    let e = half_length _ _ _ _ c.loop-i.invariant.firsts in
    let m = length-map c.args.inboxes.now inbox_id in
    let lt : c.loop-i.i < length c.args.inboxes.now = c.loop-i-test.true in
    let there = at_map inbox_id _ c.loop-i.i _ (read_at _ c.loop-i.i _ lt c.index-inboxes-i.is) in
    let at = read_at _ c.loop-i.i _ (omega (arith, e, m, lt)) c.index_mut.ensures.value in
    let first = half_at _ c.loop-i.i _ _ _ _ c.loop-i.invariant.firsts there at in
    makes _ _ (ap (λ (v : Part). v.pops) first.knows)

pub loop-i-preserved : goal.loop-i-preserved
loop-i-preserved c =
    let e = half_length _ _ _ _ c.loop-i.invariant.firsts in
    let m = length-map c.args.inboxes.now inbox_id in
    let lt : c.loop-i.i < length c.args.inboxes.now = c.loop-i-test.true in
    let there = at_map inbox_id _ c.loop-i.i _ (read_at _ c.loop-i.i _ lt c.index-inboxes-i.is) in
    let at = read_at _ c.loop-i.i _ (omega (arith, e, m, lt)) c.index_mut.ensures.value in
    let first = half_at _ c.loop-i.i _ _ _ _ c.loop-i.invariant.firsts there at in
    let queue = c.another-way.ensures.queue in
    let rule = c.another-way.ensures.rule in
    record {
      firsts = half_more _ c.loop-i.i _ _ _ _ c.another-way.new.pass c.loop-i.invariant.firsts there first queue.0.0 queue.0.2 rule.0;
      ways = ways_more _ c.loop-i.i _ _ _ _ _ c.another-way.result c.loop-i.invariant.ways there first queue.1.0 queue.1.1 rule.1 c.in_ok-push.ensures.items;
    }

pub returns-clause-firsts : goal.returns-clause-firsts
returns-clause-firsts c =
    let m = length-map c.args.inboxes.now inbox_id in
    let e : c.loop-i.i ≡ length (map inbox_id c.args.inboxes.now) = omega (arith, m, c.loop-i-test.false, c.loop-i.auto.i-end) in
    let P : ℕ → Type 0 = λ n. AreHalfway c.args.actor n (map inbox_id c.args.inboxes.now) c.loop-i.firsts.items in
    half_all _ _ _ (subst P e c.loop-i.invariant.firsts)
