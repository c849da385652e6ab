use Rattle.std.proofs.Common.{◌<◌, ℕ, length, map, sym, ap, ◌∙◌, [], ◌∷◌, length-append, arith}
use lib.ListN.{length-map}
use Rattle.std.proofs.lemmas.Option.{same_Some}
use Rattle.mq_mail.specs.Keys.{id_of}
use Rattle.mq_mail.specs.PostParts.{inbox_id}
use Rattle.mq_mail.proofs.Closing.{there_is, own_key, gathered_same, tally_is, tallied_more, tallied_all}
use Rattle.mq_mail.proofs.KeyMoves.{alike, read_at, within}
use Rattle.mq_mail.proofs.close.tally_each.Goals as goal

pub tally_of-tally-requires-clause-pass : goal.tally_of-tally-requires-clause-pass
tally_of-tally-requires-clause-pass g c =
    let all = c.requires.gathered in
    let h = (c.loop-i.invariant.gathered all.0 all.1 all.2).0 in
    let lt : c.loop-i.i < length c.args.inboxes.now = c.loop-i-test.true in
    let far : c.loop-i.i < length (map inbox_id c.args.inboxes.now) = omega (arith, lt, length-map c.args.inboxes.now inbox_id) in
    let at = read_at _ _ _ (within id_of _ _ c.loop-i.i h.ids far) c.index_mut.ensures.value in
    let there = read_at _ c.loop-i.i _ lt c.index-inboxes-i.is in
    (alike id_of inbox_id _ _ c.loop-i.i _ _ h.ids at there, (h.each c.loop-i.i _ at).rest)

pub tally_of-tally-requires-clause-pops : goal.tally_of-tally-requires-clause-pops
tally_of-tally-requires-clause-pops g c =
    let all = c.requires.gathered in
    let h = (c.loop-i.invariant.gathered all.0 all.1 all.2).0 in
    let lt : c.loop-i.i < length c.args.inboxes.now = c.loop-i-test.true in
    let far : c.loop-i.i < length (map inbox_id c.args.inboxes.now) = omega (arith, lt, length-map c.args.inboxes.now inbox_id) in
    let at = read_at _ _ _ (within id_of _ _ c.loop-i.i h.ids far) c.index_mut.ensures.value in
    let key = there_is all.0 c.loop-i.i (omega (arith, far, all.1.size)) in
    ((h.each c.loop-i.i _ at).pops key.0 key.1).0

pub tally_of-tally-requires-clause-popped : goal.tally_of-tally-requires-clause-popped
tally_of-tally-requires-clause-popped g c =
    let all = c.requires.gathered in
    let h = (c.loop-i.invariant.gathered all.0 all.1 all.2).0 in
    let lt : c.loop-i.i < length c.args.inboxes.now = c.loop-i-test.true in
    let far : c.loop-i.i < length (map inbox_id c.args.inboxes.now) = omega (arith, lt, length-map c.args.inboxes.now inbox_id) in
    let at = read_at _ _ _ (within id_of _ _ c.loop-i.i h.ids far) c.index_mut.ensures.value in
    let key = there_is all.0 c.loop-i.i (omega (arith, far, all.1.size)) in
    let count = read_at _ c.loop-i.i _ (omega (arith, far, h.size)) c.index.ensures in
    same_Some _ _ (sym count ∙ h.counts c.loop-i.i key.0 key.1) ∙ ap length (sym ((h.each c.loop-i.i _ at).pops key.0 key.1).1)

pub loop-i-preserved : goal.loop-i-preserved
loop-i-preserved g c =
    let i : ℕ = c.loop-i.i in
    let lt : i < length c.args.inboxes.now = c.loop-i-test.true in
    let far : i < length (map inbox_id c.args.inboxes.now) = omega (arith, lt, length-map c.args.inboxes.now inbox_id) in
    let pass = c.tally_of-tally.ensures.pass in
    let left = c.tally_of-tally.ensures.left in
    let more = c.push_reserved.ensures.items in
    record {
      gathered = λ keys all before.
          let was = c.loop-i.invariant.gathered keys all before in
          let at = read_at _ _ _ (within id_of _ _ i was.0.ids far) c.index_mut.ensures.value in
          let is = was.0.each i _ at in (
            gathered_same _ keys _ _ i _ c.tally_of-tally.new.pass was.0 at pass.0 pass.1 c.tally_of-tally.ensures.known,
            tallied_more keys _ _ i _ was.1 c.loop-i.invariant.size more (λ key own.
                let pops = is.pops key own in
                let count = read_at _ i _ (omega (arith, far, was.0.size)) c.index.ensures in
                let number = same_Some _ _ (sym count ∙ was.0.counts i key own) in
                let popped = c.tally_of-tally.ensures.popped ∙ number in
                let pushed = c.tally_of-tally.ensures.pushed in
                tally_is _ keys i key _ left.0 _ all is own (own_key _ keys i key all own).0 left.2 (sym left.1) popped (omega (arith, pushed, c.tally_of-tally.ensures.popped))),
          );
      size = omega (arith, ap length more, length-append c.loop-i.tallies.items (c.tally_of-tally.result ∷ []), c.loop-i.invariant.size);
      count = omega (arith, c.push_reserved.ensures.len, c.loop-i.invariant.count);
      room = omega (arith, c.push_reserved.ensures.capacity, c.loop-i.invariant.room);
    }

pub returns : goal.returns
returns g c = λ keys all before.
    let done = (c.loop-i.invariant.gathered keys all before).1 in
    tallied_all keys _ done
    (omega (arith, all.size, length-map c.args.inboxes.now inbox_id, c.loop-i.invariant.size, c.loop-i-test.false, c.loop-i.auto.i-end))
