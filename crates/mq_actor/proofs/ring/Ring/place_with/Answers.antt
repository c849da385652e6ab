use Rattle.std.proofs.Common.{rules, ◌≤◌, length}
use Rattle.mq_actor.proofs.Parcels.{is_first, one_more, none_has}
use Rattle.mq_actor.proofs.ring.Ring.place_with.Goals as goal

pub returns-then-is_live : goal.returns-then-is_live
returns-then-is_live g c =
    let conns = c.args.self.now.conns.items in
    let held = c.at.result.now in
    let at = c.at.ensures in
    is_first conns c.args.tunnel c.loop-place.place held c.is_live.result at c.is_live.ensures c.if-is_live.true c.loop-place.invariant.before

pub loop-place-preserved : goal.loop-place-preserved
loop-place-preserved g c = record {
  before =
      let conns = c.args.self.now.conns.items in
      let held = c.at.result.now in
      let at = c.at.ensures in
      one_more conns c.args.tunnel c.loop-place.place held c.is_live.result at c.is_live.ensures c.if-is_live.false c.loop-place.invariant.before;
}

pub returns : goal.returns
returns g c =
    let conns = c.args.self.now.conns.items in
    let past : length conns ≤ c.loop-place.place = search rules in
    none_has conns c.args.tunnel c.loop-place.place past c.loop-place.invariant.before
