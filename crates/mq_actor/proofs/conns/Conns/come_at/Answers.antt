use Rattle.std.proofs.Common.{rules, ◌≡◌, ◌<◌, length, Some, slice_get, refl, arith}
use Rattle.std.specs.Vec.{vec_len}
use Rattle.mq_actor.proofs.Beginnings.{rise_set}
use Rattle.mq_actor.proofs.OwnPorts.{at_index}
use Rattle.mq_actor.proofs.Parcels.{comes_at}
use Rattle.mq_actor.proofs.conns.Conns.come_at.Goals as goal

pub returns : goal.returns
returns g c =
    let conns = c.args.self.now.items in
    let held = c.index_mut-held.result.now in
    let len : vec_len c.args.self.now ≡ length conns = search rules in
    let place = c.requires in
    let at : slice_get conns c.args.place ≡ Some held = at_index conns c.args.place held (omega (arith, len, place)) (rw (← c.self.view_is) c.index_mut-held.ensures.value) in
    rw (c.self.view_is) (comes_at c.args.place c.args.tunnel c.args.parcel conns held c.deliver.new.self c.deliver.result c.source_of.result c.source_of.ensures at c.deliver.ensures)

pub invariant_of-self : goal.invariant_of-self
invariant_of-self g c = λ rising.
    let list = c.self.inside.list in
    let held = c.index_mut-held.result.now in
    let len : vec_len list ≡ length list.items = search rules in
    let place : c.args.place < vec_len list = rw (c.self.view_is) c.requires in
    let at : slice_get list.items c.args.place ≡ Some held = at_index list.items c.args.place held (omega (arith, len, place)) c.index_mut-held.ensures.value in
    rise_set list.items c.args.place held (record held { conn = c.deliver.new.self }) at refl (c.self.invariant rising)
