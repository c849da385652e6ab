use Rattle.std.proofs.Common.{rules, ◌≡◌, ◌∙◌, sym, ap, refl, ◌<◌, length, slice_get, Some, arith}
use Rattle.std.specs.Vec.{vec_len, with_item}
use Rattle.std.specs.declared.alloc.Global.{Global}
use Rattle.std.specs.declared.vec.Vec.{Vec}
use Rattle.mq_held.specs.declared.held.Held.{Held as HeldBy}
use Rattle.mq_actor.proofs.OwnPorts.{at_index}
use Rattle.mq_actor.proofs.Lending.{conn_there}
use Rattle.mq_actor.proofs.conns.Conns.link.Goals as goal

pub returns : goal.returns
returns g c =
    let list : Vec (HeldBy g.row.L.Denot) Global = c.args.self.now in
    let held = c.index_mut-held.result.now in
    let len : vec_len list ≡ length list.items = search rules in
    let place : c.args.place < vec_len list = c.requires in
    let at : slice_get list.items c.args.place ≡ Some held = at_index list.items c.args.place held (omega (arith, len, place)) (rw (← c.self.view_is) c.index_mut-held.ensures.value) in (
      (refl, λ w. ap (λ l. with_item l c.args.place (record held { link = w })) c.self.view_is ∙ conn_there list c.args.place held w at),
      record { writes_back = tt; value = λ h is. let both : ◌≡◌ (Some held) (Some h) = sym at ∙ is in cc },
    )
