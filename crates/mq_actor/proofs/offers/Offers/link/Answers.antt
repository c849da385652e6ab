use Rattle.std.proofs.Common.{rules, ◌≡◌, ◌∙◌, sym, ap, refl, ◌<◌, length, slice_get, slice_index_or, Some, arith}
use Rattle.std.specs.VecDeque.{deque_len, deque_with_item}
use Rattle.std.specs.declared.collections.VecDeque.{VecDeque}
use Rattle.std.specs.declared.alloc.Global.{Global}
use Rattle.mq_actor.specs.declared.offer.Offer.{Offer as OfferBy}
use Rattle.mq_actor.proofs.OwnPorts.{at_index}
use Rattle.mq_actor.proofs.Lending.{offer_there}
use Rattle.mq_actor.proofs.offers.Offers.link.Goals as goal

pub returns : goal.returns
returns g c =
    let list : VecDeque (OfferBy g.row.L.Denot) Global = c.args.self.now in
    let offer = c.index_mut-offer.result.now in
    let len : deque_len list ≡ length list.items = search rules in
    let place : c.args.place < deque_len list = c.requires in
    let value : offer ≡ slice_index_or list.items c.args.place offer = rw (← c.self.view_is) c.index_mut-offer.ensures.value in
    let at : slice_get list.items c.args.place ≡ Some offer = at_index list.items c.args.place offer (omega (arith, len, place)) value in (
      (refl, λ w. ap (λ l. deque_with_item l c.args.place (record offer { link = w })) c.self.view_is ∙ offer_there list c.args.place offer w at),
      record { writes_back = tt; value = λ f is. let both : ◌≡◌ (Some offer) (Some f) = sym at ∙ is in cc },
    )
