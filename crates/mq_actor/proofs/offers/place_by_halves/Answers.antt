use Rattle.std.proofs.Common.{rules, ◌≡◌, ◌∙◌, sym, ap, refl, true, false, length, slice_index_or, Some, deque_len, arith}
use Rattle.std.proofs.lemmas.Bool.{eq-eqb, ne_eqb}
use Rattle.std.proofs.lemmas.Option.{slice_get_within}
use Rattle.mq_actor.specs.declared.offer.Offer.{Offer as OfferBy}
use Rattle.mq_actor.proofs.OwnPorts.{at_index}
use Rattle.mq_actor.proofs.Rising.{found, missed}
use Rattle.mq_actor.proofs.offers.place_by_halves.Goals as goal

pub returns-in_err-offer : goal.returns-in_err-offer
returns-in_err-offer g c =
    let fs = c.args.list.now.items in
    let place = c.place_from-place.result in
    let size : deque_len c.args.list.now ≡ length fs = search rules in
    let past = c.in_err-offer.ensures.variant.1 in
    c.from_residual.ensures ∙ sym (missed fs c.args.number place c.requires c.place_from-place.ensures (λ f at.
    let less = slice_get_within fs place f at in
    let never : false ≡ true = past (omega (arith, size, less)) in
    absurd cc))

pub returns-then-offer-number : goal.returns-then-offer-number
returns-then-offer-number g c =
    let fs = c.args.list.now.items in
    let place = c.place_from-place.result in
    let offer = c.in_ok-offer.offer.now in
    let size : deque_len c.args.list.now ≡ length fs = search rules in
    let some = c.in_ok-offer.ensures.variant.0 refl in
    let here = at_index fs place offer (omega (arith, size, some)) c.in_ok-offer.ensures.lookup in
    sym (missed fs c.args.number place c.requires c.place_from-place.ensures (λ f at.
    let both : ◌≡◌ (Some offer) (Some f) = sym here ∙ at in
    let same : offer ≡ f = cc in
    ne_eqb f.number c.args.number (λ e. c.if-offer-number.true (ap (λ (k : OfferBy g.row.L.Denot). k.number) same ∙ e))))

pub returns : goal.returns
returns g c =
    let fs = c.args.list.now.items in
    let place = c.place_from-place.result in
    let offer = c.in_ok-offer.offer.now in
    let size : deque_len c.args.list.now ≡ length fs = search rules in
    let some = c.in_ok-offer.ensures.variant.0 refl in
    let number = c.if-offer-number.false in
    let is = eq-eqb (slice_index_or fs place offer).number c.args.number
    (ap (λ (k : OfferBy g.row.L.Denot). k.number) (sym c.in_ok-offer.ensures.lookup) ∙ number) in
    sym (found fs c.args.number place offer c.place_from-place.ensures (omega (arith, size, some)) is)
