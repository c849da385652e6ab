use Rattle.std.proofs.Common.{◌≡◌, ℕ, List, length, slice_get, Some, true, refl, sym, ap, subst, ◌∙◌, arith, rules}
use Rattle.std.proofs.lemmas.Option.{slice_get-get_or, slice_get_within}
use Rattle.mq_client.specs.Client.{StandsFor}
use Rattle.mq_client.specs.State.{sent}
use Rattle.mq_udp.proofs.Going.{sent_on}
use Rattle.mq_udp.proofs.exchange.Exchange.send_next.Goals as goal

pub returns-in-Ok-clause-goes : goal.returns-in-Ok-clause-goes
returns-in-Ok-clause-goes g c = λ ask moves s at.
    let x = c.args.self.now in
    let payload = c.in-Some.payload.now in
    let next : slice_get x.payloads.items x.sent ≡ Some payload =
    ap (λ (ps : List (List ℕ)). slice_get ps x.sent) (sym c.deref.ensures.value) ∙ slice_get-get_or c.deref.result.now x.sent payload c.in-Some.ensures.lookup.3.0 ∙ ap (λ (p : List ℕ). Some p) (sym c.in-Some.ensures.lookup.1) in
    let here = slice_get_within x.payloads.items x.sent payload next in
    let size : length x.payloads.items ≡ length ask.payloads = ap (λ (ps : List (List ℕ)). length ps) at.payloads in
    let P : List ℕ → Type 0 = λ bytes. StandsFor c.send.new.self (sent s bytes) in
    let stands = subst P c.as_slice.ensures (c.in-Ok.ensures.ok s at.stands) in
    let ready : x.is_open ≡ true = search rules in
    sent_on g.L.Link.past g.L.Link.counts ask x _ moves s payload at next stands refl refl refl refl (omega (arith, here, size)) ready
