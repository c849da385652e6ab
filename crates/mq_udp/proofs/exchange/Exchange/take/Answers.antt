use Rattle.std.proofs.Common.{◌≡◌, ◌-◌, ◌⊎◌, ◌||◌, Bool, true, false, List, length, Option, Err, refl, subst, inl, inr}
use Rattle.std.specs.Prelude.{Contains}
use Rattle.std.proofs.lemmas.Result.{err_from_is_err_and}
use Rattle.mq_client.specs.declared.event.ClientEvent.{ClientEvent}
use Rattle.mq_client.specs.declared.event.ClientEvent.TheVariants as event
use Rattle.mq_udp.proofs.Ending.{ends_cut, ends_took, took_goes}
use Rattle.mq_udp.proofs.Going.{fed_on}
use Rattle.mq_udp.specs.declared.exchange.Exchange.{Exchange}
use Rattle.mq_udp.specs.declared.outcome.Outcome.{Outcome}
use Rattle.mq_udp.specs.Exchanges.{Hears, HearsTo}
use Rattle.mq_udp.specs.Moves.{payloads_of}
use Rattle.mq_udp.proofs.exchange.Exchange.take.Goals as goal

-- it was open, or an event opened it
opens_so : (was opens : Bool) (events all : List ClientEvent) → all ≡ events → (opens ≡ true → Contains all event.Opened) → was || opens ≡ true → (was ≡ true) ⊎ Contains events event.Opened
opens_so true opens events all same new ready = inl refl
opens_so false opens events all same new ready = let P : List ClientEvent → Type 0 = λ es. Contains es event.Opened in inr (subst P same (new ready))

pub returns-in_err-heard-clause-takes : goal.returns-in_err-heard-clause-takes
returns-in_err-heard-clause-takes g c =
    let h = c.in_err-heard.ensures.takes in
    let x = c.args.self.now in
    let events = c.in-Ok.events in
    let why = c.in_err-heard.field-0.0 in
    let p = err_from_is_err_and c.from_residual.result c.from_residual.ensures.1 in
    rw (p.1, p.2) (
      h.0,
      h.1,
      λ ask moves s fed.
          let reads = c.in-Ok.ensures.reads s fed.stands in
          let H : List ClientEvent → Type 0 = λ es. Hears es x.left h.0 (Err why) c.hear.new.left in
          let y : Exchange g.row.L.Denot = record x { client = c.feed.new.self; left = x.left - length (payloads_of events) } in
          let on = fed_on g.L.Link.past g.L.Link.counts ask x y moves s reads.0 c.args.piece.now events fed reads.1 reads.2 refl refl refl refl (λ o. inl o) in
          ends_cut g.L.Link.past g.L.Link.counts ask y moves events x.left h.0 why c.hear.new.left on.on (subst H c.into_vec.ensures h.2),
    )

pub returns-in-None-clause-takes : goal.returns-in-None-clause-takes
returns-in-None-clause-takes g c =
    let h = c.in_ok-heard.ensures.takes in
    let x = c.args.self.now in
    let events = c.in-Ok.events in (
      h.0,
      h.1,
      λ ask moves s fed.
          let reads = c.in-Ok.ensures.reads s fed.stands in
          let H : List ClientEvent → Type 0 = λ es. HearsTo es x.left h.0 c.in_ok-heard.heard.end c.hear.new.left in
          let opens = opens_so x.is_open c.in_ok-heard.heard.opens events c.into_vec.result.items c.into_vec.ensures c.in_ok-heard.ensures.opens in
          took_goes g.L.Link.past g.L.Link.counts ask x _ moves s reads.0 c.args.piece.now events h.0 c.in_ok-heard.heard.end fed reads.1 reads.2 refl refl refl (subst H c.into_vec.ensures h.2) opens,
    )

pub returns-in-Some-clause-takes : goal.returns-in-Some-clause-takes
returns-in-Some-clause-takes g c =
    let h = c.in_ok-heard.ensures.takes in
    let x = c.args.self.now in
    let events = c.in-Ok.events in (
      h.0,
      h.1,
      λ ask moves s fed.
          let reads = c.in-Ok.ensures.reads s fed.stands in
          let H : List ClientEvent → Type 0 = λ es. HearsTo es x.left h.0 c.in_ok-heard.heard.end c.hear.new.left in
          let O : Option Outcome → Type 0 = λ o. HearsTo events x.left h.0 o c.hear.new.left in
          let opens = opens_so x.is_open c.in_ok-heard.heard.opens events c.into_vec.result.items c.into_vec.ensures c.in_ok-heard.ensures.opens in
          ends_took g.L.Link.past g.L.Link.counts ask x _ moves s reads.0 c.args.piece.now events h.0 c.in-Some.end c.is_done-is_done.result c.ended.result fed reads.1 reads.2 refl refl refl
          (subst O c.in-Some.is (subst H c.into_vec.ensures h.2)) opens c.is_done-is_done.ensures c.ended.ensures,
    )
