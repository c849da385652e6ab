use Rattle.std.proofs.Common.{◌≡◌, [], ◌∷◌, ◌++◌, sym, ◌∙◌, arith, inl, inr}
use Rattle.std.specs.Prelude.{Contains}
use Rattle.std.proofs.lemmas.List.Elements.{Contains-append_left, Contains-append_right}
use Rattle.std.proofs.lemmas.Result.{err_from_is_err_and}
use Rattle.std.specs.Vec.Iter.{into_iter_items}
use Rattle.mq_client.specs.declared.event.ClientEvent.{ClientEvent}
use Rattle.mq_client.specs.declared.event.ClientEvent.TheVariants as event
use Rattle.mq_output.specs.Joined.{prints_more}
use Rattle.mq_udp.proofs.Lists.{taken_next}
use Rattle.mq_udp.proofs.Shows.{hears_all_front, hears_more}
use Rattle.mq_udp.proofs.exchange.hear_all.Goals as goal

first_is : (e : ClientEvent) → e ≡ event.Opened → Contains (e ∷ []) event.Opened
first_is e is = (0, omega arith, is)

pub loop-event-preserved : goal.loop-event-preserved
loop-event-preserved g c =
    let inv = c.loop-event.invariant in
    let heard = c.in_ok-hear_one.ensures.prints in
    record {
      shown = inv.shown ++ heard.0;
      prints = prints_more _ _ _ _ inv.shown heard.0 inv.prints heard.1;
      hears = hears_more c.loop-event.yielded c.in-Some.event c.args.left.now c.loop-event.left c.hear_one.new.left inv.shown heard.0 c.loop-event.heard.end c.hear_one.new.heard.end inv.hears heard.2;
      opens = λ ready. elim (c.in_ok-hear_one.ensures.opens ready) [
        | inl was ↦ Contains-append_left c.loop-event.yielded (c.in-Some.event ∷ []) event.Opened (inv.opens was)
        | inr new ↦ Contains-append_right c.loop-event.yielded (c.in-Some.event ∷ []) event.Opened (first_is c.in-Some.event new)
      ];
      counts = c.in_ok-hear_one.ensures.counts ∙ inv.counts;
    }

pub returns-in_err-hear_one-clause-prints : goal.returns-in_err-hear_one-clause-prints
returns-in_err-hear_one-clause-prints g c =
    let inv = c.loop-event.invariant in
    let heard = c.in_err-hear_one.ensures.prints in
    let why = c.in_err-hear_one.field-0.0 in
    let are =
    sym c.into_iter-event-iterator.ensures.into_iter_gives.0
    ∙ taken_next c.into_iter-event-iterator.result c.loop-event.yielded c.loop-event.event-iterator c.next.new.self c.in-Some.event c.loop-event.yielded_by c.in-Some.ensures.steps.0 in
    let p = err_from_is_err_and c.from_residual.result c.from_residual.ensures.1 in
    rw (p.1, p.2) (
      inv.shown ++ heard.0,
      prints_more _ _ _ _ inv.shown heard.0 inv.prints heard.1,
      hears_all_front c.args.events.items c.loop-event.yielded c.in-Some.event (into_iter_items c.next.new.self) c.args.left.now c.loop-event.left c.hear_one.new.left inv.shown heard.0
          c.loop-event.heard.end c.hear_one.new.heard.end why are inv.hears heard.2,
    )
