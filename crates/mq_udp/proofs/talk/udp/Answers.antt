use Rattle.std.proofs.Common.{[], ◌++◌, refl, ap, subst, ◌∙◌, rules, inl, inr}
use Rattle.mq_client.specs.State.{begun}
use Rattle.mq_output.specs.Joined.{adds_none}
use Rattle.mq_output.specs.Printing.{Adds}
use Rattle.mq_udp.proofs.Whole.{ends_from_none, is_talked, talk_source}
use Rattle.mq_udp.specs.Talks.{Asking, shown_of}
use Rattle.mq_udp.specs.Udp.{asking}
use Rattle.mq_udp.proofs.talk.udp.Goals as goal

pub returns-in_default-clause-talks : goal.returns-in_default-clause-talks
returns-in_default-clause-talks g c =
    let r = c.in-Ok.ensures.reads in
    (r.0, [], r.1, adds_none _, inl (refl, refl))

pub returns-in_default-dial-clause-talks : goal.returns-in_default-dial-clause-talks
returns-in_default-dial-clause-talks g c =
    let r = c.in-Ok.ensures.reads in (
      r.0,
      [],
      r.1,
      adds_none _,
      inr (inl (record {
        payloads = c.in-Ok.payloads.items;
        ended = r.2.0;
        input = r.2.1;
        none = refl;
        is = refl;
        past = c.in_default-dial.ensures.past;
        faults = c.in_default-dial.ensures.faults;
      })),
    )

pub returns-clause-talks : goal.returns-clause-talks
returns-clause-talks g c =
    let r = c.in-Ok.ensures.reads in
    let t = c.talk-outcome.ensures.talks in
    let name = t.1.same_sink in
    let payloads = c.in-Ok.payloads.items in
    let ask : Asking = record (asking c.args.asked) { payloads = payloads } in
    let s = begun c.args.asked.h2 c.args.asked.path c.args.asked.host in
    let at = c.new-exchange.ensures ask c.in-Ok-new.ensures refl refl c.in-Ok-dial.ensures.unused in
    let link = c.talk-outcome.new.exchange.link in
    let past = g.O.L.Link.past link in
    let counts = g.O.L.Link.counts link in
    let ends = ends_from_none ask past counts.faults t.0 c.talk-outcome.result (t.2 ask [] s at) in (
      r.0,
      t.0,
      r.1,
      subst (λ k. Adds (g.K.Sink.taken c.args.sink.now) (g.K.Sink.taken k) t.0) (search rules) t.1.adds,
      inr (inr (is_talked (asking c.args.asked) r.0 _ t.0 c.talk-outcome.result _ _ _ _ _ _ _ _ payloads past (g.O.L.Link.rest_past c.close.result) counts (g.O.L.Link.rest_counts c.close.result) r.2.0 r.2.1 ends
          c.in-Ok-dial.ensures.past c.talk-outcome.ensures.same.past_is (c.close.ensures.past ∙ ap (λ (l : _). g.O.L.Link.past l) c.into_link.ensures)
          (c.close.ensures.counts ∙ ap (λ (l : _). g.O.L.Link.counts l) c.into_link.ensures) c.back.ensures.past c.in-Ok-dial.ensures.faults c.talk-outcome.ensures.same.faults_are c.back.ensures.faults)),
    )

pub returns-clause-reading : goal.returns-clause-reading
returns-clause-reading g c =
    let r = c.in-Ok.ensures.reads in
    let t = c.talk-outcome.ensures.talks in
    let ask : Asking = record (asking c.args.asked) { payloads = c.in-Ok.payloads.items } in
    let s = begun c.args.asked.h2 c.args.asked.path c.args.asked.host in
    let at = c.new-exchange.ensures ask c.in-Ok-new.ensures refl refl c.in-Ok-dial.ensures.unused in
    let link = c.talk-outcome.new.exchange.link in
    talk_source ask (g.O.L.Link.past link) (g.O.L.Link.counts link).faults (shown_of ask [] ++ t.0) _ _ c.talk-outcome.result (t.2 ask [] s at) c.in-Ok.ensures.counts
