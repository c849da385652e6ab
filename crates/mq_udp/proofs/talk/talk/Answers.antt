use Rattle.std.proofs.Common.{◌++◌, [], refl, ◌∙◌}
use Rattle.mq_output.specs.Joined.{takes_more, takes_none}
use Rattle.mq_udp.proofs.Ending.{ends_spent, follows_ends, follows_more, follows_none}
use Rattle.mq_udp.proofs.Whole.{end_counts, same_more}
use Rattle.mq_udp.proofs.talk.talk.Goals as goal

pub returns-in_default-clause-talks : goal.returns-in_default-clause-talks
returns-in_default-clause-talks g c = ([], takes_none _ _ _ refl, λ ask moves s at. ends_spent g.O.L.Link.past g.O.L.Link.counts ask c.args.exchange.now moves s [] at)

pub loop-turn-init : goal.loop-turn-init
loop-turn-init g c = record {
  shown = [];
  takes = takes_none _ _ _ refl;
  follows = follows_none g.O.L.Link.past g.O.L.Link.counts c.args.exchange.now;
  written = c.requires;
  same = record { holds_are = refl; past_is = refl; faults_are = refl };
  counts = refl;
}

pub returns-in-Err-clause-talks : goal.returns-in-Err-clause-talks
returns-in-Err-clause-talks g c =
    let inv = c.loop-turn.invariant in
    let r = c.in-Err.ensures.takes in (
      inv.shown ++ r.0,
      takes_more _ _ _ _ inv.shown r.0 inv.takes r.1,
      follows_ends g.O.L.Link.past g.O.L.Link.counts c.args.exchange.now c.loop-turn.exchange c.step.new.exchange inv.shown r.0 c.in-Err.outcome inv.follows r.2,
    )

pub returns-in-Err-clause-same : goal.returns-in-Err-clause-same
returns-in-Err-clause-same g c = same_more _ _ _ _ _ _ _ _ _ c.loop-turn.invariant.same c.in-Err.ensures.same

pub returns-in-Err-clause-counts : goal.returns-in-Err-clause-counts
returns-in-Err-clause-counts g c = end_counts (Unit {0}) _ _ _ c.in-Err.outcome c.loop-turn.invariant.counts c.in-Err.ensures.counts

pub loop-turn-preserved : goal.loop-turn-preserved
loop-turn-preserved g c =
    let inv = c.loop-turn.invariant in
    let r = c.in-Ok-step.ensures.takes in
    record {
      shown = inv.shown ++ r.0;
      takes = takes_more _ _ _ _ inv.shown r.0 inv.takes r.1;
      follows = follows_more g.O.L.Link.past g.O.L.Link.counts c.args.exchange.now c.loop-turn.exchange c.step.new.exchange inv.shown r.0 inv.follows r.2;
      written = c.in-Ok-step.ensures.flushed;
      same = same_more _ _ _ _ _ _ _ _ _ inv.same c.in-Ok-step.ensures.same;
      counts = c.in-Ok-step.ensures.counts ∙ inv.counts;
    }
