use Rattle.std.proofs.Common.{subst, rules}
use Rattle.mq_output.specs.Printing.{Adds}
use Rattle.mq_replay.specs.Replay.{SinkCounts}
use Rattle.mq_replay.proofs.script.replay.Goals as goal

pub returns-clause-replayed : goal.returns-clause-replayed
returns-clause-replayed g c =
    let told = c.read_all.ensures.replays in
    let name = told.3.same_sink in record {
      script = told.0;
      out = told.1;
      gave = told.2;
      took_more = subst (λ s. Adds (g.K.Sink.taken c.args.sink.now) (g.K.Sink.taken s) told.1) (search rules) told.3.adds;
      replays = told.4;
    }

pub returns-clause-writing : goal.returns-clause-writing
returns-clause-writing g c =
    let name = c.read_all.ensures.replays.3.same_sink in
    subst (λ s. SinkCounts (g.K.Sink.faults c.args.sink.now) (g.K.Sink.faults s) c.read_all.result) (search rules) c.read_all.ensures.writing
