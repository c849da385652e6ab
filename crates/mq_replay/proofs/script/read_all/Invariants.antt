use Rattle.std.proofs.Common.{◌≡◌, ℕ, List, []}
use Rattle.mq_outside.specs.Outside.{Gives}
use Rattle.mq_output.specs.Printing.{Takes}
use Rattle.mq_replay.specs.Reading.{IsRead}
use Rattle.mq_replay.proofs.script.read_all.Given as goal

-- what the source gave was read, and all that its lines print is written
abbrev pub invariant-loop-turn : goal.invariant-loop-turn
invariant-loop-turn g l = record {
  script : List ℕ;
  lines : List (List ℕ);
  out : List ℕ;
  gave : Gives (g.S.Source.left l.initial.source) (g.S.Source.left l.source) script;
  took : Takes g.K.Sink.taken l.initial.output l.output out;
  read : IsRead l.session script lines out;
  written : l.output.owed.now.items ≡ [];
  reading : g.S.Source.faults l.source ≡ g.S.Source.faults l.initial.source;
  writing : g.K.Sink.faults l.output.sink.now ≡ g.K.Sink.faults l.initial.output.sink.now;
}
