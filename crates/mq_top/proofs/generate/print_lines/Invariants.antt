use Rattle.std.proofs.Common.{◌≡◌, ℕ, List, ◌++◌, length}
use Rattle.mq_play.specs.Script.{text_of}
use Rattle.mq_output.specs.Printing.{Prints}
use Rattle.mq_top.proofs.generate.print_lines.Given as goal

-- what was shown and what is left make all lines
abbrev pub invariant-loop : goal.invariant-loop
invariant-loop g l = record {
  shown : List ℕ;
  prints : Prints g.K.Sink.taken l.initial.output l.output shown;
  is : text_of l.initial.generator ≡ shown ++ text_of l.generator;
  counts : g.K.Sink.faults l.output.sink.now ≡ g.K.Sink.faults l.initial.output.sink.now;
}

abbrev pub decreases-loop : goal.decreases-loop
decreases-loop g l = length l.generator
