use Rattle.std.proofs.Common.{◌≡◌, ◌+◌, ◌≤◌, length, drop}
use Rattle.std.specs.Net.Text.{zero_run, longest_zero_run}
use Rattle.mq_addr.proofs.print.longest_zero_run.Given as goal

-- the run at hand, and the longest of those behind
abbrev pub invariant-loop-i : goal.invariant-loop-i
invariant-loop-i l = record {
  run : l.run ≡ zero_run (drop l.i l.groups);
  longest : l.longest ≡ (longest_zero_run (drop l.i l.groups)).1;
  start : l.start ≡ l.i + (longest_zero_run (drop l.i l.groups)).0;
  run_within : l.i + l.run ≤ length l.groups;
  longest_within : l.start + l.longest ≤ length l.groups;
}
