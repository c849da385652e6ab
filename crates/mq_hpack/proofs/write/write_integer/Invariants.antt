use Rattle.std.proofs.Common.{◌≡◌, ℕ, ◌+◌, ◌-◌, ◌≤◌, ◌∷◌, ◌++◌}
use Rattle.mq_hpack.specs.Encoder.{sevens}
use Rattle.mq_hpack.proofs.write.write_integer.Given as goal

-- what was written, with what is left, is the whole
abbrev pub invariant-loop-left : goal.invariant-loop-left
invariant-loop-left l = record {
  steps : ℕ;
  enough : l.left ≤ steps;
  written : l.out.items ++ sevens steps l.left ≡ l.fn.out.items ++ (l.form + l.full) ∷ sevens l.number (l.number - l.full);
}

abbrev pub decreases-loop-left : goal.decreases-loop-left
decreases-loop-left l = l.left
