use Rattle.std.proofs.Common.{◌≡◌, ◌≤◌, ◌+◌, ◌*◌, ◌∷◌, ◌++◌, get_or, take, length}
use Rattle.std.specs.Net.Text.{groups_text}
use Rattle.mq_addr.proofs.print.push_groups.Given as goal

-- the first group and those so far are written
abbrev pub invariant-loop-group : goal.invariant-loop-group
invariant-loop-group l = record {
  written : l.text ≡ l.fn.text ++ groups_text (get_or l.groups 0 0 ∷ take l.group-index l.rest);
  short : length l.text ≤ length l.fn.text + (4 + 5 * l.group-index);
}
