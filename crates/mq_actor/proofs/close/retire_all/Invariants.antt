use Rattle.std.proofs.Common.{◌≡◌, ◌<◌, ◌≤◌, ℕ, None}
use Rattle.slab.specs.Slab.{get}
use Rattle.mq_ports.specs.Tables.{IsBalanced}
use Rattle.mq_actor.proofs.close.retire_all.Given as goal

-- no port stands before this key, nor where none stood at all
abbrev pub invariant-loop-key : goal.invariant-loop-key
invariant-loop-key g l = record {
  gone : (k : ℕ) → k < l.key → get l.table.table k ≡ None;
  beyond : (k : ℕ) → l.key-end ≤ k → get l.table.table k ≡ None;
  holds : g.P.Ports.holds l.table.ports ≡ g.P.Ports.holds l.fn.table.ports;
  balanced : IsBalanced g.P.P.Port.place (g.P.Ports.past l.fn.table.ports) l.fn.table.table.slots
      → IsBalanced g.P.P.Port.place (g.P.Ports.past l.table.ports) l.table.table.slots;
}
