use Rattle.std.proofs.Common.{◌≡◌, ℕ, ◌+◌, ◌≤◌, List, ◌++◌, length}
use Rattle.mq_client.specs.Sending.{data_frames}
use Rattle.mq_client.proofs.Framed.{parts_text}
use Rattle.mq_client.proofs.framing.write_parts.Given as goal

-- the parts so far were written, and so many may follow
abbrev pub invariant-loop : goal.invariant-loop
invariant-loop l =
    (n : ℕ) × (l.counter + n ≡ l.end) × (length l.rest ≤ n) × (l.out.items ++ parts_text n l.rest ≡ l.initial.out.items ++ data_frames l.bytes)
    × (written : List ℕ) × (l.out.items ≡ l.initial.out.items ++ written)
