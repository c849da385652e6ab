use Rattle.std.proofs.Common.{◌≡◌, ◌+◌, ◌-◌, ◌*◌, ◌≤◌, ◌++◌, length, take}
use Rattle.std.specs.List.{flat_map}
use Rattle.std.specs.Vec.{vec_len, vec_capacity}
use Rattle.mq_frame.specs.Writing.{pair_text}
use Rattle.mq_frame.proofs.write.put_settings.Given as goal

-- the settings so far stand there, there is room for the rest, and room didn't shrink
abbrev pub invariant-loop-pair : goal.invariant-loop-pair
invariant-loop-pair l =
    (l.out.items ≡ l.initial.out.items ++ flat_map pair_text (take l.pair-index l.pairs))
    × (vec_len l.out + 6 * (length l.pairs - l.pair-index) ≤ vec_capacity l.out)
    × (vec_capacity l.fn.out ≤ vec_capacity l.out)
