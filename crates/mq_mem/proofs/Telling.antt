-- A write that takes nothing finds no room.
use Rattle.std.proofs.Common.{◌≡◌, ℕ, ◌<◌, Option, Some, None, ap, arith}
use Rattle.mq_outside.specs.Links.{most_at_once, taken_of}

pub no_room : (room : Option ℕ) (size : ℕ) → 0 < size → taken_of room size ≡ 0 → room ≡ Some 0
unfolding most_at_once
no_room None size some e = absurd (omega arith)
no_room (Some room) size some e = let none : room ≡ 0 = omega arith in ap (λ n. Some n) none
