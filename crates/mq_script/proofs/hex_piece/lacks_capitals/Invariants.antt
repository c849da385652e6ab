use Rattle.std.proofs.Common.{ℕ, ◌<◌, ◌⊎◌, ◌↔◌, slice_index_or}
use Rattle.mq_script.proofs.hex_piece.lacks_capitals.Given as goal

-- none of the bytes so far is a capital
abbrev pub invariant-loop-digit : goal.invariant-loop-digit
invariant-loop-digit l = (5 < l.least) ↔ ((k d : ℕ) → k < l.digit-index → (slice_index_or l.text k d < 65) ⊎ (70 < slice_index_or l.text k d))
