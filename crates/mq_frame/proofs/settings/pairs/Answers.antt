use Rattle.std.proofs.Common.{◌≡◌, ℕ, ◌<◌, ◌≤◌, List, [], ◌∷◌, length, drop, refl, arith, append_assoc}
use Rattle.mq_frame.specs.Table.{pairs_of, setting_at}
use Rattle.mq_frame.proofs.settings.pairs.Goals as goal

-- six bytes are a setting, and more are those behind it
step : (bytes : List ℕ) → 6 ≤ length bytes → pairs_of bytes ≡ setting_at bytes ∷ pairs_of (drop 6 bytes)
unfolding setting_at
step (a ∷ b ∷ c ∷ d ∷ e ∷ f ∷ rest) h = refl
step _ h = absurd (omega arith)

none : (bytes : List ℕ) → length bytes < 6 → pairs_of bytes ≡ []
none (a ∷ b ∷ c ∷ d ∷ e ∷ f ∷ rest) h = absurd (omega arith)
none _ h = refl

pub loop-pair-preserved : goal.loop-pair-preserved
loop-pair-preserved c = grind (arith, append_assoc, step c.loop-pair.rest.now)
