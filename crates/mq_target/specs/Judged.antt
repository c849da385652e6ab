-- What values are, after decoding.
use Rattle.std.specs.Prelude.{ℕ, List}
use Rattle.mq_addr.specs.declared.kind.Kind.{Kind}
use Rattle.mq_target.specs.declared.target.Target.{Target}
use Rattle.mq_target.specs.declared.target.Matched.{Matched}
use Rattle.mq_target.specs.declared.target.Matched.TheVariants.{No, Bad, Yes}
use Rattle.mq_target.specs.Values.{IsTarget}

-- the values are this target, or no target
abbrev pub IsJudged : Kind → List ℕ → List ℕ → Matched → Type 0
IsJudged kind text detail No = ⊥
IsJudged kind text detail Bad = (target : Target) → ¬ (IsTarget kind text detail target)
IsJudged kind text detail (Yes target) = IsTarget kind text detail target
