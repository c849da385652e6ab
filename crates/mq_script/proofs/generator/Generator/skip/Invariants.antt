use Rattle.std.proofs.Common.{◌≡◌, drop}
use Rattle.mq_script.proofs.generator.Generator.skip.Given as goal

-- behind so many lines
abbrev pub invariant-loop-line : goal.invariant-loop-line
invariant-loop-line l = l.self ≡ drop l._line l.fn.self
