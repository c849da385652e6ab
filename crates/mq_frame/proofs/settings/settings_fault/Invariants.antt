use Rattle.std.proofs.Common.{◌≡◌, drop}
use Rattle.mq_frame.specs.Table.{settings_fault}
use Rattle.mq_frame.proofs.settings.settings_fault.Given as goal

-- the settings that are left have the error of all
abbrev pub invariant-loop-pair : goal.invariant-loop-pair
invariant-loop-pair l = settings_fault (drop l.pair-index l.pairs) ≡ settings_fault l.pairs
