use Rattle.std.proofs.Common.{◌≡◌, map, drop, fold}
use Rattle.clap.specs.Words.{app_of}
use Rattle.mq_words.specs.CommandLine.{line_app, with_value}
use Rattle.mq_words.proofs.parser.line.Given as goal

-- with the arguments that are left, this is the whole line
abbrev pub invariant-loop-id : goal.invariant-loop-id
invariant-loop-id l = fold with_value (app_of l.line) (drop l.id-index (map (λ s. s.now) l.ids)) ≡ line_app l.name (map (λ s. s.now) l.ids)
