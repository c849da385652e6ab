use Rattle.std.proofs.Common.{◌≡◌, ◌∷◌, ◌++◌, map, drop, filter_map}
use Rattle.clap.specs.Words.{first_of, found_of, rows_of}
use Rattle.mq_words.proofs.parser.values_of.Given as goal

-- with the values of the ids that are left, these are all
abbrev pub invariant-loop-id : goal.invariant-loop-id
invariant-loop-id l =
    map (λ s. s.now) l.values.items ++ filter_map (λ id. first_of id (rows_of (found_of l.line))) (drop l.id-index (map (λ s. s.now) l.id-items))
    ≡ l.name ∷ filter_map (λ id. first_of id (rows_of (found_of l.line))) (map (λ s. s.now) l.id-items)
