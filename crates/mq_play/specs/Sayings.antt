-- A line says one thing.
use Rattle.std.specs.Prelude.{◌≡◌, ℕ, List}
use Rattle.mq_play.specs.declared.line.Line.{Line}
use Rattle.mq_play.specs.Lines.{Says}

-- a line says at most one thing
abbrev pub HasOneSaying : Type 0
HasOneSaying = (text : List ℕ) (a b : Line) → Says text a → Says text b → a ≡ b
