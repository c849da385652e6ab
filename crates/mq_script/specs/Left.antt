-- The lines that a generator has left. Only the crate's own functions cite what stands in front of GivesLine.
use Rattle.std.specs.Prelude.{◌≡◌, ℕ, ◌<◌, ⊤, Bool, true, false, List, [], ◌∷◌, ◌++◌, drop, Result, Ok, Err}
use Rattle.mq_wire.specs.declared.NoMemory.{NoMemory}
use Rattle.mq_script.specs.declared.generator.Next.{Next}
use Rattle.mq_script.specs.declared.generator.Next.TheVariants.{Opening, Packets, Step, Nothing}
use Rattle.mq_script.specs.Generated.{lines_from, opening_lines, step_line}

-- by what comes next, the state of the draws, and the number of the next packet and how many are left
unfoldable pub left_of : Next → ℕ → ℕ → ℕ → List (List ℕ)
left_of (Opening number) x packet left = drop number opening_lines ++ lines_from x packet left
left_of Packets x packet left = lines_from x packet left
left_of (Step r) x packet left = step_line r ∷ lines_from x packet left
left_of Nothing x packet left = []

-- a line of the opening is one that it has
abbrev pub IsInOpening : Next → Type 0
IsInOpening (Opening number) = number < 17
IsInOpening Packets = ⊤
IsInOpening (Step r) = ⊤
IsInOpening Nothing = ⊤

-- The first line that is left is appended, and no longer left; or none was left; or memory ran out. In the last two
-- nothing changes.
abbrev pub GivesLine : List (List ℕ) → List ℕ → Result Bool NoMemory → List (List ℕ) → List ℕ → Type 0
GivesLine old text (Ok true) new out = (line : List ℕ) × (old ≡ line ∷ new) × (out ≡ text ++ line)
GivesLine old text (Ok false) new out = (old ≡ []) × (new ≡ []) × (out ≡ text)
GivesLine old text (Err e) new out = (new ≡ old) × (out ≡ text)
