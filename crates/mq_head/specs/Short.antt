-- Short texts in place of the bytes so far: a head is found behind them exactly where it is behind those bytes.
use Rattle.std.specs.Prelude.{ℕ, Bool, ◌==◌, List, [], ◌∷◌, ◌++◌, take, codes, if◌then◌else◌, Option, Some, None}
use Rattle.std.specs.List.{list_any}
use Rattle.mq_head.specs.declared.run.Run.{Run}
use Rattle.mq_head.specs.declared.run.Run.TheVariants.{Ended, Token, Value}
use Rattle.mq_head.specs.Heads.{skip_line_bytes}

abbrev pub has : ℕ → List ℕ → Bool
has byte bytes = list_any (λ b. b == byte) bytes

-- the bytes behind the first such byte
abbrev pub behind : ℕ → List ℕ → Option (List ℕ)
behind byte [] = None
behind byte (b ∷ bs) = if b == byte then Some bs else behind byte bs

-- the bytes behind the last LF
abbrev pub last_line : List ℕ → List ℕ
last_line [] = []
last_line (b ∷ bs) = if has 10 (b ∷ bs) then last_line bs else b ∷ bs

abbrev pub behind_next : ℕ → Option (List ℕ) → Option (List ℕ)
behind_next byte None = None
behind_next byte (Some bytes) = behind byte bytes

-- the bytes behind the second space
abbrev pub behind_target : List ℕ → Option (List ℕ)
behind_target line = behind_next 32 (behind 32 line)

-- Of an unfinished field line (RFC 9112, section 5): one byte of its name, or any name and value. A CR stays.
unfoldable pub short_line : List ℕ → List ℕ
short_line line =
    if has 58 line then (if has 13 line then codes "A:\r" else codes "A:") else take 1 line

-- the run of an unfinished line that has no colon
abbrev pub word_run : List ℕ → Run
word_run [] = Ended
word_run (b ∷ bs) = if b == 13 then Ended else Token

abbrev pub line_run : List ℕ → Run
line_run line = if has 58 line then (if has 13 line then Ended else Value) else word_run line

abbrev pub run_behind : Option (List ℕ) → Run
run_behind None = Ended
run_behind (Some section) = line_run (last_line section)

abbrev pub run_start : List ℕ → Option (List ℕ) → Run
run_start bytes None = word_run (last_line bytes)
run_start bytes (Some version) = run_behind (behind 10 version)

-- the run in which the bytes end
abbrev pub run_of : List ℕ → Run
run_of bytes = run_start bytes (behind_target (skip_line_bytes bytes))

-- behind a request target: what came of the version, or a version and the unfinished line
abbrev pub short_version : List ℕ → Option (List ℕ) → List ℕ
short_version version None = codes "A / " ++ version
short_version version (Some section) = codes "A / HTTP/1.1\n" ++ short_line (last_line section)

abbrev pub short_start : List ℕ → Option (List ℕ) → List ℕ
short_start bytes None = take 1 (last_line bytes)
short_start bytes (Some version) = short_version version (behind 10 version)

-- Any request line, and any fields, in place of those that came: a byte of a method, of a name or of a value serves for
-- all, and empty lines in front are dropped.
unfoldable pub short : List ℕ → List ℕ
short bytes = short_start bytes (behind_target (skip_line_bytes bytes))
