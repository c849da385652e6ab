-- Bytes that heads begin with alike.
use Rattle.std.specs.Prelude.{◌≡◌, ℕ, Bool, List, ◌++◌, true, false}
use Rattle.std.specs.List.{list_all}
use Rattle.httparse.specs.Grammar.{RequestHead, ReadsRequest, HasNoRequest, is_token, is_value_byte}
use Rattle.mq_head.specs.declared.run.Run.{Run}
use Rattle.mq_head.specs.declared.run.Run.TheVariants.{Ended, Token, Value}
use Rattle.mq_head.specs.Heads.{ends_in_target, CanBecomeHead}

-- a head stands at the front, and then the rest
abbrev pub HeadBefore : List ℕ → List ℕ → Type 0
HeadBefore bytes rest = (head : RequestHead) × ReadsRequest bytes head rest

-- Whatever follows, a head begins with one of the two where it begins with the other, and ends at the same byte.
pub record Alike (a b : List ℕ) : Type 0 where
  pub there : (more rest : List ℕ) → HeadBefore (a ++ more) rest → HeadBefore (b ++ more) rest
  pub back : (more rest : List ℕ) → HeadBefore (b ++ more) rest → HeadBefore (a ++ more) rest

-- no head yet, but one can come, and the request target isn't begun or is over
pub record IsOpen (bytes : List ℕ) : Type 0 where
  pub none : HasNoRequest bytes
  pub can : CanBecomeHead bytes
  pub outside : ends_in_target bytes ≡ false

-- the bytes go on with a run of this kind
abbrev pub is_in_run : Run → List ℕ → Bool
is_in_run Ended bytes = false
is_in_run Token bytes = is_token bytes
is_in_run Value bytes = list_all is_value_byte bytes

-- more of the run changes nothing
abbrev pub Stays : Run → List ℕ → Type 0
Stays run bytes = (piece : List ℕ) → is_in_run run piece ≡ true → Alike bytes (bytes ++ piece)
