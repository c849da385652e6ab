-- Where the bytes so far end.
use Rattle.std.specs.Prelude.{◌≡◌, ◌≤◌, ◌⊎◌, List, ℕ, length, ◌++◌, Bool, true, IsTrue, not, ◌&&◌, ◌==◌, count_by}
use Rattle.std.specs.List.{list_any}
use Rattle.httparse.specs.Grammar.{HasNoRequest}
use Rattle.mq_head.specs.declared.place.Place.{Place}
use Rattle.mq_head.specs.declared.place.Place.TheVariants.{InTarget, Behind}
use Rattle.mq_head.specs.Heads.{is_space, is_line_byte, ends_in_target, CanBecomeHead}
use Rattle.mq_head.specs.Alike.{Alike, Stays}
use Rattle.mq_head.specs.declared.run.Run.{Run}

-- no space, and no CR or LF
abbrev pub stays_in_target : List ℕ → Bool
stays_in_target piece = (count_by is_space piece == 0) && not (list_any is_line_byte piece)

-- nothing is decided, the next piece is parsed behind a text of at most 16 bytes, and more of the run changes nothing
pub record IsBehind (text : List ℕ) (run : Run) (bytes : List ℕ) : Type 0 where
  pub few : length text ≤ 16
  pub none : HasNoRequest bytes
  pub can : CanBecomeHead bytes
  pub alike : Alike bytes text
  pub stays : Stays run bytes

-- the bytes end inside the request target, or elsewhere
abbrev pub IsPlace : Place → List ℕ → Type 0
IsPlace InTarget bytes = ends_in_target bytes ≡ true
IsPlace (Behind text run) bytes = IsBehind text.items run bytes

-- the bytes with the piece behind them wait for more, but for the limit, and end at this place
pub record StaysOpen (bytes piece : List ℕ) (place : Place) : Type 0 where
  pub none : HasNoRequest (bytes ++ piece)
  pub goes_on : IsTrue (ends_in_target (bytes ++ piece)) ⊎ CanBecomeHead (bytes ++ piece)
  pub ends : IsPlace place (bytes ++ piece)
