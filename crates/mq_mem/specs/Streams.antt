-- A source and a sink in memory, and what their calls answer.
use Rattle.std.specs.Prelude.{◌≡◌, ℕ, ◌-◌, ◌==◌, min, max, if◌then◌else◌, List, [], ◌∷◌, ◌++◌, length, take, drop}
use Rattle.mq_outside.specs.declared.Got.{Got}
use Rattle.mq_outside.specs.declared.Got.TheVariants as got
use Rattle.mq_outside.specs.declared.Put.{Put}
use Rattle.mq_outside.specs.declared.Put.TheVariants as put
use Rattle.mq_outside.specs.Counts.{risen}
use Rattle.mq_outside.specs.Links.{fitting}
use Rattle.mq_mem.specs.Calls.{Calls, is_listed, called}

-- ---- a source

pub record Source : Type 0 where
  pub left : List ℕ
  -- the most bytes that one read gives, at least one
  pub most : ℕ
  pub calls : Calls
  pub faults : ℕ

-- how many bytes one call hands on, where so many are there and the other side has room for so many
abbrev pub some_of : ℕ → ℕ → ℕ → ℕ
some_of most room size = fitting room (min size (max most 1))

-- what a read into a buffer of this length answers
abbrev pub got_left : ℕ → ℕ → List ℕ → Got
got_left most room [] = got.End
got_left most room (b ∷ bytes) = got.Bytes (some_of most room (length (b ∷ bytes)))

abbrev pub got_of : Source → ℕ → Got
got_of s room = if is_listed s.calls then got.Failed else got_left s.most room s.left

abbrev pub after_got : Source → Got → Source
after_got s (got.Bytes count) = record s { left = drop count s.left; calls = called s.calls }
after_got s got.End = record s { calls = called s.calls }
after_got s got.Failed = record s { calls = called s.calls; faults = risen s.faults }

-- the bytes that were read
abbrev pub GotBytes : List ℕ → List ℕ → Got → Type 0
GotBytes left buffer (got.Bytes count) = take count buffer ≡ take count left
GotBytes left buffer got.End = Unit {0}
GotBytes left buffer got.Failed = Unit {0}

-- ---- a sink

pub record Sink : Type 0 where
  pub taken : List ℕ
  -- how many bytes it can take in all
  pub room : ℕ
  -- the most bytes that one write takes, at least one
  pub most : ℕ
  pub calls : Calls
  pub faults : ℕ

abbrev pub free : Sink → ℕ
free s = s.room - length s.taken

-- what a write of so many bytes answers: it fails where the room is used up
abbrev pub put_some : ℕ → Put
put_some count = if count == 0 then put.Failed else put.Took count

abbrev pub put_of : Sink → ℕ → Put
put_of s size = if is_listed s.calls then put.Failed else put_some (some_of s.most (free s) size)

abbrev pub after_put : Sink → List ℕ → Put → Sink
after_put s bytes (put.Took count) = record s { taken = s.taken ++ take count bytes; calls = called s.calls }
after_put s bytes put.Failed = record s { calls = called s.calls; faults = risen s.faults }
