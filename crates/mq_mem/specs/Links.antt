-- A link in memory, and what its calls answer.
use Rattle.std.specs.Prelude.{◌≡◌, ℕ, ◌-◌, ◌<◌, ◌≤◌, ◌==◌, ◌||◌, min, if◌then◌else◌, Bool, true, false, not, List, [], ◌∷◌, ◌++◌, length, take, drop, Option, Some, None}
use Rattle.std.specs.List.{All}
use Rattle.mq_outside.specs.declared.LinkGot.{LinkGot}
use Rattle.mq_outside.specs.declared.LinkGot.TheVariants as got
use Rattle.mq_outside.specs.declared.LinkPut.{LinkPut}
use Rattle.mq_outside.specs.declared.LinkPut.TheVariants as put
use Rattle.mq_outside.specs.Counts.{LinkCounts, no_link_counts}
use Rattle.mq_outside.specs.Links.{LinkHolds, LinkPast, fitting, behind, taken_of, room_left, after_read, after_write}
use Rattle.mq_mem.specs.Calls.{Calls, no_calls, is_listed, called}

-- the bytes that it took, in a stated room
pub record Kept : Type 0 where
  pub taken : List ℕ
  pub room : ℕ

pub record Link : Type 0 where
  pub holds : LinkHolds
  -- what it took, where it keeps that
  pub kept : Option Kept
  pub calls : Calls
  pub answered_end : Bool
  pub counts : LinkCounts

-- It tells what it holds where no call is to fail by its number and its room for what it takes can't be used up.
abbrev pub tells : {H K : Type 0} → List ℕ → Option K → H → Option H
tells [] None holds = Some holds
tells [] (Some kept) holds = None
tells (n ∷ ns) kept holds = None

abbrev pub told : Link → Option LinkHolds
told l = tells l.calls.fails l.kept l.holds

abbrev pub took : Option Kept → Option (List ℕ)
took None = None
took (Some kept) = Some kept.taken

abbrev pub past_of : Link → LinkPast
past_of l = record { gave = None; took = took l.kept; answered_end = Some l.answered_end }

abbrev pub AllFull : List (List ℕ) → Type 0
AllFull pieces = All (λ (piece : List ℕ). 0 < length piece) pieces

abbrev pub no_bytes : Option ℕ → Option Kept
no_bytes None = None
no_bytes (Some room) = Some (record { taken = []; room = room })

-- a link on which nothing was read or written yet
abbrev pub new_link : List (List ℕ) → Bool → Option ℕ → List ℕ → Link
new_link pieces is_ended room fails = record {
  holds = record { pieces = pieces; is_ended = is_ended; room = None; read_fails = false; write_fails = false };
  kept = no_bytes room;
  calls = no_calls fails;
  answered_end = false;
  counts = no_link_counts;
}

abbrev pub with_holds : Link → LinkHolds → Link
with_holds l holds = record l { holds = holds }

-- ---- reads

-- of the first piece, so many bytes were read
abbrev pub unread : List (List ℕ) → ℕ → List (List ℕ)
unread [] taken = []
unread (piece ∷ pieces) taken = drop taken piece ∷ pieces

-- something of the first piece is left
abbrev pub IsInFirst : List (List ℕ) → ℕ → Type 0
IsInFirst [] taken = taken ≡ 0
IsInFirst (piece ∷ pieces) taken = taken < length piece

-- what one read took of these pieces
pub record ReadsFirst (first : List ℕ) (others after : List (List ℕ)) (buffer : List ℕ) (count : ℕ) : Type 0 where
  pub some : 0 < count
  pub count_is : count ≡ fitting (length buffer) (length first)
  pub bytes_are : take count buffer ≡ take count first
  pub after_is : after ≡ behind (drop count first) others

abbrev pub PiecesRead : List (List ℕ) → List (List ℕ) → List ℕ → Option ℕ → Type 0
PiecesRead [] after buffer None = after ≡ []
PiecesRead [] after buffer (Some count) = ⊥
PiecesRead (first ∷ others) after buffer None = ⊥
PiecesRead (first ∷ others) after buffer (Some count) = ReadsFirst first others after buffer count

abbrev pub is_empty : List (List ℕ) → Bool
is_empty [] = true
is_empty (first ∷ others) = false

abbrev pub read_fails : Link → Bool
read_fails l = is_listed l.calls || l.holds.read_fails

-- what a read into a buffer of this length answers
abbrev pub got_first : List (List ℕ) → Bool → ℕ → LinkGot
got_first [] true room = got.End
got_first [] false room = got.NotNow
got_first (first ∷ others) is_ended room = got.Bytes (fitting room (length first))

abbrev pub got_of : Link → ℕ → LinkGot
got_of l room = if read_fails l then got.Failed else got_first l.holds.pieces l.holds.is_ended room

abbrev pub without_first : ℕ → List (List ℕ) → List (List ℕ)
without_first count [] = []
without_first count (first ∷ others) = behind (drop count first) others

abbrev pub pieces_after : List (List ℕ) → LinkGot → List (List ℕ)
pieces_after pieces (got.Bytes count) = without_first count pieces
pieces_after pieces got.NotNow = pieces
pieces_after pieces got.End = pieces
pieces_after pieces got.Failed = pieces

-- a read that fails uses its order up
abbrev pub order_left : Bool → LinkGot → Bool
order_left ordered (got.Bytes count) = ordered
order_left ordered got.NotNow = ordered
order_left ordered got.End = ordered
order_left ordered got.Failed = false

abbrev pub end_after : Bool → LinkGot → Bool
end_after answered (got.Bytes count) = answered
end_after answered got.NotNow = answered
end_after answered got.End = true
end_after answered got.Failed = answered

abbrev pub after_got : Link → LinkGot → Link
after_got l answer = record l {
  holds = record l.holds { pieces = pieces_after l.holds.pieces answer; read_fails = order_left l.holds.read_fails answer };
  calls = called l.calls;
  answered_end = end_after l.answered_end answer;
  counts = after_read l.counts answer;
}

-- the bytes that were read
abbrev pub front_of : List (List ℕ) → List ℕ
front_of [] = []
front_of (first ∷ others) = first

abbrev pub GotBytes : List (List ℕ) → List ℕ → LinkGot → Type 0
GotBytes pieces buffer (got.Bytes count) = (0 < count) × (take count buffer ≡ take count (front_of pieces))
GotBytes pieces buffer got.NotNow = Unit {0}
GotBytes pieces buffer got.End = Unit {0}
GotBytes pieces buffer got.Failed = Unit {0}

-- a read would now answer something other than NotNow
abbrev pub would_read : Link → Bool
would_read l = read_fails l || not (is_empty l.holds.pieces) || l.holds.is_ended

-- ---- writes

abbrev pub free : Option Kept → Option ℕ
free None = None
free (Some kept) = Some (kept.room - length kept.taken)

abbrev pub is_used_up : Option ℕ → Bool
is_used_up None = false
is_used_up (Some room) = room == 0

abbrev pub least : Option ℕ → Option ℕ → Option ℕ
least None b = b
least (Some a) None = Some a
least (Some a) (Some b) = Some (min a b)

-- so many bytes are within a room
abbrev pub Fits : Option ℕ → ℕ → Type 0
Fits None size = Unit {0}
Fits (Some room) size = size ≤ room

-- a write fails where its number is listed, where that was ordered, or where the room for what is kept is used up
abbrev pub write_fails : Link → Bool
write_fails l = is_listed l.calls || l.holds.write_fails || is_used_up (free l.kept)

abbrev pub put_some : ℕ → LinkPut
put_some count = if count == 0 then put.NotNow else put.Took count

-- what a write of so many bytes answers
abbrev pub put_of : Link → ℕ → LinkPut
put_of l size = if write_fails l then put.Failed else put_some (taken_of (least l.holds.room (free l.kept)) size)

abbrev pub room_after : Option ℕ → LinkPut → Option ℕ
room_after room (put.Took count) = room_left room count
room_after room put.NotNow = room
room_after room put.Failed = room

abbrev pub write_order_left : Bool → LinkPut → Bool
write_order_left ordered (put.Took count) = ordered
write_order_left ordered put.NotNow = ordered
write_order_left ordered put.Failed = false

abbrev pub keeping : Option Kept → List ℕ → Option Kept
keeping None bytes = None
keeping (Some kept) bytes = Some (record kept { taken = kept.taken ++ bytes })

abbrev pub kept_after : Option Kept → List ℕ → LinkPut → Option Kept
kept_after kept bytes (put.Took count) = keeping kept (take count bytes)
kept_after kept bytes put.NotNow = kept
kept_after kept bytes put.Failed = kept

abbrev pub after_put : Link → List ℕ → LinkPut → Link
after_put l bytes answer = record l {
  holds = record l.holds { room = room_after l.holds.room answer; write_fails = write_order_left l.holds.write_fails answer };
  kept = kept_after l.kept bytes answer;
  calls = called l.calls;
  counts = after_write l.counts answer;
}

-- a write would now answer something other than NotNow
abbrev pub would_write : Link → Bool
would_write l = write_fails l || not (is_used_up l.holds.room)
