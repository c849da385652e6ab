-- What the bytes of a connection ask for, from its first byte on.
use Rattle.std.specs.Prelude.{◌≡◌, ℕ, ◌<◌, ◌≤◌, ◌⊎◌, Bool, false, not, ◌&&◌, ◌||◌, ◌==◌, List, [], ◌∷◌, ◌++◌, length, count_by, Ok, Err, IsTrue, if◌then◌else◌}
use Rattle.std.specs.List.{list_any}
use Rattle.httparse.specs.Grammar.{RequestHead, print_request, ReadsRequest, HasNoRequest, NeverHasRequest}
use Rattle.mq_addr.specs.declared.kind.Kind.{Kind}
use Rattle.mq_head.specs.Rules.{asked}

-- the most bytes that a head may have
abbrev pub head_limit : ℕ
head_limit = 8192

-- this head stands at the front, and isn't too long
pub record HasHead (bytes : List ℕ) (head : RequestHead) : Type 0 where
  pub rest : List ℕ
  pub reads : ReadsRequest bytes head rest
  pub fits : length (print_request head) ≤ head_limit

-- CR or LF
abbrev pub is_line_byte : ℕ → Bool
is_line_byte b = b == 13 || (b == 10)

-- the bytes behind the empty lines that may stand before a request (RFC 9112, section 2.2)
abbrev pub skip_line_bytes : List ℕ → List ℕ
skip_line_bytes [] = []
skip_line_bytes (b ∷ bs) = if is_line_byte b then skip_line_bytes bs else b ∷ bs

abbrev pub is_space : ℕ → Bool
is_space b = b == 32

-- one space, and no CR or LF
abbrev pub has_one_space : List ℕ → Bool
has_one_space line = (count_by is_space line == 1) && not (list_any is_line_byte line)

-- the bytes end inside the request target, which follows the first space of the request line
unfoldable pub ends_in_target : List ℕ → Bool
ends_in_target bytes = has_one_space (skip_line_bytes bytes)

-- some bytes can follow that make these a whole head
abbrev pub CanBecomeHead : List ℕ → Type 0
CanBecomeHead bytes = (more : List ℕ) × (head : RequestHead) × ReadsRequest (bytes ++ more) head []

-- Nothing is decided yet.
pub record IsMore (bytes : List ℕ) : Type 0 where
  pub no_head : HasNoRequest bytes
  pub short : length bytes < head_limit
  pub goes_on : IsTrue (ends_in_target bytes) ⊎ CanBecomeHead bytes

-- The bytes begin with a head of so many bytes that asks for a tunnel of this kind and with this path and query.
pub record IsUpgrade (bytes : List ℕ) (kind : Kind) (path : List ℕ) (used : ℕ) : Type 0 where
  pub head : RequestHead
  pub has : HasHead bytes head
  pub asks : asked head ≡ Ok (kind, path)
  pub used_is : used ≡ length (print_request head)

-- no head can stand at the front, or it is too long
abbrev pub HasNoHead : List ℕ → Type 0
HasNoHead bytes =
    (NeverHasRequest bytes × (ends_in_target bytes ≡ false))
    ⊎ ((head_limit ≤ length bytes) × ((head : RequestHead) → HasHead bytes head → ⊥))

-- The bytes are refused with this status: that of their head, or 400 where they have none.
abbrev pub IsRefused : List ℕ → ℕ → Type 0
IsRefused bytes status =
    ((head : RequestHead) × HasHead bytes head × (asked head ≡ Err status))
    ⊎ (HasNoHead bytes × (status ≡ 400))
