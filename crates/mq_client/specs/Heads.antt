-- The head of the proxy's answer (RFC 9112, section 4).
use Rattle.std.specs.Prelude.{◌≡◌, ℕ, ◌<◌, ◌≤◌, ◌⊎◌, List, length}
use Rattle.httparse.specs.Grammar.{ResponseHead, print_response, status_code, ReadsResponse, HasNoResponse, NeverHasResponse, MayBecomeResponse}
use Rattle.mq_head.specs.Heads.{head_limit}

-- the most fields that a head may have
abbrev pub max_fields : ℕ
max_fields = 64

-- this head stands at the front, and isn't too long
pub record HasHead (bytes : List ℕ) (head : ResponseHead) : Type 0 where
  pub rest : List ℕ
  pub reads : ReadsResponse bytes head rest
  pub fits : length (print_response head) ≤ head_limit

-- Nothing is decided yet: the bytes hold no head, and some bytes can follow that make them one.
pub record Waits (bytes : List ℕ) : Type 0 where
  pub no_head : HasNoResponse bytes
  pub short : length bytes < head_limit
  pub goes_on : MayBecomeResponse bytes

-- The bytes begin with a head of so many bytes, which has this status and not too many fields.
pub record IsAnswered (bytes : List ℕ) (status used : ℕ) : Type 0 where
  pub head : ResponseHead
  pub has : HasHead bytes head
  pub few : length head.fields ≤ max_fields
  pub status_is : status ≡ status_code head
  pub used_is : used ≡ length (print_response head)

-- No head can stand at the front, or it is too long, or it has too many fields.
abbrev pub IsMalformed : List ℕ → Type 0
IsMalformed bytes =
    NeverHasResponse bytes
    ⊎ ((head_limit ≤ length bytes) × ((head : ResponseHead) → HasHead bytes head → ⊥))
    ⊎ ((head : ResponseHead) × HasHead bytes head × (max_fields < length head.fields))
