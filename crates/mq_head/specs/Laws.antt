-- What holds of the answers to all bytes of a connection, however they are cut.
use Rattle.std.specs.Prelude.{◌≡◌, ℕ, ◌<◌, ◌≤◌, ◌⊎◌, List, ◌++◌, length, IsTrue}
use Rattle.httparse.specs.Grammar.{RequestHead, print_request}
use Rattle.mq_addr.specs.declared.kind.Kind.{Kind}
use Rattle.mq_head.specs.declared.step.HeadStep.{HeadStep}
use Rattle.mq_head.specs.Heads.{HasHead, IsMore, IsUpgrade, IsRefused, ends_in_target}
use Rattle.mq_head.specs.Steps.{IsStep}

-- bytes have one answer
abbrev pub OneAnswer : Type 0
OneAnswer = (before piece : List ℕ) (a b : HeadStep) → IsStep before piece a → IsStep before piece b → a ≡ b

-- a tunnel that is asked for stays asked for, whatever follows
abbrev pub UpgradeStays : Type 0
UpgradeStays =
    (bytes more : List ℕ) (kind : Kind) (path : List ℕ) (used : ℕ)
    → IsUpgrade bytes kind path used → IsUpgrade (bytes ++ more) kind path used

-- Bytes that are refused stay refused with that status, whatever follows. But bytes that end before the
-- first space and can't become a head may be followed by a space; then the refusal waits for the target's end.
abbrev pub RefusalStays : Type 0
RefusalStays =
    (bytes more : List ℕ) (status : ℕ) → IsRefused bytes status
    → IsRefused (bytes ++ more) status
    ⊎ ((status ≡ 400) × IsMore (bytes ++ more) × IsTrue (ends_in_target (bytes ++ more)))

-- before the last byte of a head nothing is decided
abbrev pub HeadWaits : Type 0
HeadWaits =
    (front more : List ℕ) (head : RequestHead) → HasHead (front ++ more) head
    → length front < length (print_request head) → IsMore front

-- with its last byte, a head stands at the front, whatever follows
abbrev pub HeadStands : Type 0
HeadStands =
    (front more : List ℕ) (head : RequestHead) → HasHead (front ++ more) head
    → length (print_request head) ≤ length front → HasHead front head
