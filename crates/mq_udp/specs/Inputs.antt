-- What a whole input comes to.
use Rattle.std.specs.Prelude.{◌≡◌, ℕ, ◌⊎◌, Bool, true, false, List, [], Option, Result, Ok, Err, IfSome}
use Rattle.std.specs.Global.{Vec}
use Rattle.mq_outside.specs.Outside.{Rose}
use Rattle.mq_output.specs.declared.stop.Stop.{Stop}
use Rattle.mq_output.specs.declared.stop.Stop.TheVariants as stop
use Rattle.mq_udp.specs.declared.input.Input.{Input}
use Rattle.mq_udp.specs.declared.reading.Unread.{Unread}
use Rattle.mq_udp.specs.declared.reading.Unread.TheVariants.{Failed, BadLine, NoMemory}
use Rattle.mq_udp.specs.Input.{IsBadLine, IsInput, IsRead, StaysBad}

-- the source is at its end, where it tells
abbrev pub IsAtEnd : Option (List ℕ) → Type 0
IsAtEnd left = IfSome left (λ rest. rest ≡ [])

-- the line of this number is the first bad one, whatever follows, or the input ended there
abbrev pub IsBadAt : List ℕ → Option (List ℕ) → ℕ → Type 0
IsBadAt text left number = StaysBad text number ⊎ (IsAtEnd left × IsBadLine text number)

-- the whole input spells these payloads
abbrev pub ReadsAll : List ℕ → Option (List ℕ) → Result (Vec (List ℕ)) Unread → Type 0
ReadsAll text left (Ok payloads) = IsAtEnd left × IsInput text payloads.items
ReadsAll text left (Err Failed) = Unit {0}
ReadsAll text left (Err (BadLine number)) = IsBadAt text left number
ReadsAll text left (Err NoMemory) = Unit {0}

-- the source's faults rose exactly where it failed
abbrev pub InputCounts : {A : Type 0} → ℕ → ℕ → Result A Unread → Type 0
InputCounts before after (Ok value) = after ≡ before
InputCounts before after (Err Failed) = Rose before after
InputCounts before after (Err (BadLine number)) = after ≡ before
InputCounts before after (Err NoMemory) = after ≡ before

-- ---- what its functions do; only the crate's own functions cite what follows

abbrev pub UnreadBy : Stop → ℕ → Unread → Type 0
UnreadBy stop.BadLine number why = why ≡ BadLine number
UnreadBy stop.WriteFault number why = why ≡ NoMemory
UnreadBy stop.NoMemory number why = why ≡ NoMemory

-- one read: the input goes on, or is at its end, or isn't read on
abbrev pub ReadsMore : List ℕ → Option (List ℕ) → Result Bool Unread → Input → Type 0
ReadsMore text left (Ok false) x = IsRead x text
ReadsMore text left (Ok true) x = IsAtEnd left × IsInput text x.payloads.items
ReadsMore text left (Err Failed) x = Unit {0}
ReadsMore text left (Err (BadLine number)) x = IsBadAt text left number
ReadsMore text left (Err NoMemory) x = Unit {0}
