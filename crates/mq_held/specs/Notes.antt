-- What a call came to, joined with the note that it put into the caller's `told`.
use Rattle.std.specs.Prelude.{◌≡◌, Bool, true, false, IfOk, Option, Some, None, is_some, Result, Ok, Err}
use Rattle.mq_wire.specs.declared.NoMemory.{NoMemory}
use Rattle.mq_talk.specs.declared.note.Note.{Note}
use Rattle.mq_held.specs.declared.went.Went.{Went}
use Rattle.mq_held.specs.declared.went.Went.TheVariants as went

-- ---- a call that did something, or not

-- the note, where something was done
abbrev pub note_by : Bool → Option Note → Option Note
note_by true told = told
note_by false told = None

abbrev pub note_with : Result Bool NoMemory → Option Note → Result (Option Note) NoMemory
note_with (Ok did) told = Ok (note_by did told)
note_with (Err refused) told = Err refused

-- where something was done, a note is there
abbrev pub HasNote : Result Bool NoMemory → Option Note → Type 0
HasNote result told = IfOk result (λ did. did ≡ true → is_some told ≡ true)

-- ---- a call of the outside

pub data WentWith : Type 0 where
  Waits Failed : WentWith
  Did : Note → WentWith
  -- something was done and there is no note, which no call does
  Noteless : WentWith

abbrev pub went_by : Went → Option Note → WentWith
went_by went.Waits told = Waits
went_by went.Failed told = Failed
went_by went.Did None = Noteless
went_by went.Did (Some note) = Did note

abbrev pub went_with : Result Went NoMemory → Option Note → Result WentWith NoMemory
went_with (Ok went) told = Ok (went_by went told)
went_with (Err refused) told = Err refused
