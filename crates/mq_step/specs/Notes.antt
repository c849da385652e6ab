-- What a step of a connection came to, joined with the note that it put into the caller's `told`.
use Rattle.std.specs.Prelude.{Option, Some, None, Result, Ok, Err}
use Rattle.mq_wire.specs.declared.NoMemory.{NoMemory}
use Rattle.mq_talk.specs.declared.note.Note.{Note}
use Rattle.mq_step.specs.declared.stepped.Stepped.{Stepped}
use Rattle.mq_step.specs.declared.stepped.Stepped.TheVariants as stepped

pub data SteppedWith : Type 0 where
  Quiet : SteppedWith
  Did Ended : Note → SteppedWith
  -- something was done and there is no note, which no step does
  Noteless : SteppedWith

abbrev pub stepped_by : Stepped → Option Note → SteppedWith
stepped_by stepped.Quiet told = Quiet
stepped_by stepped.Did None = Noteless
stepped_by stepped.Did (Some note) = Did note
stepped_by stepped.Ended None = Noteless
stepped_by stepped.Ended (Some note) = Ended note

abbrev pub stepped_with : Result Stepped NoMemory → Option Note → Result SteppedWith NoMemory
stepped_with (Ok stepped) told = Ok (stepped_by stepped told)
stepped_with (Err refused) told = Err refused
