-- What the code's word for the meaning of a request stands for.
use Rattle.mq_machine.specs.Reading.{Meaning}
use Rattle.mq_machine.specs.Reading as machine
use Rattle.mq_front.specs.declared.judge.Verdict.{Verdict}
use Rattle.mq_front.specs.declared.judge.Verdict.TheVariants.{Leads, Refused}

abbrev pub meaning_of : Verdict → Meaning
meaning_of (Leads goal) = machine.Leads goal
meaning_of (Refused status rule) = machine.Refused status rule
