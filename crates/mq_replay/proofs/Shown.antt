-- What was heard of a print.
use Rattle.std.proofs.Common.{ℕ, List, Option, Result, Ok, Err}
use Rattle.mq_output.specs.Printing.{Prints, Spills}
use Rattle.mq_output.specs.declared.output.Output.{Output}
use Rattle.mq_output.specs.declared.stop.Stop.{Stop}
use Rattle.mq_output.specs.declared.stop.Stop.TheVariants.{BadLine, WriteFault, NoMemory}
use Rattle.mq_replay.specs.Listening.{HearsTo}

module _ {K : Type 0} where
  -- it was printed, whether the sink then failed or not
  pub prints_spilled : (taken : K → Option (List ℕ)) (o p : Output K) (text : List ℕ) (answer : Result (Unit {0}) Stop) → Spills answer → Prints taken o p text → HearsTo (Prints taken) o p text answer
  prints_spilled taken o p text (Ok done) spills h = h
  prints_spilled taken o p text (Err WriteFault) spills h = h
  prints_spilled taken o p text (Err BadLine) spills h = absurd spills
  prints_spilled taken o p text (Err NoMemory) spills h = absurd spills
