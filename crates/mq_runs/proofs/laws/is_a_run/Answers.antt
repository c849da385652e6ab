use Rattle.mq_runs.proofs.Bridge.{plays_run, stops_run}
use Rattle.mq_runs.proofs.laws.is_a_run.Goals as goal

pub returns : goal.returns
returns c = record { plays = plays_run; stops = stops_run }
