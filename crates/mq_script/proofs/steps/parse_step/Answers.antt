use Rattle.std.proofs.Common.{ℕ, List}
use Rattle.mq_play.specs.declared.line.Line.{Line}
use Rattle.mq_play.specs.declared.line.Line.TheVariants as line
use Rattle.mq_play.specs.Lines.{IsActor}
use Rattle.mq_play.specs.Parts.{IsNumber, Means}
use Rattle.mq_play.proofs.reading.Singles.{actor_once, actors_lack}
use Rattle.mq_play.proofs.reading.Parted.{parted_behind, parted_other}
use Rattle.mq_script.proofs.Stepping.{alone_read, no_actor}
use Rattle.mq_script.proofs.steps.parse_step.Goals as goal

abbrev Behind : ℕ → List ℕ → Line → Type 0
Behind actor = Means (IsNumber 1 1000000) (line.Steps actor)

pub returns-in_default : goal.returns-in_default
returns-in_default c = alone_read c.args.rest.now c.in_default.ensures c.parse_one.result c.parse_one.ensures

pub returns-in_default-parse_actor : goal.returns-in_default-parse_actor
returns-in_default-parse_actor c = no_actor c.args.rest.now c.in-Some.actor.now c.in-Some.count.now c.in-Some.ensures (parted_other IsActor Behind c.cut_once.ensures actors_lack c.args.rest.now c.in-Some.actor.now c.in-Some.count.now c.in-Some.ensures c.in_default-parse_actor.ensures)

pub returns-in_default-number_in : goal.returns-in_default-number_in
returns-in_default-number_in c =
    no_actor c.args.rest.now c.in-Some.actor.now c.in-Some.count.now c.in-Some.ensures
    (λ said told.
    let m = parted_behind IsActor Behind c.cut_once.ensures actors_lack actor_once c.args.rest.now c.in-Some.actor.now c.in-Some.count.now c.in-Some.ensures c.in-Some-parse_actor.actor c.in-Some-parse_actor.ensures said told in
    c.in_default-number_in.ensures m.value m.says)
