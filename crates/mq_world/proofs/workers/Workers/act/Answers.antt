use Rattle.std.proofs.Common.{suc, ◌<◌, length, arith}
use Rattle.std.proofs.lemmas.Bool.{lt-leb, lt-ltb}
use Rattle.mq_machine.specs.Turn.{WorkerOf, ThePump}
use Rattle.mq_world.specs.Worlds.{IsWorld, answer_of}
use Rattle.mq_world.proofs.Answering.{actor_gives, pump_at, worker_at}
use Rattle.mq_world.proofs.Offered.{workers_long}
use Rattle.mq_world.proofs.workers.Workers.act.Goals as goal

pub returns-then-actor-count : goal.returns-then-actor-count
returns-then-actor-count c = λ s is.
    let count = c.count-count.ensures s is in
    let more = c.if-actor-count.true in
    (lt-ltb (length s.workers) c.args.actor (omega (arith, more, count)), is)

pub returns-then-actor-count-2 : goal.returns-then-actor-count-2
returns-then-actor-count-2 c = λ s is.
    let took = c.pump.ensures s is in
    let count = c.count-count.ensures s is in
    let same = c.if-actor-count-2.true in
    let none = lt-leb (suc c.args.actor) (length s.workers) (omega (arith, same, count)) in
    let there = lt-leb (suc (length s.workers)) c.args.actor (omega (arith, same, count)) in
    actor_gives (IsWorld c.pump.new.self) s c.args.actor ThePump (answer_of c.pump.result c.pump.new.told) took.0 (pump_at s c.args.actor none) there took.2 took.1

pub step-requires-clause-number : goal.step-requires-clause-number
step-requires-clause-number c =
    let count = c.count-count.ensures c.requires.0 c.requires.1 in
    let long = workers_long c.args.self.now c.requires.0 c.requires.1 in
    omega (arith, c.if-actor-count.false, c.if-actor-count-2.false, count, long)

pub returns : goal.returns
returns c = λ s is.
    let took = c.step.ensures s is in
    let count = c.count-count.ensures s is in
    let less : c.args.actor < length s.workers = omega (arith, c.if-actor-count.false, c.if-actor-count-2.false, count) in
    let there = lt-leb (suc (length s.workers)) c.args.actor (omega (arith, less)) in
    actor_gives (IsWorld c.step.new.self) s c.args.actor (WorkerOf c.args.actor) (answer_of c.step.result c.step.new.told) took.0 (worker_at s c.args.actor (lt-ltb c.args.actor (length s.workers) less)) there took.2 took.1
