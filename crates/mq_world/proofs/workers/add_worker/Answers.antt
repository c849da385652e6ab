use Rattle.std.proofs.Common.{◌≡◌, false, ap, subst, ◌∙◌}
use Rattle.mq_machine.specs.declared.setup.Setup.{Setup}
use Rattle.mq_machine.specs.State.{new_worker}
use Rattle.mq_mem.specs.Ports.{Ports as PortsOf}
use Rattle.mq_actor.specs.Holds.{IsWorker}
use Rattle.mq_plain.specs.Served.{words, Plain}
use Rattle.mq_plain.proofs.Begun.{begins}
use Rattle.mq_world.proofs.Beginning.{one_more}
use Rattle.mq_world.proofs.workers.add_worker.Goals as goal

pub returns : goal.returns
returns c = λ seen boxes begun few are.
    let a : Plain = c.in_ok-worker.worker in
    let setup : Setup = c.args.setup.now in
    let stands : IsWorker words.most a.table.table a.ring (new_worker c.args.number setup) =
    subst (λ (x : Setup). IsWorker words.most a.table.table a.ring (new_worker c.args.number x)) c.in_ok-own.ensures c.in_ok-worker.ensures.stands in
    let ready : a.table.ports.bind_fails ≡ false = ap (λ (p : PortsOf). p.bind_fails) (c.in_ok-worker.ensures.empty.3 ∙ c.in_ok-ports.ensures) in
    let x = begins a c.args.number setup stands seen boxes few begun.pump begun.written begun.inboxes ready in
    one_more seen boxes setup c.args.workers.now.items c.push.new.self.items c.args.number a are x c.in_ok-push.ensures.items
