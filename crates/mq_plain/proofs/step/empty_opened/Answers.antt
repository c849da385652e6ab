use Rattle.std.proofs.Common.{◌≡◌, ℕ, length, sym, subst, ap, ◌∙◌}
use Rattle.mq_outside.specs.Ports.{empty_port}
use Rattle.mq_book.specs.Journal.{Journal}
use Rattle.mq_machine.specs.State as machine
use Rattle.mq_machine.specs.Acting.{holding}
use Rattle.mq_mem.specs.Offices.{seen_of}
use Rattle.mq_play.specs.Events.{with_held_ports}
use Rattle.mq_plain.specs.Served.{words, Serves}
use Rattle.mq_plain.proofs.Serving.{nowhere}
use Rattle.mq_plain.proofs.Turned.{still_emptied}
use Rattle.mq_plain.proofs.step.empty_opened.Goals as goal
use Rattle.mq_mem.specs.Mails.{shown}

-- no port is of the tunnel that would open next
pub returns-then-count-next-clause-serves : goal.returns-then-count-next-clause-serves
returns-then-count-next-clause-serves c = λ links boxes number w x.
    let worker = c.args.worker.now in
    let seen = seen_of c.args.office.now in
    let as_before : length seen.entries ≡ c.args.next = sym (c.count.ensures ∙ ap (λ (j : Journal). length j.history) c.book.ensures) ∙ c.if-count-next.true in
    let none = still_emptied words.most worker.table.table worker.ring w x.stands nowhere seen (shown boxes) (x.known nowhere) in
    let same = subst (λ (k : ℕ). with_held_ports k (holding empty_port) w ≡ w) as_before none in
    subst (λ (v : machine.Worker). Serves links seen boxes number worker v) (sym same) x

pub returns-clause-serves : goal.returns-clause-serves
returns-clause-serves c = λ links boxes number w x. c.empty.ensures.serves links (seen_of c.args.office.now) boxes number w x
