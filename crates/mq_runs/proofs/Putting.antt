-- What goes to a port is the payload of its number, whole.
use Rattle.std.proofs.Common.{◌≡◌, ℕ, List}
use Rattle.std.specs.List.{AllByRecursion}
use Rattle.mq_capsule.specs.Laws.{IsWithinLimits}
use Rattle.mq_talk.specs.declared.note.From.{From}
use Rattle.mq_talk.specs.declared.note.From.TheVariants as source
use Rattle.mq_talk.specs.declared.note.Note.TheVariants as note
use Rattle.mq_machine.specs.declared.act.StreamAct.TheVariants as stream
use Rattle.mq_machine.specs.declared.setup.Setup.{Setup}
use Rattle.mq_machine.specs.State.{Conn, Held, Worker, State}
use Rattle.mq_machine.specs.Turn.{WorkerOf, Turn}
use Rattle.mq_play.specs.declared.plan.Plan.{Plan}
use Rattle.mq_play.specs.Events.{state_of}
use Rattle.mq_play.proofs.Lists.{each_at}
use Rattle.mq_runs.specs.Payloads.{IsNext}
use Rattle.mq_runs.specs.Runs.{Moment, Run}
use Rattle.mq_runs.proofs.Asked.{Asked, keeps_asked}
use Rattle.mq_runs.proofs.Kept.{on_run, first_has}
use Rattle.mq_runs.proofs.Nexts.{next_is}
use Rattle.mq_runs.proofs.Sending.{Puts, puts_among, seat_puts}
use Rattle.mq_runs.proofs.Shifting.{all_among}

pub put_whole : IsWithinLimits → (plan : Plan) (before : List Moment) (here next : State) (number : ℕ) (from : From) (n : ℕ) (payload : List ℕ) → Run (state_of plan) before here → Turn here (WorkerOf number) (note.Sent from n payload) next
    → (tunnel : ℕ) × (from ≡ source.Tunnel tunnel) × IsNext here tunnel (stream.Payload n payload)
put_whole limits plan before here next number from n payload run x =
    let K = λ (setup : Setup) (n : ℕ) (c : Conn). Asked setup.mtu c in
    let keeps = keeps_asked limits in
    let have = (on_run K keeps before (state_of plan) here (first_has K keeps plan) run).have in
    let w = x.worker in
    let p : Puts w from n payload = seat_puts w here.shared x.turn.seat x.answer (note.Sent from n payload) x.next x.shared x.turn.next in
    let own = each_at (λ (w : Worker). AllByRecursion (λ (h : Held). Asked w.setup.mtu h.conn) w.conns) here.workers number w have x.at in
    let asked = all_among (λ (h : Held). Asked w.setup.mtu h.conn) w.conns p.h own (puts_among w from n payload p) in
    (p.front.t.id, p.from_is, next_is here number p.conn w p.h x.at p.has asked (stream.Payload n payload) p.front)
