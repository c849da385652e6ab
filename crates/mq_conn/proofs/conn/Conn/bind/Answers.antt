use Rattle.std.proofs.Common.{Bool, true, false, sym, subst, refl}
use Rattle.mq_talk.specs.declared.note.Note.TheVariants as note
use Rattle.mq_machine.specs.declared.act.Act.TheVariants as act
use Rattle.mq_machine.specs.Done.{before, refused}
use Rattle.mq_machine.specs.State as machine
use Rattle.mq_machine.specs.Want.{Bound}
use Rattle.mq_conn.specs.Acts.{DoesAct}
use Rattle.mq_conn.proofs.Answering.{from_step}
use Rattle.mq_conn.proofs.conn.Conn.bind.Goals as goal

pub returns-then-done : goal.returns-then-done
returns-then-done c = λ none.
    let old = c.args.self.now in
    let b = c.args.binding in
    let P : Bool → Type 0 = λ done. DoesAct old c.ported.new.self (act.Bind b.stream b.goal) (Bound done) c.ported.result in
    subst P (sym c.if-done.true) (from_step old c.ported.new.self (act.Bind b.stream b.goal) (Bound true) (λ (s : machine.Conn). (note.Ported s.number b.stream, before (act.Open b.stream b.goal) s)) c.ported.result (λ x. refl) (c.ported.ensures none))

pub returns : goal.returns
returns c = λ none.
    let old = c.args.self.now in
    let b = c.args.binding in
    let P : Bool → Type 0 = λ done. DoesAct old c.refuse.new.self (act.Bind b.stream b.goal) (Bound done) c.refuse.result in
    subst P (sym c.if-done.false) (from_step old c.refuse.new.self (act.Bind b.stream b.goal) (Bound false) (λ (s : machine.Conn). refused s b.stream 502 0) c.refuse.result (λ x. refl) (c.refuse.ensures none))
