use Rattle.std.proofs.Common.{Ok, sym, subst, refl}
use Rattle.mq_talk.specs.declared.note.Note.TheVariants as note
use Rattle.mq_machine.specs.declared.act.Act.TheVariants as act
use Rattle.mq_machine.specs.Done.{refused}
use Rattle.mq_machine.specs.State as machine
use Rattle.mq_machine.specs.Want.{Said}
use Rattle.mq_conn.specs.declared.acts.Saying.{Saying}
use Rattle.mq_conn.specs.Acts.{DoesAct, saying_act}
use Rattle.mq_conn.proofs.Answering.{from_step, tells_drop, tells_reset}
use Rattle.mq_conn.proofs.conn.Conn.say_so.Goals as goal

pub returns-in-Refuse : goal.returns-in-Refuse
returns-in-Refuse c = λ none.
    let old = c.args.self.now in
    let r = c.in-Refuse in
    let P : Saying → Type 0 = λ y. DoesAct old c.refuse.new.self (saying_act y) Said c.refuse.result in
    subst P (sym r.is) (from_step old c.refuse.new.self (act.Refuse r.stream r.status r.rule) Said (λ (s : machine.Conn). refused s r.stream r.status r.rule) c.refuse.result (λ x. refl) (c.refuse.ensures none))

pub returns-in-Reset : goal.returns-in-Reset
returns-in-Reset c = λ none.
    let old = c.args.self.now in
    let r = c.in-Reset in
    let P : Saying → Type 0 = λ y. DoesAct old old (saying_act y) Said (Ok (note.Reset old.number r.stream r.code)) in
    subst P (sym r.is) (tells_reset old r.stream r.code)

pub returns-in-Drop : goal.returns-in-Drop
returns-in-Drop c = λ none.
    let old = c.args.self.now in
    let r = c.in-Drop in
    let P : Saying → Type 0 = λ y. DoesAct old old (saying_act y) Said c.dropped.result in
    subst P (sym r.is) (tells_drop old r.stream r.n r.cause c.dropped.result c.dropped.ensures)
