use Rattle.std.proofs.Common.{List, Some, sym, subst}
use Rattle.mq_machine.specs.declared.act.Due.{Due}
use Rattle.mq_machine.specs.Done.{without}
use Rattle.mq_machine.specs.State.{owed}
use Rattle.mq_conn.specs.Conns.{Stands}
use Rattle.mq_conn.proofs.Standing.{forgot, forgot_given, reads}
use Rattle.mq_conn.proofs.conn.Conn.forget.Goals as goal

pub returns-in-Some : goal.returns-in-Some
returns-in-Some c = λ s none st.
    let old = c.args.self.now in
    let id = c.args.stream in
    let P : List Due → Type 0 = λ ds. Stands (record old { due = ds; front = Some c.forget-in-Some.new.self }) (without id s) in
    subst P (sym c.forget.ensures) (forgot old s id c.in-Some.front c.forget-in-Some.new.self none c.in-Some.is
    (c.forget-in-Some.ensures s.front s.streams (owed s) (reads old s c.in-Some.front c.in-Some.is st)) st)

pub returns-in_default : goal.returns-in_default
returns-in_default c = λ s none st.
    let old = c.args.self.now in
    let id = c.args.stream in
    let P : List Due → Type 0 = λ ds. Stands (record old { due = ds }) (without id s) in
    subst P (sym c.forget.ensures) (forgot_given old s id none c.in_default.is st)
