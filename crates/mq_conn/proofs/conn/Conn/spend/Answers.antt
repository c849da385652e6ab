use Rattle.std.proofs.Common.{List, Some, sym, subst, ◌≡◌}
use Rattle.mq_machine.specs.declared.act.Due.{Due}
use Rattle.mq_machine.specs.declared.act.Due.TheVariants as due
use Rattle.mq_machine.specs.Settle.{spending}
use Rattle.mq_machine.specs.State.{owed}
use Rattle.mq_conn.specs.Conns.{Stands}
use Rattle.mq_conn.proofs.Passing.{popped_rest, spent_front, spent_given}
use Rattle.mq_conn.proofs.Standing.{reads}
use Rattle.mq_conn.proofs.conn.Conn.spend.Goals as goal

pub returns-in-Some-clause-spends : goal.returns-in-Some-clause-spends
returns-in-Some-clause-spends c = λ s rest st none is can.
    let old = c.args.self.now in
    let id = c.args.stream in
    let size = c.args.size in
    let left : c.pop.new.self ≡ rest = popped_rest c.pop.result old.due c.pop.new.self (due.Spend id size) rest c.pop.ensures is in
    let P : List Due → Type 0 = λ ds. Stands (record old { front = Some c.spend.new.self; due = ds }) (record s { front = spending s.front id size; due = rest }) in
    subst P (sym left) (spent_front old s c.in-Some.front c.spend.new.self id size rest none is c.in-Some.is
    (c.spend.ensures s.front s.streams (owed s) (reads old s c.in-Some.front c.in-Some.is st) can) st)

pub returns-in_default-clause-spends : goal.returns-in_default-clause-spends
returns-in_default-clause-spends c = λ s rest st none is can.
    let old = c.args.self.now in
    let id = c.args.stream in
    let size = c.args.size in
    let left : c.pop.new.self ≡ rest = popped_rest c.pop.result old.due c.pop.new.self (due.Spend id size) rest c.pop.ensures is in
    let P : List Due → Type 0 = λ ds. Stands (record old { due = ds }) (record s { front = spending s.front id size; due = rest }) in
    subst P (sym left) (spent_given old s id size rest none is c.in_default.is st)
