use Rattle.std.proofs.Common.{true, false, sym, subst}
use Rattle.mq_conn.specs.Conns.{IsConn}
use Rattle.mq_conn.specs.declared.conn.Conn.{Conn as Core}
use Rattle.mq_held.proofs.held.Held.bind.Goals as goal
use Rattle.mq_held.proofs.Fronts.{bind_some, bound_true, bound_false, match_true, match_false}

pub returns-in-Ok-true-clause-gives : goal.returns-in-Ok-true-clause-gives
returns-in-Ok-true-clause-gives g c = λ s stands stream goal want.
    let P : Core → Type 0 = λ x. IsConn x s in
    bound_true _ _ (IsConn c.bind_port.new.self.conn) (IsConn c.bound.new.self) s c.bound.result (match_true _ _ c.in-Ok-true.field-0 c.in-Ok-true.field-0-test c.in-Ok-true.ensures.ok) (subst P (sym c.bind_port.ensures.conn) stands) (bind_some s stream goal true want) c.bound.ensures.answers

pub returns-in-Ok-false-clause-gives : goal.returns-in-Ok-false-clause-gives
returns-in-Ok-false-clause-gives g c = λ s stands stream goal want.
    let P : Core → Type 0 = λ x. IsConn x s in
    bound_false _ _ (IsConn c.bind_port.new.self.conn) (IsConn c.bound-in-Ok-false.new.self) s c.bound-in-Ok-false.result (match_false _ _ c.in-Ok-false.field-0 c.in-Ok-false.field-0-test c.in-Ok-false.ensures.ok) (subst P (sym c.bind_port.ensures.conn) stands) (bind_some s stream goal false want) c.bound-in-Ok-false.ensures.answers
