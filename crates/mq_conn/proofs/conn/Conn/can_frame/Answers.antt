use Rattle.std.proofs.Common.{◌∙◌, sym, refl, subst, Bool, true, false, ◌≡◌}
use Rattle.std.specs.Prelude.{is_some}
use Rattle.mq_machine.specs.State as machine
use Rattle.mq_machine.specs.Steps.{can_go_on, framed}
use Rattle.mq_conn.specs.declared.conn.Conn.{Conn}
use Rattle.mq_conn.specs.Conns.{IsConn}
use Rattle.mq_conn.specs.Frames.{AnyCanFrame}
use Rattle.mq_conn.proofs.Framing.{frames_not_now, frames_some}
use Rattle.mq_conn.proofs.conn.Conn.can_frame.Goals as goal

-- none of its tunnels can be framed
none_framed : (c : Conn) → AnyCanFrame c false → (s : machine.Conn) → IsConn c s → (b : Bool) → can_go_on s ≡ b → false ≡ is_some (framed s)
none_framed c none s stands true goes = frames_some c false none s stands goes
none_framed c none s stands false not_now = frames_not_now c s not_now

-- one can, so that it turns on whether it goes on
by_going : (c : Conn) → AnyCanFrame c true → (s : machine.Conn) → IsConn c s → (b : Bool) → b ≡ can_go_on s → b ≡ is_some (framed s)
by_going c some s stands true goes = frames_some c true some s stands (sym goes)
by_going c some s stands false not_now = frames_not_now c s (sym not_now)

pub returns-then-can_frame_any : goal.returns-then-can_frame_any
returns-then-can_frame_any c = λ s stands.
    by_going c.args.self.now (subst (AnyCanFrame c.args.self.now) c.if-can_frame_any.true c.can_frame_any.ensures) s stands c.can_go_on.result (c.can_go_on.ensures s stands)

pub returns-else-can_frame_any : goal.returns-else-can_frame_any
returns-else-can_frame_any c = λ s stands.
    c.if-can_frame_any.false ∙ none_framed c.args.self.now (subst (AnyCanFrame c.args.self.now) c.if-can_frame_any.false c.can_frame_any.ensures) s stands (can_go_on s) refl
