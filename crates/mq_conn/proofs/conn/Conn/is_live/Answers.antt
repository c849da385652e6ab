use Rattle.std.proofs.Common.{List, subst}
use Rattle.std.specs.Prelude.{MatchOption}
use Rattle.mq_conn.specs.declared.conn.Tunnel.{Tunnel}
use Rattle.mq_conn.specs.Frames.{HasNone, IsPlaceOf}
use Rattle.mq_conn.proofs.Framing.{live_is}
use Rattle.mq_conn.proofs.conn.Conn.is_live.Goals as goal

pub returns : goal.returns
returns c =
    let P : List Tunnel → Type 0 = λ ts. MatchOption c.place_of.result (HasNone ts c.args.tunnel) (λ place. (t : Tunnel) × IsPlaceOf ts c.args.tunnel place t) in
    live_is c.args.self.now c.args.tunnel c.place_of.result c.is_some.result (subst P c.as_slice.ensures.value c.place_of.ensures) c.is_some.ensures
