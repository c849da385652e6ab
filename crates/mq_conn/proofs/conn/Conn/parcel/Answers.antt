use Rattle.std.proofs.Common.{◌≡◌, Some, None, sym, ap, ◌∙◌}
use Rattle.mq_conn.specs.declared.conn.Conn.{Conn}
use Rattle.mq_conn.specs.Conns.{find_on}
use Rattle.mq_conn.proofs.Parcels.{gives_dead, gives_live, gives_none, gives_some}
use Rattle.mq_conn.proofs.conn.Conn.parcel.Goals as goal

pub returns-in_default : goal.returns-in_default
returns-in_default c = gives_none c.args.self.now c.lend.new.self c.no_parcel.result c.in_default.ensures.0 c.in_default.ensures.1

pub returns-in-None : goal.returns-in-None
returns-in-None c =
    let old = c.args.self.now in
    let p = c.in-Some.pushing in
    let lent = c.in-Some.ensures in
    let none : find_on old p.stream ≡ None = ap (λ (k : Conn). find_on k p.stream) (sym lent.1) ∙ c.in-None.ensures in
    gives_some old c.lend.new.self p c.in-Some.packet c.no_parcel-in-None.result lent.0 lent.1 (gives_dead old p c.in-Some.packet c.no_parcel-in-None.result none)

pub returns-in-Some-live : goal.returns-in-Some-live
returns-in-Some-live c =
    let old = c.args.self.now in
    let p = c.in-Some.pushing in
    let lent = c.in-Some.ensures in
    let live = c.in-Some-live.ensures in
    let on : find_on old p.stream ≡ Some live.0 = ap (λ (k : Conn). find_on k p.stream) (sym lent.1) ∙ live.1 in
    gives_some old c.lend.new.self p c.in-Some.packet _ lent.0 lent.1 (gives_live old c.in-Some-live.id p c.in-Some.packet live.0 on live.2)
