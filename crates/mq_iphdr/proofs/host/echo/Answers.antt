use Rattle.std.proofs.Common.{sym}
use Rattle.mq_iphdr.proofs.Taken.{is_4, is_6, length6}
use Rattle.mq_iphdr.proofs.host.echo.Goals as goal

pub echo4-requires : goal.echo4-requires
echo4-requires c =
    let t = is_4 c.args.packet.now c.args.view.now c.requires c.if-view-eq4.true in
    t.fixed

pub echo6-requires-clause-fixed : goal.echo6-requires-clause-fixed
echo6-requires-clause-fixed c =
    let t = is_6 c.args.packet.now c.args.view.now c.requires c.if-view-eq4.false in
    t.fixed

pub echo6-requires-clause-whole : goal.echo6-requires-clause-whole
echo6-requires-clause-whole c =
    let t = is_6 c.args.packet.now c.args.view.now c.requires c.if-view-eq4.false in
    sym (length6 _ _ t)
