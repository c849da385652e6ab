use Rattle.std.proofs.Common.{find, is_some, refl, sym, ◌∙◌}
use Rattle.mq_actor.proofs.Able.{gives, tries_are, receives_is}
use Rattle.mq_actor.proofs.quiet.could_act.Goals as goal

pub returns : goal.returns
returns g c = λ s held tells.
    let act = sym (c.could_do.ensures s held tells) ∙ c.if-could_do.false in
    let frame = sym (c.can_frame.ensures s.conn held.conn) ∙ c.if-can_frame.false in
    let write = sym (c.could_write.ensures s.conn s.link held.conn tells.link) ∙ c.if-could_write.false in
    let read = sym (c.could_read.ensures s.conn s.link held.conn tells.link) ∙ c.if-could_read.false in
    let receives = receives_is g.P.P.Port.most c.args.table.now.table c.args.held.now s held in
    c.could_receive.ensures s held tells ∙ sym (tries_are s (is_some (find gives s.ports)) receives ∙ rw (act, frame, write, read) refl)
