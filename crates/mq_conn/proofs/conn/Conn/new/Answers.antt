use Rattle.std.proofs.Common.{List, [], None, refl, sym, ap, ◌∙◌, arith}
use Rattle.mq_machine.specs.State as machine
use Rattle.mq_machine.specs.State.{Head, new_conn}
use Rattle.mq_machine.specs.declared.act.Due.{Due}
use Rattle.mq_machine.proofs.Lawful.Steps.{new_lawful}
use Rattle.mq_conn.specs.Conns.{tunnels_of}
use Rattle.mq_conn.proofs.Ready.{ready_idle}
use Rattle.mq_conn.proofs.conn.Conn.new.Goals as goal

pub returns : goal.returns
returns c = record {
  stands = record {
    past = record { out = []; given = 0; front = Head []; streams = [] };
    is = ap (λ (ds : List Due). record (new_conn c.args.id c.args.actor) { due = ds }) (sym c.new-2.ensures)
        ∙ ap (λ (ts : List machine.Tunnel). record (new_conn c.args.id c.args.actor) { due = c.new-2.result; tunnels = ts }) (ap tunnels_of (sym c.new-3.ensures.items));
    read = (refl, c.new.ensures);
    given = omega arith;
    ready = ready_idle None _ _ None c.new-2.result refl c.new-2.ensures tt;
  };
  lawful = new_lawful c.args.id c.args.actor;
}
