use Rattle.std.proofs.Common.{◌≡◌, ◌∙◌, ◌∷◌, ◌++◌, [], refl, sym, ap, subst}
use Rattle.mq_talk.specs.declared.note.Note.TheVariants as note
use Rattle.mq_machine.specs.State.{new_conn}
use Rattle.mq_conn.specs.declared.conn.Conn.{Conn as Core}
use Rattle.mq_conn.specs.Conns.{IsConn}
use Rattle.mq_actor.proofs.Fronts.{same_front}
use Rattle.mq_actor.proofs.ring.Ring.accept_first.Goals as goal

pub returns : goal.returns
returns g c =
    let e = c.in-Some.ensures in
    let t = c.take_in.ensures in
    let same : e.2 ≡ t.first = same_front c.args.self.now.offered.items e.2 t.first e.3 c.take_in.new.self.offered.items e.4 t.offered in
    let number : t.first.number ≡ c.in-Some.number = ap (λ f. f.number) (sym same) ∙ e.5 in
    let P : Core → Type 0 = λ x. IsConn x (new_conn t.first.number c.args.self.now.id) in
    record {
      ring = (ap (λ r. r.id) t.rest, ap (λ r. r.setup) t.rest);
      gives = (
        e.0,
        record {
          first = t.first;
          others = c.take_in.new.self.offered.items;
          held = t.held;
          live = e.1;
          offered = t.offered;
          left = refl;
          said_is = ap (λ id. note.Accepted c.in-Some.number id) (ap (λ r. r.id) t.rest) ∙ ap (λ n. note.Accepted n c.args.self.now.id) (sym number);
          number = t.number;
          link = t.link;
          conn = subst P (sym t.conn_is) (subst (λ n. IsConn c.in_ok-conn.conn (new_conn n c.args.self.now.id)) (sym number) c.in_ok-conn.ensures);
          ports = t.ports;
          bound = t.bound;
          conns = t.conns ∙ ap (λ hs. hs ++ t.held ∷ []) c.reserve.ensures.items;
          rest = t.rest;
        },
      );
      told = λ did. refl;
    }
