use Rattle.std.proofs.Common.{ℕ, List, Option, Ok, sym, subst, ◌≡◌, arith}
use Rattle.mq_talk.specs.declared.note.Note.TheVariants as note
use Rattle.mq_machine.specs.Done.{first_waiting}
use Rattle.mq_conn.specs.declared.conn.Conn.{Conn}
use Rattle.mq_conn.specs.Closing.{OpensOn}
use Rattle.mq_conn.specs.Queues.{values_of}
use Rattle.mq_conn.proofs.Opening.{Ready3, left_all, left_front, left_more, opens_err, opens_told, opens_untold}
use Rattle.mq_conn.proofs.conn.Conn.put_open.Goals as goal
use Rattle.mq_conn.proofs.conn.Conn.put_open.Goals.{in-Some+in_ok-wait_at, in_default}

pub returns-in_err-grant : goal.returns-in_err-grant
returns-in_err-grant c =
    opens_err c.args.self.now c.place.new.self c.grant.new.self c.args.id c.args.opening c.args.routes.now c.from_residual-in_err-grant.result c.from_residual-in_err-grant.ensures.0 c.in_ok-place.ensures
    (left_front c.place.new.self c.grant.new.self c.in_err-grant.ensures)

pub returns-in_err-prepare : goal.returns-in_err-prepare
returns-in_err-prepare c =
    opens_err c.args.self.now c.place.new.self c.prepare.new.self c.args.id c.args.opening c.args.routes.now c.from_residual-in_err-prepare.result c.from_residual-in_err-prepare.ensures.0 c.in_ok-place.ensures
    (left_more c.place.new.self c.grant.new.self c.prepare.new.self (left_front c.place.new.self c.grant.new.self c.in_ok-grant.ensures.is) c.in_err-prepare.ensures)

pub returns-in_err-capsule : goal.returns-in_err-capsule
returns-in_err-capsule c =
    opens_err c.args.self.now c.place.new.self c.prepare.new.self c.args.id c.args.opening c.args.routes.now c.from_residual-in_err-capsule.result c.from_residual-in_err-capsule.ensures.0 c.in_ok-place.ensures
    (left_more c.place.new.self c.grant.new.self c.prepare.new.self (left_front c.place.new.self c.grant.new.self c.in_ok-grant.ensures.is) c.in_ok-prepare.ensures.0)

pub returns-in_err-wait_at : goal.returns-in_err-wait_at
returns-in_err-wait_at c =
    opens_err c.args.self.now c.place.new.self c.wait_at.new.self c.args.id c.args.opening c.args.routes.now c.from_residual-in_err-wait_at.result c.from_residual-in_err-wait_at.ensures.0 c.in_ok-place.ensures
    (left_all c.place.new.self c.prepare.new.self c.wait_at.new.self
    (left_more c.place.new.self c.grant.new.self c.prepare.new.self (left_front c.place.new.self c.grant.new.self c.in_ok-grant.ensures.is) c.in_ok-prepare.ensures.0) c.in_err-wait_at.ensures)

pub returns : goal.returns
returns c = λ s st none over some room.
    let old = c.args.self.now in
    let o = c.args.opening in
    let kind = c.kind_of-kind.result in
    let r : Ready3 old c.place.new.self c.grant.new.self c.prepare.new.self c.args.id o kind = record {
      kind_is = c.kind_of-kind.ensures;
      placed = c.in_ok-place.ensures;
      grants = c.in_ok-grant.ensures;
      keeps = c.in_ok-prepare.ensures.0;
      room = c.in_ok-prepare.ensures.1;
    } in
    let told = c.in_ok-capsule.ensures in
    let R : Conn → Type 0 = λ k. OpensOn old k c.args.id o c.args.routes.now (Ok (note.Opened c.args.id old.number o.stream kind)) in
    elim c.match-branch-5.branch [
      | in-Some+in_ok-wait_at w ↦ (let e = w.in_ok-wait_at.ensures in
          let V : Option (List ℕ) → Type 0 = λ x. values_of x ≡ first_waiting kind c.args.routes.now in
          subst R (sym w.self-is) (opens_told old c.place.new.self c.grant.new.self c.prepare.new.self w.wait_at.new.self c.args.id c.len-place.result o kind w.in-Some.capsule e.0 c.args.routes.now r
          (let l = c.len-place.ensures in let k = old.tunnels.ok.0 in omega (arith, l, k)) (subst V w.in-Some.is told) e.1 e.2) s st none over some room)
      | in_default w ↦ (let V : Option (List ℕ) → Type 0 = λ x. values_of x ≡ first_waiting kind c.args.routes.now in
          subst R (sym w.self-is) (opens_untold old c.place.new.self c.grant.new.self c.prepare.new.self c.args.id o kind c.args.routes.now r (subst V w.in_default.is told)) s st none over some room)
    ]
