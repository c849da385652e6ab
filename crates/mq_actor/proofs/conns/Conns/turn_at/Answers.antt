use Rattle.std.proofs.Common.{rules, ◌≡◌, ◌<◌, length, Some, slice_get, slice_set, IfOk, Result, refl, sym, ap, subst, ◌∙◌, arith}
use Rattle.std.specs.Vec.{vec_len}
use Rattle.mq_wire.specs.declared.NoMemory.{NoMemory}
use Rattle.mq_machine.specs.State.{Held}
use Rattle.mq_machine.specs.Acting.{binder}
use Rattle.mq_held.specs.declared.held.Held.{Held as HeldBy}
use Rattle.mq_machine.specs.Turn.{tries_of}
use Rattle.mq_step.specs.declared.stepped.Stepped.{Stepped}
use Rattle.mq_step.specs.declared.stepped.Stepped.TheVariants.{Quiet, Ended}
use Rattle.mq_step.specs.Gives.{Anything}
use Rattle.mq_step.specs.Holds.{IsHeld, IsKnown}
use Rattle.mq_actor.proofs.Beginnings.{rise_set}
use Rattle.mq_actor.proofs.Helds.{held_at}
use Rattle.mq_actor.proofs.InRing.{at_all}
use Rattle.mq_actor.proofs.OwnPorts.{at_index, own_ports_set}
use Rattle.mq_actor.proofs.Passings.{same_acts, sight, sight_whole}
use Rattle.mq_actor.proofs.Noting.{told_by, quiet_with, ended_with}
use Rattle.mq_actor.specs.Seen.{Words}
use Rattle.mq_actor.proofs.conns.Conns.turn_at.Goals as goal

pub step-requires-clause-known : goal.step-requires-clause-known
step-requires-clause-known g c =
    let k = c.requires.known in
    let conns = c.args.self.now.items in
    let table = c.args.table.now.table in
    let held = c.index_mut-held.result.now in
    let seen = g.O.Office.seen c.args.office.now in
    let len : vec_len c.args.self.now ≡ length conns = search rules in
    let place = c.requires.place in
    let at : slice_get conns c.args.place ≡ Some held = at_index conns c.args.place held (omega (arith, len, place)) (rw (← c.self.view_is) c.index_mut-held.ensures.value) in
    let s = held_at g.P.P.Port.most table conns k.0 c.args.place held k.1 at in
    (s.0, s.2, at_all (λ (x : Held). IsKnown seen seen.actor x) k.0 k.2 c.args.place s.0 s.1)

pub returns-clause-turns : goal.returns-clause-turns
returns-clause-turns g c = λ was at_was.
    let conns = c.args.self.now.items in
    let held = c.index_mut-held.result.now in
    let len : vec_len c.args.self.now ≡ length conns = search rules in
    let place = c.requires.place in
    let at : slice_get conns c.args.place ≡ Some held = at_index conns c.args.place held (omega (arith, len, place)) (rw (← c.self.view_is) c.index_mut-held.ensures.value) in
    let both : ◌≡◌ (Some held) (Some was) = sym at ∙ at_was in
    let e : held ≡ was = cc in
    let does = c.step.ensures in
    let S : Result Stepped NoMemory → Type 0 = λ r. IfOk r (λ stepped. stepped ≡ Quiet → c.step.new.held.ports.items ≡ held.ports.items) in
    let C : Result Stepped NoMemory → Type 0 = λ r. IfOk r (λ stepped. stepped ≡ Quiet
    → (g.O.Office.seen c.step.new.office ≡ g.O.Office.seen c.args.office.now) × (binder g.P.Ports.holds g.P.Ports.faults c.step.new.table.ports ≡ binder g.P.Ports.holds g.P.Ports.faults c.args.table.now.ports) × (g.M.Mail.boxes c.step.new.mail ≡ g.M.Mail.boxes c.args.mail.now)) in
    let E : Result Stepped NoMemory → Type 0 = λ r. IfOk r (λ stepped. stepped ≡ Ended → c.step.new.held.ports.items ≡ held.ports.items) in
    let T : Result Stepped NoMemory → Type 0 = λ r. IfOk r (λ stepped. stepped ≡ Quiet
    → (s : Held) → IsHeld g.P.P.Port.most c.args.table.now.table held s → IsHeld g.P.P.Port.most c.step.new.table.table c.step.new.held s) in (
      c.step.new.held,
      ap (λ l. slice_set l.items c.args.place c.step.new.held) c.self.view_is,
      same_acts _ _ _ _ _ held was c.step.new.held e record {
        number = ap (λ (h : HeldBy g.row.L.Denot). h.number) does.rest;
        others = does.others;
        stays = λ is. subst S (quiet_with c.step.result c.step.new.told is) does.stays refl;
        calm = λ is. subst C (quiet_with c.step.result c.step.new.told is) does.calm refl;
        apart = does.apart;
        ends = λ said is. subst E (ended_with c.step.result c.step.new.told said is) does.ends refl;
        still = λ is. subst T (quiet_with c.step.result c.step.new.told is) does.still refl;
        gives = does.gives;
      },
    )

pub returns-clause-ports : goal.returns-clause-ports
returns-clause-ports g c =
    let k = c.requires.known in
    let conns = c.args.self.now.items in
    let table = c.args.table.now.table in
    let held = c.index_mut-held.result.now in
    let len : vec_len c.args.self.now ≡ length conns = search rules in
    let place = c.requires.place in
    let at : slice_get conns c.args.place ≡ Some held = at_index conns c.args.place held (omega (arith, len, place)) (rw (← c.self.view_is) c.index_mut-held.ensures.value) in
    rw (c.self.view_is) (own_ports_set g.P.P.Port.most table c.step.new.table.table conns k.0 c.args.place held c.step.new.held k.1 c.requires.ports at c.step.ensures.others)

pub returns-clause-told : goal.returns-clause-told
returns-clause-told g c =
    let k = c.requires.known in
    let conns = c.args.self.now.items in
    let table = c.args.table.now.table in
    let held = c.index_mut-held.result.now in
    let new = c.step.new in
    let words : Words g.row.L.Denot g.row.P-P.Denot = record { most = g.P.P.Port.most; link = g.L.Link.holds; link_counts = g.L.Link.counts; port = g.P.P.Port.holds; port_counts = g.P.P.Port.counts } in
    let binds = binder g.P.Ports.holds g.P.Ports.faults c.args.table.now.ports in
    let binds_after = binder g.P.Ports.holds g.P.Ports.faults new.table.ports in
    let len : vec_len c.args.self.now ≡ length conns = search rules in
    let place = c.requires.place in
    let at : slice_get conns c.args.place ≡ Some held = at_index conns c.args.place held (omega (arith, len, place)) (rw (← c.self.view_is) c.index_mut-held.ensures.value) in
    let s = held_at g.P.P.Port.most table conns k.0 c.args.place held k.1 at in
    let o = sight words binds table held in
    let n = sight words binds_after new.table.table new.held in
    told_by c.args.setup.now tries_of Anything o n (g.O.Office.seen c.args.office.now) (g.O.Office.seen new.office) (g.M.Mail.boxes c.args.mail.now) (g.M.Mail.boxes new.mail)
    (IsHeld g.P.P.Port.most new.table.table new.held) s.0 c.step.result new.told
    (c.step.ensures.gives o n (sight_whole words binds table held s.2.apart) (sight_whole words binds_after new.table.table new.held c.step.ensures.apart) s.0 s.2)

pub invariant_of-self : goal.invariant_of-self
invariant_of-self g c = λ rising.
    let list = c.self.inside.list in
    let held = c.index_mut-held.result.now in
    let len : vec_len list ≡ length list.items = search rules in
    let place : c.args.place < vec_len list = rw (c.self.view_is) c.requires.place in
    let at : slice_get list.items c.args.place ≡ Some held = at_index list.items c.args.place held (omega (arith, len, place)) c.index_mut-held.ensures.value in
    rise_set list.items c.args.place held c.step.new.held at (ap (λ (h : HeldBy g.row.L.Denot). h.number) c.step.ensures.rest) (c.self.invariant rising)
