use Rattle.std.proofs.Common.{ℕ, sym, ap, ◌∙◌, arith}
use Rattle.std.proofs.lemmas.Bool.{cond-true, cond-false, eq-eqb, ne_eqb}
use Rattle.std.proofs.lemmas.List.{length-set}
use Rattle.mq_addr.specs.Packet.{version_of}
use Rattle.mq_iphdr.specs.Onward.{lowered, onward_of, summed}
use Rattle.mq_iphdr.proofs.Taken.{is_4, is_6, hop4, hop6, header4}
use Rattle.mq_iphdr.proofs.hop.onward.Goals as goal

pub lower-requires-clause-within : goal.lower-requires-clause-within
lower-requires-clause-within c =
    let t = is_4 c.args.packet.now c.args.view.now c.requires c.if-view-eq4.true in
    omega (arith, t.fixed)

pub lower-requires-clause-positive : goal.lower-requires-clause-positive
lower-requires-clause-positive c =
    let t = is_4 c.args.packet.now c.args.view.now c.requires c.if-view-eq4.true in
    omega (arith, hop4 _ _ t, c.if-view-le1.false)

pub write_checksum-requires-clause-fixed : goal.write_checksum-requires-clause-fixed
write_checksum-requires-clause-fixed c =
    let t = is_4 c.args.packet.now c.args.view.now c.requires c.if-view-eq4.true in
    rw t.is t.header

pub write_checksum-requires-clause-within : goal.write_checksum-requires-clause-within
write_checksum-requires-clause-within c =
    let t = is_4 c.args.packet.now c.args.view.now c.requires c.if-view-eq4.true in
    rw (c.lower.ensures, length-set, t.is) t.within

pub lower-requires-else-view-eq4-clause-within : goal.lower-requires-else-view-eq4-clause-within
lower-requires-else-view-eq4-clause-within c =
    let t = is_6 c.args.packet.now c.args.view.now c.requires c.if-view-eq4.false in
    omega (arith, t.fixed)

pub lower-requires-else-view-eq4-clause-positive :
    goal.lower-requires-else-view-eq4-clause-positive
lower-requires-else-view-eq4-clause-positive c =
    let t = is_6 c.args.packet.now c.args.view.now c.requires c.if-view-eq4.false in
    omega (arith, hop6 _ _ t, c.if-view-le1.false)

pub returns-then-view-eq4-clause-ok : goal.returns-then-view-eq4-clause-ok
unfolding onward_of
returns-then-view-eq4-clause-ok c =
    let t = is_4 c.args.packet.now c.args.view.now c.requires c.if-view-eq4.true in (
      c.if-view-le1.false,
      c.write_checksum.ensures ∙ ap (λ p. summed c.args.view.now.header p) c.lower.ensures
          ∙ ap (λ (n : ℕ). summed n (lowered 8 c.args.packet.now)) (header4 _ _ t)
          ∙ sym (cond-true _ _ _ (eq-eqb _ _ t.version)),
    )

pub returns-else-view-eq4-clause-ok : goal.returns-else-view-eq4-clause-ok
unfolding onward_of
returns-else-view-eq4-clause-ok c =
    let t = is_6 c.args.packet.now c.args.view.now c.requires c.if-view-eq4.false in (
      c.if-view-le1.false,
      c.lower-else-view-eq4.ensures ∙ sym (cond-false _ _ _ (ne_eqb (version_of c.args.packet.now) 4 (λ e. omega (arith, e, t.version)))),
    )
