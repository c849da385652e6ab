use Rattle.std.proofs.Common.{List, length, subst, sym, ◌∙◌}
use Rattle.std.proofs.lemmas.Bool.{eqb-true, eqb-false}
use Rattle.std.proofs.lemmas.Result.{err_from_is_err_and}
use Rattle.mq_hpack.specs.declared.field.Field.{Field}
use Rattle.mq_hpack.proofs.Shorter.{representation_shorter, representation_allowed}
use Rattle.mq_hpack.proofs.Blocks.{Leads, nonempty, empty, leads_start, leads_end, leads_fault, leads_full, leads_on}
use Rattle.mq_hpack.proofs.decoder.read_block.Goals as goal

pub loop-rest-init : goal.loop-rest-init
loop-rest-init c =
    let P : List Field → Type 0 = λ xs. Leads c.args.table.now c.args.bytes.now xs c.args.table.now 0 c.args.bytes.now in
    subst P (sym c.in_ok-fields.ensures.items) (leads_start c.args.table.now c.args.bytes.now)

pub returns-in_err-taken : goal.returns-in_err-taken
returns-in_err-taken c =
    let some = nonempty c.loop-rest.rest.now (eqb-false (length c.loop-rest.rest.now) 0 (sym c.is_empty.ensures ∙ c.loop-rest-test.true)) in
    let p = err_from_is_err_and c.from_residual-in_err-taken.result c.from_residual-in_err-taken.ensures.1 in
    rw (p.1, p.2)
    (leads_fault c.args.table.now c.loop-rest.table c.args.bytes.now c.loop-rest.rest.now c.loop-rest.fields.items c.loop-rest.total c.loop-rest.invariant some _ c.in_err-taken.ensures)

pub returns-in_err-total : goal.returns-in_err-total
returns-in_err-total c =
    let some = nonempty c.loop-rest.rest.now (eqb-false (length c.loop-rest.rest.now) 0 (sym c.is_empty.ensures ∙ c.loop-rest-test.true)) in
    let p = err_from_is_err_and c.from_residual-in_err-total.result c.from_residual-in_err-total.ensures.1 in
    rw (p.1, p.2)
    (leads_full c.args.table.now c.loop-rest.table c.take_representation.new.table c.args.bytes.now c.loop-rest.rest.now c.loop-rest.fields.items c.take_representation.new.fields.items c.loop-rest.total
    (c.in_ok-taken.taken, c.in_ok-taken.after.now) c.loop-rest.invariant some c.in_ok-taken.ensures _ c.in_err-total.ensures)

pub loop-rest-smaller : goal.loop-rest-smaller
loop-rest-smaller c = representation_shorter c.loop-rest.table c.loop-rest.total c.loop-rest.rest.now (c.in_ok-taken.taken, c.in_ok-taken.after.now) c.in_ok-taken.ensures

pub take_representation-requires : goal.take_representation-requires
take_representation-requires c = representation_allowed c.loop-rest.table c.loop-rest.total c.loop-rest.rest.now (c.in_ok-taken.taken, c.in_ok-taken.after.now) c.in_ok-taken.ensures

pub loop-rest-preserved : goal.loop-rest-preserved
loop-rest-preserved c =
    let some = nonempty c.loop-rest.rest.now (eqb-false (length c.loop-rest.rest.now) 0 (sym c.is_empty.ensures ∙ c.loop-rest-test.true)) in
    leads_on c.args.table.now c.loop-rest.table c.take_representation.new.table c.args.bytes.now c.loop-rest.rest.now c.loop-rest.fields.items c.take_representation.new.fields.items c.loop-rest.total c.in_ok-total.total
    c.in_ok-taken.taken c.in_ok-taken.after.now c.loop-rest.invariant some c.in_ok-taken.ensures c.in_ok-total.ensures

pub returns : goal.returns
returns c =
    let none = empty c.loop-rest.rest.now (eqb-true (length c.loop-rest.rest.now) 0 (sym c.is_empty.ensures ∙ c.loop-rest-test.false)) in
    leads_end c.args.table.now c.loop-rest.table c.args.bytes.now c.loop-rest.rest.now c.loop-rest.fields.items c.loop-rest.total c.loop-rest.invariant none
