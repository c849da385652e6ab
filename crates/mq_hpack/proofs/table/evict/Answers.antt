use Rattle.std.proofs.Common.{◌<◌, ◌∙◌, List, subst, sym, ap, arith}
use Rattle.std.specs.List.{sum_by}
use Rattle.mq_hpack.specs.declared.field.Field.{Field}
use Rattle.mq_hpack.specs.Table.{fitting, size_of}
use Rattle.mq_hpack.proofs.Fits.{fits_all, drops_last, sum_push}
use Rattle.mq_hpack.proofs.table.evict.Goals as goal

pub loop-size-preserved-in-Some : goal.loop-size-preserved-in-Some
loop-size-preserved-in-Some c =
    let items = c.in-Some.ensures in
    let sum = ap (λ xs. sum_by size_of xs) items ∙ sum_push c.drop_oldest.new.fields.items c.in-Some.last in
    let counted = c.loop-size.invariant.counted in
    let test = c.loop-size-test.true in
    let many : c.args.most < sum_by size_of c.loop-size.fields.items = omega arith in
    record {
      kept = sym (drops_last c.args.most c.drop_oldest.new.fields.items c.in-Some.last (subst (λ (xs : List Field). c.args.most < sum_by size_of xs) items many))
          ∙ ap (λ xs. fitting c.args.most xs) (sym items) ∙ c.loop-size.invariant.kept;
      counted = omega (arith, c.field_size.ensures);
    }

pub loop-size-preserved : goal.loop-size-preserved
loop-size-preserved c =
    let items = c.in-Some.ensures in
    let sum = ap (λ xs. sum_by size_of xs) items ∙ sum_push c.drop_oldest.new.fields.items c.in-Some.last in
    let counted = c.loop-size.invariant.counted in
    let test = c.loop-size-test.true in
    let many : c.args.most < sum_by size_of c.loop-size.fields.items = omega arith in
    record {
      kept = sym (drops_last c.args.most c.drop_oldest.new.fields.items c.in-Some.last (subst (λ (xs : List Field). c.args.most < sum_by size_of xs) items many))
          ∙ ap (λ xs. fitting c.args.most xs) (sym items) ∙ c.loop-size.invariant.kept;
      counted = omega (arith, c.field_size.ensures);
    }

pub returns-clause-kept : goal.returns-clause-kept
returns-clause-kept c =
    let counted = c.loop-size.invariant.counted in
    let test = c.loop-size-test.false in
    sym (fits_all c.args.most c.loop-size.fields.items (omega arith)) ∙ c.loop-size.invariant.kept
