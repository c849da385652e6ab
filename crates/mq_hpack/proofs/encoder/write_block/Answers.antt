use Rattle.std.proofs.Common.{◌<◌, ◌++◌, ◌∙◌, ℕ, List, length, take, refl, ap, subst, sym, arith, append_assoc}
use Rattle.std.proofs.lemmas.List.{take_all}
use Rattle.std.proofs.lemmas.List.Elements.{All-from_get_or}
use Rattle.mq_huff.specs.Coded.{AreBytes}
use Rattle.mq_hpack.specs.declared.field.Field.{Field}
use Rattle.mq_hpack.specs.Encoder.{update, Appends, AreFields, IsEncoded}
use Rattle.mq_hpack.proofs.Blocked.{later_bytes}
use Rattle.mq_hpack.proofs.Written.{appends_more, take_more}
use Rattle.mq_hpack.proofs.encoder.write_block.Goals as goal

pub loop-field-preserved : goal.loop-field-preserved
loop-field-preserved c =
    let lt : c.loop-field.field-index < length c.args.fields.now = omega arith in
    let front = c.args.out.now.items ++ update c.args.owes_update in
    let one = take_more c.args.fields.now c.loop-field.field-index c.field-item.result lt c.field-item.is in
    subst (λ (fs : List Field). Appends front c.write_field.new.out.items (AreFields fs)) (sym one)
    (appends_more (take c.loop-field.field-index c.args.fields.now) c.field-item.result front c.loop-field.out.items c.write_field.new.out.items
    c.loop-field.invariant c.in_ok-write_field.ensures)

pub returns-clause-encoded : goal.returns-clause-encoded
returns-clause-encoded c =
    let inv = c.loop-field.invariant in
    let all = take_all c.loop-field.field-index c.args.fields.now (omega arith) in
    record {
      written = update c.args.owes_update ++ inv.written;
      appended = inv.appended ∙ append_assoc c.args.out.now.items (update c.args.owes_update) inv.written;
      are = (inv.written, subst (λ (fs : List Field). AreFields fs inv.written) all inv.are, refl);
    }

pub returns-clause-spelled : goal.returns-clause-spelled
returns-clause-spelled c =
    let inv = c.loop-field.invariant in
    let all = take_all c.loop-field.field-index c.args.fields.now (omega arith) in
    let old = c.args.out.now.items in
    let new = c.loop-field.out.items in
    let block = update c.args.owes_update ++ inv.written in
    let appended = inv.appended ∙ append_assoc old (update c.args.owes_update) inv.written in
    let new_bytes : AreBytes new = All-from_get_or (λ x. x < 256) new 0 (λ i lt. c.type_inv.out i 0 lt) in
    let bytes : AreBytes block = later_bytes old block (subst (λ (xs : List ℕ). AreBytes xs) appended new_bytes) in
    let encoded : IsEncoded c.args.owes_update c.args.fields.now block = (inv.written, subst (λ (fs : List Field). AreFields fs inv.written) all inv.are, refl) in
    appended ∙ ap (λ xs. old ++ xs) (c.is_one_text.ensures.once c.args.owes_update c.args.fields.now block bytes encoded)
