use Rattle.std.proofs.Common.{◌≤◌, List, sym, subst}
use Rattle.std.specs.List.{sum_by}
use Rattle.mq_hpack.specs.declared.field.Field.{Field}
use Rattle.mq_hpack.specs.Table.{size_of}
use Rattle.mq_hpack.proofs.Bounds.{reads_fit}
use Rattle.mq_hpack.proofs.decoder.Decoder.block.Goals as goal

pub returns-in-Ok-clause-bounded : goal.returns-in-Ok-clause-bounded
returns-in-Ok-clause-bounded c =
    let P : List Field → Type 0 = λ xs. sum_by size_of xs ≤ 16384 in
    subst P (sym c.from_vec.ensures) (reads_fit c.self.inside.table c.read_block.new.table c.args.bytes.now c.in-Ok.fields.items c.in-Ok.ensures)
