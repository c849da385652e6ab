use Rattle.std.proofs.Common.{◌≡◌, ◌<◌, ◌≤◌, ◌∙◌, List, sym, ap, subst, arith}
use Rattle.mq_hpack.specs.declared.field.Field.{Field}
use Rattle.mq_hpack.specs.Table.{Table, size_of, with_field}
use Rattle.mq_hpack.proofs.Fits.{stores_none, stores_at}
use Rattle.mq_hpack.proofs.table.FieldTable.store.Goals as goal

pub returns-then-size-from : goal.returns-then-size-from
returns-then-size-from c =
    let large : c.self.inside.limit < size_of c.args.field = omega (arith, c.if-size-from.true, c.from.ensures, c.field_size-size.ensures) in
    let e = stores_none c.self.inside.limit c.args.field c.self.inside.fields.items large in
    let made : List Field → Table = λ xs. record { limit = c.self.inside.limit; fields = xs } in
    subst (λ (t : Table). made c.clear.new.self.items ≡ with_field c.args.field t) c.self.view_is (ap made (c.clear.ensures.items ∙ sym e))

pub returns : goal.returns
returns c =
    let small : c.field_size-size.result ≤ c.self.inside.limit = omega (arith, c.if-size-from.false, c.from.ensures) in
    let e = stores_at c.self.inside.limit c.field_size-size.result c.args.field c.self.inside.fields.items c.evict-self-inside.new.fields.items
    c.field_size-size.ensures small c.evict-self-inside.ensures.kept in
    let made : List Field → Table = λ xs. record { limit = c.self.inside.limit; fields = xs } in
    subst (λ (t : Table). made c.push_front.new.self.items ≡ with_field c.args.field t) c.self.view_is (ap made (c.in_ok-push_front.ensures.items ∙ e))
