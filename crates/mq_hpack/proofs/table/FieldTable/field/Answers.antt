use Rattle.std.proofs.Common.{◌≡◌, ◌-◌, ◌≤◌, ap, refl, arith}
use Rattle.mq_hpack.proofs.Found.{found_front, found_in, found_none_in, found_zero}
use Rattle.mq_hpack.proofs.table.FieldTable.field.Goals as goal

pub returns-in_err-at : goal.returns-in_err-at
returns-in_err-at c =
    let none = c.in_err-at.ensures in
    let zero : c.args.index ≡ 0 = omega (arith, c.in_err-at.ensures) in
    rw (c.from_residual.ensures, found_zero c.args.self.now c.args.index zero) refl

pub returns-then-at-lt-COUNT : goal.returns-then-at-lt-COUNT
returns-then-at-lt-COUNT c =
    let one : 1 ≤ c.args.index = c.in_ok-at.ensures.0 in
    let at : c.in_ok-at.at ≡ c.args.index - 1 = c.in_ok-at.ensures.1 in
    rw (found_front c.args.self.now c.args.index c.in_ok-at.at _ (omega arith) c.if-at-lt-COUNT.true c.static_field.ensures) (refl, refl)

pub returns-in_err-field : goal.returns-in_err-field
returns-in_err-field c =
    let one : 1 ≤ c.args.index = c.in_ok-at.ensures.0 in
    let at : c.in_ok-at.at ≡ c.args.index - 1 = c.in_ok-at.ensures.1 in
    rw (
      c.from_residual-in_err-field.ensures,
      found_none_in c.args.self.now c.self.inside.fields.items c.args.index c.in_ok-at.at (ap (λ t. t.fields) c.self.view_is)
          (omega arith) c.if-at-lt-COUNT.false c.in_err-field.ensures.item.3,
    ) refl

pub returns : goal.returns
returns c =
    let one : 1 ≤ c.args.index = c.in_ok-at.ensures.0 in
    let at : c.in_ok-at.at ≡ c.args.index - 1 = c.in_ok-at.ensures.1 in
    rw (found_in c.args.self.now c.self.inside.fields.items c.args.index c.in_ok-at.at c.in_ok-field.field.now (ap (λ t. t.fields) c.self.view_is)
    (omega arith) c.if-at-lt-COUNT.false c.in_ok-field.ensures.item.3.0 c.in_ok-field.ensures.lookup) (c.as_slice.ensures, c.as_slice-2.ensures)
