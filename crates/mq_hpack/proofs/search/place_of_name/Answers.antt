use Rattle.std.proofs.Common.{◌<◌, ℕ, List, subst, sym, ◌∙◌}
use Rattle.std.specs.Cmp.Lexicographic.{same_text, other_text}
use Rattle.mq_hpack.specs.declared.field.Field.{Field}
use Rattle.mq_hpack.proofs.Slots.{place_is, place_below, none_before, none_has_name}
use Rattle.mq_hpack.proofs.search.place_of_name.Goals as goal

pub static_field-requires : goal.static_field-requires
static_field-requires c = subst (λ (k : ℕ). k < 61) (sym c.from-at.ensures) (place_below c.slot_of.result)

pub returns-then-eq-clause-least : goal.returns-then-eq-clause-least
returns-then-eq-clause-least c =
    let is = place_is c.args.name.now c.slot_of.result c.from-at.result c.slot_of.ensures.same c.from-at.ensures in
    let field : List ℕ × List ℕ → Field = λ p. record { name = p.0; value = p.1 } in (
      field (c.static_field.result.0.now, c.static_field.result.1.now),
      c.static_field.ensures,
      same_text c.static_field.result.0.now c.args.name.now (sym c.if-eq.true ∙ c.eq.ensures),
      none_before c.args.name.now c.from-at.result is,
    )

pub returns-then-eq-clause-within : goal.returns-then-eq-clause-within
returns-then-eq-clause-within c = subst (λ (k : ℕ). k < 61) (sym c.from-at.ensures) (place_below c.slot_of.result)

pub returns-else-eq-clause-least : goal.returns-else-eq-clause-least
returns-else-eq-clause-least c =
    let is = place_is c.args.name.now c.slot_of.result c.from-at.result c.slot_of.ensures.same c.from-at.ensures in
    none_has_name c.args.name.now c.from-at.result _ is c.static_field.ensures
    (other_text c.static_field.result.0.now c.args.name.now (sym c.if-eq.false ∙ c.eq.ensures))
