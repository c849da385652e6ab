use Rattle.std.proofs.Common.{ℕ, List, sym, ◌∙◌, ap, not, arith}
use Rattle.std.specs.Prelude.{nat_eq}
use Rattle.std.specs.Cmp.Lexicographic.{pointwise}
use Rattle.mq_hpack.proofs.Slots.{none_behind, other_name}
use Rattle.mq_hpack.proofs.search.place_of_field.Goals as goal

pub returns-then-ne-clause-least : goal.returns-then-ne-clause-least
returns-then-ne-clause-least c =
    none_behind c.args.field.now _ c.args.from c.loop-at.at c.requires (omega arith) c.static_field-there.ensures
    (other_name c.static_field-there.result.0.now c.args.field.now.name
    (sym c.if-ne.true ∙ c.ne.ensures ∙ ap (λ (name : List ℕ). not (pointwise nat_eq c.static_field-there.result.0.now name)) c.as_slice-name.ensures))
    c.loop-at.invariant
