use Rattle.std.proofs.Common.{◌≡◌, sym, ap, refl, ◌∙◌, subst, arith, Some, ◌∷◌, []}
use Rattle.atomic_table.specs.Table.{rest}
use Rattle.mq_turn.specs.History.{Adds}
use Rattle.mq_turn.proofs.Moves.{publishes, passes_on}
use Rattle.mq_turn.proofs.turn.Turn.bring_back.Goals as goal

pub store-requires : goal.store-requires
store-requires g c = let is = sym c.self.view_is in
    let size : c.self.inside.table.shared.table_id.words ≡ 33 = c.self.inside.sized.0 in
    let v = c.args.seat.now.me.0 in
    let x = c.args.value in
    let now : c.exchange.new.seat.me ≡ (v, (0, Some x) ∷ []) = c.exchange.ensures.3 ∙ ap (λ l. (v, (0, Some x) ∷ l)) (ap rest c.requires.may.slot) in
    let live = c.requires.turn.settings_are ∙ ap (λ z. Some z.settings) is in
    let settings : g.V.Kept.settings x ≡ g.V.Kept.settings c.self.inside.table.shared.key.value = (let e = sym c.requires.may.settings ∙ live in cc) in (
      c.exchange.ensures.0 ∙ c.requires.turn.turn_is ∙ ap (λ z. z.id) is,
      omega arith,
      publishes g.V.Kept.settings g.V.Kept.history _ g.V.Kept.maker g.V.Kept.is_sound _ _ c.exchange.new.seat.me _ c.args.ticket x
          (ap (λ m. m.0.settings) now ∙ live) (ap (λ m. m.0.stage) now ∙ c.requires.may.stage) (ap (λ m. m.1) now)
          (subst (λ m. Adds g.V.Kept.maker m.0.number m.0.seen (g.V.Kept.history x)) (sym now) c.requires.may.adds)
          (subst (λ z. g.V.Kept.is_sound z (g.V.Kept.history x)) settings c.requires.may.sound)
          (c.from-length.ensures ∙ c.entries.ensures),
    )

pub store-requires-2 : goal.store-requires-2
store-requires-2 g c = let is = sym c.self.view_is in
    let size : c.self.inside.table.shared.table_id.words ≡ 33 = c.self.inside.sized.0 in
    let v = c.args.seat.now.me.0 in
    let x = c.args.value in
    let now : c.exchange.new.seat.me ≡ (v, (0, Some x) ∷ []) = c.exchange.ensures.3 ∙ ap (λ l. (v, (0, Some x) ∷ l)) (ap rest c.requires.may.slot) in
    let then : c.store.new.seat.me ≡ (record v { seen = g.V.Kept.history x }, (0, Some x) ∷ []) =
    c.store.ensures.2 x (ap (λ m. m.1) now) ∙ ap (λ m. (record m.0 { seen = g.V.Kept.history x }, m.1)) now in
    let live = c.requires.turn.settings_are ∙ ap (λ z. Some z.settings) is in
    let settings : g.V.Kept.settings x ≡ g.V.Kept.settings c.self.inside.table.shared.key.value = (let e = sym c.requires.may.settings ∙ live in cc) in (
      c.store.ensures.0 ∙ c.exchange.ensures.0 ∙ c.requires.turn.turn_is ∙ ap (λ z. z.id) is,
      omega arith,
      passes_on g.V.Kept.settings g.V.Kept.history _ g.V.Kept.maker g.V.Kept.is_sound _ _ c.store.new.seat.me _ c.args.ticket x
          (ap (λ m. m.0.settings) then ∙ live) (ap (λ m. m.0.stage) then ∙ c.requires.may.stage) (ap (λ m. m.1) then)
          (sym (ap (λ m. m.0.seen) then)) settings refl,
    )
