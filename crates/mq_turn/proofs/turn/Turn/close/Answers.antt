use Rattle.std.proofs.Common.{◌≡◌, ℕ, ◌<◌, sym, ap, ◌∙◌, subst, Some}
use mathlib.Core.Option.{some-injective}
use Rattle.mq_turn.specs.Passes.{CountsAs, IsClosed}
use Rattle.mq_turn.proofs.Closing.{closes}
use Rattle.mq_turn.proofs.turn.Turn.close.Goals as goal

pub unreachable-requires : goal.unreachable-requires
unreachable-requires g c =
    let k = g.V.Kept in
    let is = c.pass.view_is in
    let turn_is = sym c.self.view_is in
    let got = closes k.settings k.history (k.settings c.self.inside.table.shared.key.value) k.maker k.is_sound c.pass.inside.seat.id c.pass.inside.seat.me.0 _ _ c.args.self c.args.pass _
    (ap (λ z. z.settings) turn_is) (sym is)
    (ap (λ z. z.settings) is ∙ c.requires.turn.settings_are ∙ ap (λ z. Some z.settings) turn_is) c.pass.invariant.0
    (subst (λ z. CountsAs 0 z.number z.taken_in) (sym is) c.requires.only.first)
    (subst (λ z. (n : ℕ) → n < z.made → CountsAs n z.number z.taken_in) (sym is) c.requires.only.all) c.close_with-closed.ensures.values.2 in
    let one : Some got.0 ≡ c.take-slot.result = some-injective _ _ (sym got.1 ∙ c.take-slot.ensures.value) in
    let no = one ∙ c.in-None.is in cc

pub returns : goal.returns
returns g c =
    let k = g.V.Kept in
    let is = c.pass.view_is in
    let turn_is = sym c.self.view_is in
    let got = closes k.settings k.history (k.settings c.self.inside.table.shared.key.value) k.maker k.is_sound c.pass.inside.seat.id c.pass.inside.seat.me.0 _ _ c.args.self c.args.pass _
    (ap (λ z. z.settings) turn_is) (sym is)
    (ap (λ z. z.settings) is ∙ c.requires.turn.settings_are ∙ ap (λ z. Some z.settings) turn_is) c.pass.invariant.0
    (subst (λ z. CountsAs 0 z.number z.taken_in) (sym is) c.requires.only.first)
    (subst (λ z. (n : ℕ) → n < z.made → CountsAs n z.number z.taken_in) (sym is) c.requires.only.all) c.close_with-closed.ensures.values.2 in
    let one : Some got.0 ≡ c.take-slot.result = some-injective _ _ (sym got.1 ∙ c.take-slot.ensures.value) in
    let same : got.0 ≡ c.in-Some.value = (let e = one ∙ c.in-Some.is in cc) in
    subst (IsClosed k.settings k.history k.maker k.is_sound c.args.self c.args.pass) same got.2
