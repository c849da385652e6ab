use Rattle.std.proofs.Common.{◌≡◌, sym, ap, ◌∙◌, Some, arith}
use Rattle.mq_turn.proofs.Sharing.{splits}
use Rattle.mq_turn.proofs.pass.Pass.split.Goals as goal

pub split_seat-requires : goal.split_seat-requires
split_seat-requires g c = let k = g.V.Kept in
    let is = c.self.view_is in
    let turn_is = sym c.turn.view_is in
    let size : c.turn.inside.table.shared.table_id.words ≡ 33 = c.turn.inside.sized.0 in (
      ap (λ z. z.turn) is ∙ c.requires.turn.turn_is ∙ ap (λ z. z.id) turn_is,
      omega arith,
      splits k.settings k.history _ k.maker k.is_sound _ c.self.inside.seat.me.0
          (ap (λ z. z.settings) is ∙ c.requires.turn.settings_are ∙ ap (λ z. Some z.settings) turn_is) c.self.invariant.0 (ap (λ z. z.number) is ∙ c.requires.first),
    )
