use Rattle.std.proofs.Common.{◌≡◌, sym, ap, ◌∙◌, arith, Some}
use Rattle.mq_turn.proofs.Moves.{draws}
use Rattle.mq_turn.proofs.turn.Turn.draws.Goals as goal

pub compare_exchange-found-requires : goal.compare_exchange-found-requires
compare_exchange-found-requires g c = let is = sym c.self.view_is in
    let size : c.self.inside.table.shared.table_id.words ≡ 33 = c.self.inside.sized.0 in (
      c.requires.turn.turn_is ∙ ap (λ z. z.id) is,
      omega arith,
      draws g.V.Kept.settings g.V.Kept.history _ g.V.Kept.maker g.V.Kept.is_sound _ _ c.args.seat.now.me c.args.next
          (c.requires.turn.settings_are ∙ ap (λ z. Some z.settings) is) c.requires.idle.0 c.requires.below,
    )
