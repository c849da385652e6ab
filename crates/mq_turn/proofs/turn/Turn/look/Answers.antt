use Rattle.std.proofs.Common.{◌≡◌, sym, ap, ◌∙◌, arith, Some, ◌∷◌}
use Rattle.atomic_table.specs.Table.{rest}
use Rattle.mq_turn.specs.declared.view.Stage.TheVariants.{Waiting}
use Rattle.mq_turn.proofs.Moves.{looks}
use Rattle.mq_turn.proofs.turn.Turn.look.Goals as goal

pub load-served-requires : goal.load-served-requires
load-served-requires g c = let is = sym c.self.view_is in
    let size : c.self.inside.table.shared.table_id.words ≡ 33 = c.self.inside.sized.0 in (
      c.requires.turn.turn_is ∙ ap (λ z. z.id) is,
      omega arith,
      looks g.V.Kept.settings g.V.Kept.history _ g.V.Kept.maker g.V.Kept.is_sound _ _ c.args.seat.now.me c.args.ticket
          (c.requires.turn.settings_are ∙ ap (λ z. Some z.settings) is) c.requires.waits.0,
    )

pub exchange-requires : goal.exchange-requires
exchange-requires g c =
    let takes = c.load-served.ensures.2.now (c.requires.waits.0 ∙ ap Waiting (sym c.if-served-ticket.false)) in (
      c.load-served.ensures.0 ∙ c.requires.turn.turn_is ∙ ap (λ z. z.id) (sym c.self.view_is),
      (Some takes.value, takes.slot ∙ ap (λ l. (0, Some takes.value) ∷ l) (sym (ap rest takes.slot))),
    )
