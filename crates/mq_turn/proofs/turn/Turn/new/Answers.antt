use Rattle.std.proofs.Common.{sym, ap, ◌∙◌, Some, ◌∷◌, ◌++◌, []}
use Rattle.mq_turn.proofs.Moves.{begins}
use Rattle.mq_turn.proofs.Words.{no_words}
use Rattle.mq_turn.proofs.turn.Turn.new.Goals as goal

pub new-requires : goal.new-requires
new-requires g c = let first = c.of-first.ensures in
    let k = g.V.Kept in
    begins k.settings k.history _ k.maker k.is_sound _ c.push.new.self.items c.args.value no_words
    (c.in_ok-push.ensures.items ∙ ap (λ l. l ++ Some c.args.value ∷ []) c.new-slots.ensures.items) c.requires (ap k.settings (sym first)) (g.met.V.Kept.begins_sound _)
