-- What a post is made of.
use Rattle.std.specs.Prelude.{◌≡◌, ℕ, Option, List, [], ◌∷◌}
use Rattle.atomic_table.specs.Seated.{TableId}
use Rattle.crossbeam_queue.specs.declared.array_queue.Doing.{Doing}
use Rattle.crossbeam_queue.specs.declared.array_queue.Slotted.{Slotted}
use Rattle.crossbeam_queue.specs.Passes.{ruled_capacity}
use Rattle.mq_mail.specs.declared.inbox_rule.Letter.{Letter}
use Rattle.mq_mail.specs.declared.inbox_rule.Part.{Part}

module _ {Q A : Type 0} where
  abbrev pub inbox_id : Slotted (Option Letter) (Doing Letter Part) Q A → TableId
  inbox_id q = q.table.shared.table_id

  -- each inbox has this room
  abbrev pub HaveRoom : ℕ → List (Slotted (Option Letter) (Doing Letter Part) Q A) → Type 0
  HaveRoom capacity [] = Unit {0}
  HaveRoom capacity (q ∷ qs) = (ruled_capacity q ≡ capacity) × HaveRoom capacity qs
