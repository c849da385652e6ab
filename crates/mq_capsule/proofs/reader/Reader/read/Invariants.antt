use Rattle.std.proofs.Common.{◌≡◌, ℕ, ◌≤◌, ◌++◌, Bool, List, length}
use Rattle.mq_capsule.specs.declared.item.Item.{Item}
use Rattle.mq_capsule.specs.declared.reader.Reader.{Reader}
use Rattle.mq_capsule.specs.Readers.{Stands, Went}
use Rattle.mq_capsule.proofs.reader.Reader.read.Given as goal

-- what was read of the piece so far, at least a byte a round
pub record Far (start now : Reader) (piece left : List ℕ) (before after : List Item) (rounds : ℕ) : Type 0 where
  pub done : List ℕ
  pub more : List Item
  pub all : done ++ left ≡ piece
  pub given : after ≡ before ++ more
  pub went : Went start now done more
  pub goes : (control : Bool) (bytes : List ℕ) → Stands start control bytes → rounds ≤ length done

abbrev pub invariant-loop : goal.invariant-loop
invariant-loop l = Far l.initial.self l.self l.piece l.left l.initial.items.items l.items.items l.counter
