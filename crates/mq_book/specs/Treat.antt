-- A request for blocks as far as it was treated. Only the crate's own functions cite this.
use Rattle.std.specs.Prelude.{◌≡◌, List, ◌++◌}
use Rattle.mq_addr.specs.declared.prefix.Prefix.{Prefix}
use Rattle.mq_addr.specs.declared.entry.Asked.{Asked}
use Rattle.mq_addr.specs.declared.entry.Given.{Given}
use Rattle.mq_talk.specs.Book.{blocks}
use Rattle.mq_talk.specs.Answers.{Outcome, IsOutcome, AreTreated, taken_by, given_by, denied_by}
use Rattle.mq_book.specs.declared.assign.Treated.{Treated}

-- one entry was treated
pub record Treats (pool : List Prefix) (a : Asked) (before after : Treated) : Type 0 where
  pub did : Outcome
  pub is : IsOutcome pool before.taken.items before.held.items a did
  pub taken : after.taken.items ≡ before.taken.items ++ taken_by did
  pub held : after.held.items ≡ before.held.items ++ given_by a did
  pub denied : after.denied.items ≡ before.denied.items ++ denied_by a did

-- these entries were treated, from these blocks on
pub record AreDone (pool taken : List Prefix) (held : List Given) (asked : List Asked) (t : Treated) : Type 0 where
  pub given : List Given
  pub treated : AreTreated pool taken held asked given t.denied.items
  pub taken_is : t.taken.items ≡ taken ++ blocks given
  pub held_is : t.held.items ≡ held ++ given
