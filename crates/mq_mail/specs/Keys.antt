-- What an actor's key is made of.
use Rattle.std.specs.Prelude.{◌≡◌, ℕ, true, List, [], ◌∷◌, length, map, slice_get, Some}
use Rattle.atomic_table.specs.Seated.{TableId}
use Rattle.crossbeam_queue.specs.Passes.{Pass, view}
use Rattle.mq_talk.specs.declared.place.Parcel.{Parcel}
use Rattle.mq_mail.specs.declared.inbox_rule.Letter.{Letter}
use Rattle.mq_mail.specs.declared.inbox_rule.Part.{Part}

abbrev pub InboxPass : Type 0
InboxPass = Pass Letter Part

abbrev pub id_of : InboxPass → TableId
id_of p = p.table_id

abbrev pub first_pushed : List (ℕ × List Parcel) → List Parcel
first_pushed [] = []
first_pushed (own ∷ rest) = own.1

-- what was pushed by a pass that pushes for one actor
abbrev pub pushed_of : InboxPass → List Parcel
pushed_of p = first_pushed (view p).owns

abbrev pub count_of : InboxPass → ℕ
count_of p = length (pushed_of p)

-- a pass that pushes for this actor
pub record IsWay (actor : ℕ) (p : InboxPass) : Type 0 where
  pub rest : p.me.1 ≡ []
  pub owns : (view p).owns ≡ (actor, pushed_of p) ∷ []

abbrev pub AreWays : ℕ → List InboxPass → Type 0
AreWays actor [] = Unit {0}
AreWays actor (p ∷ ps) = IsWay actor p × AreWays actor ps

-- a way to each inbox with the count of what was pushed there, and the pass that pops the own inbox with the count of
-- what was popped
pub record IsKey (actor : ℕ) (all : List InboxPass) (numbers : List ℕ) (inbox : InboxPass) (number : ℕ) : Type 0 where
  pub ways : AreWays actor all
  pub counts : numbers ≡ map count_of all
  pub own : slice_get (map id_of all) actor ≡ Some (id_of inbox)
  pub rest : inbox.me.1 ≡ []
  pub pops : (view inbox).pops ≡ true
  pub made : (view inbox).made ≡ length all
  pub count : number ≡ length (view inbox).popped
