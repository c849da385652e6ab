-- Passes as a matrix makes them, from the first of each inbox to all keys.
use Rattle.std.specs.Prelude.{◌≡◌, ℕ, zero, suc, List, [], ◌∷◌, length, slice_get, Some, Vec}
use Rattle.atomic_table.specs.Seated.{TableId}
use Rattle.crossbeam_queue.specs.Passes.{view}
use Rattle.mq_mail.specs.InboxRule.{pusher, popper}
use Rattle.mq_mail.specs.Keys.{InboxPass}

-- the pass of an inbox that pops, and has made so many that push
pub record IsFirst (made : ℕ) (inbox : TableId) (p : InboxPass) : Type 0 where
  pub id : p.table_id ≡ inbox
  pub rest : p.me.1 ≡ []
  pub knows : view p ≡ popper made []

-- a pass of an inbox that pushes for one actor, and has pushed nothing
pub record IsNewWay (actor : ℕ) (inbox : TableId) (p : InboxPass) : Type 0 where
  pub id : p.table_id ≡ inbox
  pub rest : p.me.1 ≡ []
  pub knows : view p ≡ pusher actor []

abbrev pub AreFirsts : ℕ → List TableId → List InboxPass → Type 0
AreFirsts made [] [] = Unit {0}
AreFirsts made [] (p ∷ ps) = ⊥
AreFirsts made (id ∷ ids) [] = ⊥
AreFirsts made (id ∷ ids) (p ∷ ps) = IsFirst made id p × AreFirsts made ids ps

-- the ways to the first i inboxes
abbrev pub AreWaysTo : ℕ → ℕ → List TableId → List InboxPass → Type 0
AreWaysTo actor zero ids [] = Unit {0}
AreWaysTo actor zero ids (p ∷ ps) = ⊥
AreWaysTo actor (suc i) [] ps = ⊥
AreWaysTo actor (suc i) (id ∷ ids) [] = ⊥
AreWaysTo actor (suc i) (id ∷ ids) (p ∷ ps) = IsNewWay actor id p × AreWaysTo actor i ids ps

-- the ways of these actors to all inboxes, from one on
abbrev pub AreRows : {A : Type 0} → ℕ → List TableId → List (Vec InboxPass A) → Type 0
AreRows from ids [] = Unit {0}
AreRows from ids (row ∷ rows) = AreWaysTo from (length ids) ids row.items × AreRows (suc from) ids rows

-- the passes that pop, from one inbox on
abbrev pub AreLast : ℕ → ℕ → List TableId → List InboxPass → Type 0
AreLast made from ids [] = Unit {0}
AreLast made from ids (p ∷ ps) =
    ((id : TableId) × (slice_get ids from ≡ Some id) × IsFirst made id p) × AreLast made (suc from) ids ps
