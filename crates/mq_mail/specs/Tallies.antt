-- What a clause says of a post's close: the keys that it needs, and what it tells of each inbox.
use Rattle.std.specs.Prelude.{◌≡◌, ℕ, suc, ◌+◌, List, [], ◌∷◌, ◌++◌, length, map, sum}
use Rattle.mq_talk.specs.declared.place.Parcel.{Parcel}
use Rattle.mq_mail.specs.declared.inbox_rule.Letter.{Letter}
use Rattle.mq_mail.specs.declared.post.Tally.{Tally}
use Rattle.mq_mail.specs.Letters.{letters, of, pushed_by}
use Rattle.mq_mail.specs.Posts.{PostId, KeyOf, pushed_to}

-- keys of a post, of one actor after another
abbrev pub AreKeysOf : PostId → ℕ → List KeyOf → Type 0
AreKeysOf post actor [] = Unit {0}
AreKeysOf post actor (key ∷ keys) = (key.post ≡ post) × (key.actor ≡ actor) × AreKeysOf post (suc actor) keys

-- these are the keys of all actors of a post, by their numbers
pub record AreAllKeys (post : PostId) (keys : List KeyOf) : Type 0 where
  pub size : length keys ≡ length post
  pub each : AreKeysOf post 0 keys

-- what each of these actors pushed to an inbox
abbrev pub all_to : List KeyOf → ℕ → List (List Parcel)
all_to keys inbox = map (λ (key : KeyOf). pushed_to key.pushed inbox) keys

-- The tally of an inbox to which the actors pushed these, and of which its own popped those. Some letters are left: of
-- each actor, what was popped and then what is left is what it pushed there, whole, once, in order. The numbers are how
-- many there are of each.
pub record IsTallied (pushed : List (List Parcel)) (popped : List Letter) (tally : Tally) : Type 0 where
  pub left : List Letter
  pub whole : (actor : ℕ) → of actor (popped ++ left) ≡ letters actor (pushed_by pushed actor)
  pub pushed_count : tally.pushed ≡ sum (map (λ (parcels : List Parcel). length parcels) pushed)
  pub popped_count : tally.popped ≡ length popped
  pub left_count : tally.left ≡ length left
  pub adds_up : tally.pushed ≡ tally.popped + tally.left

-- one tally for each inbox, from this one on, each with its own actor's key
abbrev pub AreTalliedFrom : ℕ → List KeyOf → List KeyOf → List Tally → Type 0
AreTalliedFrom inbox all [] [] = Unit {0}
AreTalliedFrom inbox all [] (tally ∷ tallies) = ⊥
AreTalliedFrom inbox all (key ∷ keys) [] = ⊥
AreTalliedFrom inbox all (key ∷ keys) (tally ∷ tallies) =
    IsTallied (all_to all inbox) key.popped tally × AreTalliedFrom (suc inbox) all keys tallies

-- one tally for each inbox, by their numbers
abbrev pub AreTallied : List KeyOf → List Tally → Type 0
AreTallied keys tallies = AreTalliedFrom 0 keys keys tallies
