-- What a clause says of a turn and of its passes.
use Rattle.std.specs.Prelude.{◌≡◌, ◌≢◌, ℕ, suc, ◌+◌, ◌<◌, ◌⊎◌, List, [], ◌∷◌, ◌++◌, Option, Some}
use Rattle.std.specs.List.{All}
use Rattle.atomic_table.specs.Seated.{TableId}
use Rattle.mq_turn.specs.declared.view.Known.{Known}
use Rattle.mq_turn.specs.History.{Adds, Fits, by, longer}

-- a pass of this number is among these
abbrev pub IsNamed : {E : Type 0} → ℕ → List (Known E) → Type 0
IsNamed n [] = ⊥
IsNamed n (k ∷ rest) = (k.number ≡ n) ⊎ IsNamed n rest

-- a pass counts as its own number, and as those that it took in
abbrev pub CountsAs : {E : Type 0} → ℕ → ℕ → List (Known E) → Type 0
CountsAs n number taken_in = (number ≡ n) ⊎ IsNamed n taken_in

-- which turn it is, and what its value was made with
pub record TurnOf (S : Type 0) : Type 0 where
  pub id : TableId
  pub settings : S

-- A pass of a turn with these settings: its number, how the history begins that it has seen, and which passes it took in.
-- The first, and who took that in, knows how many were made.
pub record PassOf (E S : Type 0) : Type 0 where
  pub turn : TableId
  pub settings : Option S
  pub number : ℕ
  pub seen : List E
  pub taken_in : List (Known E)
  pub made : ℕ

-- the pass is one of this turn
pub record IsOf {E S : Type 0} (turn : TurnOf S) (pass : PassOf E S) : Type 0 where
  pub turn_is : pass.turn ≡ turn.id
  pub settings_are : pass.settings ≡ Some turn.settings

-- the first pass of a turn
abbrev pub first_pass : {E S : Type 0} → TurnOf S → PassOf E S
first_pass turn = record { turn = turn.id; settings = Some turn.settings; number = 0; seen = []; taken_in = []; made = 1 }

-- the first pass made one, which has seen what that has
abbrev pub after_split : {E S : Type 0} → PassOf E S → PassOf E S
after_split pass = record pass { made = suc pass.made }

abbrev pub split_off : {E S : Type 0} → PassOf E S → PassOf E S
split_off pass = record pass { number = pass.made; taken_in = []; made = 0 }

-- what is known of a pass that is taken in
abbrev pub known : {E S : Type 0} → PassOf E S → Known E
known pass = record { number = pass.number; seen = pass.seen }

-- a pass took in another: it has the longer of what both have seen, and all that both took in
abbrev pub took_in : {E S : Type 0} → PassOf E S → PassOf E S → PassOf E S
took_in pass other = record pass { seen = longer pass.seen other.seen; taken_in = pass.taken_in ++ known other ∷ other.taken_in; made = pass.made + other.made }

-- the pass took in all others that were made
pub record IsOnly {E S : Type 0} (pass : PassOf E S) : Type 0 where
  pub first : CountsAs 0 pass.number pass.taken_in
  pub all : (n : ℕ) → n < pass.made → CountsAs n pass.number pass.taken_in

-- what a pass has seen of its own entries, in order
abbrev pub mine : {E S : Type 0} → (E → ℕ) → PassOf E S → List E
mine maker pass = by maker pass.number pass.seen

-- An ask was answered in its turn. Others added entries before, and then who asked added its own, if that wrote one. The
-- answer is by all entries before it.
pub record Turned {E S Ask Answer : Type 0} (maker : E → ℕ) (is_sound : S → List E → Type 0) (serves : S → List E → Ask → Answer → List E → Type 0)
    (settings : S) (old : PassOf E S) (ask : Ask) (answer : Answer) (new : PassOf E S) : Type 0 where
  pub between : List E
  pub others : All (λ e. maker e ≢ old.number) between
  pub sound_before : is_sound settings (old.seen ++ between)
  pub serves_it : serves settings (old.seen ++ between) ask answer new.seen
  pub adds : Adds maker old.number (old.seen ++ between) new.seen
  pub mine_grows : mine maker new ≡ mine maker old ++ adds.added
  pub sound : is_sound settings new.seen
  pub same : new ≡ record old { seen = new.seen }

-- The value at the end: its history begins with what each pass has seen, and the entries of each pass's number are those
-- that it has seen, and there are no others.
pub record IsClosed {V E S : Type 0} (settings_of : V → S) (history_of : V → List E) (maker : E → ℕ) (is_sound : S → List E → Type 0)
    (turn : TurnOf S) (pass : PassOf E S) (value : V) : Type 0 where
  pub settings : settings_of value ≡ turn.settings
  pub sound : is_sound turn.settings (history_of value)
  pub own : Fits maker (history_of value) pass.number pass.seen
  pub each : All (λ k. Fits maker (history_of value) k.number k.seen) pass.taken_in
  pub others : (n : ℕ) → ¬ (CountsAs n pass.number pass.taken_in) → by maker n (history_of value) ≡ []
