-- Histories: lists of entries, of which each names the number of who made it.
use Rattle.std.specs.Prelude.{◌≡◌, ℕ, ◌≤◌, ◌==◌, nat_lt, List, ◌++◌, length, if◌then◌else◌}
use Rattle.std.specs.List.{All, filter}

-- the history begins with these entries
pub record StartsWith {E : Type 0} (history front : List E) : Type 0 where
  pub rest : List E
  pub is : history ≡ front ++ rest

-- the longer of two beginnings of one history
abbrev pub longer : {E : Type 0} → List E → List E → List E
longer a b = if nat_lt (length a) (length b) then b else a

-- the entries that name this number, in order
abbrev pub by : {E : Type 0} → (E → ℕ) → ℕ → List E → List E
by maker n history = filter (λ e. maker e == n) history

-- at most one entry was added, and it names this number
pub record Adds {E : Type 0} (maker : E → ℕ) (n : ℕ) (old new : List E) : Type 0 where
  pub added : List E
  pub grows : new ≡ old ++ added
  pub few : length added ≤ 1
  pub own : All (λ e. maker e ≡ n) added

-- what was seen is how the history begins, and has all entries of this number
pub record Fits {E : Type 0} (maker : E → ℕ) (history : List E) (n : ℕ) (seen : List E) : Type 0 where
  pub begins : StartsWith history seen
  pub own : by maker n history ≡ by maker n seen
