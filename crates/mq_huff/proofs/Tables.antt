-- The tables of the code are the code: tests that the checker computes.
use Rattle.std.proofs.Common.{ℕ, ◌+◌, ◌-◌, ◌*◌, ◌^◌, ◌/◌, ◌%◌, ◌==◌, Bool, true, false, cond, ◌&&◌, List, [], ◌∷◌, get_or, IsTrue, refl}
use Rattle.std.specs.Prelude.{nat_le, nat_lt, ◌||◌, not}
use Rattle.std.specs.List.{list_any}
use Rattle.mq_huff.specs.declared.codes.TheConstants.{LENGTHS, NUMBERS}
use Rattle.mq_huff.specs.declared.steps.TheConstants.{NEXT, SYMBOLS}
use Rattle.mq_huff.specs.Code.{bits_of, Code, codes, rows}
use Rattle.mq_huff.specs.State.{states}
use Rattle.mq_huff.proofs.Tree.{Bare, Leaf, Fork, Tree, Walk, Stuck, Met, plant, tree_of, walk}

-- the code among these of a symbol, as its size and number
unfoldable pub size_among : List Code → ℕ → ℕ × ℕ
size_among [] s = (0, 0)
size_among (c ∷ cs) s = cond (c.symbol == s) (c.size, c.number) (size_among cs s)

-- from the symbol s on the sizes and numbers are those of the codes
unfoldable pub same_from : List Code → ℕ → List ℕ → List ℕ → Bool
same_from cs s [] ns = true
same_from cs s (l ∷ ls) [] = false
same_from cs s (l ∷ ls) (n ∷ ns) =
    (size_among cs s).0 == l && ((size_among cs s).1 == n && same_from cs (s + 1) ls ns)

pub tables_same : IsTrue (same_from codes 0 LENGTHS NUMBERS)
unfolding same_from size_among codes rows
tables_same = refl

-- each number fits its size, which is at most 30
unfoldable pub fit : List ℕ → List ℕ → Bool
fit [] ns = true
fit (l ∷ ls) [] = false
fit (l ∷ ls) (n ∷ ns) = (nat_le l 30 && nat_lt n (2 ^ l)) && fit ls ns

pub codes_fit : IsTrue (fit LENGTHS NUMBERS)
unfolding fit
codes_fit = refl

-- whether a walk ended at a symbol and used all bits
unfoldable pub is_met : ℕ → Walk → Bool
is_met s Stuck = false
is_met s (Met z []) = z == s
is_met s (Met z (b ∷ bs)) = false

-- from the symbol s on each code leads to its symbol
unfoldable pub lead_from : Tree → ℕ → List ℕ → List ℕ → Bool
lead_from t s [] ns = true
lead_from t s (l ∷ ls) [] = false
lead_from t s (l ∷ ls) (n ∷ ns) = is_met s (walk t (bits_of l n)) && lead_from t (s + 1) ls ns

pub codes_lead : IsTrue (lead_from (tree_of codes) 0 LENGTHS NUMBERS)
unfolding lead_from is_met walk tree_of plant codes rows bits_of
codes_lead = refl

unfoldable pub is_stuck : Walk → Bool
is_stuck Stuck = true
is_stuck (Met z bs) = false

-- no symbol is met by the bits of a state
unfoldable pub stay : Tree → List (ℕ × ℕ) → Bool
stay t [] = true
stay t (s ∷ ss) = is_stuck (walk t (bits_of s.0 s.1)) && stay t ss

pub states_stay : IsTrue (stay (tree_of codes) states)
unfolding stay is_stuck walk tree_of plant codes rows bits_of states
states_stay = refl

-- the state's bits are so many ones
unfoldable pub ones_from : ℕ → List (ℕ × ℕ) → Bool
ones_from k [] = true
ones_from k (s ∷ ss) =
    (nat_le 8 k || (s.0 == k && s.1 + 1 == 2 ^ k)) && ((nat_lt k 8 || (nat_le 8 s.0 || list_any not (bits_of s.0 s.1))) && ones_from (k + 1) ss)

pub states_padded : IsTrue (ones_from 0 states)
unfolding ones_from bits_of states
states_padded = refl

-- The step from a state's size and number, with four bits more, to the state next with the symbol m is
-- right.
unfoldable pub is_step : ℕ × ℕ → ℕ → ℕ × ℕ → ℕ → ℕ × ℕ → Bool
is_step from four to m code =
    (m == 257 && (to.0 == from.0 + 4 && to.1 == from.1 * 16 + four))
    || ((m == 256 && (nat_le 26 from.0 && (from.1 * 16 + four) / 2 ^ (from.0 - 26) == 2 ^ 30 - 1))
    || (nat_lt m 256 && (nat_lt to.1 (2 ^ to.0) && (code.0 + to.0 == from.0 + 4 && code.1 * 2 ^ to.0 + to.1 == from.1 * 16 + four))))

unfoldable pub code_at : ℕ → ℕ × ℕ
code_at m = (get_or LENGTHS m 0, get_or NUMBERS m 0)

unfoldable pub steps_from : List (ℕ × ℕ) → ℕ → List ℕ → List ℕ → Bool
steps_from ss k [] ms = true
steps_from ss k (x ∷ xs) [] = false
steps_from ss k (x ∷ xs) (m ∷ ms) =
    is_step (get_or ss (k / 16) (0, 0)) (k % 16) (get_or ss x (0, 0)) m (code_at m) && steps_from ss (k + 1) xs ms

pub steps_right : IsTrue (steps_from states 0 NEXT SYMBOLS)
unfolding steps_from is_step code_at states
steps_right = refl

-- the tree has a symbol at each end, at most so many bits deep, and each is reached by its code from the
-- bits that lead here
unfoldable pub is_whole : Tree → ℕ → ℕ → ℕ → Bool
is_whole Bare depth size n = false
is_whole (Leaf s) depth size n = nat_le s 256 && ((code_at s).0 == size && (code_at s).1 == n)
is_whole (Fork a b) depth size n = nat_lt 0 depth && (is_whole a (depth - 1) (size + 1) (n * 2) && is_whole b (depth - 1) (size + 1) (n * 2 + 1))

pub tree_whole : IsTrue (is_whole (tree_of codes) 30 0 0)
unfolding is_whole code_at tree_of plant codes rows bits_of
tree_whole = refl
