-- The codes as a tree, in which a walk by bits meets at most one symbol.
use Rattle.std.proofs.Common.{◌≡◌, ℕ, Bool, true, false, List, [], ◌∷◌, ◌++◌}
use Rattle.mq_huff.specs.Code.{bits_of, Code}

pub data Tree : Type 0 where
  Bare : Tree
  Leaf : ℕ → Tree
  Fork : Tree → Tree → Tree

pub data Walk : Type 0 where
  Stuck : Walk
  Met : ℕ → List Bool → Walk

-- the tree with this symbol at the end of these bits
unfoldable pub plant : List Bool → ℕ → Tree → Tree
plant [] s t = Leaf s
plant (false ∷ bs) s (Fork a b) = Fork (plant bs s a) b
plant (true ∷ bs) s (Fork a b) = Fork a (plant bs s b)
plant (false ∷ bs) s Bare = Fork (plant bs s Bare) Bare
plant (true ∷ bs) s Bare = Fork Bare (plant bs s Bare)
plant (x ∷ bs) s (Leaf z) = Leaf z

unfoldable pub tree_of : List Code → Tree
tree_of [] = Bare
tree_of (c ∷ cs) = plant (bits_of c.size c.number) c.symbol (tree_of cs)

-- the symbol that these bits meet first, and the bits behind it
unfoldable pub walk : Tree → List Bool → Walk
walk Bare bs = Stuck
walk (Leaf s) bs = Met s bs
walk (Fork a b) [] = Stuck
walk (Fork a b) (false ∷ bs) = walk a bs
walk (Fork a b) (true ∷ bs) = walk b bs

pub walk-append : (t : Tree) (s : ℕ) (xs rest ys : List Bool) → walk t xs ≡ Met s rest → walk t (xs ++ ys) ≡ Met s (rest ++ ys)
unfolding walk
walk-append Bare s xs rest ys h = cc
walk-append (Leaf z) s xs rest ys h = cc
walk-append (Fork a b) s [] rest ys h = cc
walk-append (Fork a b) s (false ∷ bs) rest ys h = walk-append a s bs rest ys h
walk-append (Fork a b) s (true ∷ bs) rest ys h = walk-append b s bs rest ys h
