-- Any 30 bits begin with a code.
use Rattle.std.proofs.Common.{◌≡◌, ℕ, ◌+◌, ◌-◌, ◌*◌, ◌≤◌, ◌==◌, ◌&&◌, Bool, true, false, List, [], ◌∷◌, ◌++◌, length, sym, ◌∙◌, ap, arith, append_assoc}
use Rattle.std.specs.Prelude.{nat_le, nat_lt}
use Rattle.std.proofs.lemmas.Bool.{eqb-true, ltb-true, leb-true}
use Rattle.mq_huff.specs.Code.{bits_of, code_of, codes}
use Rattle.mq_huff.proofs.Bits.{bits_of-joined}
use Rattle.mq_huff.proofs.Rules.{both, code_of-at}
use Rattle.mq_huff.proofs.Tables.{code_at, is_whole, tree_whole}
use Rattle.mq_huff.proofs.Tree.{Tree, Bare, Leaf, Fork, tree_of}

-- a code that begins the bits that lead here and those that follow
pub record Begins (all : List Bool) : Type 0 where
  pub symbol : ℕ
  pub rest : List Bool
  pub within : symbol ≤ 256
  pub begins : all ≡ code_of symbol ++ rest

leaf_begins : (s size n : ℕ) (bits : List Bool) → (nat_le s 256 && ((code_at s).0 == size && (code_at s).1 == n)) ≡ true → Begins (bits_of size n ++ bits)
leaf_begins s size n bits h =
    let p = both (nat_le s 256) ((code_at s).0 == size && (code_at s).1 == n) h in
    let q = both ((code_at s).0 == size) ((code_at s).1 == n) p.1 in
    let le = leb-true s 256 p.0 in
    let e = eqb-true (code_at s).0 size q.0 in
    let f = eqb-true (code_at s).1 n q.1 in
    record {
      symbol = s;
      rest = bits;
      within = le;
      begins = ap (λ x. x ++ bits) (sym (code_of-at s le ∙ ap (λ k. bits_of k (code_at s).1) e ∙ ap (λ k. bits_of size k) f));
    }

pub one_zero : (size n : ℕ) → bits_of (size + 1) (n * 2) ≡ bits_of size n ++ false ∷ []
unfolding bits_of
one_zero size n =
    let z : n * 2 ≡ n * 2 + 0 = omega arith in
    ap (λ x. bits_of (size + 1) x) z ∙ bits_of-joined size 1 n 0 (omega arith)

pub one_one : (size n : ℕ) → bits_of (size + 1) (n * 2 + 1) ≡ bits_of size n ++ true ∷ []
unfolding bits_of
one_one size n = bits_of-joined size 1 n 1 (omega arith)

moved_bit : (bits front new : List Bool) (b : Bool) → new ≡ front ++ b ∷ [] → Begins (new ++ bits) → Begins (front ++ b ∷ bits)
moved_bit bits front new b e h = record {
  symbol = h.symbol;
  rest = h.rest;
  within = h.within;
  begins = sym (ap (λ x. x ++ bits) e ∙ append_assoc front (b ∷ []) bits) ∙ h.begins;
}

begins_by : (t : Tree) (depth size n : ℕ) (bits : List Bool) → is_whole t depth size n ≡ true → depth ≤ length bits → Begins (bits_of size n ++ bits)
unfolding is_whole
begins_by Bare depth size n bits h le = cc
begins_by (Leaf s) depth size n bits h le = leaf_begins s size n bits h
begins_by (Fork a b) depth size n [] h le =
    let p = both (nat_lt 0 depth) (is_whole a (depth - 1) (size + 1) (n * 2) && is_whole b (depth - 1) (size + 1) (n * 2 + 1)) h in
    let lt = ltb-true 0 depth p.0 in
    absurd (omega arith)
begins_by (Fork a b) depth size n (false ∷ bits) h le =
    let p = both (nat_lt 0 depth) (is_whole a (depth - 1) (size + 1) (n * 2) && is_whole b (depth - 1) (size + 1) (n * 2 + 1)) h in
    let q = both (is_whole a (depth - 1) (size + 1) (n * 2)) (is_whole b (depth - 1) (size + 1) (n * 2 + 1)) p.1 in
    let lt = ltb-true 0 depth p.0 in
    moved_bit bits (bits_of size n) (bits_of (size + 1) (n * 2)) false (one_zero size n)
    (begins_by a (depth - 1) (size + 1) (n * 2) bits q.0 (omega arith))
begins_by (Fork a b) depth size n (true ∷ bits) h le =
    let p = both (nat_lt 0 depth) (is_whole a (depth - 1) (size + 1) (n * 2) && is_whole b (depth - 1) (size + 1) (n * 2 + 1)) h in
    let q = both (is_whole a (depth - 1) (size + 1) (n * 2)) (is_whole b (depth - 1) (size + 1) (n * 2 + 1)) p.1 in
    let lt = ltb-true 0 depth p.0 in
    moved_bit bits (bits_of size n) (bits_of (size + 1) (n * 2 + 1)) true (one_one size n)
    (begins_by b (depth - 1) (size + 1) (n * 2 + 1) bits q.1 (omega arith))

pub begins_with_code : (bits : List Bool) → 30 ≤ length bits → (s : ℕ) × (rest : List Bool) × (s ≤ 256) × (bits ≡ code_of s ++ rest)
unfolding bits_of
begins_with_code bits le =
    let b = begins_by (tree_of codes) 30 0 0 bits tree_whole le in
    (b.symbol, b.rest, b.within, b.begins)
