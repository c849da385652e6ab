-- What the tested tables mean, at each entry.
use Rattle.std.proofs.Common.{◌≡◌, ℕ, ◌+◌, ◌-◌, ◌*◌, ◌/◌, ◌%◌, ◌^◌, ◌<◌, ◌≤◌, ◌⊎◌, ◌==◌, inl, inr, zero, suc, Bool, true, false, cond, ◌&&◌, List, [], ◌∷◌, ◌++◌, length, get_or, refl, sym, ◌∙◌, ap, subst, arith}
use Rattle.std.specs.Prelude.{nat_le, nat_lt, ◌||◌, not, replicate}
use Rattle.std.specs.List.{Contains, list_any}
use Rattle.std.proofs.lemmas.Bool.{eqb-true, ltb-true, leb-true}
use Rattle.mq_huff.specs.declared.codes.TheConstants.{LENGTHS, NUMBERS}
use Rattle.mq_huff.specs.declared.steps.TheConstants.{NEXT, SYMBOLS}
use Rattle.mq_huff.specs.Code.{bits_of, Code, codes, bits_among, code_of}
use Rattle.mq_huff.specs.State.{states, read_at}
use Rattle.mq_huff.proofs.Bits.{length-bits_of, bits_of-add, bits_of-joined, bits_of-ones}
use Rattle.mq_huff.proofs.Tables.{size_among, same_from, tables_same, fit, codes_fit, is_met, lead_from, codes_lead, is_stuck, stay, states_stay, ones_from, states_padded, is_step, code_at, steps_from, steps_right}
use Rattle.mq_huff.proofs.Tree.{Tree, Walk, Stuck, Met, tree_of, walk, walk-append}

pub both : (a b : Bool) → (a && b) ≡ true → (a ≡ true) × (b ≡ true)
both true true h = (refl, refl)
both true false h = cc
both false b h = cc

pub either : (a b : Bool) → (a || b) ≡ true → (a ≡ true) ⊎ (b ≡ true)
either true b h = inl refl
either false b h = inr h

size_by_test : (b : Bool) (c : Code) (bs : List Bool) (p : ℕ × ℕ) → bs ≡ bits_of p.0 p.1 → cond b (bits_of c.size c.number) bs ≡ bits_of (cond b (c.size, c.number) p).0 (cond b (c.size, c.number) p).1
size_by_test true c bs p h = refl
size_by_test false c bs p h = h

bits_among-size : (cs : List Code) (s : ℕ) → bits_among cs s ≡ bits_of (size_among cs s).0 (size_among cs s).1
unfolding size_among bits_of
bits_among-size [] s = refl
bits_among-size (c ∷ cs) s = size_by_test (c.symbol == s) c (bits_among cs s) (size_among cs s) (bits_among-size cs s)

pair_eq : (p : ℕ × ℕ) (l n : ℕ) → p.0 ≡ l → p.1 ≡ n → p ≡ (l, n)
pair_eq p l n e f = ap (λ x. (x, p.1)) e ∙ ap (λ y. (l, y)) f

size_at : (cs : List Code) (s : ℕ) (ls ns : List ℕ) (i : ℕ) → same_from cs s ls ns ≡ true → i < length ls → size_among cs (s + i) ≡ (get_or ls i 0, get_or ns i 0)
unfolding same_from
size_at cs s [] ns i h lt = absurd (omega arith)
size_at cs s (l ∷ ls) [] i h lt = cc
size_at cs s (l ∷ ls) (n ∷ ns) zero h lt =
    let p = both ((size_among cs s).0 == l) ((size_among cs s).1 == n && same_from cs (s + 1) ls ns) h in
    let q = both ((size_among cs s).1 == n) (same_from cs (s + 1) ls ns) p.1 in
    let e = eqb-true (size_among cs s).0 l p.0 in
    let f = eqb-true (size_among cs s).1 n q.0 in
    let z : s + zero ≡ s = omega arith in
    ap (λ x. size_among cs x) z ∙ pair_eq (size_among cs s) l n e f
size_at cs s (l ∷ ls) (n ∷ ns) (suc i) h lt =
    let p = both ((size_among cs s).0 == l) ((size_among cs s).1 == n && same_from cs (s + 1) ls ns) h in
    let q = both ((size_among cs s).1 == n) (same_from cs (s + 1) ls ns) p.1 in
    let z : s + suc i ≡ s + 1 + i = omega arith in
    let b : i < length ls = omega arith in
    ap (λ x. size_among cs x) z ∙ size_at cs (s + 1) ls ns i q.1 b

length-LENGTHS : length LENGTHS ≡ 257
length-LENGTHS = refl

-- a symbol's code is that of the encoder's tables
pub code_of-at : (s : ℕ) → s ≤ 256 → code_of s ≡ bits_of (code_at s).0 (code_at s).1
unfolding code_of code_at
code_of-at s h =
    let lt : s < length LENGTHS = omega (arith, length-LENGTHS) in
    let z : 0 + s ≡ s = omega arith in
    bits_among-size codes s ∙ ap (λ (p : ℕ × ℕ). bits_of p.0 p.1) (ap (λ x. size_among codes x) (sym z) ∙ size_at codes 0 LENGTHS NUMBERS s tables_same lt)

met_alone : (s : ℕ) (w : Walk) → is_met s w ≡ true → w ≡ Met s []
unfolding is_met
met_alone s Stuck h = cc
met_alone s (Met z []) h = ap (λ x. Met x []) (eqb-true z s h)
met_alone s (Met z (b ∷ bs)) h = cc

leads_at : (t : Tree) (s : ℕ) (ls ns : List ℕ) (i : ℕ) → lead_from t s ls ns ≡ true → i < length ls → walk t (bits_of (get_or ls i 0) (get_or ns i 0)) ≡ Met (s + i) []
unfolding lead_from
leads_at t s [] ns i h lt = absurd (omega arith)
leads_at t s (l ∷ ls) [] i h lt = cc
leads_at t s (l ∷ ls) (n ∷ ns) zero h lt =
    let p = both (is_met s (walk t (bits_of l n))) (lead_from t (s + 1) ls ns) h in
    let z : s ≡ s + zero = omega arith in
    met_alone s (walk t (bits_of l n)) p.0 ∙ ap (λ x. Met x []) z
leads_at t s (l ∷ ls) (n ∷ ns) (suc i) h lt =
    let p = both (is_met s (walk t (bits_of l n))) (lead_from t (s + 1) ls ns) h in
    let z : s + 1 + i ≡ s + suc i = omega arith in
    let b : i < length ls = omega arith in
    leads_at t (s + 1) ls ns i p.1 b ∙ ap (λ x. Met x []) z

-- the tree of all the codes
unfoldable pub code_tree : Tree
code_tree = tree_of codes

code_met : (s : ℕ) → s ≤ 256 → walk code_tree (code_of s) ≡ Met s []
unfolding code_tree code_at
code_met s h =
    let lt : s < length LENGTHS = omega (arith, length-LENGTHS) in
    let z : 0 + s ≡ s = omega arith in
    ap (λ x. walk (tree_of codes) x) (code_of-at s h) ∙ leads_at (tree_of codes) 0 LENGTHS NUMBERS s codes_lead lt ∙ ap (λ x. Met x []) z

-- a walk along a symbol's code meets it, whatever follows
pub first_met : (s : ℕ) (after : List Bool) → s ≤ 256 → walk code_tree (code_of s ++ after) ≡ Met s after
first_met s after h = walk-append code_tree s (code_of s) [] after (code_met s h)

stuck_is : (w : Walk) → is_stuck w ≡ true → w ≡ Stuck
unfolding is_stuck
stuck_is Stuck h = refl
stuck_is (Met z bs) h = cc

stay_at : (t : Tree) (ss : List (ℕ × ℕ)) (i : ℕ) → stay t ss ≡ true → i < length ss → walk t (bits_of (get_or ss i (0, 0)).0 (get_or ss i (0, 0)).1) ≡ Stuck
unfolding stay
stay_at t [] i h lt = absurd (omega arith)
stay_at t (s ∷ ss) zero h lt = stuck_is (walk t (bits_of s.0 s.1)) (both (is_stuck (walk t (bits_of s.0 s.1))) (stay t ss) h).0
stay_at t (s ∷ ss) (suc i) h lt =
    let b : i < length ss = omega arith in
    stay_at t ss i (both (is_stuck (walk t (bits_of s.0 s.1))) (stay t ss) h).1 b

length-states : length states ≡ 256
unfolding states
length-states = refl

-- the bits of a state lead to no symbol
pub state_stuck : (state : ℕ) → state < 256 → walk code_tree (read_at state) ≡ Stuck
unfolding code_tree read_at
state_stuck state h =
    let lt : state < length states = omega (arith, length-states) in
    stay_at (tree_of codes) states state states_stay lt

ones_test : ℕ → ℕ × ℕ → Bool
ones_test k s = nat_le 8 k || (s.0 == k && s.1 + 1 == 2 ^ k)

mixed_test : ℕ → ℕ × ℕ → Bool
mixed_test k s = nat_lt k 8 || (nat_le 8 s.0 || list_any not (bits_of s.0 s.1))

padded_at : (k : ℕ) (ss : List (ℕ × ℕ)) (i : ℕ) → ones_from k ss ≡ true → i < length ss → (ones_test (k + i) (get_or ss i (0, 0)) ≡ true) × (mixed_test (k + i) (get_or ss i (0, 0)) ≡ true)
unfolding ones_from ones_test mixed_test
padded_at k [] i h lt = absurd (omega arith)
padded_at k (s ∷ ss) zero h lt =
    let p = both (nat_le 8 k || (s.0 == k && s.1 + 1 == 2 ^ k)) ((nat_lt k 8 || (nat_le 8 s.0 || list_any not (bits_of s.0 s.1))) && ones_from (k + 1) ss) h in
    let q = both (nat_lt k 8 || (nat_le 8 s.0 || list_any not (bits_of s.0 s.1))) (ones_from (k + 1) ss) p.1 in
    let z : k ≡ k + zero = omega arith in
    (ap (λ x. nat_le 8 x || (s.0 == x && s.1 + 1 == 2 ^ x)) (sym z) ∙ p.0, ap (λ x. nat_lt x 8 || (nat_le 8 s.0 || list_any not (bits_of s.0 s.1))) (sym z) ∙ q.0)
padded_at k (s ∷ ss) (suc i) h lt =
    let p = both (nat_le 8 k || (s.0 == k && s.1 + 1 == 2 ^ k)) ((nat_lt k 8 || (nat_le 8 s.0 || list_any not (bits_of s.0 s.1))) && ones_from (k + 1) ss) h in
    let q = both (nat_lt k 8 || (nat_le 8 s.0 || list_any not (bits_of s.0 s.1))) (ones_from (k + 1) ss) p.1 in
    let z : k + suc i ≡ k + 1 + i = omega arith in
    let b : i < length ss = omega arith in
    let r = padded_at (k + 1) ss i q.1 b in
    (ap (λ x. ones_test x (get_or ss i (0, 0))) z ∙ r.0, ap (λ x. mixed_test x (get_or ss i (0, 0))) z ∙ r.1)

ones_are : (k : ℕ) (s : ℕ × ℕ) → k < 8 → ones_test k s ≡ true → bits_of s.0 s.1 ≡ replicate k true
unfolding ones_test
ones_are k s lt h =
    elim (either (nat_le 8 k) (s.0 == k && s.1 + 1 == 2 ^ k) h) [
      | inl a ↦ absurd (let f = leb-true 8 k a in omega arith)
      | inr b ↦
          let p = both (s.0 == k) (s.1 + 1 == 2 ^ k) b in
          let e = eqb-true s.0 k p.0 in
          let f = eqb-true (s.1 + 1) (2 ^ k) p.1 in
          let g : s.1 ≡ 2 ^ k - 1 = omega arith in
          ap (λ x. bits_of x s.1) e ∙ ap (λ x. bits_of k x) g ∙ bits_of-ones k
    ]

-- the bits of the first eight states are ones
pub state_padded : (state : ℕ) → state < 8 → read_at state ≡ replicate state true
unfolding read_at
state_padded state h =
    let lt : state < length states = omega (arith, length-states) in
    let z : 0 + state ≡ state = omega arith in
    let p = (padded_at 0 states state states_padded lt).0 in
    ones_are state (get_or states state (0, 0)) h (ap (λ x. ones_test x (get_or states state (0, 0))) (sym z) ∙ p)

false_among : (xs : List Bool) → list_any not xs ≡ true → Contains xs false
false_among [] h = cc
false_among (false ∷ xs) h = (0, omega arith, refl)
false_among (true ∷ xs) h =
    let r = false_among xs h in
    let lt : r.0 < length xs = r.1 in
    (suc r.0, omega arith, r.2)

mixed_are : (k : ℕ) (s : ℕ × ℕ) → 8 ≤ k → mixed_test k s ≡ true → (8 ≤ length (bits_of s.0 s.1)) ⊎ Contains (bits_of s.0 s.1) false
unfolding mixed_test
mixed_are k s le h =
    elim (either (nat_lt k 8) (nat_le 8 s.0 || list_any not (bits_of s.0 s.1)) h) [
      | inl a ↦ absurd (let f = ltb-true k 8 a in omega arith)
      | inr b ↦ elim (either (nat_le 8 s.0) (list_any not (bits_of s.0 s.1)) b) [
        | inl a ↦ inl (let f = leb-true 8 s.0 a in let l = length-bits_of s.0 s.1 in omega arith)
        | inr a ↦ inr (false_among (bits_of s.0 s.1) a)
      ]
    ]

-- those of the others are eight or more, or have a zero
pub state_unpadded : (state : ℕ) → 8 ≤ state → state < 256 → (8 ≤ length (read_at state)) ⊎ Contains (read_at state) false
unfolding read_at
state_unpadded state le h =
    let lt : state < length states = omega (arith, length-states) in
    let z : 0 + state ≡ state = omega arith in
    let p = (padded_at 0 states state states_padded lt).1 in
    mixed_are state (get_or states state (0, 0)) le (ap (λ x. mixed_test x (get_or states state (0, 0))) (sym z) ∙ p)

step_at : (ss : List (ℕ × ℕ)) (k : ℕ) (xs ms : List ℕ) (i : ℕ) → steps_from ss k xs ms ≡ true → i < length xs →
    is_step (get_or ss ((k + i) / 16) (0, 0)) ((k + i) % 16) (get_or ss (get_or xs i 0) (0, 0)) (get_or ms i 0) (code_at (get_or ms i 0)) ≡ true
unfolding steps_from
step_at ss k [] ms i h lt = absurd (omega arith)
step_at ss k (x ∷ xs) [] i h lt = cc
step_at ss k (x ∷ xs) (m ∷ ms) zero h lt =
    let p = both (is_step (get_or ss (k / 16) (0, 0)) (k % 16) (get_or ss x (0, 0)) m (code_at m)) (steps_from ss (k + 1) xs ms) h in
    let z : k + zero ≡ k = omega arith in
    ap (λ n. is_step (get_or ss (n / 16) (0, 0)) (n % 16) (get_or ss x (0, 0)) m (code_at m)) z ∙ p.0
step_at ss k (x ∷ xs) (m ∷ ms) (suc i) h lt =
    let p = both (is_step (get_or ss (k / 16) (0, 0)) (k % 16) (get_or ss x (0, 0)) m (code_at m)) (steps_from ss (k + 1) xs ms) h in
    let z : k + suc i ≡ k + 1 + i = omega arith in
    let b : i < length xs = omega arith in
    ap (λ n. is_step (get_or ss (n / 16) (0, 0)) (n % 16) (get_or ss (get_or xs i 0) (0, 0)) (get_or ms i 0) (code_at (get_or ms i 0))) z ∙ step_at ss (k + 1) xs ms i p.1 b

-- what the bits read come to, with the symbol that ended there, and the bits of the next state
pub record Stepped (read next : List Bool) (symbol : ℕ) : Type 0 where
  pub none : 256 ≤ symbol → (symbol ≡ 256 → ⊥) → read ≡ next
  pub end : symbol ≡ 256 → (rest : List Bool) × (read ≡ code_of 256 ++ rest)
  pub met : symbol < 256 → read ≡ code_of symbol ++ next

no_symbol : (read next : List Bool) (m : ℕ) → m ≡ 257 → read ≡ next → Stepped read next m
no_symbol read next m e h = record {
  none = λ _ _. h;
  end = λ f. absurd (omega arith);
  met = λ lt. absurd (omega arith);
}

eos_met : (read next rest : List Bool) (m : ℕ) → m ≡ 256 → read ≡ code_of 256 ++ rest → Stepped read next m
eos_met read next rest m e h = record {
  none = λ f g. absurd (g e);
  end = λ _. (rest, h);
  met = λ lt. absurd (omega arith);
}

symbol_met : (read next : List Bool) (m : ℕ) → m < 256 → read ≡ code_of m ++ next → Stepped read next m
symbol_met read next m lt h = record {
  none = λ f g. absurd (omega arith);
  end = λ f. absurd (omega arith);
  met = λ _. h;
}

four_more : (from : ℕ × ℕ) (four : ℕ) → four < 16 → bits_of from.0 from.1 ++ bits_of 4 four ≡ bits_of (from.0 + 4) (from.1 * 16 + four)
four_more from four lt = sym (bits_of-joined from.0 4 from.1 four lt)

eos_code : code_at 256 ≡ (30, 2 ^ 30 - 1)
unfolding code_at
eos_code = refl

eos_begins : (size n : ℕ) → 26 ≤ size → n / 2 ^ (size - 26) ≡ 2 ^ 30 - 1 → bits_of (size + 4) n ≡ code_of 256 ++ bits_of (size - 26) n
eos_begins size n le e =
    let z : size + 4 ≡ 30 + (size - 26) = omega arith in
    let c = code_of-at 256 (omega arith) ∙ ap (λ (p : ℕ × ℕ). bits_of p.0 p.1) eos_code in
    ap (λ x. bits_of x n) z ∙ bits_of-add 30 (size - 26) n
    ∙ ap (λ x. bits_of 30 x ++ bits_of (size - 26) n) e
    ∙ ap (λ x. x ++ bits_of (size - 26) n) (sym c)

symbol_begins : (from to : ℕ × ℕ) (four m : ℕ) → m < 256 → to.1 < 2 ^ to.0 → (code_at m).0 + to.0 ≡ from.0 + 4 → (code_at m).1 * 2 ^ to.0 + to.1 ≡ from.1 * 16 + four →
    bits_of (from.0 + 4) (from.1 * 16 + four) ≡ code_of m ++ bits_of to.0 to.1
symbol_begins from to four m lt fits e f =
    ap (λ x. bits_of x (from.1 * 16 + four)) (sym e)
    ∙ ap (λ x. bits_of ((code_at m).0 + to.0) x) (sym f)
    ∙ bits_of-joined (code_at m).0 to.0 (code_at m).1 to.1 fits
    ∙ ap (λ x. x ++ bits_of to.0 to.1) (sym (code_of-at m (omega arith)))

step_means : (from to : ℕ × ℕ) (four m : ℕ) → four < 16 → is_step from four to m (code_at m) ≡ true → Stepped (bits_of from.0 from.1 ++ bits_of 4 four) (bits_of to.0 to.1) m
unfolding is_step
step_means from to four m lt h =
    let more = four_more from four lt in
    elim (either (m == 257 && (to.0 == from.0 + 4 && to.1 == from.1 * 16 + four))
    ((m == 256 && (nat_le 26 from.0 && (from.1 * 16 + four) / 2 ^ (from.0 - 26) == 2 ^ 30 - 1))
    || (nat_lt m 256 && (nat_lt to.1 (2 ^ to.0) && ((code_at m).0 + to.0 == from.0 + 4 && (code_at m).1 * 2 ^ to.0 + to.1 == from.1 * 16 + four)))) h) [
      | inl a ↦
          let p = both (m == 257) (to.0 == from.0 + 4 && to.1 == from.1 * 16 + four) a in
          let q = both (to.0 == from.0 + 4) (to.1 == from.1 * 16 + four) p.1 in
          let e = eqb-true to.0 (from.0 + 4) q.0 in
          let f = eqb-true to.1 (from.1 * 16 + four) q.1 in
          no_symbol _ _ m (eqb-true m 257 p.0) (more ∙ ap (λ x. bits_of x (from.1 * 16 + four)) (sym e) ∙ ap (λ x. bits_of to.0 x) (sym f))
      | inr b ↦ elim (either (m == 256 && (nat_le 26 from.0 && (from.1 * 16 + four) / 2 ^ (from.0 - 26) == 2 ^ 30 - 1))
          (nat_lt m 256 && (nat_lt to.1 (2 ^ to.0) && ((code_at m).0 + to.0 == from.0 + 4 && (code_at m).1 * 2 ^ to.0 + to.1 == from.1 * 16 + four))) b) [
            | inl a ↦
                let p = both (m == 256) (nat_le 26 from.0 && (from.1 * 16 + four) / 2 ^ (from.0 - 26) == 2 ^ 30 - 1) a in
                let q = both (nat_le 26 from.0) ((from.1 * 16 + four) / 2 ^ (from.0 - 26) == 2 ^ 30 - 1) p.1 in
                let e = eqb-true ((from.1 * 16 + four) / 2 ^ (from.0 - 26)) (2 ^ 30 - 1) q.1 in
                eos_met _ _ (bits_of (from.0 - 26) (from.1 * 16 + four)) m (eqb-true m 256 p.0)
                (more ∙ eos_begins from.0 (from.1 * 16 + four) (leb-true 26 from.0 q.0) e)
            | inr a ↦
                let p = both (nat_lt m 256) (nat_lt to.1 (2 ^ to.0) && ((code_at m).0 + to.0 == from.0 + 4 && (code_at m).1 * 2 ^ to.0 + to.1 == from.1 * 16 + four)) a in
                let q = both (nat_lt to.1 (2 ^ to.0)) ((code_at m).0 + to.0 == from.0 + 4 && (code_at m).1 * 2 ^ to.0 + to.1 == from.1 * 16 + four) p.1 in
                let r = both ((code_at m).0 + to.0 == from.0 + 4) ((code_at m).1 * 2 ^ to.0 + to.1 == from.1 * 16 + four) q.1 in
                let e = eqb-true ((code_at m).0 + to.0) (from.0 + 4) r.0 in
                let f = eqb-true ((code_at m).1 * 2 ^ to.0 + to.1) (from.1 * 16 + four) r.1 in
                let lt' = ltb-true m 256 p.0 in
                symbol_met _ _ m lt' (more ∙ symbol_begins from to four m lt' (ltb-true to.1 (2 ^ to.0) q.0) e f)
          ]
    ]

length-NEXT : length NEXT ≡ 4096
length-NEXT = refl

-- what the tables say of a state and four bits
unfoldable pub next_at : ℕ → ℕ → ℕ
next_at state four = get_or NEXT (state * 16 + four) 0

unfoldable pub symbol_at : ℕ → ℕ → ℕ
symbol_at state four = get_or SYMBOLS (state * 16 + four) 0

quotient : (state four : ℕ) → four < 16 → (state * 16 + four) / 16 ≡ state
quotient state four lt = omega arith

remainder : (state four : ℕ) → four < 16 → (state * 16 + four) % 16 ≡ four
remainder state four lt = omega arith

pub stepped : (state four : ℕ) → state < 256 → four < 16 → Stepped (read_at state ++ bits_of 4 four) (read_at (next_at state four)) (symbol_at state four)
unfolding read_at next_at symbol_at
stepped state four h lt =
    let b : state * 16 + four < length NEXT = omega (arith, length-NEXT) in
    let z : 0 + (state * 16 + four) ≡ state * 16 + four = omega arith in
    let p = step_at states 0 NEXT SYMBOLS (state * 16 + four) steps_right b in
    let at : ℕ → ℕ → Bool = λ i j. is_step (get_or states i (0, 0)) j (get_or states (next_at state four) (0, 0)) (symbol_at state four) (code_at (symbol_at state four)) in
    step_means (get_or states state (0, 0)) (get_or states (next_at state four) (0, 0)) four (symbol_at state four) lt
    (ap (λ i. at i four) (sym (ap (λ n. n / 16) z ∙ quotient state four lt))
    ∙ ap (λ j. at ((0 + (state * 16 + four)) / 16) j) (sym (ap (λ n. n % 16) z ∙ remainder state four lt))
    ∙ p)

-- the same at the index that the code computes
pub stepped_at : (state four i j : ℕ) → state < 256 → four < 16 → i ≡ state → j ≡ four → Stepped (read_at state ++ bits_of 4 four) (read_at (get_or NEXT (i * 16 + j) 0)) (get_or SYMBOLS (i * 16 + j) 0)
unfolding next_at symbol_at
stepped_at state four i j h lt e f =
    let at : ℕ → Type 0 = λ k. Stepped (read_at state ++ bits_of 4 four) (read_at (get_or NEXT k 0)) (get_or SYMBOLS k 0) in
    let z : state * 16 + four ≡ i * 16 + j = omega arith in
    subst at z (stepped state four h lt)

fit_at : (ls ns : List ℕ) (i : ℕ) → fit ls ns ≡ true → i < length ls → (get_or ls i 0 ≤ 30) × (get_or ns i 0 < 2 ^ get_or ls i 0)
unfolding fit
fit_at [] ns i h lt = absurd (omega arith)
fit_at (l ∷ ls) [] i h lt = cc
fit_at (l ∷ ls) (n ∷ ns) zero h lt =
    let p = both (nat_le l 30 && nat_lt n (2 ^ l)) (fit ls ns) h in
    let q = both (nat_le l 30) (nat_lt n (2 ^ l)) p.0 in
    (leb-true l 30 q.0, ltb-true n (2 ^ l) q.1)
fit_at (l ∷ ls) (n ∷ ns) (suc i) h lt =
    let b : i < length ls = omega arith in
    fit_at ls ns i (both (nat_le l 30 && nat_lt n (2 ^ l)) (fit ls ns) h).1 b

-- the tables' entry of a byte
pub entry : (s : ℕ) → s < 256 → (code_of s ≡ bits_of (get_or LENGTHS s 0) (get_or NUMBERS s 0)) × (get_or LENGTHS s 0 ≤ 30) × (get_or NUMBERS s 0 < 2 ^ get_or LENGTHS s 0)
unfolding code_at
entry s h =
    let lt : s < length LENGTHS = omega (arith, length-LENGTHS) in
    let f = fit_at LENGTHS NUMBERS s codes_fit lt in
    (code_of-at s (omega arith), f.0, f.1)

-- the same at the index that the code computes
pub entry_at : (s i : ℕ) → s < 256 → i ≡ s → (code_of s ≡ bits_of (get_or LENGTHS i 0) (get_or NUMBERS i 0)) × (get_or LENGTHS i 0 ≤ 30) × (get_or NUMBERS i 0 < 2 ^ get_or LENGTHS i 0)
entry_at s i h e =
    let at : ℕ → Type 0 = λ k. (code_of s ≡ bits_of (get_or LENGTHS k 0) (get_or NUMBERS k 0)) × (get_or LENGTHS k 0 ≤ 30) × (get_or NUMBERS k 0 < 2 ^ get_or LENGTHS k 0) in
    subst at (sym e) (entry s h)
