-- The first bytes of texts.
use Rattle.std.proofs.Common.{◌≡◌, ℕ, suc, ◌<◌, ◌⊎◌, Bool, true, false, cond, ◌||◌, ◌==◌, IsTrue, List, [], ◌∷◌, ◌++◌, length, Some, None, refl, sym, ap, ◌∙◌, subst, arith, append-nil, inl, inr}
use Rattle.std.proofs.lemmas.Bool.{cond-false, ne_eqb}
use Rattle.std.proofs.lemmas.List.Elements.{All-nil, All-cons, All-head, All-tail}
use Rattle.httparse.specs.Grammar.{AllPass}
use Rattle.httparse.specs.Pieces.{Stops}
use Rattle.mq_head.specs.Short.{has, behind, last_line}

-- a text that begins two texts in a row ends in the first, or goes beyond it
pub begins_two : (x more a b : List ℕ) → x ++ more ≡ a ++ b
    → ((c : List ℕ) × (a ≡ x ++ c) × (0 < length c)) ⊎ ((d : List ℕ) × (x ≡ a ++ d) × (d ++ more ≡ b))
begins_two x more [] b e = inr (x, refl, e)
begins_two [] more (a ∷ rest) b e = inl (a ∷ rest, refl, omega arith)
begins_two (x ∷ xs) more (a ∷ rest) b e =
    elim (begins_two xs more rest b (cc)) [ inl s ↦ inl (s.0, cc, s.2) | inr t ↦ inr (t.0, cc, t.2) ]

-- passing bytes in front belong to the run
pub run_begins : (test : ℕ → Bool) (a w more r : List ℕ) → AllPass test a → Stops test r → a ++ more ≡ w ++ r
    → (c : List ℕ) × (w ≡ a ++ c) × (more ≡ c ++ r)
run_begins test [] w more r pass stops e = (w, refl, e)
run_begins test (x ∷ a) [] more [] pass stops e = absurd stops
run_begins test (x ∷ a) [] more (y ∷ r) pass stops e =
    let passes = All-head (λ v. test v ≡ true) x a pass in absurd (cc)
run_begins test (x ∷ a) (y ∷ w) more r pass stops e =
    let tail = run_begins test a w more r (All-tail (λ v. test v ≡ true) x a pass) stops (cc) in
    (tail.0, cc, tail.2)

-- both parts of a text that passes pass
pub pass_front : (test : ℕ → Bool) (a b : List ℕ) → AllPass test (a ++ b) → AllPass test a × AllPass test b
pass_front test [] b pass = (All-nil (λ v. test v ≡ true), pass)
pass_front test (x ∷ a) b pass =
    let rest = pass_front test a b (All-tail (λ v. test v ≡ true) x (a ++ b) pass) in
    (All-cons (λ v. test v ≡ true) x a (All-head (λ v. test v ≡ true) x (a ++ b) pass) rest.0, rest.1)

-- a byte that fails the test is not among those that pass
pub fails_other : (test : ℕ → Bool) (byte x : ℕ) → test byte ≡ false → IsTrue (test x) → (x == byte) ≡ false
fails_other test byte x fails passes =
    ne_eqb x byte (λ e. let bad : test byte ≡ true = subst (λ n. test n ≡ true) e passes in cc)

pub has_behind_run : (test : ℕ → Bool) (byte : ℕ) → test byte ≡ false → (xs ys : List ℕ) → AllPass test xs
    → has byte (xs ++ ys) ≡ has byte ys
has_behind_run test byte fails [] ys pass = refl
has_behind_run test byte fails (x ∷ xs) ys pass =
    ap (λ t. t || has byte (xs ++ ys)) (fails_other test byte x fails (All-head (λ b. IsTrue (test b)) x xs pass))
    ∙ has_behind_run test byte fails xs ys (All-tail (λ b. IsTrue (test b)) x xs pass)

pub behind_run : (test : ℕ → Bool) (byte : ℕ) → test byte ≡ false → (xs ys : List ℕ) → AllPass test xs
    → behind byte (xs ++ ys) ≡ behind byte ys
behind_run test byte fails [] ys pass = refl
behind_run test byte fails (x ∷ xs) ys pass =
    cond-false (x == byte) _ _ (fails_other test byte x fails (All-head (λ b. IsTrue (test b)) x xs pass))
    ∙ behind_run test byte fails xs ys (All-tail (λ b. IsTrue (test b)) x xs pass)

pub has_none : (test : ℕ → Bool) (byte : ℕ) → test byte ≡ false → (xs : List ℕ) → AllPass test xs → has byte xs ≡ false
has_none test byte fails xs pass = ap (has byte) (sym (append-nil xs)) ∙ has_behind_run test byte fails xs [] pass

pub behind_none : (test : ℕ → Bool) (byte : ℕ) → test byte ≡ false → (xs : List ℕ) → AllPass test xs → behind byte xs ≡ None
behind_none test byte fails xs pass = ap (behind byte) (sym (append-nil xs)) ∙ behind_run test byte fails xs [] pass

-- a byte that is there
pub has_there : (byte : ℕ) (xs ys : List ℕ) → (byte == byte) ≡ true → has byte (xs ++ byte ∷ ys) ≡ true
has_there byte [] ys same = ap (λ t. t || has byte ys) same
has_there byte (x ∷ xs) ys same = by_test (x == byte) (has_there byte xs ys same)
  where
    by_test : (t : Bool) {u : Bool} → u ≡ true → (t || u) ≡ true
    by_test true e = refl
    by_test false e = e

-- a text that lacks a byte is none of its parts' that has it
pub has_front : (byte : ℕ) (xs ys : List ℕ) → has byte (xs ++ ys) ≡ false → has byte xs ≡ false
has_front byte [] ys e = refl
has_front byte (x ∷ xs) ys e = by_test (x == byte) (has_front byte xs ys) e
  where
    by_test : (t : Bool) → (has byte (xs ++ ys) ≡ false → has byte xs ≡ false) → (t || has byte (xs ++ ys)) ≡ false → (t || has byte xs) ≡ false
    by_test true tail bad = absurd (cc)
    by_test false tail rest = tail rest

pub behind_lacking : (byte : ℕ) (xs : List ℕ) → has byte xs ≡ false → behind byte xs ≡ None
behind_lacking byte [] e = refl
behind_lacking byte (x ∷ xs) e = by_test (x == byte) (behind_lacking byte xs) e
  where
    by_test : (t : Bool) → (has byte xs ≡ false → behind byte xs ≡ None) → (t || has byte xs) ≡ false → cond t (Some xs) (behind byte xs) ≡ None
    by_test true tail bad = absurd (cc)
    by_test false tail rest = tail rest

pub behind_has : (xs ys : List ℕ) → behind 10 xs ≡ Some ys → has 10 xs ≡ true
behind_has [] ys e = absurd (cc)
behind_has (x ∷ xs) ys e = by_test (x == 10) (behind_has xs ys) e
  where
    by_test : (t : Bool) → (behind 10 xs ≡ Some ys → has 10 xs ≡ true) → cond t (Some xs) (behind 10 xs) ≡ Some ys → (t || has 10 xs) ≡ true
    by_test true tail here = refl
    by_test false tail later = tail later

pub lacks : (xs : List ℕ) → behind 10 xs ≡ None → has 10 xs ≡ false
lacks [] e = refl
lacks (x ∷ xs) e = by_test (x == 10) (lacks xs) e
  where
    by_test : (t : Bool) → (behind 10 xs ≡ None → has 10 xs ≡ false) → cond t (Some xs) (behind 10 xs) ≡ None → (t || has 10 xs) ≡ false
    by_test true tail here = absurd (cc)
    by_test false tail later = tail later

-- ---- the last line

pub last_line_whole : (xs : List ℕ) → has 10 xs ≡ false → last_line xs ≡ xs
last_line_whole [] e = refl
last_line_whole (x ∷ xs) e = cond-false (has 10 (x ∷ xs)) _ _ e

pub last_line_on : (xs ys : List ℕ) → last_line (xs ++ 10 ∷ ys) ≡ last_line ys
last_line_on [] ys = refl
last_line_on (x ∷ xs) ys =
    ap (λ t. cond t (last_line (xs ++ 10 ∷ ys)) (x ∷ (xs ++ 10 ∷ ys))) (has_there 10 (x ∷ xs) ys refl)
    ∙ last_line_on xs ys

pub last_line_behind : (xs ys : List ℕ) → behind 10 xs ≡ Some ys → last_line xs ≡ last_line ys
last_line_behind [] ys e = absurd (cc)
last_line_behind (x ∷ xs) ys e = by_test (x == 10) (last_line_behind xs ys) e
  where
    by_test : (t : Bool) → (behind 10 xs ≡ Some ys → last_line xs ≡ last_line ys)
        → cond t (Some xs) (behind 10 xs) ≡ Some ys → cond (t || has 10 xs) (last_line xs) (x ∷ xs) ≡ last_line ys
    by_test true tail here = let same : xs ≡ ys = cc in ap last_line same
    by_test false tail later = ap (λ t. cond t (last_line xs) (x ∷ xs)) (behind_has xs ys later) ∙ tail later

pub last_line_lacking : (xs : List ℕ) → behind 10 xs ≡ None → last_line xs ≡ xs
last_line_lacking xs e = last_line_whole xs (lacks xs e)

pub behind_shorter : (byte : ℕ) (xs ys : List ℕ) → behind byte xs ≡ Some ys → length ys < length xs
behind_shorter byte [] ys e = absurd (cc)
behind_shorter byte (x ∷ xs) ys e = by_test (x == byte) (behind_shorter byte xs ys) e
  where
    by_test : (t : Bool) → (behind byte xs ≡ Some ys → length ys < length xs) → cond t (Some xs) (behind byte xs) ≡ Some ys → length ys < suc (length xs)
    by_test true tail here = let same : xs ≡ ys = cc in omega (arith, ap length same)
    by_test false tail later = omega (arith, tail later)
