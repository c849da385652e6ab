-- Integers and strings are read back.
use Rattle.std.proofs.Common.{◌≡◌, ℕ, ◌+◌, ◌-◌, ◌*◌, ◌/◌, ◌%◌, ◌^◌, ◌<◌, ◌≤◌, inl, inr, zero, suc, Bool, true, false, cond, List, [], ◌∷◌, ◌++◌, length, Some, None, Ok, refl, sym, ◌∙◌, ap, subst, arith, pow-suc}
use Rattle.std.specs.Prelude.{nat_lt, nat_le, slice_index}
use Rattle.std.proofs.lemmas.Bool.{cases_lt, lt-ltb, le-ltb, le-leb, lt-leb}
use Rattle.std.proofs.lemmas.List.{append_assoc, length-append}
use Rattle.std.proofs.Math.Nat.{mul_assoc, mul_comm, add_assoc, add-mul, mod-eq_of_lt, zero-add}
use Rattle.std.proofs.Math.Seq.{take-append_seam, drop-append_seam}
use Rattle.mq_huff.specs.Coded.{IsCoded}
use Rattle.mq_hpack.specs.Integer.{further, integer_of}
use Rattle.mq_hpack.specs.Text.{IsLong, IsPlain, IsString}
use Rattle.mq_hpack.specs.Encoder.{sevens, spelled, IsText}
use Rattle.mq_hpack.proofs.Integers.{first_byte, full_byte}
use Rattle.mq_hpack.proofs.Spelling.{spelled_short, spelled_long, last_seven, more_sevens}

-- what a number is worth, by its lowest seven bits and the others
worth_split : (base n w : ℕ) → base + (n % 128 + 128 - 128) * w + n / 128 * (w * 128) ≡ base + n * w
worth_split base n w =
    let r : ℕ = n % 128 in
    let q : ℕ = n / 128 in
    let e : n ≡ r + q * 128 = omega arith in
    let f : n * w ≡ r * w + q * 128 * w = ap (λ m. m * w) e ∙ add-mul r (q * 128) w in
    let g : q * (w * 128) ≡ q * 128 * w = ap (λ m. q * m) (mul_comm w 128) ∙ sym (mul_assoc q 128 w) in
    let z : r + 128 - 128 ≡ r = omega arith in
    ap (λ m. base + m * w + q * (w * 128)) z ∙ ap (λ m. base + r * w + m) g ∙ add_assoc base (r * w) (q * 128 * w) ∙ ap (λ m. base + m) (sym f)

further_last : (j w base n : ℕ) (rest : List ℕ) → n < 128 → base + n * w < 2 ^ 32 → further (suc j) w base (n ∷ rest) ≡ Some (base + n * w, rest)
further_last j w base n rest small fits =
    ap (λ t. cond t (cond (nat_lt (base + n * w) (2 ^ 32)) (Some (base + n * w, rest)) None) (further j (w * 128) (base + (n - 128) * w) rest)) (lt-ltb n 128 small)
    ∙ ap (λ t. cond t (Some (base + n * w, rest)) None) (lt-ltb (base + n * w) (2 ^ 32) fits)

further_more : (j w base b : ℕ) (rest : List ℕ) → 128 ≤ b → further (suc j) w base (b ∷ rest) ≡ further j (w * 128) (base + (b - 128) * w) rest
further_more j w base b rest h =
    ap (λ t. cond t (cond (nat_lt (base + b * w) (2 ^ 32)) (Some (base + b * w, rest)) None) (further j (w * 128) (base + (b - 128) * w) rest)) (le-ltb b 128 h)

-- the further bytes of a number that has no more than j + 1 of them
further_back : (j k w base n : ℕ) (rest : List ℕ) → n < 128 ^ suc j → n ≤ k → base + n * w < 2 ^ 32 → further (suc j) w base (sevens k n ++ rest) ≡ Some (base + n * w, rest)
further_back j zero w base n rest few enough fits = further_last j w base n rest (omega arith) fits
further_back zero (suc k) w base n rest few enough fits =
    ap (λ xs. further 1 w base (xs ++ rest)) (last_seven (suc k) n enough few) ∙ further_last zero w base n rest few fits
further_back (suc j) (suc k) w base n rest few enough fits = elim (cases_lt n 128) [
  | inl small ↦
      ap (λ xs. further (suc (suc j)) w base (xs ++ rest)) (last_seven (suc k) n enough small) ∙ further_last (suc j) w base n rest small fits
  | inr large ↦
      let p = pow-suc 128 (suc j) in
      let e = worth_split base n w in
      ap (λ xs. further (suc (suc j)) w base (xs ++ rest)) (more_sevens k n large)
      ∙ further_more (suc j) w base (n % 128 + 128) (sevens k (n / 128) ++ rest) (omega arith)
      ∙ further_back j k (w * 128) (base + (n % 128 + 128 - 128) * w) (n / 128) rest (omega arith) (omega arith) (subst (λ (m : ℕ). m < 2 ^ 32) (sym e) fits)
      ∙ ap (λ m. Some (m, rest)) e
]

-- an integer, where the bits above its first ones don't touch them
pub integer_back : (form prefix n : ℕ) (rest : List ℕ) → ((k : ℕ) → k < 2 ^ prefix → (form + k) % 2 ^ prefix ≡ k) → 1 ≤ 2 ^ prefix → n < 2 ^ 32
    → integer_of prefix (spelled form prefix n ++ rest) ≡ Some (n, rest)
integer_back form prefix n rest clear some small = elim (cases_lt n (2 ^ prefix - 1)) [
  | inl short ↦
      let e = clear n (omega arith) in
      ap (λ xs. integer_of prefix (xs ++ rest)) (spelled_short form prefix n short)
      ∙ first_byte prefix (form + n) rest (subst (λ (m : ℕ). m < 2 ^ prefix - 1) (sym e) short)
      ∙ ap (λ m. Some (m, rest)) e
  | inr long ↦
      let full : ℕ = 2 ^ prefix - 1 in
      let e = clear full (omega arith) in
      let w : full + (n - full) * 1 ≡ n = omega arith in
      ap (λ xs. integer_of prefix (xs ++ rest)) (spelled_long form prefix n long)
      ∙ full_byte prefix (form + full) (sevens n (n - full) ++ rest) (subst (λ (m : ℕ). full ≤ m) (sym e) (omega arith))
      ∙ further_back 4 n 1 full (n - full) rest (omega arith) (omega arith) (subst (λ (m : ℕ). m < 2 ^ 32) (sym w) small)
      ∙ ap (λ m. Some (m, rest)) w
]

-- the first byte
pub record Begins (form prefix n : ℕ) : Type 0 where
  pub first : ℕ
  pub more : List ℕ
  pub is : spelled form prefix n ≡ first ∷ more
  pub above : form ≤ first
  pub below : first ≤ form + (2 ^ prefix - 1)

pub begins : (form prefix n : ℕ) → Begins form prefix n
begins form prefix n = elim (cases_lt n (2 ^ prefix - 1)) [
  | inl small ↦ record { first = form + n; more = []; is = spelled_short form prefix n small; above = omega arith; below = omega arith }
  | inr large ↦ record {
    first = form + (2 ^ prefix - 1);
    more = sevens n (n - (2 ^ prefix - 1));
    is = spelled_long form prefix n large;
    above = omega arith;
    below = omega arith;
  }
]

clear_indexed : (k : ℕ) → k < 2 ^ 7 → (128 + k) % 2 ^ 7 ≡ k
clear_indexed k h = omega arith

clear_none : (prefix k : ℕ) → k < 2 ^ prefix → (0 + k) % 2 ^ prefix ≡ k
clear_none prefix k h = ap (λ m. m % 2 ^ prefix) (zero-add k) ∙ mod-eq_of_lt h

clear_limit : (k : ℕ) → k < 2 ^ 5 → (32 + k) % 2 ^ 5 ≡ k
clear_limit k h = omega arith

-- the integers that the encoder writes
pub indexed_back : (n : ℕ) (rest : List ℕ) → n < 2 ^ 32 → integer_of 7 (spelled 128 7 n ++ rest) ≡ Some (n, rest)
indexed_back n rest h = integer_back 128 7 n rest clear_indexed (omega arith) h

pub plain_back : (n : ℕ) (rest : List ℕ) → n < 2 ^ 32 → integer_of 7 (spelled 0 7 n ++ rest) ≡ Some (n, rest)
plain_back n rest h = integer_back 0 7 n rest (clear_none 7) (omega arith) h

pub literal_back : (n : ℕ) (rest : List ℕ) → n < 2 ^ 32 → integer_of 4 (spelled 0 4 n ++ rest) ≡ Some (n, rest)
literal_back n rest h = integer_back 0 4 n rest (clear_none 4) (omega arith) h

pub limit_back : (n : ℕ) (rest : List ℕ) → n < 2 ^ 32 → integer_of 5 (spelled 32 5 n ++ rest) ≡ Some (n, rest)
limit_back n rest h = integer_back 32 5 n rest clear_limit (omega arith) h

-- a string, by whether it is in the Huffman code
coded_first : (n : ℕ) (xs : List ℕ) → nat_le 128 (slice_index (spelled 128 7 n ++ xs) 0) ≡ true
coded_first n xs =
    let b = begins 128 7 n in
    ap (λ ys. nat_le 128 (slice_index (ys ++ xs) 0)) b.is ∙ le-leb 128 b.first b.above

plain_first : (n : ℕ) (xs : List ℕ) → nat_le 128 (slice_index (spelled 0 7 n ++ xs) 0) ≡ false
plain_first n xs =
    let b = begins 0 7 n in
    let below = b.below in
    ap (λ ys. nat_le 128 (slice_index (ys ++ xs) 0)) b.is ∙ lt-leb 128 b.first (omega arith)

long_back : (coded tested : Bool) (raw text rest : List ℕ) → tested ≡ coded → IsPlain coded raw (Ok text) → IsLong tested (length raw) (raw ++ rest) (Ok (text, rest))
long_back coded tested raw text rest e plain = (
  omega (arith, length-append raw rest),
  sym (drop-append_seam raw rest),
  subst (λ (xs : List ℕ). IsPlain tested xs (Ok text)) (sym (take-append_seam raw rest)) (subst (λ (b : Bool). IsPlain b raw (Ok text)) (sym e) plain),
)

coded_back : (raw text rest : List ℕ) → length raw < 2 ^ 32 → IsCoded text raw → IsString (spelled 128 7 (length raw) ++ (raw ++ rest)) (Ok (text, rest))
coded_back raw text rest small h =
    ((length raw, raw ++ rest), indexed_back (length raw) (raw ++ rest) small, long_back true _ raw text rest (coded_first (length raw) (raw ++ rest)) h)

plain_text_back : (text rest : List ℕ) → length text < 2 ^ 32 → IsString (spelled 0 7 (length text) ++ (text ++ rest)) (Ok (text, rest))
plain_text_back text rest small =
    ((length text, text ++ rest), plain_back (length text) (text ++ rest) small, long_back false _ text text rest (plain_first (length text) (text ++ rest)) refl)

pub string_back : (text bytes rest : List ℕ) → IsText text bytes → length text < 2 ^ 32 → IsString (bytes ++ rest) (Ok (text, rest))
string_back text bytes rest (inl h) small =
    let e : bytes ++ rest ≡ spelled 0 7 (length text) ++ (text ++ rest) = ap (λ xs. xs ++ rest) h.1 ∙ append_assoc (spelled 0 7 (length text)) text rest in
    subst (λ (xs : List ℕ). IsString xs (Ok (text, rest))) (sym e) (plain_text_back text rest small)
string_back text bytes rest (inr h) small =
    let raw = h.0 in
    let e : bytes ++ rest ≡ spelled 128 7 (length raw) ++ (raw ++ rest) = ap (λ xs. xs ++ rest) h.3 ∙ append_assoc (spelled 128 7 (length raw)) raw rest in
    let shorter = h.2 in
    subst (λ (xs : List ℕ). IsString xs (Ok (text, rest))) (sym e) (coded_back raw text rest (omega arith) h.1)
