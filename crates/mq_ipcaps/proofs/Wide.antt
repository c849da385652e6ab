-- Sixteen bytes as a number, and a number as sixteen bytes: both by halves.
use Rattle.std.proofs.Common.{◌≡◌, ℕ, ◌+◌, ◌*◌, ◌/◌, ◌%◌, ◌^◌, ◌<◌, List, [], ◌∷◌, ◌++◌, length, get_or, take, drop, refl, sym, ap, ◌∙◌, arith, inl, inr}
use Rattle.std.specs.Int.{w64, w128, to_be_bytes, from_be_bytes}
use Rattle.std.proofs.Math.Nat.{div-div-eq-div-mul}
use Rattle.std.proofs.lemmas.List.{take-append-drop, length-take, length-drop, get_or-drop, get_or-take, get_or_past}
use Rattle.std.proofs.lemmas.Bool.{cases_lt}
use Rattle.std.proofs.lemmas.Nat.{be_bytes_8, from_be_bytes-to_be_bytes_8}

abbrev pub IsBytes : List ℕ → Type 0
IsBytes bytes = (i : ℕ) → get_or bytes i 0 < 256

-- eight bytes by name
eight : (xs : List ℕ) → length xs ≡ 8 → xs ≡ get_or xs 0 0 ∷ get_or xs 1 0 ∷ get_or xs 2 0 ∷ get_or xs 3 0 ∷ get_or xs 4 0 ∷ get_or xs 5 0 ∷ get_or xs 6 0 ∷ get_or xs 7 0 ∷ []
eight [] l = absurd (omega arith)
eight (a0 ∷ []) l = absurd (omega arith)
eight (a0 ∷ a1 ∷ []) l = absurd (omega arith)
eight (a0 ∷ a1 ∷ a2 ∷ []) l = absurd (omega arith)
eight (a0 ∷ a1 ∷ a2 ∷ a3 ∷ []) l = absurd (omega arith)
eight (a0 ∷ a1 ∷ a2 ∷ a3 ∷ a4 ∷ []) l = absurd (omega arith)
eight (a0 ∷ a1 ∷ a2 ∷ a3 ∷ a4 ∷ a5 ∷ []) l = absurd (omega arith)
eight (a0 ∷ a1 ∷ a2 ∷ a3 ∷ a4 ∷ a5 ∷ a6 ∷ []) l = absurd (omega arith)
eight (a0 ∷ a1 ∷ a2 ∷ a3 ∷ a4 ∷ a5 ∷ a6 ∷ a7 ∷ []) l = refl
eight (a0 ∷ a1 ∷ a2 ∷ a3 ∷ a4 ∷ a5 ∷ a6 ∷ a7 ∷ a8 ∷ rest) l = absurd (omega arith)

joined_bytes : (a0 a1 a2 a3 a4 a5 a6 a7 b0 b1 b2 b3 b4 b5 b6 b7 : ℕ) → from_be_bytes w128 (a0 ∷ a1 ∷ a2 ∷ a3 ∷ a4 ∷ a5 ∷ a6 ∷ a7 ∷ b0 ∷ b1 ∷ b2 ∷ b3 ∷ b4 ∷ b5 ∷ b6 ∷ b7 ∷ []) ≡ from_be_bytes w64 (a0 ∷ a1 ∷ a2 ∷ a3 ∷ a4 ∷ a5 ∷ a6 ∷ a7 ∷ []) * 2 ^ 64 + from_be_bytes w64 (b0 ∷ b1 ∷ b2 ∷ b3 ∷ b4 ∷ b5 ∷ b6 ∷ b7 ∷ [])
joined_bytes a0 a1 a2 a3 a4 a5 a6 a7 b0 b1 b2 b3 b4 b5 b6 b7 = omega arith

joined : (xs ys : List ℕ) → length xs ≡ 8 → length ys ≡ 8 → from_be_bytes w128 (xs ++ ys) ≡ from_be_bytes w64 xs * 2 ^ 64 + from_be_bytes w64 ys
joined xs ys l m =
    ap (λ (zs : List ℕ). from_be_bytes w128 (zs ++ ys)) (eight xs l) ∙ ap (λ (zs : List ℕ). from_be_bytes w128 (get_or xs 0 0 ∷ get_or xs 1 0 ∷ get_or xs 2 0 ∷ get_or xs 3 0 ∷ get_or xs 4 0 ∷ get_or xs 5 0 ∷ get_or xs 6 0 ∷ get_or xs 7 0 ∷ zs)) (eight ys m)
    ∙ joined_bytes (get_or xs 0 0) (get_or xs 1 0) (get_or xs 2 0) (get_or xs 3 0) (get_or xs 4 0) (get_or xs 5 0) (get_or xs 6 0) (get_or xs 7 0) (get_or ys 0 0) (get_or ys 1 0) (get_or ys 2 0) (get_or ys 3 0) (get_or ys 4 0) (get_or ys 5 0) (get_or ys 6 0) (get_or ys 7 0)

high : (n p : ℕ) → n / (2 ^ 64 * p) % 256 ≡ n / 2 ^ 64 / p % 256
high n p = ap (λ (m : ℕ). m % 256) (sym (div-div-eq-div-mul n (2 ^ 64) p))

low_0 : (h l n : ℕ) → n ≡ h * 2 ^ 64 + l → n % 256 ≡ l % 256
low_0 h l n e = omega arith

low_1 : (h l n : ℕ) → n ≡ h * 2 ^ 64 + l → n / 256 ^ 1 % 256 ≡ l / 256 ^ 1 % 256
low_1 h l n e = omega arith

low_2 : (h l n : ℕ) → n ≡ h * 2 ^ 64 + l → n / 256 ^ 2 % 256 ≡ l / 256 ^ 2 % 256
low_2 h l n e = omega arith

low_3 : (h l n : ℕ) → n ≡ h * 2 ^ 64 + l → n / 256 ^ 3 % 256 ≡ l / 256 ^ 3 % 256
low_3 h l n e = omega arith

low_4 : (h l n : ℕ) → n ≡ h * 2 ^ 64 + l → n / 256 ^ 4 % 256 ≡ l / 256 ^ 4 % 256
low_4 h l n e = omega arith

low_5 : (h l n : ℕ) → n ≡ h * 2 ^ 64 + l → n / 256 ^ 5 % 256 ≡ l / 256 ^ 5 % 256
low_5 h l n e = omega arith

low_6 : (h l n : ℕ) → n ≡ h * 2 ^ 64 + l → n / 256 ^ 6 % 256 ≡ l / 256 ^ 6 % 256
low_6 h l n e = omega arith

low_7 : (h l n : ℕ) → n ≡ h * 2 ^ 64 + l → n / 256 ^ 7 % 256 ≡ l / 256 ^ 7 % 256
low_7 h l n e = omega arith

-- the bytes of a number are those of its halves
halves : (h l n : ℕ) → l < 2 ^ 64 → n ≡ h * 2 ^ 64 + l → to_be_bytes w128 n ≡ to_be_bytes w64 h ++ to_be_bytes w64 l
halves h l n fits e =
    let top : n / 2 ^ 64 ≡ h = omega arith in
    λ i. (high n (256 ^ 7) ∙ ap (λ (m : ℕ). m / 256 ^ 7 % 256) top) i ∷ (high n (256 ^ 6) ∙ ap (λ (m : ℕ). m / 256 ^ 6 % 256) top) i ∷ (high n (256 ^ 5) ∙ ap (λ (m : ℕ). m / 256 ^ 5 % 256) top) i ∷ (high n (256 ^ 4) ∙ ap (λ (m : ℕ). m / 256 ^ 4 % 256) top) i ∷ (high n (256 ^ 3) ∙ ap (λ (m : ℕ). m / 256 ^ 3 % 256) top) i ∷ (high n (256 ^ 2) ∙ ap (λ (m : ℕ). m / 256 ^ 2 % 256) top) i ∷ (high n (256 ^ 1) ∙ ap (λ (m : ℕ). m / 256 ^ 1 % 256) top) i ∷ ap (λ (m : ℕ). m % 256) top i ∷ low_7 h l n e i ∷ low_6 h l n e i ∷ low_5 h l n e i ∷ low_4 h l n e i ∷ low_3 h l n e i ∷ low_2 h l n e i ∷ low_1 h l n e i ∷ low_0 h l n e i ∷ []

pub IsBytes-drop : (n : ℕ) (bytes : List ℕ) → IsBytes bytes → IsBytes (drop n bytes)
IsBytes-drop n bytes h i = rw get_or-drop (h (n + i))

pub IsBytes-take : (n : ℕ) (bytes : List ℕ) → IsBytes bytes → IsBytes (take n bytes)
IsBytes-take n bytes h i =
    elim (cases_lt i n) [
      | inl lt ↦ rw (get_or-take n bytes i 0 lt) (h i)
      | inr le ↦ rw (get_or_past (take n bytes) i 0 (omega (arith, length-take n bytes))) (omega arith)
    ]

below_8 : (xs : List ℕ) → IsBytes xs → from_be_bytes w64 xs < 2 ^ 64
below_8 xs h = omega (arith, h 0, h 1, h 2, h 3, h 4, h 5, h 6, h 7)

pub from_be_bytes-to_be_bytes_16 : (n : ℕ) → n < 2 ^ 128 → from_be_bytes w128 (to_be_bytes w128 n) ≡ n
from_be_bytes-to_be_bytes_16 n fits =
    let h : ℕ = n / 2 ^ 64 in
    let l : ℕ = n % 2 ^ 64 in
    ap (from_be_bytes w128) (halves h l n (omega arith) (omega arith))
    ∙ joined (to_be_bytes w64 h) (to_be_bytes w64 l) refl refl
    ∙ omega (arith, from_be_bytes-to_be_bytes_8 h (omega arith), from_be_bytes-to_be_bytes_8 l (omega arith))

pub be_bytes_16 : (bs : List ℕ) → length bs ≡ 16 → IsBytes bs → to_be_bytes w128 (from_be_bytes w128 bs) ≡ bs
be_bytes_16 bs len small =
    let xs : List ℕ = take 8 bs in
    let ys : List ℕ = drop 8 bs in
    let l : length xs ≡ 8 = omega (arith, length-take 8 bs) in
    let m : length ys ≡ 8 = omega (arith, length-drop 8 bs) in
    let is : from_be_bytes w128 bs ≡ from_be_bytes w64 xs * 2 ^ 64 + from_be_bytes w64 ys = ap (from_be_bytes w128) (sym (take-append-drop 8 bs)) ∙ joined xs ys l m in
    halves (from_be_bytes w64 xs) (from_be_bytes w64 ys) (from_be_bytes w128 bs) (below_8 ys (IsBytes-drop 8 bs small)) is
    ∙ ap (λ (zs : List ℕ). zs ++ to_be_bytes w64 (from_be_bytes w64 ys)) (be_bytes_8 xs _ l (IsBytes-take 8 bs small) refl)
    ∙ ap (λ (zs : List ℕ). xs ++ zs) (be_bytes_8 ys _ m (IsBytes-drop 8 bs small) refl)
    ∙ take-append-drop 8 bs

pub below_16 : (bs : List ℕ) → length bs ≡ 16 → IsBytes bs → from_be_bytes w128 bs < 2 ^ 128
below_16 bs len small =
    let is = joined (take 8 bs) (drop 8 bs) (omega (arith, length-take 8 bs)) (omega (arith, length-drop 8 bs)) in
    let same : from_be_bytes w128 bs ≡ from_be_bytes w128 (take 8 bs ++ drop 8 bs) = ap (from_be_bytes w128) (sym (take-append-drop 8 bs)) in
    omega (arith, same, is, below_8 (take 8 bs) (IsBytes-take 8 bs small), below_8 (drop 8 bs) (IsBytes-drop 8 bs small))
