-- All bytes are the code of a text, or have a fault.
use Rattle.std.proofs.Common.{◌≡◌, ℕ, ◌<◌, ◌≤◌, ◌⊎◌, inl, inr, suc, zero, Bool, true, false, List, [], ◌∷◌, ◌++◌, length, refl, sym, ◌∙◌, ap, arith, append_assoc, length-append}
use Rattle.std.specs.Prelude.{replicate}
use Rattle.std.specs.List.{Contains}
use Rattle.std.proofs.lemmas.List.Elements.{All-nil, All-cons}
use Rattle.std.proofs.lemmas.Bool.{cases_lt}
use Rattle.mq_huff.specs.Code.{code_of}
use Rattle.mq_huff.specs.Coded.{bits, joined, AreBytes, IsCoded, MeetsEos, BeginsWithNoCode, IsBadlyPadded}
use Rattle.mq_huff.proofs.Unique.{first_code}

-- whether bits begin with a code
abbrev BeginsOr : List Bool → List Bool → Type 0
BeginsOr code all = ((rest : List Bool) × (all ≡ code ++ rest)) ⊎ ((rest : List Bool) → all ≡ code ++ rest → ⊥)

behind_first : (b : Bool) (code all : List Bool) → BeginsOr code all → BeginsOr (b ∷ code) (b ∷ all)
behind_first b code all (inl begins) = inl (begins.0, ap (λ t. b ∷ t) begins.1)
behind_first b code all (inr never) = inr (λ rest e. let t : all ≡ code ++ rest = cc in never rest t)

begins_or : (code all : List Bool) → BeginsOr code all
begins_or [] all = inl (all, refl)
begins_or (b ∷ code) [] = inr (λ rest e. absurd cc)
begins_or (true ∷ code) (true ∷ all) = behind_first true code all (begins_or code all)
begins_or (false ∷ code) (false ∷ all) = behind_first false code all (begins_or code all)
begins_or (true ∷ code) (false ∷ all) = inr (λ rest e. absurd cc)
begins_or (false ∷ code) (true ∷ all) = inr (λ rest e. absurd cc)

-- a symbol up to this one whose code begins the bits, or none
abbrev FoundOr : (ℕ → List Bool) → ℕ → List Bool → Type 0
FoundOr code n all =
    ((s : ℕ) × (rest : List Bool) × (s ≤ n) × (all ≡ code s ++ rest)) ⊎ ((s : ℕ) (rest : List Bool) → s ≤ n → all ≡ code s ++ rest → ⊥)

this_or : (code : ℕ → List Bool) (n : ℕ) (all : List Bool) → BeginsOr (code (suc n)) all → FoundOr code n all → FoundOr code (suc n) all
this_or code n all (inl begins) found = inl (suc n, begins.0, omega arith, begins.1)
this_or code n all (inr never) (inl found) = inl (found.0, found.1, omega (arith, found.2), found.3)
this_or code n all (inr never) (inr none) = inr (λ s rest le e. elim (cases_lt s (suc n)) [
  | inl below ↦ none s rest (omega arith) e
  | inr above ↦
      let same : s ≡ suc n = omega arith in
      never rest (e ∙ ap (λ t. code t ++ rest) same)
])

found_or : (code : ℕ → List Bool) (n : ℕ) (all : List Bool) → FoundOr code n all
found_or code zero all = elim (begins_or (code zero) all) [
  | inl begins ↦ inl (zero, begins.0, omega arith, begins.1)
  | inr never ↦ inr (λ s rest le e. let same : s ≡ zero = omega arith in never rest (e ∙ ap (λ t. code t ++ rest) same))
]
found_or code (suc n) all = this_or code n all (begins_or (code (suc n)) all) (found_or code n all)

-- no code is empty
some_bits : (s : ℕ) → s ≤ 256 → code_of s ≡ [] → ⊥
some_bits s le e =
    let first = (first_code s 0 (code_of 0 ++ []) [] le (omega arith) (ap (λ c. c ++ (code_of 0 ++ [])) e)).0 in
    let second = (first_code s 1 (code_of 1 ++ []) [] le (omega arith) (ap (λ c. c ++ (code_of 1 ++ [])) e)).0 in
    omega arith

is_long : (code : List Bool) → (code ≡ [] → ⊥) → 0 < length code
is_long [] never = absurd (never refl)
is_long (b ∷ code) never = omega arith

-- the codes of some bytes, and then no code or that of EOS
record Parsed (all : List Bool) : Type 0 where
  pub text : List ℕ
  pub rest : List Bool
  pub are_bytes : AreBytes text
  pub spelled : all ≡ joined text ++ rest
  pub last : BeginsWithNoCode rest ⊎ ((more : List Bool) × (rest ≡ code_of 256 ++ more))

nothing : (all : List Bool) → BeginsWithNoCode all ⊎ ((more : List Bool) × (all ≡ code_of 256 ++ more)) → Parsed all
nothing all last = record { text = []; rest = all; are_bytes = All-nil (λ x. x < 256); spelled = refl; last = last }

one_more : (s : ℕ) (all after : List Bool) → s < 256 → all ≡ code_of s ++ after → Parsed after → Parsed all
one_more s all after lt e p = record {
  text = s ∷ p.text;
  rest = p.rest;
  are_bytes = All-cons (λ x. x < 256) s p.text lt p.are_bytes;
  spelled = e ∙ ap (λ t. code_of s ++ t) p.spelled ∙ sym (append_assoc (code_of s) (joined p.text) p.rest);
  last = p.last;
}

no_code : (all : List Bool) → ((s : ℕ) (rest : List Bool) → s ≤ 256 → all ≡ code_of s ++ rest → ⊥) → BeginsWithNoCode all
no_code all none = λ s after le e. none s after le e

parse : (n : ℕ) (all : List Bool) → length all ≤ n → Parsed all
parse zero all le = elim (found_or code_of 256 all) [
  | inr none ↦ nothing all (inl (no_code all none))
  | inl found ↦
      let long = is_long (code_of found.0) (some_bits found.0 found.2) in
      absurd (omega (arith, ap length found.3, length-append (code_of found.0) found.1))
]
parse (suc n) all le = elim (found_or code_of 256 all) [
  | inr none ↦ nothing all (inl (no_code all none))
  | inl found ↦
      let long = is_long (code_of found.0) (some_bits found.0 found.2) in
      let fewer : length found.1 ≤ n = omega (arith, ap length found.3, length-append (code_of found.0) found.1) in
      elim (cases_lt found.0 256) [
        | inl byte ↦ one_more found.0 all found.1 byte found.3 (parse n found.1 fewer)
        | inr eos ↦
            let same : found.0 ≡ 256 = omega (arith, found.2) in
            nothing all (inr (found.1, found.3 ∙ ap (λ t. code_of t ++ found.1) same))
      ]
]

-- ones alone, or a zero among them
ones_or : (rest : List Bool) → (rest ≡ replicate (length rest) true) ⊎ Contains rest false
ones_or [] = inl refl
ones_or (false ∷ rest) = inr (zero, omega arith, refl)
ones_or (true ∷ rest) = elim (ones_or rest) [
  | inl ones ↦ inl (ap (λ t. true ∷ t) ones)
  | inr some ↦ inr (suc some.0, omega (arith, some.1), some.2)
]

abbrev Outcome : List ℕ → Type 0
Outcome bytes = ((text : List ℕ) × IsCoded text bytes) ⊎ (MeetsEos bytes ⊎ IsBadlyPadded bytes)

padded : (bytes text : List ℕ) (rest : List Bool) → AreBytes text → bits bytes ≡ joined text ++ rest → BeginsWithNoCode rest → Outcome bytes
padded bytes text rest are_bytes spelled last = elim (ones_or rest) [
  | inr zeros ↦ inr (inr (record { text = text; rest = rest; are_bytes = are_bytes; spelled = spelled; last = last; bad = inr zeros }))
  | inl ones ↦ elim (cases_lt (length rest) 8) [
    | inl short ↦ inl (text, record { are_bytes = are_bytes; padding = length rest; short = short; spelled = spelled ∙ ap (λ t. joined text ++ t) ones })
    | inr long ↦ inr (inr (record { text = text; rest = rest; are_bytes = are_bytes; spelled = spelled; last = last; bad = inl long }))
  ]
]

met : (bytes text : List ℕ) (rest more : List Bool) → AreBytes text → bits bytes ≡ joined text ++ rest → rest ≡ code_of 256 ++ more → MeetsEos bytes
met bytes text rest more are_bytes spelled e = record {
  text = text;
  rest = more;
  are_bytes = are_bytes;
  met = spelled ∙ ap (λ t. joined text ++ t) e ∙ sym (append_assoc (joined text) (code_of 256) more);
}

pub outcome : (bytes : List ℕ) → Outcome bytes
outcome bytes =
    let p = parse (length (bits bytes)) (bits bytes) (omega arith) in
    elim p.last [
      | inl none ↦ padded bytes p.text p.rest p.are_bytes p.spelled none
      | inr eos ↦ inr (inl (met bytes p.text p.rest eos.0 p.are_bytes p.spelled eos.1))
    ]
