-- The decimal digits of a number.
use Rattle.std.proofs.Common.{◌≡◌, ◌≢◌, ℕ, ◌<◌, ◌≤◌, ◌^◌, ◌⊎◌, inl, inr, List, [], ◌∷◌, length, get_or, Result, Ok, Err, decimal, sym, ◌∙◌, ap, arith, Option, Some}
use Rattle.std.specs.Option.{IfSome}
use Rattle.std.proofs.lemmas.Bool.{cases_lt}
use Rattle.std.proofs.lemmas.Fmt.{decimal_is_IsNumeral, decimal_digit, first_decimal, decimal-digits_value}
use Rattle.std.proofs.lemmas.Str.Parse.{IsNumeralModel, numerals_by_value, tells_digits, digit_at, parse_plain}
use Rattle.std.specs.Result.{result_ok}
use Rattle.std.specs.Str.Parse.{AllDigits, IsNumeral, digits_value, ParsesUnsigned}

own : IsNumeralModel (AllDigits 10) (digits_value 10)
own = numerals_by_value (AllDigits 10) tells_digits

zero_text : (n : ℕ) → n ≤ 0 → decimal n ≡ 48 ∷ []
zero_text n h = let z : n ≡ 0 = omega arith in rw z (decimal_digit 0 (omega arith))

-- a number is `0`, or begins with another digit
pub first_digit : (n : ℕ) → n < 2 ^ 64 → (decimal n ≡ 48 ∷ []) ⊎ ((48 < get_or (decimal n) 0 0) × (get_or (decimal n) 0 0 ≤ 57))
first_digit n small =
    elim (cases_lt 0 n) [
      | inl some ↦ (
          let numeral = (decimal_is_IsNumeral n small).0 in
          let place = digit_at (decimal n) 0 numeral.1 numeral.0 in
          inr (first_decimal n some small, place.1)
          )
      | inr none ↦ inl (zero_text n none)
    ]

-- how a number's text begins
pub record Begins (text : List ℕ) : Type 0 where
  pub some : 0 < length text
  pub low : 48 ≤ get_or text 0 0
  pub high : get_or text 0 0 ≤ 57
  pub long : 1 < length text → 48 < get_or text 0 0

pub number_begins : (text : List ℕ) (n : ℕ) → n < 2 ^ 64 → text ≡ decimal n → Begins text
number_begins text n small is =
    elim (first_digit n small) [
      | inl zero ↦ (let t : text ≡ 48 ∷ [] = is ∙ zero in rw t (record { some = omega arith; low = omega arith; high = omega arith; long = λ h. absurd (omega arith) }))
      | inr digit ↦ (
          let some = (decimal_is_IsNumeral n small).0.0 in
          let low = digit.0 in
          let high = digit.1 in
          rw is (record { some = some; low = omega arith; high = high; long = λ h. low })
          )
    ]

-- digits that begin as a number does are its decimal spelling
pub spelled : (text : List ℕ) → IsNumeral 10 text → 48 ≤ get_or text 0 0 → (get_or text 0 0 ≡ 48 → length text ≡ 1) → digits_value 10 text < 2 ^ 64
    → text ≡ decimal (digits_value 10 text)
spelled text numeral digit zero small = sym (decimal-digits_value own text numeral.1 numeral.0 zero small)

-- what `parse` answers to a text without a plus
pub parsed : {E : Type 0} (text : List ℕ) (r : Result ℕ E) (answer : Option ℕ) → get_or text 0 0 ≢ 43 → ParsesUnsigned 64 10 text r → answer ≡ result_ok r
    → IfSome answer (λ n. IsNumeral 10 text × (n ≡ digits_value 10 text) × (n < 2 ^ 64))
parsed {E = E} text (Ok n) answer plus parses is =
    let told = parse_plain own {E = E} 64 text (Ok n) parses plus in
    let value = told.1 in
    let small = told.0.2 in
    rw is ((told.0.1, told.0.0), told.1, omega arith)
parsed text (Err e) answer plus parses is = rw is tt

pub parses : {E : Type 0} (text : List ℕ) (r : Result ℕ E) (answer : Option ℕ) → get_or text 0 0 ≢ 43 → ParsesUnsigned 64 10 text r → answer ≡ result_ok r
    → IsNumeral 10 text → digits_value 10 text < 2 ^ 64 → answer ≡ Some (digits_value 10 text)
parses {E = E} text (Ok n) answer plus h is numeral small =
    let told = parse_plain own {E = E} 64 text (Ok n) h plus in
    is ∙ ap (λ (m : ℕ). Some m) told.1
parses {E = E} text (Err e) answer plus h is numeral small =
    let told = parse_plain own {E = E} 64 text (Err e) h plus in
    absurd (told (numeral.1, numeral.0, small))

pub no_plus : (text : List ℕ) → IsNumeral 10 text → get_or text 0 0 ≢ 43
no_plus text numeral = λ e. let place = digit_at text 0 numeral.1 numeral.0 in let low = place.0 in omega arith

-- a number's text is digits, and tells the number
pub numeral_of : (text : List ℕ) (n : ℕ) → n < 2 ^ 64 → text ≡ decimal n → IsNumeral 10 text × (digits_value 10 text ≡ n)
numeral_of text n small is = rw is (decimal_is_IsNumeral n small)
