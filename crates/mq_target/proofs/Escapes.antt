-- What a value is made of, where it is escaped.
use Rattle.std.proofs.Common.{◌≡◌, ℕ, ◌≤◌, Bool, true, ◌==◌, ◌||◌, List, [], ◌∷◌, length, sym, ◌∙◌, subst, refl, arith, inl, inr, length-append}
use Rattle.std.proofs.lemmas.Bool.{and_from, cases_Bool, cond-true, cond-false}
use Rattle.std.proofs.lemmas.Bool.Decides.{nat_tests}
use Rattle.std.proofs.lemmas.List.Folds.{list_all-append}
use Rattle.std.proofs.lemmas.List.Sums.{list_all-from_AllPass}
use Rattle.std.proofs.lemmas.List.Elements.{All-weaker}
use Rattle.std.specs.List.{list_all}
use Rattle.percent_encoding.specs.Percent.{percent_encode_byte}
use Rattle.percent_encoding.proofs.PercentLemmas.{IsEscapeByte, All-percent_encode_byte}
use Rattle.mq_target.specs.Classes.{is_name_byte, is_unreserved}
use Rattle.mq_target.specs.Expansion.{escaped, escaped_byte}
use Rattle.mq_target.specs.Laws.{IsEscaped}

abbrev is_path_byte : ℕ → Bool
is_path_byte b = is_unreserved b || b == 37

unreserved_kept : (b : ℕ) → is_unreserved b ≡ true → is_path_byte b ≡ true
unreserved_kept b h = grind (arith, nat_tests)

escape_kept : (b : ℕ) → IsEscapeByte b → is_path_byte b ≡ true
unfolding is_unreserved is_name_byte
escape_kept b h = grind (arith, nat_tests)

triple : (b : ℕ) → length (percent_encode_byte b) ≡ 3
unfolding percent_encode_byte
triple b = refl

-- one byte
pub byte_escaped : (b : ℕ) → (list_all is_path_byte (escaped_byte b) ≡ true) × (length (escaped_byte b) ≤ 3)
byte_escaped b =
    let P : List ℕ → Type 0 = λ bytes. (list_all is_path_byte bytes ≡ true) × (length bytes ≤ 3) in
    elim (cases_Bool (is_unreserved b)) [
      | inl in_class ↦ subst P (sym (cond-true _ _ _ in_class)) (and_from _ _ (unreserved_kept b in_class) refl, omega arith)
      | inr other ↦ subst P (sym (cond-false _ _ _ other)) (
        list_all-from_AllPass is_path_byte (percent_encode_byte b) (All-weaker IsEscapeByte (λ c. is_path_byte c ≡ true) escape_kept (percent_encode_byte b) (All-percent_encode_byte b)),
        omega (arith, triple b),
      )
    ]

pub are_escaped : (text : List ℕ) → IsEscaped text (escaped text)
unfolding escaped
are_escaped [] = record { bytes = refl; short = omega arith }
are_escaped (b ∷ text) =
    let one = byte_escaped b in
    let rest = are_escaped text in
    record {
      bytes = list_all-append is_path_byte (escaped_byte b) (escaped text) ∙ and_from _ _ one.0 rest.bytes;
      short = omega (arith, length-append (escaped_byte b) (escaped text), one.1, rest.short);
    }
