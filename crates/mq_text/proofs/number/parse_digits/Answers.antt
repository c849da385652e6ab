use Rattle.std.proofs.Common.{◌≡◌, ◌≢◌, ◌<◌, ◌^◌, ℕ, List, sym, subst, get_or, Some}
use Rattle.std.proofs.lemmas.Str.{IsUtf8-from_ascii}
use Rattle.std.proofs.lemmas.Fmt.{IsAscii-from_digits}
use Rattle.std.specs.Option.{IfSome}
use Rattle.std.specs.Str.Parse.{IsNumeral, digits_value}
use Rattle.mq_text.proofs.Decimals.{parsed, parses, no_plus}
use Rattle.mq_text.proofs.number.parse_digits.Goals as goal

pub returns-in-Ok-clause-some : goal.returns-in-Ok-clause-some
returns-in-Ok-clause-some c =
    let plus : get_or c.args.text.now 0 0 ≢ 43 = λ e. let yes = c.begins_plus.ensures.1 e in let no = c.if-begins_plus.false in cc in
    let P : List ℕ → Type 0 = λ text. IfSome c.ok.result (λ n. IsNumeral 10 text × (n ≡ digits_value 10 text) × (n < 2 ^ 64)) in
    let Q : List ℕ → Type 0 = λ text. get_or text 0 0 ≢ 43 in
    subst P c.in-Ok.ensures.cases.0 (parsed c.in-Ok.text.now c.parse.result c.ok.result (subst Q (sym c.in-Ok.ensures.cases.0) plus) c.parse.ensures.value.0 c.ok.ensures.value)

pub returns-in-Ok-clause-none : goal.returns-in-Ok-clause-none
returns-in-Ok-clause-none c =
    let P : List ℕ → Type 0 = λ text. IsNumeral 10 text → digits_value 10 text < 2 ^ 64 → c.ok.result ≡ Some (digits_value 10 text) in
    subst P c.in-Ok.ensures.cases.0 (λ numeral small. parses c.in-Ok.text.now c.parse.result c.ok.result (no_plus c.in-Ok.text.now numeral) c.parse.ensures.value.0 c.ok.ensures.value numeral small)

pub returns-in-Err-clause-none : goal.returns-in-Err-clause-none
returns-in-Err-clause-none c = λ numeral small. absurd (c.in-Err.ensures.cases.0 (IsUtf8-from_ascii _ (IsAscii-from_digits _ numeral.1)))

pub returns-then-begins_plus-clause-none : goal.returns-then-begins_plus-clause-none
returns-then-begins_plus-clause-none c = λ numeral small. absurd (no_plus c.args.text.now numeral (c.begins_plus.ensures.0 c.if-begins_plus.true))
