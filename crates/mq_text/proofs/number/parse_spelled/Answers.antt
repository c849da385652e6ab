use Rattle.std.proofs.Common.{ℕ, ◌<◌, ◌^◌, Some, sym, ◌∙◌, ap, arith, decimal}
use Rattle.std.specs.Str.Parse.{digits_value}
use Rattle.mq_text.proofs.Decimals.{spelled, numeral_of}
use Rattle.mq_text.proofs.number.parse_spelled.Goals as goal

pub returns-in-Some-clause-some : goal.returns-in-Some-clause-some
returns-in-Some-clause-some c = λ digit zero.
    let told = c.in-Some.ensures.some in
    let value = told.1 in
    let small = told.2 in
    spelled c.args.text.now told.0 digit zero (omega arith) ∙ ap decimal (sym value)

pub returns-in-Some-clause-none : goal.returns-in-Some-clause-none
returns-in-Some-clause-none c = λ n small is.
    let numeral = numeral_of c.args.text.now n small is in
    let value = numeral.1 in
    let told = c.in-Some.ensures.some.1 in
    ap (λ (m : ℕ). Some m) (told ∙ value)

pub returns-in-None-clause-none : goal.returns-in-None-clause-none
returns-in-None-clause-none c = λ n small is.
    let numeral = numeral_of c.args.text.now n small is in
    let value = numeral.1 in
    let bound : digits_value 10 c.args.text.now < 2 ^ 64 = omega arith in
    c.in-None.ensures.none numeral.0 bound ∙ ap (λ (m : ℕ). Some m) value
