use Rattle.std.proofs.Common.{◌∙◌, ℕ, List, Bor, ap, map}
use Rattle.mq_words.proofs.Asking.{asked_texts, asked_words, on_err_of, read_by}
use Rattle.mq_words.proofs.words.read_words.Goals as goal

pub returns-in_default-clause-ok : goal.returns-in_default-clause-ok
returns-in_default-clause-ok c =
    let none = rw c.in_default.is at c.in_ok-found_in.ensures.ok in
    λ command asks. none command (asked_texts c.args.words.now command asks)

pub told_words-requires : goal.told_words-requires
told_words-requires c =
    let asked = rw c.in-Some.is at c.in_ok-found_in.ensures.ok in
    (c.asked_is_told.ensures c.args.words.now c.in-Some.field-0 (asked_words c.args.words.now c.in-Some.field-0 asked)).takes

pub returns-in_err-told-clause-err : goal.returns-in_err-told-clause-err
returns-in_err-told-clause-err c =
    let asked = rw c.in-Some.is at c.in_ok-found_in.ensures.ok in
    on_err_of c.from_residual-in_err-told.result _ (c.in-Some.field-0, asked_words c.args.words.now c.in-Some.field-0 asked)

pub returns-clause-err : goal.returns-clause-err
returns-clause-err c =
    let asked = rw c.in-Some.is at c.in_ok-found_in.ensures.ok in
    on_err_of c.found_in-2.result _ (c.in-Some.field-0, asked_words c.args.words.now c.in-Some.field-0 asked)

pub returns-clause-ok : goal.returns-clause-ok
returns-clause-ok c =
    let asked = rw c.in-Some.is at c.in_ok-found_in.ensures.ok in
    let tells = (c.asked_is_told.ensures c.args.words.now c.in-Some.field-0 (asked_words c.args.words.now c.in-Some.field-0 asked)).tells in
    let told = ap (λ (values : List (Bor (List ℕ))). map (λ s. s.now) values) c.as_slice.ensures.value ∙ c.in_ok-told.ensures in
    read_by c.args.words.now _ (told ∙ tells) c.found_in-2.result c.found_in-2.ensures.ok
