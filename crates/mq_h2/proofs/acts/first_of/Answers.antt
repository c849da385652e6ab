use Rattle.std.proofs.Common.{◌≡◌, ◌≤◌, ◌-◌, ◌+◌, ◌++◌, List, ℕ, Bool, true, false, leb, length, take, min, sym, ap, ◌∙◌, refl, arith}
use Rattle.std.proofs.Math.Seq.{take-length, take-append-add}
use Rattle.std.proofs.lemmas.Bool.{leb-true, leb-false}
use Rattle.std.proofs.lemmas.List.{append-nil, take-append-le, take_min}
use Rattle.mq_h2.proofs.acts.first_of.Goals as goal

-- no more than the first list has, or that list and then of the second
within : (n k : ℕ) (xs ys : List ℕ) → n ≤ length xs → k ≡ n → take k xs ++ take (n - k) ys ≡ take n (xs ++ ys)
within n k xs ys few e =
    ap (λ (p : ℕ). take p xs ++ take (n - k) ys) e
    ∙ ap (λ (m : ℕ). take n xs ++ take m ys) (let none : n - k ≡ 0 = omega (arith, e) in none)
    ∙ append-nil (take n xs) ∙ sym (take-append-le n xs ys few)

beyond : (n k : ℕ) (xs ys : List ℕ) → length xs ≤ n → k ≡ length xs → take k xs ++ take (n - k) ys ≡ take n (xs ++ ys)
beyond n k xs ys many e =
    ap (λ (p : ℕ). take p xs ++ take (n - k) ys) e
    ∙ ap (λ (zs : List ℕ). zs ++ take (n - k) ys) (take-length xs)
    ∙ sym (take-append-add xs ys (n - k))
    ∙ ap (λ (m : ℕ). take m (xs ++ ys)) (let all : length xs + (n - k) ≡ n = omega (arith, many, e) in all)

taken_by : (b : Bool) (n k : ℕ) (xs ys : List ℕ) → leb n (length xs) ≡ b → k ≡ min n (length xs) → take k xs ++ take (n - k) ys ≡ take n (xs ++ ys)
taken_by true n k xs ys is e = let few = leb-true n (length xs) is in within n k xs ys few (omega (arith, few, e))
taken_by false n k xs ys is e = let many = leb-false n (length xs) is in beyond n k xs ys (omega (arith, many)) (omega (arith, many, e))

pub returns : goal.returns
returns c =
    let a = c.args in
    let n : ℕ = a.count in
    let k : ℕ = c.min-of_front.result in
    let xs : List ℕ = a.front.now in
    let ys : List ℕ = a.rest.now in
    let rest : c.split_at-2.result.0.now ≡ take (n - k) ys =
    c.split_at-2.ensures.front ∙ ap (λ (m : ℕ). take m ys) c.min-of_rest.ensures ∙ take_min (n - k) ys in
    ap (λ (zs : List ℕ). zs ++ c.split_at-2.result.0.now) c.split_at.ensures.front
    ∙ ap (λ (zs : List ℕ). take k xs ++ zs) rest
    ∙ taken_by (leb n (length xs)) n k xs ys refl c.min-of_front.ensures
