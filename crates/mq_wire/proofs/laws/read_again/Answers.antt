use Rattle.std.proofs.Common.{◌≡◌, ℕ, ◌+◌, ◌*◌, ◌^◌, ◌<◌, ◌≤◌, ◌++◌, List, length, Some, arith, inl, inr}
use Rattle.std.proofs.lemmas.Bool.{cases_lt}
use Rattle.std.proofs.lemmas.Bool.Decides.{nat_tests}
use Rattle.std.proofs.lemmas.Nat.{from_be_bytes-to_be_bytes_2, from_be_bytes-to_be_bytes_4, from_be_bytes-to_be_bytes_8}
use Rattle.mq_wire.specs.Integer.{int_of, spelling_of}
use Rattle.mq_wire.proofs.laws.read_again.Goals as goal

one : (n : ℕ) (rest : List ℕ) → n < 2 ^ 6 → int_of (spelling_of n ++ rest) ≡ Some (n, length (spelling_of n))
unfolding int_of spelling_of
one n rest h = grind (arith, nat_tests)

two : (n : ℕ) (rest : List ℕ) → 2 ^ 6 ≤ n → n < 2 ^ 14 → int_of (spelling_of n ++ rest) ≡ Some (n, length (spelling_of n))
unfolding int_of spelling_of
two n rest l h = grind (arith, nat_tests, from_be_bytes-to_be_bytes_2 (n + 2 ^ 14) (omega arith))

four : (n : ℕ) (rest : List ℕ) → 2 ^ 14 ≤ n → n < 2 ^ 30 → int_of (spelling_of n ++ rest) ≡ Some (n, length (spelling_of n))
unfolding int_of spelling_of
four n rest l h = grind (arith, nat_tests, from_be_bytes-to_be_bytes_4 (n + 2 ^ 31) (omega arith))

eight : (n : ℕ) (rest : List ℕ) → 2 ^ 30 ≤ n → n < 2 ^ 62 → int_of (spelling_of n ++ rest) ≡ Some (n, length (spelling_of n))
unfolding int_of spelling_of
eight n rest l h = grind (arith, nat_tests, from_be_bytes-to_be_bytes_8 (n + 3 * 2 ^ 62) (omega arith))

pub returns : goal.returns
returns c = λ n rest h.
    elim (cases_lt n (2 ^ 6)) [
      | inl a ↦ one n rest a
      | inr a ↦ elim (cases_lt n (2 ^ 14)) [
        | inl b ↦ two n rest a b
        | inr b ↦ elim (cases_lt n (2 ^ 30)) [
          | inl d ↦ four n rest b d
          | inr d ↦ eight n rest d h
        ]
      ]
    ]
