use Rattle.std.proofs.Common.{◌≡◌, ℕ, List, [], ◌∷◌, subst}
use Rattle.std.proofs.lemmas.Result.{err_from_is_err_and}
use Rattle.mq_script.proofs.Pieces.{byte_fault, byte_read, no_byte}
use Rattle.mq_script.proofs.hex_piece.parse_byte.Goals as goal

pub returns-in_err-bytes : goal.returns-in_err-bytes
returns-in_err-bytes c =
    let p = err_from_is_err_and c.from_residual.result c.from_residual.ensures.1 in
    rw (p.1, p.2) (byte_fault c.args.text.now c.in_err-bytes.field-0.0 c.in_err-bytes.ensures)

pub returns-in-Some : goal.returns-in-Some
returns-in-Some c =
    let P : List ℕ → Type 0 = λ xs. xs ≡ c.in-Some.byte ∷ [] in
    byte_read c.args.text.now c.in_ok-bytes.bytes c.in-Some.byte (subst P c.as_slice.ensures c.in-Some.ensures) c.in_ok-bytes.ensures

pub returns-in-None : goal.returns-in-None
returns-in-None c =
    let P : List ℕ → Type 0 = λ xs. (byte : ℕ) → xs ≡ byte ∷ [] → ⊥ in
    no_byte c.args.text.now c.in_ok-bytes.bytes c.in_ok-bytes.ensures (subst P c.as_slice.ensures c.in-None.ensures)
