-- The header blocks of answers fit a frame.
use Rattle.std.proofs.Common.{◌≡◌, ◌+◌, ◌<◌, ◌≤◌, ◌^◌, ◌%◌, ◌&&◌, ltb, ℕ, Bool, true, false, List, [], ◌∷◌, refl, arith, codes}
use Rattle.std.specs.List.{All, list_all, sum_by}
use Rattle.std.specs.Prelude.{decimal}
use Rattle.std.proofs.lemmas.Bool.{ltb-true}
use Rattle.std.proofs.lemmas.Fmt.{decimal_by_steps, length-decimal-le}
use Rattle.std.proofs.lemmas.List.Elements.{All-nil, All-cons, All-append}
use Rattle.mq_hpack.specs.declared.field.Field.{Field}
use Rattle.mq_hpack.specs.Length.{IsNoLonger}
use Rattle.mq_hpack.specs.Table.{size_of}
use Rattle.mq_hpack.specs.Writing.{HasBytes, IsWrittenSo, block_text}
use Rattle.mq_h2.specs.Acts.{FitsFrame}
use Rattle.mq_h2.specs.State.{State}
use Rattle.mq_machine.specs.Http2.{status_field, capsule_field}

abbrev AreBytes : List ℕ → Type 0
AreBytes text = All (λ b. b < 256) text

all_bytes : (xs : List ℕ) → list_all (λ b. ltb b 256) xs ≡ true → AreBytes xs
all_bytes [] e = All-nil (λ b. b < 256)
all_bytes (x ∷ xs) e = by_head (ltb x 256) refl e (all_bytes xs) where
  by_head : (b : Bool) → ltb x 256 ≡ b → (b && list_all (λ b. ltb b 256) xs) ≡ true → (list_all (λ b. ltb b 256) xs ≡ true → AreBytes xs) → AreBytes (x ∷ xs)
  by_head true h e further = All-cons (λ b. b < 256) x xs (ltb-true x 256 h) (further e)
  by_head false h e further = absurd cc

digit : (n : ℕ) → n < 10 → AreBytes ((48 + n) ∷ [])
digit n few = All-cons (λ b. b < 256) (48 + n) [] (omega (arith, few)) (All-nil (λ b. b < 256))

decimal_bytes : (n : ℕ) → n < 2 ^ 64 → AreBytes (decimal n)
decimal_bytes n few =
    decimal_by_steps (λ n ds. AreBytes ds) (λ n few. digit n few) (λ n ds many are. All-append (λ b. b < 256) ds ((48 + n % 10) ∷ []) are (digit (n % 10) (omega arith))) n few

status_bytes : (status : ℕ) → status < 65536 → HasBytes (status_field status)
status_bytes status few = (all_bytes (codes ":status") refl, decimal_bytes status (omega (arith, few)))

status_size : (status : ℕ) → status < 65536 → size_of (status_field status) ≤ 44
status_size status few = let len = length-decimal-le 5 status (omega arith) (omega (arith, few)) (omega (arith, few)) in omega (arith, len)

capsule_bytes : HasBytes capsule_field
capsule_bytes = (all_bytes (codes "capsule-protocol") refl, all_bytes (codes "?1") refl)

capsule_size : size_of capsule_field ≡ 50
capsule_size = refl

pub fits_refusal : IsWrittenSo → IsNoLonger → (status : ℕ) → status < 65536 → (s : State) → FitsFrame (status_field status ∷ []) s
fits_refusal so longer status few s =
    let fields : List Field = status_field status ∷ [] in
    let size = status_size status few in
    let total : sum_by size_of fields ≡ 0 + size_of (status_field status) = refl in
    let fits = longer s.owes_limit fields (block_text s.owes_limit fields) (so s.owes_limit fields (status_bytes status few, tt)) (omega (arith, total, size)) in
    omega (arith, fits, total, size)

pub fits_grant : IsWrittenSo → IsNoLonger → (s : State) → FitsFrame (status_field 200 ∷ capsule_field ∷ []) s
fits_grant so longer s =
    let fields : List Field = status_field 200 ∷ capsule_field ∷ [] in
    let size = status_size 200 (omega arith) in
    let total : sum_by size_of fields ≡ 0 + size_of (status_field 200) + size_of capsule_field = refl in
    let fits = longer s.owes_limit fields (block_text s.owes_limit fields) (so s.owes_limit fields (status_bytes 200 (omega arith), (capsule_bytes, tt))) (omega (arith, total, size, capsule_size)) in
    omega (arith, fits, total, size, capsule_size)
