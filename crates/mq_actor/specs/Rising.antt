-- Lists whose numbers rise.
use Rattle.std.specs.Prelude.{◌≡◌, ℕ, ◌<◌, List, slice_get, Some}

-- each has a higher number than those before it
abbrev pub RiseBy : {A : Type 0} → (A → ℕ) → List A → Type 0
RiseBy {A} number xs =
    (i j : ℕ) (x y : A) → slice_get xs i ≡ Some x → slice_get xs j ≡ Some y → i < j → number x < number y
