-- What lines are made of: words, numbers and bytes.
use Rattle.std.proofs.Common.{◌≡◌, ℕ, ◌/◌, ◌%◌, ◌<◌, ◌≤◌, Bool, true, ◌&&◌, ◌||◌, List, [], ◌∷◌, ◌++◌, All, decimal, refl, arith, inr}
use Rattle.std.specs.Prelude.{nat_lt}
use Rattle.std.specs.List.{list_all}
use Rattle.std.specs.Int.{w16, to_be_bytes}
use Rattle.std.proofs.lemmas.Bool.{and_parts, lt-ltb}
use Rattle.std.proofs.lemmas.Bool.Decides.{nat_tests}
use Rattle.std.proofs.lemmas.List.Elements.{All-cons, All-nil}
use Rattle.mq_wire.specs.Integer.{spelling_of}
use Rattle.mq_play.specs.declared.line.Line.{Line}
use Rattle.mq_play.specs.declared.word.Word.{Word}
use Rattle.mq_play.specs.Lines.{Says, SaysBehind, word_text}
use Rattle.mq_play.specs.Parts.{IsNumber, IsSayable}

-- a word and what stands behind it
pub says_word : (first : Word) (rest : List ℕ) (said : Line) → SaysBehind first rest said → Says (word_text first ++ 32 ∷ rest) said
says_word first rest said behind = inr (inr (record { part = word_text first; first = first; rest = rest; is = refl; says = refl; behind = behind }))

pub number : (low high n : ℕ) → low ≤ n → n ≤ high → IsNumber low high (decimal n) n
number low high n least most = record { least = least; most = most; is = refl }

-- ---- bytes

abbrev pub IsByte : ℕ → Type 0
IsByte b = b < 256

small : (b : ℕ) → nat_lt b 256 ≡ true → b < 256
small b h = grind (arith, nat_tests)

-- bytes that are written out
pub all_small : (xs : List ℕ) → list_all (λ b. nat_lt b 256) xs ≡ true → All (λ b. b < 256) xs
all_small [] h = All-nil IsByte
all_small (x ∷ xs) h = let parts = and_parts (nat_lt x 256) (list_all (λ b. nat_lt b 256) xs) h in All-cons IsByte x xs (small x parts.0) (all_small xs parts.1)

pub two_small : (n : ℕ) → All (λ b. b < 256) (to_be_bytes w16 n)
two_small n = All-cons IsByte (n / 256 % 256) (n % 256 ∷ []) (omega arith) (All-cons IsByte (n % 256) [] (omega arith) (All-nil IsByte))

pub spelled_short : (n : ℕ) → n < 64 → spelling_of n ≡ n ∷ []
unfolding spelling_of
spelled_short n short = rw (lt-ltb n 64 short) refl

-- ---- texts

abbrev pub is_sayable : ℕ → Bool
is_sayable b = nat_lt 12 b && nat_lt b 14 || (nat_lt 9 b && nat_lt b 11 || nat_lt 31 b && nat_lt b 127)

sayable : (b : ℕ) → is_sayable b ≡ true → IsSayable b
sayable b h = grind (arith, nat_tests)

pub all_sayable : (xs : List ℕ) → list_all is_sayable xs ≡ true → All IsSayable xs
all_sayable [] h = All-nil IsSayable
all_sayable (x ∷ xs) h = let parts = and_parts (is_sayable x) (list_all is_sayable xs) h in All-cons IsSayable x xs (sayable x parts.0) (all_sayable xs parts.1)
