-- The code of a text as bytes.
use Rattle.std.proofs.Common.{◌≡◌, ℕ, ◌+◌, ◌*◌, ◌<◌, suc, Bool, true, false, List, [], ◌∷◌, ◌++◌, length, refl, sym, ◌∙◌, ap, arith, append_assoc, append-nil, add-zero}
use Rattle.std.specs.Prelude.{replicate}
use Rattle.std.proofs.lemmas.List.Elements.{All-nil, All-cons}
use Rattle.mq_huff.specs.Code.{bits_of}
use Rattle.mq_huff.specs.Coded.{bits, joined, number_of, packed, coded_of, AreBytes, IsCoded}
use Rattle.mq_huff.specs.Laws.{IsTheCode}
use Rattle.mq_huff.proofs.Unique.{one_code}
use Rattle.mq_huff.proofs.Whole.{one_zero, one_one}

-- the bits of the number that bits are
number_bits : (more : List Bool) (k n : ℕ) → bits_of (k + length more) (number_of n more) ≡ bits_of k n ++ more
number_bits [] k n = ap (λ j. bits_of j n) (add-zero k) ∙ sym (append-nil (bits_of k n))
number_bits (true ∷ more) k n =
    let e : k + suc (length more) ≡ k + 1 + length more = omega arith in
    ap (λ j. bits_of j (number_of (n * 2 + 1) more)) e ∙ number_bits more (k + 1) (n * 2 + 1)
    ∙ ap (λ t. t ++ more) (one_one k n) ∙ append_assoc (bits_of k n) (true ∷ []) more
number_bits (false ∷ more) k n =
    let e : k + suc (length more) ≡ k + 1 + length more = omega arith in
    ap (λ j. bits_of j (number_of (n * 2) more)) e ∙ number_bits more (k + 1) (n * 2)
    ∙ ap (λ t. t ++ more) (one_zero k n) ∙ append_assoc (bits_of k n) (false ∷ []) more

byte_bits : (a b c d e f g h : Bool) → bits_of 8 (number_of 0 (a ∷ b ∷ c ∷ d ∷ e ∷ f ∷ g ∷ h ∷ [])) ≡ a ∷ b ∷ c ∷ d ∷ e ∷ f ∷ g ∷ h ∷ []
unfolding bits_of
byte_bits a b c d e f g h = number_bits (a ∷ b ∷ c ∷ d ∷ e ∷ f ∷ g ∷ h ∷ []) 0 0

-- a limit, doubled for each bit
abbrev grown : ℕ → List Bool → ℕ
grown m [] = m
grown m (b ∷ more) = grown (m * 2) more

number_below : (more : List Bool) (n m : ℕ) → n < m → number_of n more < grown m more
number_below [] n m h = h
number_below (true ∷ more) n m h = number_below more (n * 2 + 1) (m * 2) (omega arith)
number_below (false ∷ more) n m h = number_below more (n * 2) (m * 2) (omega arith)

byte_below : (a b c d e f g h : Bool) → number_of 0 (a ∷ b ∷ c ∷ d ∷ e ∷ f ∷ g ∷ h ∷ []) < 256
byte_below a b c d e f g h = number_below (a ∷ b ∷ c ∷ d ∷ e ∷ f ∷ g ∷ h ∷ []) 0 1 (omega arith)

-- the bits of packed bits are these, and ones
record IsPacked (all : List Bool) : Type 0 where
  pub padding : ℕ
  pub short : padding < 8
  pub spelled : bits (packed all) ≡ all ++ replicate padding true

packed_is : (all : List Bool) → IsPacked all
packed_is [] = record { padding = 0; short = omega arith; spelled = refl }
packed_is (a ∷ []) = record { padding = 7; short = omega arith; spelled = ap (λ t. t ++ []) (byte_bits a true true true true true true true) }
packed_is (a ∷ b ∷ []) = record { padding = 6; short = omega arith; spelled = ap (λ t. t ++ []) (byte_bits a b true true true true true true) }
packed_is (a ∷ b ∷ c ∷ []) = record { padding = 5; short = omega arith; spelled = ap (λ t. t ++ []) (byte_bits a b c true true true true true) }
packed_is (a ∷ b ∷ c ∷ d ∷ []) = record { padding = 4; short = omega arith; spelled = ap (λ t. t ++ []) (byte_bits a b c d true true true true) }
packed_is (a ∷ b ∷ c ∷ d ∷ e ∷ []) = record { padding = 3; short = omega arith; spelled = ap (λ t. t ++ []) (byte_bits a b c d e true true true) }
packed_is (a ∷ b ∷ c ∷ d ∷ e ∷ f ∷ []) = record { padding = 2; short = omega arith; spelled = ap (λ t. t ++ []) (byte_bits a b c d e f true true) }
packed_is (a ∷ b ∷ c ∷ d ∷ e ∷ f ∷ g ∷ []) = record { padding = 1; short = omega arith; spelled = ap (λ t. t ++ []) (byte_bits a b c d e f g true) }
packed_is (a ∷ b ∷ c ∷ d ∷ e ∷ f ∷ g ∷ h ∷ rest) =
    let more = packed_is rest in
    record {
      padding = more.padding;
      short = more.short;
      spelled = ap (λ t. t ++ bits (packed rest)) (byte_bits a b c d e f g h)
          ∙ ap (λ t. a ∷ b ∷ c ∷ d ∷ e ∷ f ∷ g ∷ h ∷ t) more.spelled;
    }

one_byte : (n : ℕ) (more : List ℕ) → n < 256 → AreBytes more → AreBytes (n ∷ more)
one_byte n more h all = All-cons (λ x. x < 256) n more h all

none : AreBytes []
none = All-nil (λ x. x < 256)

packed_bytes : (all : List Bool) → AreBytes (packed all)
packed_bytes [] = none
packed_bytes (a ∷ []) = one_byte _ [] (byte_below a true true true true true true true) none
packed_bytes (a ∷ b ∷ []) = one_byte _ [] (byte_below a b true true true true true true) none
packed_bytes (a ∷ b ∷ c ∷ []) = one_byte _ [] (byte_below a b c true true true true true) none
packed_bytes (a ∷ b ∷ c ∷ d ∷ []) = one_byte _ [] (byte_below a b c d true true true true) none
packed_bytes (a ∷ b ∷ c ∷ d ∷ e ∷ []) = one_byte _ [] (byte_below a b c d e true true true) none
packed_bytes (a ∷ b ∷ c ∷ d ∷ e ∷ f ∷ []) = one_byte _ [] (byte_below a b c d e f true true) none
packed_bytes (a ∷ b ∷ c ∷ d ∷ e ∷ f ∷ g ∷ []) = one_byte _ [] (byte_below a b c d e f g true) none
packed_bytes (a ∷ b ∷ c ∷ d ∷ e ∷ f ∷ g ∷ h ∷ rest) = one_byte _ (packed rest) (byte_below a b c d e f g h) (packed_bytes rest)

pub is_the_code : IsTheCode
unfolding coded_of
is_the_code text h =
    let p = packed_is (joined text) in
    (record { are_bytes = h; padding = p.padding; short = p.short; spelled = p.spelled }, packed_bytes (joined text))

-- each code of a text is that one
pub code_is : (text coded : List ℕ) → AreBytes coded → IsCoded text coded → coded ≡ coded_of text
code_is text coded h is =
    let the = is_the_code text is.are_bytes in
    one_code text coded (coded_of text) h the.1 is the.0
