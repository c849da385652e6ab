-- Bits are the codes of one text at most, and bytes are told by their bits.
use Rattle.std.proofs.Common.{◌≡◌, ℕ, ◌+◌, ◌*◌, ◌/◌, ◌%◌, ◌^◌, ◌<◌, ◌≤◌, ◌==◌, inl, inr, suc, zero, Bool, true, false, List, [], ◌∷◌, ◌++◌, length, take, drop, get_or, Result, Ok, Err, refl, sym, ◌∙◌, ap, subst, arith, append_assoc, length-append}
use Rattle.std.specs.Prelude.{replicate}
use Rattle.std.specs.List.{Contains}
use Rattle.std.proofs.lemmas.List.{take_at, drop_at, length-replicate, get_or-replicate}
use Rattle.std.proofs.lemmas.List.Elements.{All-head, All-tail}
use Rattle.std.proofs.lemmas.Bool.{eq-eqb, eqb-true, cases_lt}
use Rattle.std.proofs.lemmas.Nat.Bits.{same_from_bits_below, bit_at-lt}
use Rattle.std.specs.Global.{Vec}
use Rattle.mq_huff.specs.declared.fault.HuffFault.{HuffFault}
use Rattle.mq_huff.specs.declared.fault.HuffFault.TheVariants.{Padding, Eos, NoMemory}
use Rattle.mq_huff.specs.Answer.{Tells, GivesText, GivesFault}
use Rattle.mq_huff.specs.Code.{bits_of, code_of}
use Rattle.mq_huff.specs.Coded.{bits, joined, AreBytes, IsCoded, MeetsEos, BeginsWithNoCode, IsBadlyPadded}
use Rattle.mq_huff.specs.State.{read_at}
use Rattle.mq_huff.proofs.Bits.{length-bits_of}
use Rattle.mq_huff.proofs.Rules.{code_tree, first_met, state_stuck, state_padded}
use Rattle.mq_huff.proofs.Tree.{Stuck, Met, walk}

-- no code begins another
pub first_code : (s t : ℕ) (x y : List Bool) → s ≤ 256 → t ≤ 256 → code_of s ++ x ≡ code_of t ++ y → (s ≡ t) × (x ≡ y)
first_code s t x y hs ht h =
    let p : Met s x ≡ Met t y = sym (first_met s x hs) ∙ ap (λ bs. walk code_tree bs) h ∙ first_met t y ht in
    let e : s ≡ t = cc in
    let f : x ≡ y = cc in
    (e, f)

pub stuck_no_code : (bs : List Bool) → walk code_tree bs ≡ Stuck → BeginsWithNoCode bs
stuck_no_code bs h = λ s after le e.
    let p : Stuck ≡ Met s after = sym h ∙ ap (λ x. walk code_tree x) e ∙ first_met s after le in
    cc

pub state_no_code : (state : ℕ) → state < 256 → BeginsWithNoCode (read_at state)
state_no_code state h = stuck_no_code (read_at state) (state_stuck state h)

pub padding_no_code : (k : ℕ) → k < 8 → BeginsWithNoCode (replicate k true)
padding_no_code k h =
    let e = state_padded k h in
    subst (λ (x : List Bool). BeginsWithNoCode x) e (state_no_code k (omega arith))

pub one_parse : (a b : List ℕ) (r q : List Bool) → AreBytes a → AreBytes b → BeginsWithNoCode r → BeginsWithNoCode q → joined a ++ r ≡ joined b ++ q → (a ≡ b) × (r ≡ q)
one_parse [] [] r q ha hb nr nq h = (refl, h)
one_parse [] (t ∷ b) r q ha hb nr nq h =
    let lt = All-head (λ x. x < 256) t b hb in
    absurd (nr t (joined b ++ q) (omega arith) (h ∙ append_assoc (code_of t) (joined b) q))
one_parse (s ∷ a) [] r q ha hb nr nq h =
    let lt = All-head (λ x. x < 256) s a ha in
    absurd (nq s (joined a ++ r) (omega arith) (sym h ∙ append_assoc (code_of s) (joined a) r))
one_parse (s ∷ a) (t ∷ b) r q ha hb nr nq h =
    let ls = All-head (λ x. x < 256) s a ha in
    let lt = All-head (λ x. x < 256) t b hb in
    let p = first_code s t (joined a ++ r) (joined b ++ q) (omega arith) (omega arith)
    (sym (append_assoc (code_of s) (joined a) r) ∙ h ∙ append_assoc (code_of t) (joined b) q) in
    let w = one_parse a b r q (All-tail (λ x. x < 256) s a ha) (All-tail (λ x. x < 256) t b hb) nr nq p.1 in
    let e : s ∷ a ≡ t ∷ b = ap (λ x. x ∷ a) p.0 ∙ ap (λ x. t ∷ x) w.0 in
    (e, w.1)

-- where EOS is met no other reading is
pub eos_alone : (a b : List ℕ) (rest q : List Bool) → AreBytes a → AreBytes b → BeginsWithNoCode q → joined a ++ (code_of 256 ++ rest) ≡ joined b ++ q → ⊥
eos_alone [] [] rest q ha hb nq h = nq 256 rest (omega arith) (sym h)
eos_alone [] (t ∷ b) rest q ha hb nq h =
    let lt = All-head (λ x. x < 256) t b hb in
    let p = first_code 256 t rest (joined b ++ q) (omega arith) (omega arith) (h ∙ append_assoc (code_of t) (joined b) q) in
    let e = p.0 in
    omega arith
eos_alone (s ∷ a) [] rest q ha hb nq h =
    let lt = All-head (λ x. x < 256) s a ha in
    nq s (joined a ++ (code_of 256 ++ rest)) (omega arith) (sym h ∙ append_assoc (code_of s) (joined a) (code_of 256 ++ rest))
eos_alone (s ∷ a) (t ∷ b) rest q ha hb nq h =
    let ls = All-head (λ x. x < 256) s a ha in
    let lt = All-head (λ x. x < 256) t b hb in
    let p = first_code s t (joined a ++ (code_of 256 ++ rest)) (joined b ++ q) (omega arith) (omega arith)
    (sym (append_assoc (code_of s) (joined a) (code_of 256 ++ rest)) ∙ h ∙ append_assoc (code_of t) (joined b) q) in
    eos_alone a b rest q (All-tail (λ x. x < 256) s a ha) (All-tail (λ x. x < 256) t b hb) nq p.1

pub one_text : (a b bytes : List ℕ) → IsCoded a bytes → IsCoded b bytes → a ≡ b
one_text a b bytes x y =
    (one_parse a b (replicate x.padding true) (replicate y.padding true) x.are_bytes y.are_bytes
    (padding_no_code x.padding x.short) (padding_no_code y.padding y.short) (sym x.spelled ∙ y.spelled)).0

pub coded_no_eos : (a bytes : List ℕ) → IsCoded a bytes → MeetsEos bytes → ⊥
coded_no_eos a bytes x y =
    eos_alone y.text a y.rest (replicate x.padding true) y.are_bytes x.are_bytes (padding_no_code x.padding x.short)
    (sym (append_assoc (joined y.text) (code_of 256) y.rest) ∙ sym y.met ∙ x.spelled)

pub badly_no_eos : (bytes : List ℕ) → IsBadlyPadded bytes → MeetsEos bytes → ⊥
badly_no_eos bytes x y =
    eos_alone y.text x.text y.rest x.rest y.are_bytes x.are_bytes x.last
    (sym (append_assoc (joined y.text) (code_of 256) y.rest) ∙ sym y.met ∙ x.spelled)

no_zero : (k : ℕ) → Contains (replicate k true) false → ⊥
no_zero k h =
    let at : ℕ = h.0 in
    let lt : at < length (replicate k true) = h.1 in
    let l = length-replicate k true in
    let e : get_or (replicate k true) at false ≡ true = get_or-replicate k at true false (omega arith) in
    let f : get_or (replicate k true) at false ≡ false = h.2 in
    cc

pub coded_not_badly : (a bytes : List ℕ) → IsCoded a bytes → IsBadlyPadded bytes → ⊥
coded_not_badly a bytes x y =
    let e : y.rest ≡ replicate x.padding true =
    (one_parse y.text a y.rest (replicate x.padding true) y.are_bytes x.are_bytes y.last (padding_no_code x.padding x.short) (sym y.spelled ∙ x.spelled)).1 in
    elim y.bad [
      | inl long ↦
          let l : length y.rest ≡ x.padding = ap (λ bs. length bs) e ∙ length-replicate x.padding true in
          let s : x.padding < 8 = x.short in
          omega arith
      | inr zero' ↦ no_zero x.padding (subst (λ (bs : List Bool). Contains bs false) e zero')
    ]

-- the number of bits of bytes
pub length-bits : (bytes : List ℕ) → length (bits bytes) ≡ 8 * length bytes
length-bits [] = refl
length-bits (b ∷ bs) =
    let l = length-append (bits_of 8 b) (bits bs) in
    let k = length-bits_of 8 b in
    let r = length-bits bs in
    omega arith

same_bits : (k a b : ℕ) → bits_of k a ≡ bits_of k b → (i : ℕ) → i < k → a / 2 ^ i % 2 ≡ b / 2 ^ i % 2
unfolding bits_of
same_bits zero a b h i lt = absurd (omega arith)
same_bits (suc k) a b h i lt =
    let e : (a / 2 ^ k % 2 == 1) ≡ (b / 2 ^ k % 2 == 1) = cc in
    let f : bits_of k a ≡ bits_of k b = cc in
    elim (cases_lt i k) [
      | inl less ↦ same_bits k a b f i less
      | inr not_less ↦
          let z : k ≡ i = omega arith in
          subst (λ (j : ℕ). a / 2 ^ j % 2 ≡ b / 2 ^ j % 2) z (one_bit (a / 2 ^ k % 2) (b / 2 ^ k % 2) (bit_at-lt a k) (bit_at-lt b k) e)
    ]
  where
    one_bit : (x y : ℕ) → x < 2 → y < 2 → (x == 1) ≡ (y == 1) → x ≡ y
    one_bit x y hx hy h =
        elim (cases_lt x 1) [
          | inl a ↦ elim (cases_lt y 1) [
            | inl b ↦ omega arith
            | inr b ↦ let f = eqb-true x 1 (h ∙ eq-eqb y 1 (omega arith)) in omega arith
          ]
          | inr a ↦ let f = eqb-true y 1 (sym h ∙ eq-eqb x 1 (omega arith)) in omega arith
        ]

same_byte : (a b : ℕ) → a < 256 → b < 256 → bits_of 8 a ≡ bits_of 8 b → a ≡ b
same_byte a b ha hb h = same_from_bits_below 8 a b ha hb (same_bits 8 a b h)

pub same_bytes : (a b : List ℕ) → AreBytes a → AreBytes b → bits a ≡ bits b → a ≡ b
same_bytes [] [] ha hb h = refl
same_bytes [] (y ∷ ys) ha hb h =
    let l = length-bits (y ∷ ys) in
    let e : length (bits (y ∷ ys)) ≡ 0 = ap (λ bs. length bs) (sym h) in
    absurd (omega arith)
same_bytes (x ∷ xs) [] ha hb h =
    let l = length-bits (x ∷ xs) in
    let e : length (bits (x ∷ xs)) ≡ 0 = ap (λ bs. length bs) h in
    absurd (omega arith)
same_bytes (x ∷ xs) (y ∷ ys) ha hb h =
    let e = sym (take_at (bits_of 8 x) (bits xs) 8 (length-bits_of 8 x)) ∙ ap (λ bs. take 8 bs) h ∙ take_at (bits_of 8 y) (bits ys) 8 (length-bits_of 8 y) in
    let f = sym (drop_at (bits_of 8 x) (bits xs) 8 (length-bits_of 8 x)) ∙ ap (λ bs. drop 8 bs) h ∙ drop_at (bits_of 8 y) (bits ys) 8 (length-bits_of 8 y) in
    ap (λ z. z ∷ xs) (same_byte x y (All-head (λ z. z < 256) x xs ha) (All-head (λ z. z < 256) y ys hb) e)
    ∙ ap (λ zs. y ∷ zs) (same_bytes xs ys (All-tail (λ z. z < 256) x xs ha) (All-tail (λ z. z < 256) y ys hb) f)

-- the bytes of a text's code, by its bits
pub length-coded : (text bytes : List ℕ) → IsCoded text bytes → length bytes ≡ (length (joined text) + 7) / 8
length-coded text bytes x =
    let l = length-bits bytes in
    let e = ap (λ bs. length bs) x.spelled ∙ length-append (joined text) (replicate x.padding true) in
    let p = length-replicate x.padding true in
    let s : x.padding < 8 = x.short in
    omega arith

pub one_code : (text a b : List ℕ) → AreBytes a → AreBytes b → IsCoded text a → IsCoded text b → a ≡ b
one_code text a b ha hb x y =
    let la = length-bits a in
    let lb = length-bits b in
    let ea = ap (λ bs. length bs) x.spelled ∙ length-append (joined text) (replicate x.padding true) in
    let eb = ap (λ bs. length bs) y.spelled ∙ length-append (joined text) (replicate y.padding true) in
    let pa = length-replicate x.padding true in
    let pb = length-replicate y.padding true in
    let sa : x.padding < 8 = x.short in
    let sb : y.padding < 8 = y.short in
    let e : x.padding ≡ y.padding = omega arith in
    same_bytes a b ha hb (x.spelled ∙ ap (λ k. joined text ++ replicate k true) e ∙ sym y.spelled)

-- where an answer tells what the bytes are, it is the one answer that they have
pub gives_text : (text bytes : List ℕ) (r : Result (Vec ℕ) HuffFault) → IsCoded text bytes → Tells bytes r → GivesText text r
gives_text text bytes (Ok found) h k = one_text found.items text bytes k h
gives_text text bytes (Err Padding) h k = absurd (coded_not_badly text bytes h k)
gives_text text bytes (Err Eos) h k = absurd (coded_no_eos text bytes h k)
gives_text text bytes (Err NoMemory) h k = refl

pub gives_eos : (bytes : List ℕ) (r : Result (Vec ℕ) HuffFault) → MeetsEos bytes → Tells bytes r → GivesFault Eos r
gives_eos bytes (Ok found) h k = coded_no_eos found.items bytes k h
gives_eos bytes (Err Padding) h k = absurd (badly_no_eos bytes k h)
gives_eos bytes (Err Eos) h k = inl refl
gives_eos bytes (Err NoMemory) h k = inr refl

pub gives_padding : (bytes : List ℕ) (r : Result (Vec ℕ) HuffFault) → IsBadlyPadded bytes → Tells bytes r → GivesFault Padding r
gives_padding bytes (Ok found) h k = coded_not_badly found.items bytes k h
gives_padding bytes (Err Padding) h k = inl refl
gives_padding bytes (Err Eos) h k = absurd (badly_no_eos bytes h k)
gives_padding bytes (Err NoMemory) h k = inr refl
