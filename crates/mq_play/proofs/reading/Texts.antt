-- Texts with escapes, read byte by byte.
use Rattle.std.proofs.Common.{◌≡◌, ◌≢◌, ℕ, ◌<◌, ◌≤◌, ◌==◌, nat_lt, ◌||◌, Bool, true, false, inl, inr, List, [], ◌∷◌, ◌++◌, Option, Some, None, All, if◌then◌else◌, option_and_then, refl, sym, ◌∙◌, ap, append_assoc, arith, drop, get_or, length, ◌+◌}
use Rattle.std.specs.List.{flat_map}
use Rattle.std.proofs.lemmas.Bool.{cases_eq, cases_lt}
use Rattle.std.proofs.lemmas.Bool.Decides.{nat_tests}
use Rattle.std.proofs.lemmas.List.{append-nil, drop_more, drop_all}
use Rattle.std.proofs.lemmas.List.Elements.{All-cons, All-head, All-tail, All-nil}
use Rattle.mq_play.specs.Parts.{IsSayable, said_byte}

-- the byte that a backslash and this letter say
abbrev pub escaped_by : ℕ → Option ℕ
escaped_by letter =
    if letter == 114 then Some 13
    else (if letter == 110 then Some 10
    else (if letter == 92 then Some 92 else None))

-- the text says these bytes
abbrev pub IsTextOf : List ℕ → List ℕ → Type 0
IsTextOf text bytes = All IsSayable bytes × (text ≡ flat_map said_byte bytes)

-- the bytes that a text says, behind those before; a backslash may wait for its letter
abbrev pub scan : Bool → List ℕ → List ℕ → Option (List ℕ)
scan false before [] = Some before
scan true before [] = None
scan true before (b ∷ bs) = option_and_then (λ c. scan false (before ++ c ∷ []) bs) (escaped_by b)
scan false before (b ∷ bs) =
    if b == 92 then scan true before bs
    else (if nat_lt b 32 || nat_lt 126 b then None else scan false (before ++ b ∷ []) bs)

-- what a scan reads
pub record Reads (before bytes text : List ℕ) : Type 0 where
  pub rest : List ℕ
  pub bytes_is : bytes ≡ before ++ rest
  pub says : All IsSayable rest
  pub text_is : text ≡ flat_map said_byte rest

-- with the backslash that waits
abbrev ReadsFrom : Bool → List ℕ → List ℕ → List ℕ → Type 0
ReadsFrom false before bytes text = Reads before bytes text
ReadsFrom true before bytes text = Reads before bytes (92 ∷ text)

-- one more byte in front of what was read
read_more : (c : ℕ) (front before bytes text : List ℕ) → IsSayable c → said_byte c ≡ front → Reads (before ++ c ∷ []) bytes text → Reads before bytes (front ++ text)
read_more c front before bytes text sayable is h = record {
  rest = c ∷ h.rest;
  bytes_is = h.bytes_is ∙ append_assoc before (c ∷ []) h.rest;
  says = All-cons IsSayable c h.rest sayable h.says;
  text_is = ap (λ (xs : List ℕ). front ++ xs) h.text_is ∙ ap (λ (xs : List ℕ). xs ++ flat_map said_byte h.rest) (sym is);
}

said_plain : (b : ℕ) → b ≢ 92 → 32 ≤ b → said_byte b ≡ b ∷ []
said_plain b n low = grind (arith, nat_tests)

scan_plain : (b : ℕ) (before bs : List ℕ) → b ≢ 92 → 32 ≤ b → b ≤ 126 → scan false before (b ∷ bs) ≡ scan false (before ++ b ∷ []) bs
scan_plain b before bs n low high = grind (arith, nat_tests)

scan_low : (b : ℕ) (before bs : List ℕ) → b ≢ 92 → b < 32 → scan false before (b ∷ bs) ≡ None
scan_low b before bs n low = grind (arith, nat_tests)

scan_high : (b : ℕ) (before bs : List ℕ) → b ≢ 92 → 126 < b → scan false before (b ∷ bs) ≡ None
scan_high b before bs n high = grind (arith, nat_tests)

-- no other letter stands behind a backslash
escaped_other : (b : ℕ) → b ≢ 114 → b ≢ 110 → b ≢ 92 → escaped_by b ≡ None
escaped_other b r n s = grind (arith, nat_tests)

pub scan_sound : (waits : Bool) (before text bytes : List ℕ) → scan waits before text ≡ Some bytes → ReadsFrom waits before bytes text
scan_sound false before [] bytes e =
    let same : before ≡ bytes = cc in
    record { rest = []; bytes_is = sym same ∙ sym (append-nil before); says = All-nil IsSayable; text_is = refl }
scan_sound true before [] bytes e = cc e
scan_sound true before (b ∷ bs) bytes e =
    elim (cases_eq b 114) [
      | inl is ↦ rw is (read_more 13 (92 ∷ 114 ∷ []) before bytes bs (inl refl) refl (scan_sound false (before ++ 13 ∷ []) bs bytes (rw is at e)))
      | inr r ↦ elim (cases_eq b 110) [
        | inl is ↦ rw is (read_more 10 (92 ∷ 110 ∷ []) before bytes bs (inr (inl refl)) refl (scan_sound false (before ++ 10 ∷ []) bs bytes (rw is at e)))
        | inr n ↦ elim (cases_eq b 92) [
          | inl is ↦ rw is (read_more 92 (92 ∷ 92 ∷ []) before bytes bs (inr (inr (omega arith, omega arith))) refl (scan_sound false (before ++ 92 ∷ []) bs bytes (rw is at e)))
          | inr s ↦ let other = escaped_other b r n s in cc (rw other at e)
        ]
      ]
    ]
scan_sound false before (b ∷ bs) bytes e =
    elim (cases_eq b 92) [
      | inl is ↦ rw is (scan_sound true before bs bytes (rw is at e))
      | inr n ↦ elim (cases_lt b 32) [
        | inl low ↦ let none = scan_low b before bs n low in cc
        | inr some ↦ elim (cases_lt 126 b) [
          | inl high ↦ let none = scan_high b before bs n high in cc
          | inr most ↦ read_more b (b ∷ []) before bytes bs (inr (inr (some, most))) (said_plain b n some) (scan_sound false (before ++ b ∷ []) bs bytes (sym (scan_plain b before bs n some most) ∙ e))
        ]
      ]
    ]

-- a said byte is read
scan_said : (b : ℕ) (before rest : List ℕ) → IsSayable b → scan false before (said_byte b ++ rest) ≡ scan false (before ++ b ∷ []) rest
scan_said b before rest sayable =
    elim (cases_eq b 13) [
      | inl is ↦ rw is refl
      | inr r ↦ elim (cases_eq b 10) [
        | inl is ↦ rw is refl
        | inr n ↦ elim (cases_eq b 92) [
          | inl is ↦ rw is refl
          | inr s ↦ elim sayable [
            | inl is ↦ absurd (r is)
            | inr more ↦ elim more [
              | inl is ↦ absurd (n is)
              | inr within ↦ let plain = said_plain b s within.0 in rw plain (scan_plain b before rest s within.0 within.1)
            ]
          ]
        ]
      ]
    ]

pub scan_whole : (bytes before : List ℕ) → All IsSayable bytes → scan false before (flat_map said_byte bytes) ≡ Some (before ++ bytes)
scan_whole [] before h = ap Some (sym (append-nil before))
scan_whole (b ∷ bs) before h =
    scan_said b before (flat_map said_byte bs) (All-head IsSayable b bs h)
    ∙ scan_whole bs (before ++ b ∷ []) (All-tail IsSayable b bs h)
    ∙ ap Some (append_assoc before (b ∷ []) bs)

-- what a text says is read
pub text_scanned : (text bytes : List ℕ) → IsTextOf text bytes → scan false [] text ≡ Some bytes
text_scanned text bytes h = ap (scan false []) h.1 ∙ scan_whole bytes [] h.0

pub text_says : (text bytes : List ℕ) → scan false [] text ≡ Some bytes → IsTextOf text bytes
text_says text bytes e =
    let r = scan_sound false [] text bytes e in
    let same : r.rest ≡ bytes = sym r.bytes_is in
    rw (← same) (r.says, r.text_is)

pub one_text : (text a b : List ℕ) → IsTextOf text a → IsTextOf text b → a ≡ b
one_text text a b h k = let p = text_scanned text a h in let q = text_scanned text b k in cc

-- the byte at the next place stands first in what is left
next_read : (waits : Bool) (bytes text : List ℕ) (i : ℕ) → i < length text → scan waits bytes (drop i text) ≡ scan waits bytes (get_or text i 0 ∷ drop (i + 1) text)
next_read waits bytes text i h = ap (scan waits bytes) (drop_more text i 0 h)

-- the letter behind a backslash is no escape
pub bad_letter : (bytes text : List ℕ) (i : ℕ) → i < length text → escaped_by (get_or text i 0) ≡ None → scan true bytes (drop i text) ≡ scan false [] text → scan false [] text ≡ None
bad_letter bytes text i h none e =
    let next = next_read true bytes text i h in
    let rest : scan true bytes (get_or text i 0 ∷ drop (i + 1) text) ≡ None = rw none refl in
    sym e ∙ next ∙ rest

-- the byte can't be said_byte as itself
pub bad_byte : (bytes text : List ℕ) (i : ℕ) → i < length text → get_or text i 0 ≢ 92 → ((32 ≤ get_or text i 0) × (get_or text i 0 ≤ 126) → ⊥) → scan false bytes (drop i text) ≡ scan false [] text → scan false [] text ≡ None
bad_byte bytes text i h n bad e =
    let next = next_read false bytes text i h in
    elim (cases_lt (get_or text i 0) 32) [
      | inl low ↦ sym e ∙ next ∙ scan_low (get_or text i 0) bytes (drop (i + 1) text) n low
      | inr some ↦ elim (cases_lt 126 (get_or text i 0)) [
        | inl high ↦ sym e ∙ next ∙ scan_high (get_or text i 0) bytes (drop (i + 1) text) n high
        | inr most ↦ absurd (bad (some, most))
      ]
    ]

-- nothing is left
pub at_end : (waits : Bool) (bytes text : List ℕ) (i : ℕ) → length text ≤ i → scan waits bytes (drop i text) ≡ scan false [] text → scan waits bytes [] ≡ scan false [] text
at_end waits bytes text i h e = ap (scan waits bytes) (sym (drop_all i text h)) ∙ e

pub refused : (text : List ℕ) → scan false [] text ≡ None → (value : List ℕ) → IsTextOf text value → ⊥
refused text none value h = let some = text_scanned text value h in cc
