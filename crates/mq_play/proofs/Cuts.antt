-- A script is cut into lines in one way.
use Rattle.std.proofs.Common.{◌≡◌, ◌⊎◌, ◌≢◌, ℕ, ◌+◌, ◌≤◌, Bool, true, false, inl, inr, List, [], ◌∷◌, ◌++◌, length, refl, sym, ap, subst, ◌∙◌, arith, append_assoc}
use Rattle.std.specs.Prelude.{◌==◌, if◌then◌else◌}
use Rattle.std.proofs.lemmas.Bool.{cases_eq, ne_eqb}
use Rattle.std.proofs.lemmas.List.{length-append}
use Rattle.std.proofs.lemmas.List.Concat.{flat_map-append}
use Rattle.mq_text.specs.Cut.{Lacks}
use Rattle.mq_play.specs.Text.{newline}
use Rattle.mq_play.specs.Script.{in_front, lines_of, text_of, AreLines, held}

-- ---- lists of lines

-- of two fronts of a list, one goes on from the other
pub fronts : {A : Type 0} (xs ys us vs : List A) → xs ++ ys ≡ us ++ vs
    → ((more : List A) × (us ≡ xs ++ more) × (ys ≡ more ++ vs)) ⊎ ((x : A) × (more : List A) × (xs ≡ us ++ x ∷ more) × (vs ≡ (x ∷ more) ++ ys))
fronts [] ys us vs e = inl (us, refl, e)
fronts (x ∷ xs) ys [] vs e = inr (x, xs, refl, sym e)
fronts (x ∷ xs) ys (u ∷ us) vs e =
    let head : x ≡ u = cc in
    let tail : xs ++ ys ≡ us ++ vs = cc in
    elim (fronts xs ys us vs tail) [
      | inl (more, is, rest) ↦ inl (more, cc, rest)
      | inr (y, more, is, rest) ↦ inr (y, more, cc, rest)
    ]

-- the last of a list
pub last_same : {A : Type 0} (xs ys : List A) (x y : A) → xs ++ x ∷ [] ≡ ys ++ y ∷ [] → (xs ≡ ys) × (x ≡ y)
last_same [] [] x y e = (refl, cc)
last_same [] (u ∷ []) x y e = absurd cc
last_same [] (u ∷ v ∷ ys) x y e = absurd cc
last_same (u ∷ []) [] x y e = absurd cc
last_same (u ∷ v ∷ xs) [] x y e = absurd cc
last_same (u ∷ xs) (v ∷ ys) x y e =
    let head : u ≡ v = cc in
    let tail : xs ++ x ∷ [] ≡ ys ++ y ∷ [] = cc in
    let rest = last_same xs ys x y tail in
    let is = rest.0 in
    (cc, rest.1)

-- ---- from lines to bytes

-- a line in front of the others, and a byte in front of it
byte_front : (b : ℕ) (ls : List (List ℕ)) (l : List ℕ) (more : List (List ℕ)) → ls ≡ l ∷ more → in_front b ls ≡ (b ∷ l) ∷ more
byte_front b [] l more e = absurd cc
byte_front b (m ∷ ms) l more e = let head : m ≡ l = cc in let tail : ms ≡ more = cc in cc

if_true : {A : Type 0} (b : Bool) (x y : A) → b ≡ true → (if b then x else y) ≡ x
if_true true x y e = refl
if_true false x y e = absurd cc

if_false : {A : Type 0} (b : Bool) (x y : A) → b ≡ false → (if b then x else y) ≡ y
if_false true x y e = absurd cc
if_false false x y e = refl

newline_lines : (rest : List ℕ) → lines_of (newline ∷ rest) ≡ [] ∷ lines_of rest
newline_lines rest = refl

byte_lines : (b : ℕ) (rest : List ℕ) → b ≢ newline → lines_of (b ∷ rest) ≡ in_front b (lines_of rest)
byte_lines b rest n = if_false (b == newline) ([] ∷ lines_of rest) (in_front b (lines_of rest)) (ne_eqb b newline n)

-- a line and what stands behind its newline
line_lines : (line rest : List ℕ) → Lacks newline line → lines_of (line ++ newline ∷ rest) ≡ line ∷ lines_of rest
line_lines [] rest h = newline_lines rest
line_lines (b ∷ line) rest h =
    byte_lines b (line ++ newline ∷ rest) h.0 ∙ byte_front b (lines_of (line ++ newline ∷ rest)) line (lines_of rest) (line_lines line rest h.1)

-- a line without a newline behind it
tail_lines : (tail : List ℕ) → Lacks newline tail → lines_of tail ≡ tail ∷ []
tail_lines [] h = refl
tail_lines (b ∷ tail) h = byte_lines b tail h.0 ∙ byte_front b (lines_of tail) tail [] (tail_lines tail h.1)

line_text : (line : List ℕ) (lines : List (List ℕ)) (rest : List ℕ) → text_of (line ∷ lines) ++ rest ≡ line ++ newline ∷ (text_of lines ++ rest)
line_text line lines rest = ap (λ (xs : List ℕ). xs ++ rest) (append_assoc line (newline ∷ []) (text_of lines)) ∙ append_assoc line (newline ∷ text_of lines) rest

pub front_lines : (lines : List (List ℕ)) (rest : List ℕ) → AreLines lines → lines_of (text_of lines ++ rest) ≡ lines ++ lines_of rest
front_lines [] rest h = refl
front_lines (l ∷ lines) rest h =
    ap lines_of (line_text l lines rest) ∙ line_lines l (text_of lines ++ rest) h.0 ∙ ap (λ (ls : List (List ℕ)). l ∷ ls) (front_lines lines rest h.1)

pub cut_lines : (lines : List (List ℕ)) (tail : List ℕ) → AreLines lines → Lacks newline tail → lines_of (text_of lines ++ tail) ≡ lines ++ tail ∷ []
cut_lines lines tail h k = front_lines lines tail h ∙ ap (λ (ls : List (List ℕ)). lines ++ ls) (tail_lines tail k)

-- ---- from bytes to lines

-- the whole lines of a script, and the begun one
pub record IsCutInto (script : List ℕ) (lines : List (List ℕ)) (tail : List ℕ) : Type 0 where
  pub is : script ≡ text_of lines ++ tail
  pub lines_are : AreLines lines
  pub tail_is : Lacks newline tail
  pub cut : lines_of script ≡ lines ++ tail ∷ []

with_byte : (b : ℕ) (script : List ℕ) (lines : List (List ℕ)) (tail : List ℕ) → b ≢ newline → IsCutInto script lines tail
    → (more : List (List ℕ)) × (end : List ℕ) × IsCutInto (b ∷ script) more end
with_byte b script [] tail n c =
    let is : b ∷ script ≡ b ∷ tail = ap (λ (xs : List ℕ). b ∷ xs) c.is in
    ([], b ∷ tail, record { is = is; lines_are = tt; tail_is = (n, c.tail_is); cut = byte_lines b script n ∙ byte_front b (lines_of script) tail [] c.cut })
with_byte b script (l ∷ lines) tail n c = (
  (b ∷ l) ∷ lines,
  tail,
  record {
    is = ap (λ (xs : List ℕ). b ∷ xs) c.is;
    lines_are = ((n, c.lines_are.0), c.lines_are.1);
    tail_is = c.tail_is;
    cut = byte_lines b script n ∙ byte_front b (lines_of script) l (lines ++ tail ∷ []) c.cut;
  },
)

pub cut_into : (script : List ℕ) → (lines : List (List ℕ)) × (tail : List ℕ) × IsCutInto script lines tail
cut_into [] = ([], [], record { is = refl; lines_are = tt; tail_is = tt; cut = refl })
cut_into (b ∷ script) =
    let c = cut_into script in
    elim (cases_eq b newline) [
      | inl is ↦ (
        [] ∷ c.0,
        c.1,
        record {
          is = ap (λ (x : ℕ). x ∷ script) is ∙ ap (λ (xs : List ℕ). newline ∷ xs) c.2.is;
          lines_are = (tt, c.2.lines_are);
          tail_is = c.2.tail_is;
          cut = ap (λ (x : ℕ). lines_of (x ∷ script)) is ∙ ap (λ (ls : List (List ℕ)). [] ∷ ls) c.2.cut;
        },
      )
      | inr n ↦ with_byte b script c.0 c.1 n c.2
    ]

pub is_cut : (script : List ℕ) (lines : List (List ℕ)) (tail : List ℕ) → lines_of script ≡ lines ++ tail ∷ [] → IsCutInto script lines tail
is_cut script lines tail e =
    let c = cut_into script in
    let same = last_same c.0 lines c.1 tail (sym c.2.cut ∙ e) in
    let P : List (List ℕ) → Type 0 = λ ls. IsCutInto script ls c.1 in
    subst (λ (t : List ℕ). IsCutInto script lines t) same.1 (subst P same.0 c.2)

-- ---- how many bytes they hold

pub held_most : (script : List ℕ) (lines : List (List ℕ)) → held script lines ≤ length script
held_most script lines = omega arith

pub held_more : (script : List ℕ) (lines more : List (List ℕ)) → held script lines ≤ held script (lines ++ more)
held_more script lines more =
    let sum : length (text_of (lines ++ more)) ≡ length (text_of lines) + length (text_of more) =
    ap (λ (xs : List ℕ). length xs) (flat_map-append (λ line. line ++ newline ∷ []) lines more) ∙ length-append (text_of lines) (text_of more) in
    omega arith
