-- A script cut into lines, and its limits.
use Rattle.std.proofs.Common.{◌≡◌, ◌≢◌, ℕ, ◌+◌, ◌<◌, ◌≤◌, Bool, true, false, List, [], ◌∷◌, ◌++◌, length, refl, sym, ap, subst, ◌∙◌, arith, append_assoc, append-nil, inl, inr}
use Rattle.std.specs.Prelude.{◌==◌, if◌then◌else◌}
use Rattle.std.proofs.lemmas.Bool.{cases_eq, ne_eqb}
use Rattle.std.proofs.lemmas.List.{length-append}
use Rattle.std.proofs.lemmas.List.Concat.{flat_map-append}
use Rattle.mq_play.specs.Play.{Fate, Stage, opening, Plays, line_limit}
use Rattle.mq_play.specs.Script.{in_front, lines_of, text_of, AreLines, Fits, IsReached, IsBad, script_limit}
use Rattle.mq_play.specs.Text.{newline}
use Rattle.mq_text.specs.Cut.{Lacks}
use Rattle.mq_replay.specs.Reading.{IsScript}

-- ---- more bytes of a script

lacks_both : (b : ℕ) (xs ys : List ℕ) → Lacks b xs → Lacks b ys → Lacks b (xs ++ ys)
lacks_both b [] ys p q = q
lacks_both b (x ∷ xs) ys p q = (p.0, lacks_both b xs ys p.1 q)

lines_more : (lines : List (List ℕ)) (line : List ℕ) → AreLines lines → Lacks newline line → AreLines (lines ++ line ∷ [])
lines_more [] line p h = (h, tt)
lines_more (x ∷ xs) line p h = (p.0, lines_more xs line p.1 h)

text_more : (lines : List (List ℕ)) (line : List ℕ) → text_of (lines ++ line ∷ []) ≡ text_of lines ++ (line ++ newline ∷ [])
text_more lines line = flat_map-append _ lines (line ∷ []) ∙ ap (λ (xs : List ℕ). text_of lines ++ xs) (append-nil (line ++ newline ∷ []))

text_length : (lines : List (List ℕ)) (line : List ℕ) → length (text_of (lines ++ line ∷ [])) ≡ length (text_of lines) + length line + 1
text_length lines line =
    let all : length (text_of (lines ++ line ∷ [])) ≡ length (text_of lines) + length (line ++ newline ∷ []) =
    ap (λ (xs : List ℕ). length xs) (text_more lines line) ∙ length-append (text_of lines) (line ++ newline ∷ []) in
    let last : length (line ++ newline ∷ []) ≡ length line + 1 = length-append line (newline ∷ []) in
    omega (arith, all, last)

-- more bytes behind the begun line
pub behind : (script : List ℕ) (lines : List (List ℕ)) (begun more : List ℕ) → IsScript script lines begun → script ++ more ≡ text_of lines ++ (begun ++ more)
behind script lines begun more s = ap (λ (xs : List ℕ). xs ++ more) s.is ∙ append_assoc (text_of lines) begun more

-- the begun line goes on
pub begun_more : (script : List ℕ) (lines : List (List ℕ)) (begun bytes : List ℕ) → Lacks newline bytes → IsScript script lines begun → IsScript (script ++ bytes) lines (begun ++ bytes)
begun_more script lines begun bytes plain s = record {
  is = behind script lines begun bytes s;
  lines_are = s.lines_are;
  begun_is = lacks_both newline begun bytes s.begun_is plain;
}

-- a newline ends it
pub begun_ended : (script : List ℕ) (lines : List (List ℕ)) (line : List ℕ) → IsScript script lines line → IsScript (script ++ newline ∷ []) (lines ++ line ∷ []) []
begun_ended script lines line s = record {
  is = behind script lines line (newline ∷ []) s ∙ sym (text_more lines line) ∙ sym (append-nil (text_of (lines ++ line ∷ [])));
  lines_are = lines_more lines line s.lines_are s.begun_is;
  begun_is = tt;
}

-- how long the parts of a script are
pub parts_length : (script : List ℕ) (lines : List (List ℕ)) (begun : List ℕ) → IsScript script lines begun → length script ≡ length (text_of lines) + length begun
parts_length script lines begun s = ap (λ (xs : List ℕ). length xs) s.is ∙ length-append (text_of lines) begun

-- ---- the lines of a script

byte_front : (b : ℕ) (ls : List (List ℕ)) (l : List ℕ) (more : List (List ℕ)) → ls ≡ l ∷ more → in_front b ls ≡ (b ∷ l) ∷ more
byte_front b [] l more e = absurd cc
byte_front b (m ∷ ms) l more e = let head : m ≡ l = cc in let tail : ms ≡ more = cc in cc

if_false : {A : Type 0} (b : Bool) (x y : A) → b ≡ false → (if b then x else y) ≡ y
if_false true x y e = absurd cc
if_false false x y e = refl

byte_lines : (b : ℕ) (rest : List ℕ) → b ≢ newline → lines_of (b ∷ rest) ≡ in_front b (lines_of rest)
byte_lines b rest n = if_false (b == newline) ([] ∷ lines_of rest) (in_front b (lines_of rest)) (ne_eqb b newline n)

newline_lines : (rest : List ℕ) → lines_of (newline ∷ rest) ≡ [] ∷ lines_of rest
newline_lines rest = refl

-- a line and what stands behind its newline
line_lines : (line rest : List ℕ) → Lacks newline line → lines_of (line ++ newline ∷ rest) ≡ line ∷ lines_of rest
line_lines [] rest h = newline_lines rest
line_lines (b ∷ line) rest h =
    byte_lines b (line ++ newline ∷ rest) h.0 ∙ byte_front b (lines_of (line ++ newline ∷ rest)) line (lines_of rest) (line_lines line rest h.1)

-- a last line
last_lines : (line : List ℕ) → Lacks newline line → lines_of line ≡ line ∷ []
last_lines [] h = refl
last_lines (b ∷ line) h = byte_lines b line h.0 ∙ byte_front b (lines_of line) line [] (last_lines line h.1)

some_lines : (rest : List ℕ) → (l : List ℕ) × (ls : List (List ℕ)) × (lines_of rest ≡ l ∷ ls)
some_lines [] = ([], [], refl)
some_lines (b ∷ rest) =
    let others = some_lines rest in
    elim (cases_eq b newline) [
      | inl is ↦ ([], lines_of rest, ap (λ (x : ℕ). lines_of (x ∷ rest)) is)
      | inr n ↦ (b ∷ others.0, others.1, byte_lines b rest n ∙ byte_front b (lines_of rest) others.0 others.1 others.2)
    ]

-- a begun line, whatever follows it
begun_lines : (begun rest : List ℕ) → Lacks newline begun → (l : List ℕ) × (ls : List (List ℕ)) × (lines_of (begun ++ rest) ≡ (begun ++ l) ∷ ls)
begun_lines [] rest h = some_lines rest
begun_lines (b ∷ begun) rest h =
    let others = begun_lines begun rest h.1 in
    (others.0, others.1, byte_lines b (begun ++ rest) h.0 ∙ byte_front b (lines_of (begun ++ rest)) (begun ++ others.0) others.1 others.2)

line_text : (line : List ℕ) (lines : List (List ℕ)) (rest : List ℕ) → text_of (line ∷ lines) ++ rest ≡ line ++ newline ∷ (text_of lines ++ rest)
line_text line lines rest = ap (λ (xs : List ℕ). xs ++ rest) (append_assoc line (newline ∷ []) (text_of lines)) ∙ append_assoc line (newline ∷ text_of lines) rest

front_lines : (lines : List (List ℕ)) (rest : List ℕ) → AreLines lines → lines_of (text_of lines ++ rest) ≡ lines ++ lines_of rest
front_lines [] rest h = refl
front_lines (l ∷ lines) rest h =
    ap lines_of (line_text l lines rest) ∙ line_lines l (text_of lines ++ rest) h.0 ∙ ap (λ (ls : List (List ℕ)). l ∷ ls) (front_lines lines rest h.1)

-- the whole lines and the begun one are those of the script
pub script_lines : (script : List ℕ) (lines : List (List ℕ)) (begun : List ℕ) → IsScript script lines begun → lines_of script ≡ lines ++ begun ∷ []
script_lines script lines begun s =
    ap lines_of s.is ∙ front_lines lines begun s.lines_are ∙ ap (λ (ls : List (List ℕ)). lines ++ ls) (last_lines begun s.begun_is)

-- ---- how far it was played

-- the whole lines were played, whatever follows
pub reached : (script : List ℕ) (lines after : List (List ℕ)) (begun more : List ℕ) (fates : List (List Fate)) (text : List ℕ) (state : Stage) → IsScript script lines begun → length (text_of lines) ≤ script_limit
    → Plays opening lines fates text state → lines_of (begun ++ more) ≡ after → IsReached (script ++ more) lines after fates text state
reached script lines after begun more fates text state s fits plays e = record {
  is = ap lines_of (behind script lines begun more s) ∙ front_lines lines (begun ++ more) s.lines_are ∙ ap (λ (ls : List (List ℕ)). lines ++ ls) e;
  fits = omega (arith, fits);
  plays = plays;
}

-- the line behind these is within both limits, and a newline ends it
pub line_reached : (script : List ℕ) (lines : List (List ℕ)) (line more : List ℕ) (fates : List (List Fate)) (text : List ℕ) (state : Stage) → IsScript script lines line
    → length (script ++ newline ∷ []) ≤ script_limit → Plays opening lines fates text state
    → IsReached ((script ++ newline ∷ []) ++ more) lines (line ∷ lines_of more) fates text state × Fits ((script ++ newline ∷ []) ++ more) (lines ++ line ∷ [])
line_reached script lines line more fates text state s fits plays =
    let sum = parts_length script lines line s in
    let all : length (script ++ newline ∷ []) ≡ length script + 1 = length-append script (newline ∷ []) in
    let size = text_length lines line in
    let P : List ℕ → Type 0 = λ whole. IsReached whole lines (line ∷ lines_of more) fates text state in (
      subst P (sym (append_assoc script (newline ∷ []) more))
          (reached script lines (line ∷ lines_of more) line (newline ∷ more) fates text state s (omega (arith, sum, all, fits)) plays (line_lines line more s.begun_is)),
      omega (arith, sum, all, size, fits),
    )

-- the last line is within both limits
pub last_reached : (script : List ℕ) (lines : List (List ℕ)) (line : List ℕ) (fates : List (List Fate)) (text : List ℕ) (state : Stage) → IsScript script lines line → length script ≤ script_limit
    → Plays opening lines fates text state → IsReached script lines (line ∷ []) fates text state × Fits script (lines ++ line ∷ [])
last_reached script lines line fates text state s fits plays = (
  record { is = script_lines script lines line s; fits = omega (arith, fits); plays = plays },
  omega (arith, fits),
)

-- more bytes in the first of the lines behind these
pub record IsBegun (whole : List ℕ) (lines : List (List ℕ)) (begun : List ℕ) (fates : List (List Fate)) (text : List ℕ) (state : Stage) : Type 0 where
  pub end : List ℕ
  pub after : List (List ℕ)
  pub reached : IsReached whole lines ((begun ++ end) ∷ after) fates text state

pub begun_reached : (script : List ℕ) (lines : List (List ℕ)) (begun more : List ℕ) (fates : List (List Fate)) (text : List ℕ) (state : Stage) → IsScript script lines begun → length (text_of lines) ≤ script_limit
    → Plays opening lines fates text state → IsBegun (script ++ more) lines begun fates text state
begun_reached script lines begun more fates text state s fits plays =
    let cut = begun_lines begun more s.begun_is in
    record { end = cut.0; after = cut.1; reached = reached script lines ((begun ++ cut.0) ∷ cut.1) begun more fates text state s fits plays cut.2 }

-- it is longer than a line may be
pub bad_long : (whole : List ℕ) (lines : List (List ℕ)) (state : Stage) (begun end : List ℕ) → line_limit < length begun → IsBad whole lines state (begun ++ end)
bad_long whole lines state begun end long =
    let size : length (begun ++ end) ≡ length begun + length end = length-append begun end in
    inr (inl (omega (arith, size, long)))

-- it holds the first byte past the script's limit: one of it, or its newline
pub bad_past : (script : List ℕ) (lines : List (List ℕ)) (state : Stage) (begun end more : List ℕ) (newlines : ℕ) → IsScript script lines begun → script_limit < length script + newlines → newlines ≤ 1 → newlines ≤ length more
    → IsBad (script ++ more) lines state (begun ++ end)
bad_past script lines state begun end more newlines s past one within =
    let sum = parts_length script lines begun s in
    let size : length (begun ++ end) ≡ length begun + length end = length-append begun end in
    let all : length (script ++ more) ≡ length script + length more = length-append script more in
    let held_all = text_length lines (begun ++ end) in
    inr (inr (omega (arith, sum, size, all, held_all, past, one, within)))
