-- What is left of a generated script, and its first line.
use Rattle.std.proofs.Common.{◌≡◌, ◌≢◌, ℕ, zero, suc, ◌+◌, ◌-◌, ◌<◌, ◌≤◌, List, [], ◌∷◌, ◌++◌, length, codes, drop, get_or, refl, sym, subst, ◌∙◌, ap, arith, Some, None}
use Rattle.std.proofs.lemmas.List.{drop_more}
use Rattle.std.specs.List.{slice_get}
use Rattle.mq_script.specs.declared.generator.Next.{Next}
use Rattle.mq_script.specs.declared.generator.Next.TheVariants.{Opening, Packets, Step, Nothing}
use Rattle.mq_script.specs.Generated.{drawn, line_at, lines_from, next_state, opening_lines, piece_line, step_line}
use Rattle.mq_script.specs.Left.{IsInOpening, left_of}

opening_length : length opening_lines ≡ 17
unfolding opening_lines
opening_length = refl

-- the opening from a line of it on
pub opening_from : (number : ℕ) → number < 17 → drop number opening_lines ≡ get_or opening_lines number [] ∷ drop (number + 1) opening_lines
opening_from number within = drop_more opening_lines number [] (subst (λ (n : ℕ). number < n) (sym opening_length) within)

-- behind its last line
pub opening_ends : drop 17 opening_lines ≡ []
unfolding opening_lines
opening_ends = refl

-- the two lines of a packet
pub packet_lines : (x number left : ℕ) → 0 < left
    → lines_from x number left ≡ piece_line (drawn (next_state x)) number ∷ step_line (drawn (next_state x)) ∷ lines_from (next_state x) (number + 1) (left - 1)
unfolding lines_from
packet_lines x number zero some = absurd (omega (arith, some))
packet_lines x number (suc left) some =
    let e : suc left - 1 ≡ left = omega arith in
    ap (λ (n : ℕ). piece_line (drawn (next_state x)) number ∷ step_line (drawn (next_state x)) ∷ lines_from (next_state x) (number + 1) n) (sym e)

-- the first line that is left, and what is left behind it
pub record Parts (lines : List (List ℕ)) : Type 0 where
  pub first : List ℕ
  pub rest : List (List ℕ)
  pub is : lines ≡ first ∷ rest

some_lines : (x number left : ℕ) → Parts (lines_from x number left)
unfolding lines_from
some_lines x number zero = record { first = _; rest = _; is = refl }
some_lines x number (suc left) = record { first = _; rest = _; is = refl }

pub some_left : (next : Next) (x number left : ℕ) → IsInOpening next → next ≢ Nothing → Parts (left_of next x number left)
unfolding left_of
some_left (Opening line) x number left within some =
    record { first = _; rest = _; is = ap (λ (lines : List (List ℕ)). lines ++ lines_from x number left) (opening_from line within) }
some_left Packets x number left within some = some_lines x number left
some_left (Step r) x number left within some = record { first = _; rest = _; is = refl }
some_left Nothing x number left within some = absurd (some refl)

-- ---- what comes next, told

pub told : (lines : List (List ℕ)) (next known : Next) (x number left : ℕ) → left_of next x number left ≡ lines → next ≡ known → lines ≡ left_of known x number left
told lines next known x number left e is = sym e ∙ ap (λ (n : Next). left_of n x number left) is

-- ---- the first line

pub first_opening : (line x number left : ℕ) → line < 17 → get_or (left_of (Opening line) x number left) 0 [] ≡ get_or opening_lines line []
unfolding left_of
first_opening line x number left within = let e = opening_from line within in rw e refl

pub first_packet : (x number left : ℕ) → 0 < left → get_or (left_of Packets x number left) 0 [] ≡ piece_line (drawn (next_state x)) number
unfolding left_of
first_packet x number left some = ap (λ (lines : List (List ℕ)). get_or lines 0 []) (packet_lines x number left some)

pub first_last : (x number left : ℕ) → left ≤ 0 → get_or (left_of Packets x number left) 0 [] ≡ codes "run 1000000"
unfolding left_of lines_from
first_last x number zero none = refl
first_last x number (suc left) none = absurd (omega (arith, none))

pub first_step : (r x number left : ℕ) → get_or (left_of (Step r) x number left) 0 [] ≡ step_line r
unfolding left_of
first_step r x number left = refl

pub first_none : (x number left : ℕ) → get_or (left_of Nothing x number left) 0 [] ≡ []
unfolding left_of
first_none x number left = refl

-- ---- one line on

pub behind_opening : (line x number left : ℕ) → line < 17 → left_of (Opening (line + 1)) x number left ≡ drop 1 (left_of (Opening line) x number left)
unfolding left_of
behind_opening line x number left within = let e = opening_from line within in rw e refl

pub behind_last_opening : (line x number left : ℕ) → line < 17 → 17 ≤ line + 1 → left_of Packets x number left ≡ drop 1 (left_of (Opening line) x number left)
unfolding left_of
behind_last_opening line x number left within last =
    let e : line + 1 ≡ 17 = omega arith in
    let ends : drop (line + 1) opening_lines ≡ [] = ap (λ (n : ℕ). drop n opening_lines) e ∙ opening_ends in
    ap (λ (lines : List (List ℕ)). lines ++ lines_from x number left) (sym ends) ∙ behind_opening line x number left within

pub behind_packet : (x number left : ℕ) → 0 < left → left_of (Step (drawn (next_state x))) (next_state x) (number + 1) (left - 1) ≡ drop 1 (left_of Packets x number left)
unfolding left_of
behind_packet x number left some = ap (λ (lines : List (List ℕ)). drop 1 lines) (sym (packet_lines x number left some))

pub behind_last : (x number left : ℕ) → left ≤ 0 → left_of Nothing x number left ≡ drop 1 (left_of Packets x number left)
unfolding left_of lines_from
behind_last x number zero none = refl
behind_last x number (suc left) none = absurd (omega (arith, none))

-- ---- one line of a list

pub got_line : (lines : List (List ℕ)) (number : ℕ) (line : List ℕ) (rest : List (List ℕ)) → drop number lines ≡ line ∷ rest → slice_get lines number ≡ Some line
got_line [] zero line rest e = cc
got_line [] (suc number) line rest e = cc
got_line (l ∷ lines) zero line rest e = cc
got_line (l ∷ lines) (suc number) line rest e = got_line lines number line rest e

pub no_line : (lines : List (List ℕ)) (number : ℕ) → drop number lines ≡ [] → slice_get lines number ≡ None
no_line [] number e = refl
no_line (l ∷ lines) zero e = cc
no_line (l ∷ lines) (suc number) e = no_line lines number e

pub counted_from_one : (lines : List (List ℕ)) (number : ℕ) → number ≢ 0 → line_at lines number ≡ slice_get lines (number - 1)
counted_from_one lines zero some = absurd (some refl)
counted_from_one lines (suc number) some = let e : suc number - 1 ≡ number = omega arith in ap (λ (n : ℕ). slice_get lines n) (sym e)
