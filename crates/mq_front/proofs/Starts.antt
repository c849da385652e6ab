-- The first bytes of a connection, against the preface of HTTP/2.
use lib.Pointwise.{pointwise}
use Rattle.std.proofs.Common.{◌≡◌, ◌≢◌, ◌==◌, ◌+◌, ◌-◌, ◌<◌, ◌≤◌, ◌&&◌, not, eqb, ℕ, zero, suc, min, Bool, true, false, cond, List, [], ◌∷◌, ◌++◌, length, take, drop, refl, sym, ap, ◌∙◌, subst, arith, eq-eqb, eqb-true}
use Rattle.std.proofs.lemmas.List.{take-append-drop, length-take-le, length-drop}
use Rattle.std.proofs.Math.Seq.{take-length}
use Rattle.mq_machine.specs.Reading.{Opening, Part, Whole, Other, opening_by, opening_of, preface}

take_nothing : (k : ℕ) → let none : List ℕ = [] in take k none ≡ none
take_nothing zero = refl
take_nothing (suc k) = refl

take_both : (n k : ℕ) (xs : List ℕ) → take (n + k) xs ≡ take n xs ++ take k (drop n xs)
take_both zero k xs = ap (λ (n : ℕ). take n xs) (let e : 0 + k ≡ k = omega arith in e)
take_both (suc n) k [] = ap (λ (m : ℕ). take m []) (let e : suc n + k ≡ suc (n + k) = omega arith in e) ∙ sym (take_nothing k)
take_both (suc n) k (x ∷ xs) = ap (λ (m : ℕ). take m (x ∷ xs)) (let e : suc n + k ≡ suc (n + k) = omega arith in e) ∙ ap (λ (ys : List ℕ). x ∷ ys) (take_both n k xs)

same_head : (x : ℕ) (o : Opening) → cond (x == x) o Other ≡ o
same_head x o = ap (λ (b : Bool). cond b o Other) (eq-eqb x x refl)

-- bytes that came are passed on both sides
opening_past : (xs ys piece : List ℕ) → opening_by (xs ++ ys) (xs ++ piece) ≡ opening_by ys piece
opening_past [] ys piece = refl
opening_past (x ∷ xs) ys piece = same_head x (opening_by (xs ++ ys) (xs ++ piece)) ∙ opening_past xs ys piece

pub behind : (count : ℕ) (piece : List ℕ) → opening_of (take count preface ++ piece) ≡ opening_by (drop count preface) piece
behind count piece =
    ap (λ (xs : List ℕ). opening_by xs (take count preface ++ piece)) (sym (take-append-drop count preface)) ∙ opening_past (take count preface) (drop count preface) piece

part_of : (xs ys : List ℕ) → 0 < length ys → opening_by (xs ++ ys) xs ≡ Part
part_of [] [] some = absurd (omega (arith, some))
part_of [] (y ∷ ys) some = refl
part_of (x ∷ xs) ys some = same_head x (opening_by (xs ++ ys) xs) ∙ part_of xs ys some

whole_of : (xs rest : List ℕ) → opening_by xs (xs ++ rest) ≡ Whole rest
whole_of [] rest = refl
whole_of (x ∷ xs) rest = same_head x (opening_by xs (xs ++ rest)) ∙ whole_of xs rest

other_of : (n : ℕ) (awaited piece : List ℕ) → n ≤ length awaited → n ≤ length piece → take n piece ≢ take n awaited → opening_by awaited piece ≡ Other
other_of zero awaited piece few short h = absurd (h refl)
other_of (suc n) [] piece few short h = absurd (omega (arith, few))
other_of (suc n) (a ∷ awaited) [] few short h = absurd (omega (arith, short))
other_of (suc n) (a ∷ awaited) (b ∷ piece) few short h = by_head (a == b) refl (λ e. other_of n awaited piece (omega (arith, few)) (omega (arith, short)) (rest e)) where
  rest : a ≡ b → take n piece ≢ take n awaited
  rest e same = h (ap (λ (x : ℕ). x ∷ take n piece) (sym e) ∙ ap (λ (xs : List ℕ). a ∷ xs) same)

  by_head : (same : Bool) → (a == b) ≡ same → (a ≡ b → opening_by awaited piece ≡ Other) → cond same (opening_by awaited piece) Other ≡ Other
  by_head true e further = further (eqb-true a b e)
  by_head false e further = refl

-- bytes that are no preface stay so with more behind them
pub other_stays : (awaited bytes more : List ℕ) → opening_by awaited bytes ≡ Other → opening_by awaited (bytes ++ more) ≡ Other
other_stays [] bytes more e = absurd cc
other_stays (a ∷ awaited) [] more e = absurd cc
other_stays (a ∷ awaited) (b ∷ bytes) more e = by_head (a == b) e (other_stays awaited bytes more) where
  by_head : (same : Bool) → cond same (opening_by awaited bytes) Other ≡ Other → (opening_by awaited bytes ≡ Other → opening_by awaited (bytes ++ more) ≡ Other)
      → cond same (opening_by awaited (bytes ++ more)) Other ≡ Other
  by_head true e further = further e
  by_head false e further = refl

-- a part of the preface is one
pub part_is : (count : ℕ) → count < 24 → opening_of (take count preface) ≡ Part
part_is count few =
    ap (λ (xs : List ℕ). opening_by xs (take count preface)) (sym (take-append-drop count preface))
    ∙ part_of (take count preface) (drop count preface) (left count few)
  where
    left : (count : ℕ) → count < 24 → 0 < length (drop count preface)
    left count few = (let len : length (drop count preface) ≡ 24 - count = length-drop count preface in omega (arith, len, few))

-- ---- what the code finds

same_lists : (xs ys : List ℕ) → pointwise eqb xs ys ≡ true → xs ≡ ys
same_lists [] [] e = refl
same_lists [] (y ∷ ys) e = absurd cc
same_lists (x ∷ xs) [] e = absurd cc
same_lists (x ∷ xs) (y ∷ ys) e = by_head (eqb x y) refl e (same_lists xs ys) where
  by_head : (b : Bool) → eqb x y ≡ b → (b && pointwise eqb xs ys) ≡ true → (pointwise eqb xs ys ≡ true → xs ≡ ys) → x ∷ xs ≡ y ∷ ys
  by_head true h e further = ap (λ (a : ℕ). a ∷ xs) (eqb-true x y h) ∙ ap (λ (zs : List ℕ). y ∷ zs) (further e)
  by_head false h e further = absurd cc

itself : (xs : List ℕ) → pointwise eqb xs xs ≡ true
itself [] = refl
itself (x ∷ xs) = ap (λ (b : Bool). b && pointwise eqb xs xs) (eq-eqb x x refl) ∙ itself xs

-- the piece in two, at the end of what is awaited, and as much of what is awaited
pub record Cut (count : ℕ) (piece read awaited front rest begun : List ℕ) : Type 0 where
  pub read_is : read ≡ take count preface
  pub awaited_is : awaited ≡ drop count preface
  pub front_is : front ≡ take (min (length piece) (length awaited)) piece
  pub rest_is : rest ≡ drop (min (length piece) (length awaited)) piece
  pub begun_is : begun ≡ take (min (length piece) (length awaited)) awaited

pub cut : (count a b c : ℕ) (piece read awaited front rest begun : List ℕ) → count < 24 → a ≡ min count 24 → read ≡ take a preface → awaited ≡ drop a preface → b ≡ min (length piece) (length awaited)
    → front ≡ take b piece → rest ≡ drop b piece → c ≡ min (length front) (length awaited) → begun ≡ take c awaited → Cut count piece read awaited front rest begun
cut count a b c piece read awaited front rest begun few a_is read_is awaited_is b_is front_is rest_is c_is begun_is =
    let whole : a ≡ count = omega (arith, few, a_is) in
    let len : length front ≡ b = ap (λ (xs : List ℕ). length xs) front_is ∙ length-take-le b piece (omega (arith, b_is)) in
    let same : c ≡ b = omega (arith, len, c_is, b_is) in
    record {
      read_is = read_is ∙ ap (λ (n : ℕ). take n preface) whole;
      awaited_is = awaited_is ∙ ap (λ (n : ℕ). drop n preface) whole;
      front_is = front_is ∙ ap (λ (n : ℕ). take n piece) b_is;
      rest_is = rest_is ∙ ap (λ (n : ℕ). drop n piece) b_is;
      begun_is = begun_is ∙ ap (λ (n : ℕ). take n awaited) (same ∙ b_is);
    }

pub finds_other : (count : ℕ) (piece read awaited front rest begun : List ℕ) (differs : Bool) → Cut count piece read awaited front rest begun → differs ≡ not (pointwise eqb front begun) → differs ≡ true
    → opening_of (take count preface ++ piece) ≡ Other
finds_other count piece read awaited front rest begun differs is differs_is so =
    let n = min (length piece) (length awaited) in
    let apart : take n piece ≢ take n awaited = λ same.
    (let alike : front ≡ begun = is.front_is ∙ same ∙ sym is.begun_is in
    let e : pointwise eqb front begun ≡ true = subst (λ (xs : List ℕ). pointwise eqb front xs ≡ true) alike (itself front) in
    let f : true ≡ false = sym so ∙ differs_is ∙ ap (λ (b : Bool). not b) e in
    cc) in
    behind count piece ∙ ap (λ (xs : List ℕ). opening_by xs piece) (sym is.awaited_is) ∙ other_of n awaited piece (omega arith) (omega arith) apart

alike : (count : ℕ) (piece read awaited front rest begun : List ℕ) (differs : Bool) → Cut count piece read awaited front rest begun → differs ≡ not (pointwise eqb front begun) → differs ≡ false
    → take (min (length piece) (length awaited)) piece ≡ take (min (length piece) (length awaited)) awaited
alike count piece read awaited front rest begun differs is differs_is not_so =
    sym is.front_is ∙ same_lists front begun (by_answer (pointwise eqb front begun) (sym differs_is ∙ not_so)) ∙ is.begun_is where
      by_answer : (b : Bool) → not b ≡ false → b ≡ true
      by_answer true e = refl
      by_answer false e = absurd cc

pub finds_part : (count : ℕ) (piece read awaited front rest begun : List ℕ) (differs : Bool) → count < 24 → Cut count piece read awaited front rest begun → differs ≡ not (pointwise eqb front begun) → differs ≡ false
    → length front < length awaited
    → (opening_of (take count preface ++ piece) ≡ Part) × (length read + length front < 24) × (take count preface ++ piece ≡ take (length read + length front) preface)
finds_part count piece read awaited front rest begun differs few is differs_is not_so short =
    let n = min (length piece) (length awaited) in
    let flen : length front ≡ n = ap (λ (xs : List ℕ). length xs) is.front_is ∙ length-take-le n piece (omega arith) in
    let all : n ≡ length piece = omega (arith, flen, short) in
    let alen : length awaited ≡ 24 - count = ap (λ (xs : List ℕ). length xs) is.awaited_is ∙ length-drop count preface in
    let rlen : length read ≡ count = ap (λ (xs : List ℕ). length xs) is.read_is ∙ length-take-le count preface (omega (arith, few)) in
    let piece_is : piece ≡ take n awaited = sym (take-length piece) ∙ ap (λ (k : ℕ). take k piece) (sym all) ∙ alike count piece read awaited front rest begun differs is differs_is not_so in
    let llen : length (drop n awaited) ≡ length awaited - n = length-drop n awaited in
    let left : 0 < length (drop n awaited) = omega (arith, llen, flen, short) in
    let whole : awaited ≡ piece ++ drop n awaited = sym (take-append-drop n awaited) ∙ ap (λ (xs : List ℕ). xs ++ drop n awaited) (sym piece_is) in
    let total : length read + length front ≡ count + n = omega (arith, rlen, flen) in (
      behind count piece ∙ ap (λ (xs : List ℕ). opening_by xs piece) (sym is.awaited_is ∙ whole) ∙ part_of piece (drop n awaited) left,
      omega (arith, rlen, alen, short, few),
      ap (λ (xs : List ℕ). take count preface ++ xs) (piece_is ∙ ap (λ (xs : List ℕ). take n xs) is.awaited_is) ∙ sym (take_both count n preface) ∙ ap (λ (k : ℕ). take k preface) (sym total),
    )

pub finds_whole : (count : ℕ) (piece read awaited front rest begun : List ℕ) (differs : Bool) → Cut count piece read awaited front rest begun → differs ≡ not (pointwise eqb front begun) → differs ≡ false
    → length awaited ≤ length front → opening_of (take count preface ++ piece) ≡ Whole rest
finds_whole count piece read awaited front rest begun differs is differs_is not_so long =
    let n = min (length piece) (length awaited) in
    let flen : length front ≡ n = ap (λ (xs : List ℕ). length xs) is.front_is ∙ length-take-le n piece (omega arith) in
    let all : n ≡ length awaited = omega (arith, flen, long) in
    let front_of : take n piece ≡ awaited =
    alike count piece read awaited front rest begun differs is differs_is not_so ∙ ap (λ (k : ℕ). take k awaited) all ∙ take-length awaited in
    let piece_is : piece ≡ awaited ++ rest =
    sym (take-append-drop n piece) ∙ ap (λ (xs : List ℕ). xs ++ drop n piece) front_of ∙ ap (λ (xs : List ℕ). awaited ++ xs) (sym is.rest_is) in
    behind count piece ∙ ap (λ (xs : List ℕ). opening_by xs piece) (sym is.awaited_is) ∙ ap (λ (xs : List ℕ). opening_by awaited xs) piece_is ∙ whole_of awaited rest
