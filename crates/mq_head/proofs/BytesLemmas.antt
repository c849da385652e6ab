-- The spaces and line bytes of a request line.
use Rattle.std.proofs.Common.{◌≡◌, ℕ, ◌+◌, Bool, true, false, not, ◌&&◌, ◌||◌, cond, ◌==◌, IsTrue, List, [], ◌∷◌, ◌++◌, refl, sym, ap, subst, ◌∙◌, arith, append_assoc, zero-add}
use Rattle.std.specs.Prelude.{count_by}
use Rattle.std.specs.List.{list_any}
use Rattle.std.proofs.lemmas.Bool.{cond-false, ne_eqb, eq-eqb, eqb-true, and_from}
use Rattle.std.proofs.lemmas.List.{append-nil}
use Rattle.std.proofs.lemmas.List.Sums.{sum_by-cons, sum_by-append}
use Rattle.std.proofs.lemmas.List.Folds.{list_any-append}
use Rattle.std.proofs.lemmas.List.Elements.{All-head, All-tail}
use Rattle.httparse.specs.Grammar.{AllPass, is_token_byte, is_uri_byte, IsToken, LineEnd, crlf, lf, print_end, print_blank, RequestHead, ReadsRequest, HasNoRequest, EndsInTarget, print_version, print_section}
use Rattle.httparse.proofs.GrammarLemmas.{print_request-append}
use Rattle.mq_head.specs.Heads.{is_line_byte, is_space, skip_line_bytes, has_one_space, ends_in_target}
use Rattle.mq_head.specs.Places.{stays_in_target}

-- neither a space nor a line byte
abbrev pub IsPlain : ℕ → Type 0
IsPlain b = (is_space b ≡ false) × (is_line_byte b ≡ false)

abbrev pub ArePlain : (ℕ → Bool) → Type 0
ArePlain test = (b : ℕ) → IsTrue (test b) → IsPlain b

or_false : {a b : Bool} → a ≡ false → b ≡ false → (a || b) ≡ false
or_false ea eb = rw (ea, eb) refl

tokens_plain : ArePlain is_token_byte
unfolding is_token_byte
tokens_plain b token = (
  ne_eqb b 32 (λ e. let bad : is_token_byte 32 ≡ true = subst (λ n. is_token_byte n ≡ true) e token in cc),
  or_false (ne_eqb b 13 (λ e. let bad : is_token_byte 13 ≡ true = subst (λ n. is_token_byte n ≡ true) e token in cc))
      (ne_eqb b 10 (λ e. let bad : is_token_byte 10 ≡ true = subst (λ n. is_token_byte n ≡ true) e token in cc)),
)

uris_plain : ArePlain is_uri_byte
uris_plain b uri = (
  ne_eqb b 32 (λ e. let bad : is_uri_byte 32 ≡ true = subst (λ n. is_uri_byte n ≡ true) e uri in cc),
  or_false (ne_eqb b 13 (λ e. let bad : is_uri_byte 13 ≡ true = subst (λ n. is_uri_byte n ≡ true) e uri in cc))
      (ne_eqb b 10 (λ e. let bad : is_uri_byte 10 ≡ true = subst (λ n. is_uri_byte n ≡ true) e uri in cc)),
)

count_plain : (test : ℕ → Bool) → ArePlain test → (xs ys : List ℕ) → AllPass test xs
    → count_by is_space (xs ++ ys) ≡ count_by is_space ys
count_plain test plain [] ys pass = refl
count_plain test plain (x ∷ xs) ys pass =
    sum_by-cons (λ b. cond (is_space b) 1 0) x (xs ++ ys)
    ∙ ap (λ n. n + count_by is_space (xs ++ ys)) (cond-false (is_space x) 1 0 (plain x (All-head (λ b. IsTrue (test b)) x xs pass)).0)
    ∙ zero-add (count_by is_space (xs ++ ys))
    ∙ count_plain test plain xs ys (All-tail (λ b. IsTrue (test b)) x xs pass)

any_plain : (test : ℕ → Bool) → ArePlain test → (xs ys : List ℕ) → AllPass test xs
    → list_any is_line_byte (xs ++ ys) ≡ list_any is_line_byte ys
any_plain test plain [] ys pass = refl
any_plain test plain (x ∷ xs) ys pass =
    ap (λ t. t || list_any is_line_byte (xs ++ ys)) (plain x (All-head (λ b. IsTrue (test b)) x xs pass)).1
    ∙ any_plain test plain xs ys (All-tail (λ b. IsTrue (test b)) x xs pass)

-- the empty lines in front are skipped
pub skip_blank : (ends : List LineEnd) (xs : List ℕ) → skip_line_bytes (print_blank ends ++ xs) ≡ skip_line_bytes xs
skip_blank [] xs = refl
skip_blank (crlf ∷ ends) xs = skip_blank ends xs
skip_blank (lf ∷ ends) xs = skip_blank ends xs

-- and a token isn't
pub skip_token : (method xs : List ℕ) → IsToken method → skip_line_bytes (method ++ xs) ≡ method ++ xs
skip_token [] xs token = absurd (omega (arith, token.0))
skip_token (m ∷ ms) xs token =
    cond-false (is_line_byte m) _ _ (tokens_plain m (All-head (λ b. IsTrue (is_token_byte b)) m ms token.1)).1

pub skip_start : (ends : List LineEnd) (method xs : List ℕ) → IsToken method
    → skip_line_bytes (print_blank ends ++ (method ++ xs)) ≡ method ++ xs
skip_start ends method xs token = skip_blank ends (method ++ xs) ∙ skip_token method xs token

count_none : (test : ℕ → Bool) → ArePlain test → (xs : List ℕ) → AllPass test xs → count_by is_space xs ≡ 0
count_none test plain xs pass = ap (count_by is_space) (sym (append-nil xs)) ∙ count_plain test plain xs [] pass

any_none : (test : ℕ → Bool) → ArePlain test → (xs : List ℕ) → AllPass test xs → list_any is_line_byte xs ≡ false
any_none test plain xs pass = ap (list_any is_line_byte) (sym (append-nil xs)) ∙ any_plain test plain xs [] pass

count_space : (xs : List ℕ) → count_by is_space (32 ∷ xs) ≡ 1 + count_by is_space xs
count_space xs = sum_by-cons (λ b. cond (is_space b) 1 0) 32 xs

one_space : (method target : List ℕ) → IsToken method → AllPass is_uri_byte target → has_one_space (method ++ 32 ∷ target) ≡ true
one_space method target token uri =
    let spaces = count_plain is_token_byte tokens_plain method (32 ∷ target) token.1 in
    let lines = any_plain is_token_byte tokens_plain method (32 ∷ target) token.1 in
    and_from _ _ (eq-eqb _ 1 (omega (arith, spaces, count_space target, count_none is_uri_byte uris_plain target uri)))
    (ap not (lines ∙ any_none is_uri_byte uris_plain target uri))

two_spaces : (method target rest : List ℕ) → IsToken method → AllPass is_uri_byte target
    → has_one_space (method ++ 32 ∷ (target ++ 32 ∷ rest)) ≡ false
two_spaces method target rest token uri =
    let spaces = count_plain is_token_byte tokens_plain method (32 ∷ (target ++ 32 ∷ rest)) token.1 in
    let more = count_plain is_uri_byte uris_plain target (32 ∷ rest) uri in
    let line = method ++ 32 ∷ (target ++ 32 ∷ rest) in
    let many : (count_by is_space line == 1) ≡ false =
    ne_eqb (count_by is_space line) 1 (λ e. omega (arith, e, spaces, more, count_space (target ++ 32 ∷ rest), count_space rest)) in
    ap (λ t. t && not (list_any is_line_byte line)) many

-- behind the first space the target comes
pub target_ends : (bytes : List ℕ) → EndsInTarget bytes → ends_in_target bytes ≡ true
unfolding ends_in_target
target_ends bytes x =
    let blank = x.0 in
    let method = x.1 in
    let target = x.2 in
    let line : skip_line_bytes bytes ≡ method ++ 32 ∷ target =
    ap skip_line_bytes x.5 ∙ ap skip_line_bytes (append_assoc (print_blank blank) method (32 ∷ target)) ∙ skip_start blank method (32 ∷ target) x.3 in
    ap has_one_space line ∙ one_space method target x.3 x.4

-- a whole head has two spaces in its first line
pub head_has_two : (bytes : List ℕ) (h : RequestHead) (rest : List ℕ) → ReadsRequest bytes h rest → ends_in_target bytes ≡ false
unfolding ends_in_target
head_has_two bytes h rest x =
    let behind = print_version h.minor ++ (print_end h.line_end ++ (print_section h.fields h.last ++ rest)) in
    let line = ap skip_line_bytes (x.1 ∙ print_request-append h rest) ∙ skip_start h.blank h.method (32 ∷ (h.target ++ 32 ∷ behind)) x.0.method in
    ap has_one_space line ∙ two_spaces h.method h.target behind x.0.method x.0.target.1

-- ---- behind bytes that end in the target

pub and_parts : (x y : Bool) → (x && y) ≡ true → (x ≡ true) × (y ≡ true)
and_parts true y e = (refl, e)
and_parts false y e = absurd (cc)

not_parts : (x : Bool) → not x ≡ true → x ≡ false
not_parts true e = absurd (cc)
not_parts false e = refl

line_stays : (line piece : List ℕ) → has_one_space line ≡ true → stays_in_target piece ≡ true → has_one_space (line ++ piece) ≡ true
line_stays line piece one none =
    let a = and_parts (count_by is_space line == 1) (not (list_any is_line_byte line)) one in
    let b = and_parts (count_by is_space piece == 0) (not (list_any is_line_byte piece)) none in
    let spaces : count_by is_space (line ++ piece) ≡ count_by is_space line + count_by is_space piece =
    sum_by-append (λ c. cond (is_space c) 1 0) line piece in
    let first = eqb-true (count_by is_space line) 1 a.0 in
    let second = eqb-true (count_by is_space piece) 0 b.0 in
    let lines : list_any is_line_byte (line ++ piece) ≡ false =
    list_any-append is_line_byte line piece ∙ or_false (not_parts _ a.1) (not_parts _ b.1) in
    and_from _ _ (eq-eqb _ 1 (omega (arith, spaces, first, second))) (ap not lines)

skipped_stays : (bytes piece : List ℕ) → has_one_space (skip_line_bytes bytes) ≡ true → stays_in_target piece ≡ true
    → has_one_space (skip_line_bytes (bytes ++ piece)) ≡ true
skipped_stays [] piece one none = absurd (cc)
skipped_stays (b ∷ bytes) piece one none = by_test (is_line_byte b) (skipped_stays bytes piece) one
  where
    by_test : (t : Bool) → (has_one_space (skip_line_bytes bytes) ≡ true → stays_in_target piece ≡ true → has_one_space (skip_line_bytes (bytes ++ piece)) ≡ true)
        → has_one_space (cond t (skip_line_bytes bytes) (b ∷ bytes)) ≡ true
        → has_one_space (cond t (skip_line_bytes (bytes ++ piece)) (b ∷ (bytes ++ piece))) ≡ true
    by_test true later whole = later whole none
    by_test false later whole = line_stays (b ∷ bytes) piece whole none

pub target_stays : (bytes piece : List ℕ) → ends_in_target bytes ≡ true → stays_in_target piece ≡ true → ends_in_target (bytes ++ piece) ≡ true
unfolding ends_in_target
target_stays bytes piece = skipped_stays bytes piece

-- bytes that end in the target hold no head
pub target_waits : (bytes : List ℕ) → ends_in_target bytes ≡ true → HasNoRequest bytes
target_waits bytes inside h rest reads = let outside = head_has_two bytes h rest reads in cc
