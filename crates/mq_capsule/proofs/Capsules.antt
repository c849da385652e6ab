-- What was read of a data stream stays, whatever follows, and is one.
use Rattle.std.proofs.Common.{◌≡◌, ℕ, zero, suc, ◌+◌, ◌-◌, ◌<◌, ◌≤◌, Bool, true, false, cond, ltb, List, [], ◌∷◌, ◌++◌, length, take, drop, Option, Some, None, refl, sym, ap, subst, ◌∙◌, arith, append_assoc, option_and_then}
use Rattle.std.proofs.lemmas.Bool.{ltb-false, le-ltb, lt-ltb, cond-false, cond-true}
use Rattle.std.proofs.lemmas.Option.{some_pair_parts}
use Rattle.std.proofs.lemmas.List.{take-append-drop, take-append-le, drop-append-le, length-append, length-drop}
use Rattle.mq_capsule.specs.declared.head.Head.{Head}
use Rattle.mq_capsule.specs.Capsule.{Capsule, AreCapsules, head_of, capsule_of, capsule_by}
use Rattle.mq_capsule.proofs.Fronts.{bound, binds, head_front}

-- a head stays, whatever follows
pub head_keeps : (bytes more : List ℕ) (head : Head) → head_of bytes ≡ Some head → head_of (bytes ++ more) ≡ Some head
head_keeps bytes more head e =
    let a = head_front bytes head e in
    let split : bytes ++ more ≡ take head.used bytes ++ (drop head.used bytes ++ more) =
    ap (λ (b : List ℕ). b ++ more) (sym (take-append-drop head.used bytes)) ∙ append_assoc (take head.used bytes) (drop head.used bytes) more in
    ap head_of split ∙ a.stays (drop head.used bytes ++ more)

-- the capsule that begins with this head
abbrev pub capsule_at : Head → List ℕ → Capsule
capsule_at head bytes = record { kind = head.kind; value = take head.length (drop head.used bytes) }

pub capsule_whole : (bytes : List ℕ) (head : Head) → head_of bytes ≡ Some head → head.used + head.length ≤ length bytes
    → capsule_of bytes ≡ Some (capsule_at head bytes, head.used + head.length)
unfolding capsule_of
capsule_whole bytes head e l = binds _ (head_of bytes) head _ e (cond-false _ None _ (le-ltb _ _ l))

pub capsule_named : (bytes : List ℕ) (head : Head) (capsule : Capsule) (used : ℕ) → head_of bytes ≡ Some head → used ≤ length bytes
    → head.used + head.length ≡ used → capsule_at head bytes ≡ capsule → capsule_of bytes ≡ Some (capsule, used)
capsule_named bytes head capsule used e l size same =
    capsule_whole bytes head e (omega arith) ∙ ap (λ (c : Capsule). Some (c, head.used + head.length)) same ∙ ap (λ (n : ℕ). Some (capsule, n)) size

pub capsule_part : (bytes : List ℕ) (head : Head) → head_of bytes ≡ Some head → length bytes < head.used + head.length → capsule_of bytes ≡ None
unfolding capsule_of
capsule_part bytes head e l = binds _ (head_of bytes) head None e (cond-true _ None _ (lt-ltb _ _ l))

pub capsule_headless : (bytes : List ℕ) → head_of bytes ≡ None → capsule_of bytes ≡ None
unfolding capsule_of
capsule_headless bytes e = ap (λ (o : Option Head). option_and_then (λ (head : Head). capsule_by head bytes) o) e

-- a test that left something
left : {A : Type 0} (b : Bool) (x : A) (y : A) → cond b None (Some x) ≡ Some y → (b ≡ false) × (x ≡ y)
left true x y e = absurd cc
left false x y e = (refl, cc)

-- a whole capsule has a head
pub record IsWhole (bytes : List ℕ) (capsule : Capsule) (used : ℕ) : Type 0 where
  pub head : Head
  pub head_is : head_of bytes ≡ Some head
  pub used_is : used ≡ head.used + head.length
  pub within : used ≤ length bytes
  pub capsule_is : capsule ≡ capsule_at head bytes

pub whole : (bytes : List ℕ) (capsule : Capsule) (used : ℕ) → capsule_of bytes ≡ Some (capsule, used) → IsWhole bytes capsule used
unfolding capsule_of
whole bytes capsule used e =
    let head = bound _ (head_of bytes) (capsule, used) e in
    let size = head.0.used + head.0.length in
    let there = left (ltb (length bytes) size) (capsule_at head.0 bytes, size) (capsule, used) head.2 in
    let long : size ≤ length bytes = ltb-false _ _ there.0 in
    let used_is : size ≡ used = ap (λ (p : Capsule × ℕ). p.1) there.1 in
    record {
      head = head.0;
      head_is = head.1;
      used_is = sym used_is;
      within = omega (arith, long, used_is);
      capsule_is = sym (ap (λ (p : Capsule × ℕ). p.0) there.1);
    }

-- a capsule at the front stays there
pub capsule_keeps : (bytes more : List ℕ) (capsule : Capsule) (used : ℕ) → capsule_of bytes ≡ Some (capsule, used)
    → capsule_of (bytes ++ more) ≡ Some (capsule, used)
capsule_keeps bytes more capsule used e =
    let w = whole bytes capsule used e in
    let head = w.head in
    let a = head_front bytes head w.head_is in
    let long : head.used + head.length ≤ length (bytes ++ more) = omega (arith, w.used_is, w.within, length-append bytes more) in
    let rest : length (drop head.used bytes) ≡ length bytes - head.used = length-drop head.used bytes in
    let value : take head.length (drop head.used (bytes ++ more)) ≡ take head.length (drop head.used bytes) =
    ap (take head.length) (drop-append-le head.used bytes more a.within)
    ∙ take-append-le head.length (drop head.used bytes) more (omega (arith, rest, w.used_is, w.within)) in
    capsule_whole (bytes ++ more) head (head_keeps bytes more head w.head_is) long
    ∙ ap (λ (v : List ℕ). Some (record { kind = head.kind; value = v }, head.used + head.length)) value
    ∙ ap (λ (c : Capsule). Some (c, head.used + head.length)) (sym w.capsule_is) ∙ ap (λ (n : ℕ). Some (capsule, n)) (sym w.used_is)

-- what comes later follows what was read
pub capsules_on : (bytes more : List ℕ) (capsules : List Capsule) (rest : List ℕ) → AreCapsules bytes capsules rest
    → (later : List Capsule) (tail : List ℕ) → AreCapsules (rest ++ more) later tail → AreCapsules (bytes ++ more) (capsules ++ later) tail
capsules_on bytes more [] rest are later tail next = let P : List ℕ → Type 0 = λ r. AreCapsules (r ++ more) later tail in subst P are.1 next
capsules_on bytes more (capsule ∷ capsules) rest are later tail next =
    let used = are.0 in
    let within = (whole bytes capsule used are.1).within in
    let P : List ℕ → Type 0 = λ b. AreCapsules b (capsules ++ later) tail in (
      used,
      capsule_keeps bytes more capsule used are.1,
      subst P (sym (drop-append-le used bytes more within)) (capsules_on (drop used bytes) more capsules rest are.2 later tail next),
    )

-- two readings of the same bytes are one
pub record AreOne (capsules others : List Capsule) (rest tail : List ℕ) : Type 0 where
  pub capsules_are : capsules ≡ others
  pub rest_is : rest ≡ tail

pub capsules_one : (bytes : List ℕ) (capsules others : List Capsule) (rest tail : List ℕ) → AreCapsules bytes capsules rest → AreCapsules bytes others tail
    → AreOne capsules others rest tail
capsules_one bytes [] [] rest tail a b = record { capsules_are = refl; rest_is = a.1 ∙ sym b.1 }
capsules_one bytes [] (d ∷ ds) rest tail a b = let x = a.0 in let y = b.1 in absurd cc
capsules_one bytes (c ∷ cs) [] rest tail a b = let x = a.1 in let y = b.0 in absurd cc
capsules_one bytes (c ∷ cs) (d ∷ ds) rest tail a b =
    let both = some_pair_parts c d a.0 b.0 (sym a.1 ∙ b.1) in
    let first : c ≡ d = both.0 in
    let P : ℕ → Type 0 = λ n. AreCapsules (drop n bytes) ds tail in
    let one = capsules_one (drop a.0 bytes) cs ds rest tail a.2 (subst P (sym both.1) b.2) in
    let others = one.capsules_are in
    record { capsules_are = cc; rest_is = one.rest_is }

-- all bytes have capsules
pub record Reading (bytes : List ℕ) : Type 0 where
  pub capsules : List Capsule
  pub rest : List ℕ
  pub are : AreCapsules bytes capsules rest

reading_by : (n : ℕ) (bytes : List ℕ) (front : Option (Capsule × ℕ)) → capsule_of bytes ≡ front → length bytes ≤ n → Reading bytes
reading_by n bytes None e l = record { capsules = []; rest = bytes; are = (e, refl) }
reading_by zero bytes (Some front) e l =
    absurd (let w = whole bytes front.0 front.1 e in let a = head_front bytes w.head w.head_is in omega (arith, w.within, w.used_is, a.some))
reading_by (suc n) bytes (Some front) e l =
    let w = whole bytes front.0 front.1 e in
    let a = head_front bytes w.head w.head_is in
    let behind = drop front.1 bytes in
    let more = reading_by n behind (capsule_of behind) refl (omega (arith, length-drop front.1 bytes, w.used_is, a.some)) in
    record { capsules = front.0 ∷ more.capsules; rest = more.rest; are = (front.1, e, more.are) }

pub reading : (bytes : List ℕ) → Reading bytes
reading bytes = reading_by (length bytes) bytes (capsule_of bytes) refl (omega arith)
