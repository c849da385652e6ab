-- Reading items one after the other, as a loop does.
use Rattle.std.proofs.Common.{◌≡◌, ℕ, suc, ◌-◌, ◌+◌, ◌≤◌, ◌<◌, List, [], ◌∷◌, ◌++◌, length, Option, Some, None, Result, Ok, Err, refl, sym, ap, ◌∙◌, append_assoc, length-append, arith}
use Rattle.std.proofs.lemmas.List.{append-nil}
use Rattle.mq_ipcaps.specs.declared.fault.CapsFault.{CapsFault}
use Rattle.mq_ipcaps.specs.declared.fault.CapsFault.TheVariants.{Truncated, Version, Bits, Empty, ZeroId, Order, TooMany, NoMemory}
use Rattle.mq_ipcaps.specs.Reading.{◌>>=◌, Fails, items_of}

abbrev pub Reader : Type 0 → Type 0
Reader A = Option A → List ℕ → Result (A × List ℕ) CapsFault

-- what was read before, and what is still read
abbrev pub with_front : {A : Type 0} → List A → Result (List A) CapsFault → Result (List A) CapsFault
with_front front read = read >>= λ xs. Ok (front ++ xs)

-- What the whole is, where these items were read, the last of them is told, and these bytes are left.
pub record GoesOn {A : Type 0} (item_at : Reader A) (most : ℕ) (front : List A) (before : Option A) (bytes : List ℕ) (total : Result (List A) CapsFault) : Type 0 where
  pub few : length front ≤ most
  pub is : with_front front (items_of item_at (most - length front) before bytes) ≡ total

same : {A : Type 0} (read : Result (List A) CapsFault) → with_front [] read ≡ read
same (Ok xs) = refl
same (Err fault) = refl

regroup : {A : Type 0} (front : List A) (x : A) (read : Result (List A) CapsFault) → with_front front (read >>= λ xs. Ok (x ∷ xs)) ≡ with_front (front ++ x ∷ []) read
regroup front x (Ok xs) = ap (λ ys. Ok ys) (simp append_assoc)
regroup front x (Err fault) = refl

fails : {A : Type 0} (fault : CapsFault) (total : Result (List A) CapsFault) → total ≡ Err fault → Fails fault total
fails Truncated total e = e
fails Version total e = e
fails Bits total e = e
fails Empty total e = e
fails ZeroId total e = e
fails Order total e = e
fails TooMany total e = e
fails NoMemory total e = tt

pub begins : {A : Type 0} (item_at : Reader A) (most : ℕ) (front : List A) (bytes : List ℕ) → front ≡ [] → GoesOn item_at most front None bytes (items_of item_at most None bytes)
begins item_at most front bytes e =
    let k : most - 0 ≡ most = omega arith in
    rw e (record { few = omega arith; is = rw k (same (items_of item_at most None bytes)) })

-- an item was read
pub steps : {A : Type 0} (item_at : Reader A) (most : ℕ) (front after : List A) (before : Option A) (bytes rest : List ℕ) (x : A) (total : Result (List A) CapsFault)
    → GoesOn item_at most front before bytes total → length front < most → 0 < length bytes → item_at before bytes ≡ Ok (x, rest) → after ≡ front ++ x ∷ []
    → GoesOn item_at most after (Some x) rest total
unfolding items_of
steps item_at most front after before [] rest x total g lt some read e = absurd (omega arith)
steps {A} item_at most front after before (b ∷ bytes) rest x total g lt some read e =
    let k : most - length front ≡ suc (most - (length front + 1)) = omega arith in
    let len : length after ≡ length front + 1 = rw e (omega (arith, length-append front (x ∷ []))) in
    let others : Result (List A) CapsFault = items_of item_at (most - (length front + 1)) (Some x) rest in
    let one : with_front front (items_of item_at (most - length front) before (b ∷ bytes)) ≡ with_front (front ++ x ∷ []) others = rw (k, read) (regroup front x others) in
    record { few = omega (arith, len); is = rw (len, e) (sym one ∙ g.is) }

-- an item has a fault
pub faults : {A : Type 0} (item_at : Reader A) (most : ℕ) (front : List A) (before : Option A) (bytes : List ℕ) (fault : CapsFault) (total : Result (List A) CapsFault)
    → GoesOn item_at most front before bytes total → length front < most → 0 < length bytes → item_at before bytes ≡ Err fault → Fails fault total
unfolding items_of
faults item_at most front before [] fault total g lt some read = absurd (omega arith)
faults item_at most front before (b ∷ bytes) fault total g lt some read =
    let k : most - length front ≡ suc (most - (length front + 1)) = omega arith in
    let one : with_front front (items_of item_at (most - length front) before (b ∷ bytes)) ≡ Err fault = rw (k, read) refl in
    fails fault total (sym g.is ∙ one)

-- bytes are left, and no more may be read
pub too_many : {A : Type 0} (item_at : Reader A) (most : ℕ) (front : List A) (before : Option A) (bytes : List ℕ) (total : Result (List A) CapsFault)
    → GoesOn item_at most front before bytes total → most ≤ length front → 0 < length bytes → total ≡ Err TooMany
unfolding items_of
too_many item_at most front before [] total g le some = absurd (omega arith)
too_many item_at most front before (b ∷ bytes) total g le some =
    let k : most - length front ≡ 0 = omega arith in
    let one : with_front front (items_of item_at (most - length front) before (b ∷ bytes)) ≡ Err TooMany = rw k refl in
    sym g.is ∙ one

-- no bytes are left
pub ends : {A : Type 0} (item_at : Reader A) (most : ℕ) (front : List A) (before : Option A) (bytes : List ℕ) (total : Result (List A) CapsFault)
    → GoesOn item_at most front before bytes total → length bytes ≡ 0 → total ≡ Ok front
unfolding items_of
ends item_at most front before [] total g none = sym g.is ∙ ap (λ xs. Ok xs) (append-nil front)
ends item_at most front before (b ∷ bytes) total g none = absurd (omega arith)
