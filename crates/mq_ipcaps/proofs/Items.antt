-- Items read one behind the other are those that stand in the bytes.
use Rattle.std.proofs.Common.{◌≡◌, ℕ, zero, suc, ◌<◌, ◌≤◌, List, [], ◌∷◌, ◌++◌, length, Option, Some, Ok, refl, ap, ◌∙◌, subst, length-append, arith}
use Rattle.std.specs.List.{All, flat_map}
use Rattle.std.proofs.lemmas.List.Elements.{All-nil, All-cons}
use Rattle.mq_ipcaps.specs.Reading.{◌>>=◌, items_of}
use Rattle.mq_ipcaps.specs.Laws.{Stand}
use Rattle.mq_ipcaps.proofs.Loop.{Reader}
use Rattle.mq_ipcaps.proofs.Wide.{IsBytes}
use Rattle.mq_ipcaps.proofs.Fields.{bind_ok, ok_is}

-- each item has the property behind the one before
abbrev pub Chain : {A : Type 0} → (Option A → A → Type 0) → Option A → List A → Type 0
Chain P before [] = Unit {0}
Chain P before (x ∷ xs) = P before x × Chain P (Some x) xs

-- what a reader of one item takes
pub record Took {A : Type 0} (at : A → List ℕ → List ℕ → Type 0) (P : Option A → A → Type 0) (before : Option A) (bytes : List ℕ) (x : A × List ℕ) : Type 0 where
  pub stands : at x.0 bytes x.1
  pub has : P before x.0
  pub rest : IsBytes x.1

pub record TookAll {A : Type 0} (at : A → List ℕ → List ℕ → Type 0) (P : Option A → A → Type 0) (most : ℕ) (before : Option A) (bytes : List ℕ) (list : List A) : Type 0 where
  pub few : length list ≤ most
  pub stand : Stand at list bytes
  pub chain : Chain P before list

abbrev pub Takes : {A : Type 0} → Reader A → (A → List ℕ → List ℕ → Type 0) → (Option A → A → Type 0) → Type 0
Takes {A} item_at at P = (before : Option A) (bytes : List ℕ) (x : A × List ℕ) → IsBytes bytes → item_at before bytes ≡ Ok x → Took at P before bytes x

pub items_take : {A : Type 0} (item_at : Reader A) (at : A → List ℕ → List ℕ → Type 0) (P : Option A → A → Type 0) → Takes item_at at P
    → (most : ℕ) (before : Option A) (bytes : List ℕ) (list : List A) → IsBytes bytes → items_of item_at most before bytes ≡ Ok list → TookAll at P most before bytes list
unfolding items_of
items_take {A} item_at at P one most before [] list fits e = subst (TookAll at P most before []) (ok_is [] list e) (record { few = omega arith; stand = refl; chain = tt })
items_take {A} item_at at P one zero before (b ∷ bytes) list fits e = absurd cc
items_take {A} item_at at P one (suc most) before (b ∷ bytes) list fits e =
    let first = bind_ok (item_at before (b ∷ bytes)) (λ first. items_of item_at most (Some first.0) first.1 >>= λ others. Ok (first.0 ∷ others)) list e in
    let others = bind_ok (items_of item_at most (Some first.0.0) first.0.1) (λ others. Ok (first.0.0 ∷ others)) list first.2 in
    let t = one before (b ∷ bytes) first.0 fits first.1 in
    let ts = items_take item_at at P one most (Some first.0.0) first.0.1 others.0 t.rest others.1 in
    subst (TookAll at P (suc most) before (b ∷ bytes)) (ok_is (first.0.0 ∷ others.0) list others.2) (record { few = omega (arith, ts.few); stand = (first.0.1, t.stands, ts.stand); chain = (t.has, ts.chain) })

-- a spelled item is read from the front
abbrev pub Again : {A : Type 0} → Reader A → (A → List ℕ) → (Option A → A → Type 0) → Type 0
Again {A} item_at text P = (before : Option A) (x : A) (rest : List ℕ) → P before x → item_at before (text x ++ rest) ≡ Ok (x, rest)

next : {A : Type 0} (item_at : Reader A) (most : ℕ) (before : Option A) (bytes : List ℕ) → 0 < length bytes
    → items_of item_at (suc most) before bytes ≡ (item_at before bytes >>= λ first. items_of item_at most (Some first.0) first.1 >>= λ others. Ok (first.0 ∷ others))
unfolding items_of
next item_at most before [] some = absurd (omega arith)
next item_at most before (b ∷ bytes) some = refl

nothing : {A : Type 0} (item_at : Reader A) (most : ℕ) (before : Option A) → items_of item_at most before [] ≡ Ok []
unfolding items_of
nothing item_at zero before = refl
nothing item_at (suc most) before = refl

pub items_again : {A : Type 0} (item_at : Reader A) (text : A → List ℕ) (P : Option A → A → Type 0) → Again item_at text P → ((x : A) → 0 < length (text x))
    → (most : ℕ) (before : Option A) (list : List A) → length list ≤ most → Chain P before list → items_of item_at most before (flat_map text list) ≡ Ok list
items_again item_at text P one some most before [] few chain = nothing item_at most before
items_again item_at text P one some zero before (x ∷ xs) few chain = absurd (omega arith)
items_again item_at text P one some (suc most) before (x ∷ xs) few chain =
    let rest = flat_map text xs in
    let long : 0 < length (text x ++ rest) = omega (arith, some x, length-append (text x) rest) in
    next item_at most before (text x ++ rest) long
    ∙ rw (one before x rest chain.0, items_again item_at text P one some most (Some x) xs (omega arith) chain.1) refl

pub chain_all : {A : Type 0} (P : Option A → A → Type 0) (Q : A → Type 0) → ((before : Option A) (x : A) → P before x → Q x) → (before : Option A) (list : List A) → Chain P before list → All Q list
chain_all P Q one before [] chain = All-nil Q
chain_all P Q one before (x ∷ xs) chain = All-cons Q x xs (one before x chain.0) (chain_all P Q one (Some x) xs chain.1)

-- items that stand as they are written are the bytes that are written
pub stand_text : {A : Type 0} (text : A → List ℕ) (list : List A) (bytes : List ℕ) → Stand (λ x bytes rest. bytes ≡ text x ++ rest) list bytes → bytes ≡ flat_map text list
stand_text text [] bytes stand = stand
stand_text text (x ∷ xs) bytes stand = stand.1 ∙ ap (λ (t : List ℕ). text x ++ t) (stand_text text xs stand.0 stand.2)
