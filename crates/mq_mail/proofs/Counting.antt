-- How many letters there are of all pushers together.
use Rattle.std.proofs.Common.{◌≡◌, ◌≢◌, ℕ, zero, suc, ◌+◌, ◌<◌, ◌≤◌, List, [], ◌∷◌, length, map, sum, sym, refl, ap, ◌∙◌, subst, ⊎_elim, arith}
use Rattle.std.proofs.lemmas.Bool.{cases_lt}
use Rattle.std.proofs.lemmas.List.Sums.{sum_by-cons}
use mathlib.Core.Logic.{dite}
use native.Mathlib.Decide.{ℕ_discrete}
use Rattle.mq_talk.specs.declared.place.Parcel.{Parcel}
use Rattle.mq_mail.specs.declared.inbox_rule.Letter.{Letter}
use Rattle.mq_mail.specs.Closing.{owns_to}
use Rattle.mq_mail.specs.InboxRule.{AreOf}
use Rattle.mq_mail.specs.Letters.{letters, of, pushed_by}
use Rattle.mq_mail.specs.Posts.{PostId, KeyOf, pushed_to}
use Rattle.mq_mail.specs.Tallies.{AreKeysOf, all_to}
use Rattle.mq_mail.proofs.Numbering.{of_mine, of_other, length_letters}

-- how many letters these pushers have, so many of them from one on
pub many : ℕ → ℕ → List Letter → ℕ
many zero from all = 0
many (suc n) from all = length (of from all) + many n (suc from) all

many_none : (n from : ℕ) → many n from [] ≡ 0
unfolding many
many_none zero from = refl
many_none (suc n) from = let h = many_none n (suc from) in omega (arith, h)

-- a letter of an earlier pusher isn't counted
many_earlier : (n from : ℕ) (x : Letter) (xs : List Letter) → x.pusher < from → many n from (x ∷ xs) ≡ many n from xs
unfolding many
many_earlier zero from x xs lt = refl
many_earlier (suc n) from x xs lt =
    let ne : x.pusher ≢ from = λ e. omega (arith, e, lt) in
    let here : length (of from (x ∷ xs)) ≡ length (of from xs) = ap (λ (l : List Letter). length l) (of_other from x xs ne) in
    let there = many_earlier n (suc from) x xs (omega (arith, lt)) in
    omega (arith, here, there)

-- one of these pushers is counted once
many_mine : (n from : ℕ) (x : Letter) (xs : List Letter) → from ≤ x.pusher → x.pusher < n + from → many n from (x ∷ xs) ≡ suc (many n from xs)
unfolding many
many_mine zero from x xs le lt = absurd (omega (arith, le, lt))
many_mine (suc n) from x xs le lt = dite (ℕ_discrete x.pusher from)
    (λ e.
    let here : length (of from (x ∷ xs)) ≡ suc (length (of from xs)) = ap (λ (l : List Letter). length l) (of_mine from x xs e) in
    let there = many_earlier n (suc from) x xs (omega (arith, e)) in
    omega (arith, here, there))
    (λ ne.
    let here : length (of from (x ∷ xs)) ≡ length (of from xs) = ap (λ (l : List Letter). length l) (of_other from x xs ne) in
    let far : suc from ≤ x.pusher = omega (arith, le, ne) in
    let there = many_mine n (suc from) x xs far (omega (arith, lt)) in
    omega (arith, here, there))

-- none of a later pusher, so none of a later pusher behind the first
none_behind : (n : ℕ) (x : Letter) (xs : List Letter) → ((p : ℕ) → n ≤ p → of p (x ∷ xs) ≡ []) → (x.pusher < n) × ((p : ℕ) → n ≤ p → of p xs ≡ [])
none_behind n x xs none =
    let no : (p : ℕ) → n ≤ p → x.pusher ≢ p = λ p le e.
    let long : suc (length (of p xs)) ≡ 0 = sym (ap (λ (l : List Letter). length l) (of_mine p x xs e)) ∙ ap (λ (l : List Letter). length l) (none p le) in
    omega (arith, long) in (
      ⊎_elim (λ (lt : x.pusher < n). lt) (λ (le : n ≤ x.pusher). absurd (no x.pusher le refl)) (cases_lt x.pusher n),
      λ p le. sym (of_other p x xs (no p le)) ∙ none p le,
    )

pub many_all : (n : ℕ) (all : List Letter) → ((p : ℕ) → n ≤ p → of p all ≡ []) → many n 0 all ≡ length all
many_all n [] none = many_none n 0
many_all n (x ∷ xs) none =
    let h = none_behind n x xs none in
    many_mine n 0 x xs (omega arith) (omega (arith, h.0)) ∙ ap suc (many_all n xs h.1)

-- what each of these actors pushed is all that there is of it
pub owned : (post : PostId) (keys : List KeyOf) (from inbox k : ℕ) (all : List Letter) → AreKeysOf post from keys → AreOf (owns_to keys inbox) all
    → ((p : ℕ) → length keys + from ≤ p → of p all ≡ []) → of (k + from) all ≡ letters (k + from) (pushed_by (all_to keys inbox) k)
owned post [] from inbox k all are each none = none (k + from) (omega arith)
owned post (key ∷ keys) from inbox zero all are each none =
    let P : ℕ → Type 0 = λ p. of p all ≡ letters p (pushed_to key.pushed inbox) in
    let e : key.actor ≡ zero + from = omega (arith, are.1) in
    subst P e each.0
owned post (key ∷ keys) from inbox (suc k) all are each none =
    let P : ℕ → Type 0 = λ p. of p all ≡ letters p (pushed_by (all_to keys inbox) k) in
    let e : k + suc from ≡ suc k + from = omega arith in
    subst P e (owned post keys (suc from) inbox k all are.2 each.1 (λ p le. none p (omega (arith, le))))

pub counted : (post : PostId) (keys : List KeyOf) (from inbox : ℕ) (all : List Letter) → AreKeysOf post from keys → AreOf (owns_to keys inbox) all
    → many (length keys) from all ≡ sum (map (λ (parcels : List Parcel). length parcels) (all_to keys inbox))
unfolding many
counted post [] from inbox all are each = refl
counted post (key ∷ keys) from inbox all are each =
    let P : ℕ → Type 0 = λ p. length (of p all) ≡ length (pushed_to key.pushed inbox) in
    let mine : length (of key.actor all) ≡ length (pushed_to key.pushed inbox) = ap (λ (l : List Letter). length l) each.0 ∙ length_letters key.actor 0 (pushed_to key.pushed inbox) in
    let here : length (of from all) ≡ length (pushed_to key.pushed inbox) = subst P are.1 mine in
    let there = counted post keys (suc from) inbox all are.2 each.1 in
    let first = sum_by-cons (λ (n : ℕ). n) (length (pushed_to key.pushed inbox)) (map (λ (parcels : List Parcel). length parcels) (all_to keys inbox)) in
    omega (arith, here, there, first)
