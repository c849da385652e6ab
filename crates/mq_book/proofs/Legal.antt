-- Legal histories, entry by entry.
use Rattle.std.proofs.Common.{◌≡◌, ℕ, zero, suc, ◌<◌, ◌≤◌, [], ◌∷◌, ◌++◌, length, get_or, take, ap, sym, ◌∙◌, subst, arith, inl, inr, add-one}
use Rattle.std.proofs.lemmas.List.{take_more, take_all, take-append-le, take-take, take_at, length-take-le, get_or-take, get_or_append_left, get_or_push, length_push}
use Rattle.std.proofs.lemmas.Bool.{cases_lt}
use Rattle.mq_talk.specs.declared.book.Config.{Config}
use Rattle.mq_talk.specs.declared.book.Entry.{Entry}
use Rattle.mq_talk.specs.Book.{History}
use Rattle.mq_talk.specs.Answers.{IsLegal, Follows}

-- an entry that may follow leaves a legal history
pub legal_more : (config : Config) (h : History) (e : Entry) → IsLegal config h → Follows config h e → IsLegal config (h ++ e ∷ [])
legal_more config h e legal follows p d less =
    elim (cases_lt p (length h)) [
      | inl below ↦
          let short : p ≤ length h = omega arith in
          subst (λ before. Follows config before (get_or (h ++ e ∷ []) p d)) (sym (take-append-le p h (e ∷ []) short))
          (subst (λ f. Follows config (take p h) f) (sym (get_or_append_left h (e ∷ []) d p below)) (legal p d below))
      | inr past ↦
          let same : length h ≡ p = omega (arith, less, past, length_push h e) in
          subst (λ before. Follows config before (get_or (h ++ e ∷ []) p d)) (sym (take_at h (e ∷ []) p same))
          (subst (λ f. Follows config h f) (sym (get_or_push h e d p same)) follows)
    ]

begins : (config : Config) (h : History) (n : ℕ) → n ≤ length h → IsLegal config h → IsLegal config (take n h)
begins config h n short legal p d less =
    let long : length (take n h) ≡ n = length-take-le n h short in
    let under : p ≤ n = omega (arith, less, long) in
    let below : p < n = omega (arith, less, long) in
    let inside : p < length h = omega (arith, below, short) in
    subst (λ before. Follows config before (get_or (take n h) p d)) (sym (take-take p n h under))
    (subst (λ e. Follows config (take p h) e) (sym (get_or-take n h p d below)) (legal p d inside))

upto : (config : Config) (P : History → Type 0) → P [] → ((h : History) (e : Entry) → IsLegal config h → P h → Follows config h e → P (h ++ e ∷ []))
    → (h : History) → Entry → IsLegal config h → (n : ℕ) → n ≤ length h → P (take n h)
upto config P none step h d legal zero short = none
upto config P none step h d legal (suc n) short =
    let below : n < length h = omega arith in
    let less : n ≤ length h = omega arith in
    subst P (sym (ap (λ k. take k h) (sym (add-one n)) ∙ take_more h n d below))
    (step (take n h) (get_or h n d) (begins config h n less legal) (upto config P none step h d legal n less) (legal n d below))

-- what holds of the empty history, and of one with an entry more, holds of all that are legal
pub by_entries : (config : Config) (P : History → Type 0) → P [] → ((h : History) (e : Entry) → IsLegal config h → P h → Follows config h e → P (h ++ e ∷ []))
    → (h : History) → IsLegal config h → P h
by_entries config P none step [] legal = none
by_entries config P none step (x ∷ xs) legal =
    let h : History = x ∷ xs in
    let all : length h ≤ length h = omega arith in
    subst P (take_all (length h) h all) (upto config P none step h x legal (length h) all)
