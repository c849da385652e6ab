-- Legal histories, entry by entry, and what an entry more changes of what a tunnel holds.
use Rattle.std.proofs.Common.{◌≡◌, ℕ, zero, suc, ◌<◌, ◌≤◌, List, [], ◌∷◌, ◌++◌, length, get_or, take, Option, Some, None, ap, sym, ◌∙◌, refl, subst, arith, add-one}
use Rattle.std.specs.Option.{unwrap_or}
use Rattle.std.specs.List.{filter, filter_map, last_or, cons_option}
use Rattle.std.proofs.lemmas.List.{take_more, take_all, take-take, length-take-le, get_or-take}
use Rattle.std.proofs.lemmas.List.Elements.{filter_map-append}
use Rattle.mq_addr.specs.declared.entry.Given.{Given}
use Rattle.mq_talk.specs.declared.book.Config.{Config}
use Rattle.mq_talk.specs.declared.book.Entry.{Entry}
use Rattle.mq_talk.specs.Book.{History, assigned, last_list, is_given, held}
use Rattle.mq_talk.specs.Answers.{IsLegal, Follows}

begins : (config : Config) (h : History) (n : ℕ) → n ≤ length h → IsLegal config h → IsLegal config (take n h)
begins config h n short legal p d less =
    let long : length (take n h) ≡ n = length-take-le n h short in
    let under : p ≤ n = omega (arith, less, long) in
    let below : p < n = omega (arith, less, long) in
    let inside : p < length h = omega (arith, below, short) in
    subst (λ before. Follows config before (get_or (take n h) p d)) (sym (take-take p n h under))
    (subst (λ e. Follows config (take p h) e) (sym (get_or-take n h p d below)) (legal p d inside))

upto : (config : Config) (P : History → Type 0) → P []
    → ((h : History) (e : Entry) → IsLegal config h → P h → Follows config h e → P (h ++ e ∷ []))
    → (h : History) → Entry → IsLegal config h → (n : ℕ) → n ≤ length h → P (take n h)
upto config P none step h d legal zero short = none
upto config P none step h d legal (suc n) short =
    let below : n < length h = omega arith in
    let less : n ≤ length h = omega arith in
    subst P (sym (ap (λ k. take k h) (sym (add-one n)) ∙ take_more h n d below))
    (step (take n h) (get_or h n d) (begins config h n less legal)
    (upto config P none step h d legal n less) (legal n d below))

-- what holds of the empty history, and of one with an entry more, holds of all that are legal
pub by_entries : (config : Config) (P : History → Type 0) → P []
    → ((h : History) (e : Entry) → IsLegal config h → P h → Follows config h e → P (h ++ e ∷ []))
    → (h : History) → IsLegal config h → P h
by_entries config P none step [] legal = none
by_entries config P none step (x ∷ xs) legal =
    let h : History = x ∷ xs in
    let all : length h ≤ length h = omega arith in
    subst P (take_all (length h) h all) (upto config P none step h x legal (length h) all)

last_push : {X : Type 0} (o : Option X) (xs : List X) (x : X) → last_or o (xs ++ x ∷ []) ≡ Some x
last_push o [] x = refl
last_push o (y ∷ ys) x = last_push (Some y) ys x

pub append_nil : {X : Type 0} (xs : List X) → xs ++ [] ≡ xs
append_nil [] = refl
append_nil (x ∷ xs) = ap (λ ys. x ∷ ys) (append_nil xs)

list_kept : {X : Type 0} (f : Entry → Option (List X)) (h : History) (e : Entry) → f e ≡ None
    → last_list (filter_map f (h ++ e ∷ [])) ≡ last_list (filter_map f h)
list_kept f h e none =
    ap last_list (filter_map-append f h (e ∷ []) ∙ ap (λ o. filter_map f h ++ cons_option o []) none
    ∙ append_nil (filter_map f h))

list_new : {X : Type 0} (f : Entry → Option (List X)) (h : History) (e : Entry) (x : List X) → f e ≡ Some x
    → last_list (filter_map f (h ++ e ∷ [])) ≡ x
list_new f h e x some =
    ap last_list (filter_map-append f h (e ∷ []) ∙ ap (λ o. filter_map f h ++ cons_option o []) some)
    ∙ ap (λ o. unwrap_or o []) (last_push None (filter_map f h) x)

pub held_kept : (h : History) (e : Entry) (t : ℕ) → assigned t e.call e.reply ≡ None → held (h ++ e ∷ []) t ≡ held h t
held_kept h e t none = ap (λ xs. filter is_given xs) (list_kept (λ (f : Entry). assigned t f.call f.reply) h e none)

pub held_new : (h : History) (e : Entry) (t : ℕ) (list : List Given) → assigned t e.call e.reply ≡ Some list
    → held (h ++ e ∷ []) t ≡ filter is_given list
held_new h e t list some =
    ap (λ xs. filter is_given xs) (list_new (λ (f : Entry). assigned t f.call f.reply) h e list some)
