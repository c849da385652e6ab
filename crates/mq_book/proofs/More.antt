-- What an entry more changes of what a history says.
use Rattle.std.proofs.Common.{◌≡◌, ℕ, zero, suc, ◌+◌, ◌<◌, ◌≤◌, Bool, true, false, not, cond, ◌&&◌, ◌||◌, List, [], ◌∷◌, ◌++◌, length, drop, Option, Some, None, ap, ◌∙◌, refl, arith, inl, inr, add-one}
use Rattle.std.specs.Prelude.{slice_get, IsTrue}
use Rattle.std.specs.Option.{unwrap_or}
use Rattle.std.specs.List.{filter, filter_map, list_any, range_with_len, last_or, cons_option}
use Rattle.std.proofs.lemmas.List.{drop-append-le, drop_all, length_push}
use Rattle.std.proofs.lemmas.List.Elements.{filter_map-append, filter-append}
use Rattle.std.proofs.lemmas.Bool.{cases_lt, both_ways}
use Rattle.mq_addr.specs.declared.entry.Given.{Given}
use Rattle.mq_addr.specs.declared.range.Range.{Range}
use Rattle.mq_talk.specs.declared.book.Entry.{Entry}
use Rattle.mq_talk.specs.Book.{History, opening, closes, assigned, accepted, opened_at, is_some_list, is_live, live_tunnels, last_list, is_given, held, ranges, routes, actor_at, actor_of}

get_old : (h : History) (e : Entry) (t : ℕ) → t < length h → slice_get (h ++ e ∷ []) t ≡ slice_get h t
get_old [] e t less = absurd (omega arith)
get_old (x ∷ xs) e zero less = refl
get_old (x ∷ xs) e (suc t) less = let below : t < length xs = omega (arith, less) in get_old xs e t below

get_new : (h : History) (e : Entry) → slice_get (h ++ e ∷ []) (length h) ≡ Some e
get_new [] e = refl
get_new (x ∷ xs) e = get_new xs e

get_none : (h : History) (t : ℕ) → length h ≤ t → slice_get h t ≡ None
get_none [] t past = refl
get_none (x ∷ xs) zero past = absurd (omega (arith, past))
get_none (x ∷ xs) (suc t) past = let behind : length xs ≤ t = omega (arith, past) in get_none xs t behind

or_false : (b : Bool) → (b || false) ≡ b
or_false true = refl
or_false false = refl

or_assoc : (a b c : Bool) → (a || (b || c)) ≡ ((a || b) || c)
or_assoc true b c = refl
or_assoc false b c = refl

and_true : (b : Bool) → (b && true) ≡ b
and_true true = refl
and_true false = refl

any_push : (p : Entry → Bool) (h : History) (e : Entry) → list_any p (h ++ e ∷ []) ≡ (list_any p h || p e)
any_push p [] e = or_false (p e)
any_push p (x ∷ xs) e = ap (λ b. p x || b) (any_push p xs e) ∙ or_assoc (p x) (list_any p xs) (p e)

regroup : (a b c : Bool) → (a && not (b || c)) ≡ ((a && not b) && not c)
regroup true true c = refl
regroup true false c = refl
regroup false b c = refl

pub live_old : (h : History) (e : Entry) (t : ℕ) → t < length h → is_live (h ++ e ∷ []) t ≡ (is_live h t && not (closes t e.call))
live_old h e t less =
    let p : Entry → Bool = λ f. closes t f.call in
    let opened = is_some_list (opened_at (slice_get h t)) in
    let fits : t + 1 ≤ length h = omega arith in
    ap (λ o. is_some_list (opened_at o) && not (list_any p (drop (t + 1) (h ++ e ∷ [])))) (get_old h e t less)
    ∙ ap (λ xs. opened && not (list_any p xs)) (drop-append-le (t + 1) h (e ∷ []) fits)
    ∙ ap (λ b. opened && not b) (any_push p (drop (t + 1) h) e)
    ∙ regroup opened (list_any p (drop (t + 1) h)) (p e)

pub live_new : (h : History) (e : Entry) → is_live (h ++ e ∷ []) (length h) ≡ is_some_list (opening e.call e.reply)
live_new h e =
    let p : Entry → Bool = λ f. closes (length h) f.call in
    let all : length (h ++ e ∷ []) ≤ length h + 1 = omega (arith, length_push h e) in
    ap (λ o. is_some_list (opened_at o) && not (list_any p (drop (length h + 1) (h ++ e ∷ [])))) (get_new h e)
    ∙ ap (λ xs. is_some_list (opening e.call e.reply) && not (list_any p xs)) (drop_all (length h + 1) (h ++ e ∷ []) all)
    ∙ and_true (is_some_list (opening e.call e.reply))

pub live_past : (h : History) (t : ℕ) → length h ≤ t → is_live h t ≡ false
live_past h t past = ap (λ o. is_some_list (opened_at o) && not (list_any (λ (f : Entry). closes t f.call) (drop (t + 1) h))) (get_none h t past)

-- a live tunnel is an entry of the history
pub live_within : (h : History) (t : ℕ) → IsTrue (is_live h t) → t < length h
live_within h t live =
    elim (cases_lt t (length h)) [
      | inl less ↦ less
      | inr past ↦ absurd (both_ways (is_live h t) (live_past h t past) live)
    ]

filter_below : (p q : ℕ → Bool) (a n : ℕ) → ((k : ℕ) → a ≤ k → k < a + n → p k ≡ q k) → filter p (range_with_len a n) ≡ filter q (range_with_len a n)
filter_below p q a zero h = refl
filter_below p q a (suc n) h =
    let low : a ≤ a = omega arith in
    let high : a < a + suc n = omega arith in
    let rest = range_with_len (a + 1) n in
    let tail = filter_below p q (a + 1) n (λ k from to. let l : a ≤ k = omega arith in let m : k < a + suc n = omega arith in h k l m) in
    ap (λ b. cond b (a ∷ filter p rest) (filter p rest)) (h a low high) ∙ ap (λ xs. cond (q a) (a ∷ xs) xs) tail

range_push : (a n : ℕ) → range_with_len a (suc n) ≡ range_with_len a n ++ (a + n) ∷ []
range_push a zero = let e : a ≡ a + 0 = omega arith in ap (λ (k : ℕ). k ∷ []) e
range_push a (suc n) =
    let e : a + 1 + n ≡ a + suc n = omega arith in
    ap (λ xs. a ∷ xs) (range_push (a + 1) n ∙ ap (λ k. range_with_len (a + 1) n ++ k ∷ []) e)

filter_step : (q : ℕ → Bool) (b : Bool) (x : ℕ) (f g : List ℕ) → f ≡ filter q g → cond (b && q x) (x ∷ f) f ≡ filter q (cond b (x ∷ g) g)
filter_step q true x f g e = ap (λ ys. cond (q x) (x ∷ ys) ys) e
filter_step q false x f g e = e

filter_both : (p q : ℕ → Bool) (xs : List ℕ) → filter (λ t. p t && q t) xs ≡ filter q (filter p xs)
filter_both p q [] = refl
filter_both p q (x ∷ xs) = filter_step q (p x) x (filter (λ t. p t && q t) xs) (filter p xs) (filter_both p q xs)

-- the live tunnels stay, but for the one that is closed, and the one that opens is the last
pub tunnels_more : (h : History) (e : Entry)
    → live_tunnels (h ++ e ∷ []) ≡ filter (λ t. not (closes t e.call)) (live_tunnels h) ++ cond (is_some_list (opening e.call e.reply)) (length h ∷ []) []
tunnels_more h e =
    let n = length h in
    let now : ℕ → Bool = λ t. is_live (h ++ e ∷ []) t in
    let same : 0 + n ≡ n = omega arith in
    let front = filter_below now (λ t. is_live h t && not (closes t e.call)) 0 n (λ k low high. let less : k < length h = omega (arith, high) in live_old h e k less)
    ∙ filter_both (λ t. is_live h t) (λ t. not (closes t e.call)) (range_with_len 0 n) in
    let last = ap (λ k. cond (now k) (k ∷ []) []) same ∙ ap (λ b. cond b (n ∷ []) []) (live_new h e) in
    ap (λ k. filter now (range_with_len 0 k)) (length_push h e ∙ add-one n) ∙ ap (λ xs. filter now xs) (range_push 0 n)
    ∙ filter-append now (range_with_len 0 n) ((0 + n) ∷ []) ∙ ap (λ xs. xs ++ filter now ((0 + n) ∷ [])) front
    ∙ ap (λ xs. filter (λ t. not (closes t e.call)) (live_tunnels h) ++ xs) last

last_push : {X : Type 0} (o : Option X) (xs : List X) (x : X) → last_or o (xs ++ x ∷ []) ≡ Some x
last_push o [] x = refl
last_push o (y ∷ ys) x = last_push (Some y) ys x

pub append_nil : {X : Type 0} (xs : List X) → xs ++ [] ≡ xs
append_nil [] = refl
append_nil (x ∷ xs) = ap (λ ys. x ∷ ys) (append_nil xs)

list_kept : {X : Type 0} (f : Entry → Option (List X)) (h : History) (e : Entry) → f e ≡ None → last_list (filter_map f (h ++ e ∷ [])) ≡ last_list (filter_map f h)
list_kept f h e none =
    ap last_list (filter_map-append f h (e ∷ []) ∙ ap (λ o. filter_map f h ++ cons_option o []) none ∙ append_nil (filter_map f h))

list_new : {X : Type 0} (f : Entry → Option (List X)) (h : History) (e : Entry) (x : List X) → f e ≡ Some x → last_list (filter_map f (h ++ e ∷ [])) ≡ x
list_new f h e x some =
    ap last_list (filter_map-append f h (e ∷ []) ∙ ap (λ o. filter_map f h ++ cons_option o []) some) ∙ ap (λ o. unwrap_or o []) (last_push None (filter_map f h) x)

pub held_kept : (h : History) (e : Entry) (t : ℕ) → assigned t e.call e.reply ≡ None → held (h ++ e ∷ []) t ≡ held h t
held_kept h e t none = ap (λ xs. filter is_given xs) (list_kept (λ (f : Entry). assigned t f.call f.reply) h e none)

pub held_new : (h : History) (e : Entry) (t : ℕ) (list : List Given) → assigned t e.call e.reply ≡ Some list → held (h ++ e ∷ []) t ≡ filter is_given list
held_new h e t list some = ap (λ xs. filter is_given xs) (list_new (λ (f : Entry). assigned t f.call f.reply) h e list some)

pub ranges_kept : (h : History) (e : Entry) (t : ℕ) → accepted t e.call e.reply ≡ None → ranges (h ++ e ∷ []) t ≡ ranges h t
ranges_kept h e t none = list_kept (λ (f : Entry). accepted t f.call f.reply) h e none

pub ranges_new : (h : History) (e : Entry) (t : ℕ) (list : List Range) → accepted t e.call e.reply ≡ Some list → ranges (h ++ e ∷ []) t ≡ list
ranges_new h e t list some = list_new (λ (f : Entry). accepted t f.call f.reply) h e list some

pub routes_old : (h : History) (e : Entry) (t : ℕ) → t < length h → routes (h ++ e ∷ []) t ≡ routes h t
routes_old h e t less = ap (λ o. unwrap_or (opened_at o) []) (get_old h e t less)

pub routes_new : (h : History) (e : Entry) → routes (h ++ e ∷ []) (length h) ≡ unwrap_or (opening e.call e.reply) []
routes_new h e = ap (λ o. unwrap_or (opened_at o) []) (get_new h e)

pub actor_old : (h : History) (e : Entry) (t : ℕ) → t < length h → actor_of (h ++ e ∷ []) t ≡ actor_of h t
actor_old h e t less = ap actor_at (get_old h e t less)

pub actor_new : (h : History) (e : Entry) → actor_of (h ++ e ∷ []) (length h) ≡ e.actor
actor_new h e = ap actor_at (get_new h e)
