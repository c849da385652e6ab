-- A history goes on: what its entries and its live tunnels are then.
use Rattle.std.proofs.Common.{◌≡◌, ◌≢◌, ◌⊎◌, inl, inr, ℕ, zero, suc, ◌+◌, ◌<◌, ◌≤◌, Bool, true, false, not, ◌&&◌, ◌||◌, [], ◌∷◌, ◌++◌}
use Rattle.std.proofs.Common.{length, drop, All, slice_get, Option, Some, None, refl, sym, ap, subst, ◌∙◌, arith}
use Rattle.std.specs.List.{list_any}
use Rattle.std.proofs.lemmas.Bool.{ne_eqb}
use Rattle.std.proofs.lemmas.List.{drop-append-le, drop_all, length_push}
use Rattle.std.proofs.lemmas.List.Elements.{All-append, All-cons, All-head, All-nil, All-tail}
use Rattle.std.proofs.lemmas.List.Folds.{list_any-append}
use Rattle.mq_talk.specs.declared.book.Call.{Call}
use Rattle.mq_talk.specs.declared.book.Call.TheVariants as call
use Rattle.mq_talk.specs.declared.book.Entry.{Entry}
use Rattle.mq_talk.specs.Answers.{IsMine}
use Rattle.mq_talk.specs.Book.{History, actor_at, closes, opening, opened_at, is_some_list, is_live}
use Rattle.mq_talk.specs.Offices.{Seen, Sees, IsOfOther}

-- ---- an entry of two parts of a history

pub entry_front : (book more : History) (t : ℕ) → t < length book → slice_get (book ++ more) t ≡ slice_get book t
entry_front [] more t less = absurd (omega arith)
entry_front (x ∷ xs) more zero less = refl
entry_front (x ∷ xs) more (suc t) less = let below : t < length xs = omega (arith, less) in entry_front xs more t below

-- an entry is one of its history
pub entry_within : (book : History) (t : ℕ) (e : Entry) → slice_get book t ≡ Some e → t < length book
entry_within [] t e at = absurd cc
entry_within (x ∷ xs) zero e at = omega arith
entry_within (x ∷ xs) (suc t) e at = let less = entry_within xs t e at in omega (arith, less)

-- an entry of this part that isn't in the first part is so far behind it
abbrev pub IsBehind : History → History → ℕ → Entry → Type 0
IsBehind book more t e = (k : ℕ) × (t ≡ length book + k) × (slice_get more k ≡ Some e)

pub entry_part : (book more : History) (t : ℕ) (e : Entry) → slice_get (book ++ more) t ≡ Some e → (t < length book) ⊎ IsBehind book more t e
entry_part [] more t e at = let same : t ≡ 0 + t = omega arith in inr (t, same, at)
entry_part (x ∷ xs) more zero e at = let first : 0 < length (x ∷ xs) = omega arith in inl first
entry_part (x ∷ xs) more (suc t) e at = by_case (entry_part xs more t e at) where
  by_case : (t < length xs) ⊎ IsBehind xs more t e → (suc t < length (x ∷ xs)) ⊎ IsBehind (x ∷ xs) more (suc t) e
  by_case (inl less) = let below : suc t < length (x ∷ xs) = omega (arith, less) in inl below
  by_case (inr (k, is, there)) = let far : suc t ≡ length (x ∷ xs) + k = omega (arith, is) in inr (k, far, there)

pub entry_all : (P : Entry → Type 0) (book : History) (t : ℕ) (e : Entry) → All P book → slice_get book t ≡ Some e → P e
entry_all P [] t e all at = absurd cc
entry_all P (x ∷ xs) zero e all at = let same : x ≡ e = cc in subst P same (All-head P x xs all)
entry_all P (x ∷ xs) (suc t) e all at = entry_all P xs t e (All-tail P x xs all) at

pub entry_last : (book : History) (e : Entry) → slice_get (book ++ e ∷ []) (length book) ≡ Some e
entry_last [] e = refl
entry_last (x ∷ xs) e = entry_last xs e

-- ---- a live tunnel, as the history goes on

-- one of these entries closes the tunnel
abbrev pub any_closes : ℕ → History → Bool
any_closes t book = list_any (λ (e : Entry). closes t e.call) book

regroup : (a b c : Bool) → (a && not (b || c)) ≡ ((a && not b) && not c)
regroup true true c = refl
regroup true false c = refl
regroup false b c = refl

pub both : (a b : Bool) → (a && b) ≡ true → (a ≡ true) × (b ≡ true)
both true b is = (refl, is)
both false b is = absurd cc

pub not_is : (b : Bool) → not b ≡ true → b ≡ false
not_is true is = absurd cc
not_is false is = refl

pub live_front : (book more : History) (t : ℕ) → t < length book → is_live (book ++ more) t ≡ (is_live book t && not (any_closes t more))
live_front book more t less =
    let p : Entry → Bool = λ e. closes t e.call in
    let opened = is_some_list (opened_at (slice_get book t)) in
    let fits : t + 1 ≤ length book = omega (arith, less) in
    ap (λ o. is_some_list (opened_at o) && not (list_any p (drop (t + 1) (book ++ more)))) (entry_front book more t less)
    ∙ ap (λ es. opened && not (list_any p es)) (drop-append-le (t + 1) book more fits)
    ∙ ap (λ b. opened && not b) (list_any-append p (drop (t + 1) book) more)
    ∙ regroup opened (list_any p (drop (t + 1) book)) (any_closes t more)

pub live_last : (book : History) (e : Entry) → is_live (book ++ e ∷ []) (length book) ≡ (is_some_list (opening e.call e.reply) && true)
live_last book e =
    let p : Entry → Bool = λ x. closes (length book) x.call in
    let all : length (book ++ e ∷ []) ≤ length book + 1 = omega (arith, length_push book e) in
    ap (λ o. is_some_list (opened_at o) && not (list_any p (drop (length book + 1) (book ++ e ∷ [])))) (entry_last book e)
    ∙ ap (λ es. is_some_list (opening e.call e.reply) && not (list_any p es)) (drop_all (length book + 1) (book ++ e ∷ []) all)

-- ---- what others wrote

call_keeps : (seen : Seen) (t : ℕ) (opener : Entry) (c : Call) → slice_get seen.entries t ≡ Some opener → opener.actor ≡ seen.actor
    → ((tunnel : ℕ) (e : Entry) → c ≡ call.Close tunnel → slice_get seen.entries tunnel ≡ Some e → e.actor ≢ seen.actor) → closes t c ≡ false
call_keeps seen t opener (call.Open conn stream actor goal) at by keeps = refl
call_keeps seen t opener (call.Assign tunnel asked) at by keeps = refl
call_keeps seen t opener (call.Advertise tunnel ranges) at by keeps = refl
call_keeps seen t opener (call.Close tunnel) at by keeps =
    ne_eqb tunnel t (λ same. keeps tunnel opener refl (ap (λ k. slice_get seen.entries k) same ∙ at) by)

pub others_keep : (seen : Seen) (more : History) (t : ℕ) (opener : Entry) → All (IsOfOther seen) more → slice_get seen.entries t ≡ Some opener
    → opener.actor ≡ seen.actor → any_closes t more ≡ false
others_keep seen [] t opener others at by = refl
others_keep seen (e ∷ more) t opener others at by =
    ap (λ b. b || any_closes t more) (call_keeps seen t opener e.call at by (All-head (IsOfOther seen) e more others).keeps)
    ∙ others_keep seen more t opener (All-tail (IsOfOther seen) e more others) at by

-- a live tunnel has its entry
live_entry : (h : History) (t : ℕ) → is_live h t ≡ true → (e : Entry) × (slice_get h t ≡ Some e)
live_entry h t live = by_case (slice_get h t) refl where
  by_case : (o : Option Entry) → slice_get h t ≡ o → (e : Entry) × (slice_get h t ≡ Some e)
  by_case (Some e) at = (e, at)
  by_case None at =
      let closed = list_any (λ (x : Entry). closes t x.call) (drop (t + 1) h) in
      let dead : true ≡ false = sym live ∙ ap (λ (o : Option Entry). is_some_list (opened_at o) && not closed) at in
      absurd cc

-- a live tunnel of an actor is one whatever others write
pub mine_stays : (seen : Seen) (book : History) (t : ℕ) → Sees seen book → IsMine seen.entries seen.actor t → IsMine book seen.actor t
mine_stays seen book t sees mine =
    let P : History → Type 0 = λ h. IsMine h seen.actor t in
    let opener = live_entry seen.entries t mine.live in
    let by = ap (λ (o : Option Entry). actor_at o) (sym opener.1) ∙ mine.actor_is in
    let less = entry_within seen.entries t opener.0 opener.1 in
    let none = others_keep seen sees.more t opener.0 sees.others opener.1 by in
    subst P (sym sees.goes_on) (record {
      live = live_front seen.entries sees.more t less ∙ ap (λ b. b && not (any_closes t sees.more)) mine.live ∙ ap not none;
      actor_is = ap (λ (o : Option Entry). actor_at o) (entry_front seen.entries sees.more t less) ∙ mine.actor_is;
    })

-- ---- what an actor has seen, and goes on from

app_assoc : (a b c : History) → (a ++ b) ++ c ≡ a ++ (b ++ c)
app_assoc [] b c = refl
app_assoc (x ∷ a) b c = ap (λ (es : History). x ∷ es) (app_assoc a b c)

others_were : (old mid : Seen) (between more : History) → mid.actor ≡ old.actor → mid.entries ≡ old.entries ++ between → All (IsOfOther mid) more → All (IsOfOther old) more
others_were old mid between [] same is others = All-nil (IsOfOther old)
others_were old mid between (e ∷ more) same is others =
    let first = All-head (IsOfOther mid) e more others in
    All-cons (IsOfOther old) e more (record {
      by = λ mine. first.by (mine ∙ sym same);
      keeps = λ tunnel opener closes_it at mine.
          first.keeps tunnel opener closes_it
          (ap (λ (h : History). slice_get h tunnel) is ∙ entry_front old.entries between tunnel (entry_within old.entries tunnel opener at) ∙ at)
          (mine ∙ sym same);
    }) (others_were old mid between more same is (All-tail (IsOfOther mid) e more others))

-- it goes on from what was seen first, too
pub sees_on : (old mid : Seen) (book : History) → mid.actor ≡ old.actor → mid.is_whole ≡ old.is_whole → Sees old mid.entries → Sees mid book → Sees old book
sees_on old mid book same whole first later = record {
  more = first.more ++ later.more;
  goes_on = later.goes_on ∙ ap (λ (h : History). h ++ later.more) first.goes_on ∙ app_assoc old.entries first.more later.more;
  others = All-append (IsOfOther old) first.more later.more first.others (others_were old mid first.more later.more same first.goes_on later.others);
  whole = λ is. ap (λ (h : History). h ++ later.more) (first.whole is) ∙ later.whole (whole ∙ is);
}
