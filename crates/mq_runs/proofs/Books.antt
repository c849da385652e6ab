-- The book only grows: what an actor is answered stands at its end.
use Rattle.std.proofs.Common.{◌≡◌, ◌<◌, ◌≤◌, ℕ, Bool, true, false, List, [], ◌∷◌, ◌++◌, length, refl, sym, subst, ap, arith, append-nil, append_assoc, ◌∙◌}
use Rattle.std.proofs.lemmas.List.{length_push, length-append}
use Rattle.mq_talk.specs.declared.book.Call.{Call}
use Rattle.mq_talk.specs.declared.book.Call.TheVariants as call
use Rattle.mq_talk.specs.declared.book.Config.{Config}
use Rattle.mq_talk.specs.declared.book.Entry.{Entry}
use Rattle.mq_talk.specs.declared.book.Reply.{Reply}
use Rattle.mq_talk.specs.declared.book.Reply.TheVariants as reply
use Rattle.mq_talk.specs.declared.place.Parcel.{Parcel}
use Rattle.mq_talk.specs.Answers.{IsAnswer}
use Rattle.mq_machine.specs.State.{Shared}
use Rattle.mq_machine.specs.Want.{Want, Say, Bind, Ask, Judge, Push, Send, Over, Answer, Said, Bound, Replied, Judged, Pushed, Put}
use Rattle.mq_machine.specs.Shared.{Asked, Asks, Answers, where_full, asked_by, pushing}

-- the same settings, and a book that begins so
pub record Grows (sh after : Shared) : Type 0 where
  pub config : after.config ≡ sh.config
  pub more : List Entry
  pub book : after.book ≡ sh.book ++ more

pub grows_same : (sh : Shared) → Grows sh sh
grows_same sh = record { config = refl; more = []; book = sym (append-nil sh.book) }

pub grows_is : (sh after : Shared) → after ≡ sh → Grows sh after
grows_is sh after e = subst (λ s. Grows sh s) (sym e) (grows_same sh)

pub grows_on : (a b c : Shared) → Grows a b → Grows b c → Grows a c
grows_on a b c x y = record {
  config = y.config ∙ x.config;
  more = x.more ++ y.more;
  book = y.book ∙ ap (λ (l : List Entry). l ++ y.more) x.book ∙ append_assoc a.book x.more y.more;
}

pub grows_long : (sh after : Shared) → Grows sh after → length sh.book ≤ length after.book
grows_long sh after g = let long = ap (λ (l : List Entry). length l) g.book in omega (arith, long, length-append sh.book g.more)

-- an answer that opens a tunnel gives it the number that follows so many entries
abbrev pub IsGivenAt : ℕ → ℕ → Answer → Type 0
IsGivenAt n m (Replied (reply.Opened tunnel routes)) = (tunnel ≡ n) × (n < m)
IsGivenAt n m answer = Unit {0}

-- what an answer leaves
pub record AnswerGrows (sh : Shared) (answer : Answer) (after : Shared) : Type 0 where
  pub grows : Grows sh after
  pub gives : IsGivenAt (length sh.book) (length after.book) answer

-- a reply that is written has its entry at the end, and what it says of its place is true
record AskedGrows (config : Config) (book : List Entry) (asked : Asked) : Type 0 where
  more : List Entry
  is : asked.book ≡ book ++ more
  gives : IsGivenAt (length book) (length asked.book) (Replied asked.reply)

opened_at : (config : Config) (book : List Entry) (c : Call) (tunnel : ℕ) (routes : _) → IsAnswer config book c (reply.Opened tunnel routes) → tunnel ≡ length book
opened_at config book (call.Open conn stream names goal) tunnel routes x = x.1
opened_at config book (call.Assign u asked) tunnel routes x = absurd x
opened_at config book (call.Advertise u ranges) tunnel routes x = absurd x
opened_at config book (call.Close u) tunnel routes x = absurd x

full_grows : (config : Config) (book : List Entry) (actor : ℕ) (c : Call) (entries live : ℕ) → AskedGrows config book (where_full book actor c (reply.HistoryFull entries live))
full_grows config book actor (call.Open conn stream names goal) entries live = record { more = []; is = sym (append-nil book); gives = tt }
full_grows config book actor (call.Close tunnel) entries live = record { more = []; is = sym (append-nil book); gives = tt }
full_grows config book actor (call.Assign tunnel asked) entries live = record { more = _ ∷ []; is = refl; gives = tt }
full_grows config book actor (call.Advertise tunnel ranges) entries live = record { more = _ ∷ []; is = refl; gives = tt }

asked_grows : (config : Config) (book : List Entry) (actor : ℕ) (c : Call) (said : Reply) → IsAnswer config book c said → AskedGrows config book (asked_by book actor c said)
asked_grows config book actor c (reply.HistoryFull entries live) x = full_grows config book actor c entries live
asked_grows config book actor c (reply.Opened tunnel routes) x =
    let e : Entry = record { actor = actor; call = c; reply = reply.Opened tunnel routes } in
    let long = length_push book e in
    record { more = e ∷ []; is = refl; gives = (opened_at config book c tunnel routes x, omega (arith, long)) }
asked_grows config book actor c (reply.Assigned list at) x = record { more = _ ∷ []; is = refl; gives = tt }
asked_grows config book actor c (reply.Accepted accepts at) x = record { more = _ ∷ []; is = refl; gives = tt }
asked_grows config book actor c reply.Closed x = record { more = _ ∷ []; is = refl; gives = tt }

replied_grows : (actor : ℕ) (sh : Shared) (c : Call) (r : Reply) (after : Shared) → Asks sh actor c r after → AnswerGrows sh (Replied r) after
replied_grows actor sh c r after x =
    let so = asked_grows sh.config sh.book actor c x.said x.is in
    let now = asked_by sh.book actor c x.said in
    let P : Reply → Type 0 = λ r. AnswerGrows sh (Replied r) (record sh { book = now.book }) in
    subst (λ (s : Shared). AnswerGrows sh (Replied r) s) (sym x.after_is)
    (subst P (sym x.reply_is) (record { grows = record { config = refl; more = so.more; book = so.is }; gives = so.gives }))

pushing_grows : (b : Bool) (sh : Shared) (parcel : Parcel) → Grows sh (pushing b sh parcel)
pushing_grows true sh parcel = record { config = refl; more = []; book = sym (append-nil sh.book) }
pushing_grows false sh parcel = grows_same sh

pub answer_grows : (actor : ℕ) (sh : Shared) (want : Want) (answer : Answer) (after : Shared) → Answers actor sh want answer after → AnswerGrows sh answer after
answer_grows actor sh Say Said after x = record { grows = grows_is sh after x; gives = tt }
answer_grows actor sh (Bind stream goal) (Bound b) after x = record { grows = grows_is sh after x; gives = tt }
answer_grows actor sh (Ask c) (Replied r) after x = replied_grows actor sh c r after x
answer_grows actor sh (Judge tunnel n flow) (Judged v at) after x = record { grows = grows_is sh after x.2; gives = tt }
answer_grows actor sh (Push parcel) (Pushed b) after x = record { grows = subst (λ (s : Shared). Grows sh s) (sym x.1) (pushing_grows b sh parcel); gives = tt }
answer_grows actor sh (Send tunnel n payload) (Put answer limit) after x = record { grows = grows_is sh after x; gives = tt }
answer_grows actor sh (Over reason) Said after x = record { grows = grows_is sh after x; gives = tt }
answer_grows actor sh want answer after x = absurd x
