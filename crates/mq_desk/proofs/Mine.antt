-- An actor's own tunnels, behind its own calls.
use Rattle.std.proofs.Common.{◌≡◌, ◌≢◌, ℕ, ◌<◌, ◌≤◌, false, not, ◌&&◌, List, [], ◌∷◌, ◌++◌, length, get_or, take, ap, sym, ◌∙◌, subst, arith}
use Rattle.std.specs.Prelude.{Result, Ok, Err}
use Rattle.std.specs.List.{All}
use Rattle.std.proofs.lemmas.List.{take-append-le, get_or_append_left, length_push}
use Rattle.std.proofs.lemmas.List.Elements.{All-head, All-tail, All-cons, All-nil}
use Rattle.mq_wire.specs.declared.NoMemory.{NoMemory}
use Rattle.mq_addr.specs.declared.entry.Asked.{Asked}
use Rattle.mq_addr.specs.declared.range.Range.{Range}
use Rattle.mq_addr.specs.declared.range.Flow.{Flow}
use Rattle.mq_talk.specs.declared.goal.Goal.{Goal}
use Rattle.mq_talk.specs.declared.book.Call.{Call}
use Rattle.mq_talk.specs.declared.book.Call.TheVariants.{Open, Assign}
use Rattle.mq_talk.specs.declared.book.Config.{Config}
use Rattle.mq_talk.specs.declared.book.Entry.{Entry}
use Rattle.mq_talk.specs.declared.book.Reply.{Reply}
use Rattle.mq_talk.specs.declared.book.Reply.TheVariants.{Opened, HistoryFull, Assigned, Accepted, Closed}
use Rattle.mq_talk.specs.declared.place.Judged.{Judged}
use Rattle.mq_talk.specs.declared.place.Origin.{Origin}
use Rattle.mq_talk.specs.Book.{History}
use Rattle.mq_talk.specs.Answers.{Follows, IsLegal, IsMine}
use Rattle.mq_talk.specs.Offices.{CallGives, IsOfOther, JudgeGives, Seen, Sees}
use Rattle.mq_book.proofs.More.{actor_new, actor_old, live_new, live_old, live_within}
use Rattle.mq_desk.specs.Asks.{actor_of}
use Rattle.mq_desk.specs.Keys.{KeyOf, seen_by}
use Rattle.mq_desk.specs.Staying.{all_stay}

-- a legal history without its last entry is legal
legal_before : (config : Config) (h : History) (e : Entry) → IsLegal config (h ++ e ∷ []) → IsLegal config h
legal_before config h e legal p d less =
    let inside : p < length (h ++ e ∷ []) = omega (arith, less, length_push h e) in
    let short : p ≤ length h = omega (arith, less) in
    subst (λ before. Follows config before (get_or h p d)) (take-append-le p h (e ∷ []) short)
    (subst (λ f. Follows config (take p (h ++ e ∷ [])) f) (get_or_append_left h (e ∷ []) d p less) (legal p d inside))

by_others : (seen : Seen) (more : History) → All (IsOfOther seen) more → All (λ e. actor_of e ≢ seen.actor) more
by_others seen [] others = All-nil (λ (e : Entry). actor_of e ≢ seen.actor)
by_others seen (e ∷ more) others =
    All-cons (λ (e : Entry). actor_of e ≢ seen.actor) e more (All-head (IsOfOther seen) e more others).by
    (by_others seen more (All-tail (IsOfOther seen) e more others))

-- the history went on by entries of others
goes_on : (config : Config) (key : KeyOf) (book : History) (t : ℕ) → Sees (seen_by config key) book → IsLegal config book → IsMine key.seen key.number t → IsMine book key.number t
goes_on config key book t sees legal mine =
    subst (λ h. IsMine h key.number t) (sym sees.goes_on)
    (all_stay config key.seen sees.more key.number t (subst (IsLegal config) sees.goes_on legal) (by_others (seen_by config key) sees.more sees.others) mine)

-- an actor opened a tunnel
pub opened : (config now : Config) (old new : KeyOf) (actor conn stream names : ℕ) (goal : Goal) (tunnel : ℕ) (routes : List Range) (reply : Reply) (result : Result Reply NoMemory)
    → old.number ≡ actor → result ≡ Ok reply → reply ≡ Opened tunnel routes
    → CallGives old.number (seen_by config old) (Open conn stream names goal) result (seen_by now new) → IsMine new.seen actor tunnel
opened config now old new actor conn stream names goal tunnel routes reply result is ok reply_is gives =
    let c : Call = Open conn stream names goal in
    let told : CallGives old.number (seen_by config old) c (Ok (Opened tunnel routes)) (seen_by now new) =
    subst (λ r. CallGives old.number (seen_by config old) c r (seen_by now new)) (ok ∙ ap Ok reply_is) gives in
    let e : Entry = record { actor = old.number; call = c; reply = Opened tunnel routes } in
    let here : IsMine (told.book ++ e ∷ []) old.number (length told.book) = record { live = live_new told.book e; actor_is = actor_new told.book e } in
    subst (λ n. IsMine new.seen n tunnel) is
    (subst (λ h. IsMine h old.number tunnel) (sym told.seen) (subst (λ n. IsMine (told.book ++ e ∷ []) old.number n) (sym told.reply_is.1) here))

assigned_more : (h : History) (actor t tunnel : ℕ) (asked : List Asked) (reply : Reply) → IsMine h actor t
    → IsMine (h ++ record { actor = actor; call = Assign tunnel asked; reply = reply } ∷ []) actor t
assigned_more h actor t tunnel asked reply mine =
    let e : Entry = record { actor = actor; call = Assign tunnel asked; reply = reply } in
    let less = live_within h t mine.live in
    record {
      live = live_old h e t less ∙ ap (λ b. b && not false) mine.live;
      actor_is = actor_old h e t less ∙ mine.actor_is;
    }

still : (config now : Config) (old new : KeyOf) (t tunnel : ℕ) (asked : List Asked) (result : Result Reply NoMemory)
    → CallGives old.number (seen_by config old) (Assign tunnel asked) result (seen_by now new) → IsLegal now new.seen → IsMine old.seen old.number t → IsMine new.seen old.number t
still config now old new t tunnel asked (Err refused) gives legal mine =
    goes_on config old new.seen t gives.0 (subst (λ k. IsLegal k new.seen) gives.1.config legal) mine
still config now old new t tunnel asked (Ok (Assigned list at)) gives legal mine =
    let e : Entry = record { actor = old.number; call = Assign tunnel asked; reply = Assigned list at } in
    let whole : IsLegal config new.seen = subst (λ k. IsLegal k new.seen) gives.same.config legal in
    let before : IsLegal config gives.book = legal_before config gives.book e (subst (IsLegal config) gives.seen whole) in
    subst (λ h. IsMine h old.number t) (sym gives.seen)
    (assigned_more gives.book old.number t tunnel asked (Assigned list at) (goes_on config old gives.book t gives.sees before mine))
still config now old new t tunnel asked (Ok (HistoryFull entries live)) gives legal mine =
    let whole : IsLegal config new.seen = subst (λ k. IsLegal k new.seen) gives.same.config legal in
    subst (λ h. IsMine h old.number t) (sym gives.seen) (goes_on config old gives.book t gives.sees (subst (IsLegal config) gives.seen whole) mine)
still config now old new t tunnel asked (Ok (Opened u routes)) gives legal mine = absurd gives.reply_is
still config now old new t tunnel asked (Ok (Accepted taken_up at)) gives legal mine = absurd gives.reply_is
still config now old new t tunnel asked (Ok Closed) gives legal mine = absurd gives.reply_is

-- an actor asked for blocks, and its tunnels are its own still
pub assigned : (config now : Config) (old new : KeyOf) (actor t tunnel : ℕ) (asked : List Asked) (result : Result Reply NoMemory) → old.number ≡ actor
    → CallGives old.number (seen_by config old) (Assign tunnel asked) result (seen_by now new) → IsLegal now new.seen → IsMine old.seen actor t → IsMine new.seen actor t
assigned config now old new actor t tunnel asked result is gives legal mine =
    subst (λ n. IsMine new.seen n t) is (still config now old new t tunnel asked result gives legal (subst (λ n. IsMine old.seen n t) (sym is) mine))

-- a packet was judged, and the actor's tunnels are its own still
pub judged : (config now : Config) (old new : KeyOf) (actor t : ℕ) (from : Origin) (flow : Flow) (j : Judged) → old.number ≡ actor
    → JudgeGives (seen_by config old) from flow j (seen_by now new) → IsLegal now new.seen → IsMine old.seen actor t → IsMine new.seen actor t
judged config now old new actor t from flow j is gives legal mine =
    subst (λ n. IsMine new.seen n t) is
    (goes_on config old new.seen t gives.sees (subst (λ k. IsLegal k new.seen) gives.same.config legal) (subst (λ n. IsMine old.seen n t) (sym is) mine))
