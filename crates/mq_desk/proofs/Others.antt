-- What others wrote, as an actor sees it.
use Rattle.std.proofs.Common.{◌≡◌, ◌≢◌, ℕ, zero, suc, ◌<◌, [], ◌∷◌, ◌++◌, length, ap, sym, refl, ◌∙◌, subst, append_assoc, arith, ne_eqb, eq-eqb}
use Rattle.std.specs.Prelude.{slice_get, Some}
use Rattle.std.specs.List.{All}
use Rattle.std.proofs.lemmas.List.{append-nil}
use Rattle.std.proofs.lemmas.List.Elements.{All-head, All-tail, All-cons, All-nil}
use Rattle.mq_talk.specs.declared.book.Call.{Call}
use Rattle.mq_talk.specs.declared.book.Entry.{Entry}
use Rattle.mq_talk.specs.declared.book.Reply.{Reply}
use Rattle.mq_talk.specs.declared.book.Reply.TheVariants.{Opened, HistoryFull, Assigned, Accepted, Closed}
use Rattle.mq_talk.specs.Book.{History, actor_at}
use Rattle.mq_talk.specs.Answers.{IsLegal, recorded}
use Rattle.mq_talk.specs.Offices.{Seen, IsOfOther}
use Rattle.mq_turn.specs.History.{by}
use Rattle.mq_turn.proofs.Histories.{by_append}
use Rattle.mq_desk.specs.Asks.{actor_of}
use Rattle.mq_desk.specs.Staying.{closes_own, entry_stays, legal_at}

entry_within : (h : History) (t : ℕ) (e : Entry) → slice_get h t ≡ Some e → t < length h
entry_within [] t e at = absurd cc
entry_within (x ∷ xs) zero e at = omega arith
entry_within (x ∷ xs) (suc t) e at = let less = entry_within xs t e at in omega (arith, less)

-- entries of others are those of others for this actor
others_from : (seen : Seen) (front more : History) → IsLegal seen.config ((seen.entries ++ front) ++ more) → All (λ e. actor_of e ≢ seen.actor) more → All (IsOfOther seen) more
others_from seen front [] legal others = All-nil (IsOfOther seen)
others_from seen front (e ∷ more) legal others =
    let h : History = seen.entries ++ front in
    let by_other : e.actor ≢ seen.actor = All-head (λ e. actor_of e ≢ seen.actor) e more others in
    let follows = legal_at seen.config h e more legal in
    let same : (h ++ e ∷ []) ++ more ≡ (seen.entries ++ (front ++ (e ∷ []))) ++ more = ap (λ (l : History). l ++ more) (append_assoc seen.entries front (e ∷ [])) in
    let whole : (h ++ e ∷ []) ++ more ≡ h ++ e ∷ more = append_assoc h (e ∷ []) more in
    All-cons (IsOfOther seen) e more
    record {
      by = by_other;
      keeps = λ tunnel opener is at mine. by_other (
          (let own = (closes_own seen.config h e tunnel follows is).actor_is in
          let less = entry_within seen.entries tunnel opener at in
          sym own ∙ ap actor_at (entry_stays seen.entries front tunnel less ∙ at) ∙ mine));
    }
    (others_from seen (front ++ e ∷ []) more (subst (IsLegal seen.config) (sym whole ∙ same) legal) (All-tail (λ e. actor_of e ≢ seen.actor) e more others))

pub are_of_others : (seen : Seen) (more : History) → IsLegal seen.config (seen.entries ++ more) → All (λ e. actor_of e ≢ seen.actor) more → All (IsOfOther seen) more
are_of_others seen more legal others = others_from seen [] more (subst (λ l. IsLegal seen.config (l ++ more)) (sym (append-nil seen.entries)) legal) others

-- others' entries aren't this actor's
pub none_of_others : (n : ℕ) (more : History) → All (λ e. actor_of e ≢ n) more → by actor_of n more ≡ []
none_of_others n [] others = refl
none_of_others n (e ∷ more) others = rw (ne_eqb e.actor n (All-head (λ e. actor_of e ≢ n) e more others)) (none_of_others n more (All-tail (λ e. actor_of e ≢ n) e more others))

pub same_own : (n : ℕ) (h more : History) → All (λ e. actor_of e ≢ n) more → by actor_of n (h ++ more) ≡ by actor_of n h
same_own n h more others = by_append actor_of n h more ∙ ap (λ l. by actor_of n h ++ l) (none_of_others n more others) ∙ append-nil (by actor_of n h)

one_more : (n : ℕ) (h : History) (e : Entry) → e.actor ≡ n → by actor_of n (h ++ e ∷ []) ≡ by actor_of n h ++ e ∷ []
one_more n h e is = by_append actor_of n h (e ∷ []) ∙ ap (λ l. by actor_of n h ++ l) (rw (eq-eqb e.actor n is) refl)

-- what is recorded of an actor's call is its own entry
pub recorded_own : (n : ℕ) (h : History) (c : Call) (reply : Reply) → by actor_of n (recorded h n c reply) ≡ recorded (by actor_of n h) n c reply
recorded_own n h c (HistoryFull entries live) = refl
recorded_own n h c (Opened tunnel routes) = one_more n h (record { actor = n; call = c; reply = Opened tunnel routes }) refl
recorded_own n h c (Assigned list at) = one_more n h (record { actor = n; call = c; reply = Assigned list at }) refl
recorded_own n h c (Accepted taken_up at) = one_more n h (record { actor = n; call = c; reply = Accepted taken_up at }) refl
recorded_own n h c Closed = one_more n h (record { actor = n; call = c; reply = Closed }) refl
