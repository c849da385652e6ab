-- What an actor may ask it may ask still when others have written more: they close none of its tunnels.
use Rattle.std.proofs.Common.{◌≡◌, ◌≢◌, ℕ, zero, suc, ◌<◌, false, not, ◌&&◌, [], ◌∷◌, ◌++◌, length, get_or, take, ap, sym, refl, ◌∙◌, subst, arith, append_assoc, length-append, ne_eqb}
use Rattle.std.specs.Prelude.{slice_get}
use Rattle.std.specs.List.{All}
use Rattle.std.proofs.lemmas.List.{append-nil, take_at}
use Rattle.std.proofs.lemmas.List.Elements.{All-head, All-tail}
use Rattle.mq_talk.specs.declared.book.Call.{Call}
use Rattle.mq_talk.specs.declared.book.Call.TheVariants.{Open, Assign, Advertise, Close}
use Rattle.mq_talk.specs.declared.book.Config.{Config}
use Rattle.mq_talk.specs.declared.book.Entry.{Entry}
use Rattle.mq_talk.specs.declared.place.Origin.TheVariants as origin
use Rattle.mq_talk.specs.Book.{History, actor_at, closes}
use Rattle.mq_talk.specs.Answers.{Follows, IsLegal, IsMine, MayCall}
use Rattle.mq_book.proofs.More.{live_old, live_within}
use Rattle.mq_desk.specs.declared.ask.Ask.{Ask}
use Rattle.mq_desk.specs.declared.ask.Ask.TheVariants as ask
use Rattle.mq_desk.specs.Asks.{actor_of, asker, MayAsk}

-- a history without an entry is legal
pub none_legal : (config : Config) → IsLegal config []
none_legal config p d less = absurd (omega arith)

-- entries behind a place change nothing there
pub entry_stays : (h more : History) (t : ℕ) → t < length h → slice_get (h ++ more) t ≡ slice_get h t
entry_stays [] more t less = absurd (omega arith)
entry_stays (x ∷ xs) more zero less = refl
entry_stays (x ∷ xs) more (suc t) less = let below : t < length xs = omega (arith, less) in entry_stays xs more t below

entry_there : (h : History) (e : Entry) (more : History) (d : Entry) → get_or (h ++ e ∷ more) (length h) d ≡ e
entry_there [] e more d = refl
entry_there (x ∷ xs) e more d = entry_there xs e more d

-- an entry of a legal history follows those before it
pub legal_at : (config : Config) (h : History) (e : Entry) (more : History) → IsLegal config (h ++ e ∷ more) → Follows config h e
legal_at config h e more legal =
    let less : length h < length (h ++ e ∷ more) = omega (arith, length-append h (e ∷ more)) in
    subst (λ before. Follows config before e) (take_at h (e ∷ more) (length h) refl)
    (subst (λ f. Follows config (take (length h) (h ++ e ∷ more)) f) (entry_there h e more e) (legal (length h) e less))

stays_open : (t : ℕ) (c : Call) → ((u : ℕ) → c ≡ Close u → u ≢ t) → closes t c ≡ false
stays_open t (Open conn stream actor goal) other = refl
stays_open t (Assign tunnel asked) other = refl
stays_open t (Advertise tunnel ranges) other = refl
stays_open t (Close u) other = ne_eqb u t (other u refl)

-- who closes a tunnel opened it
pub closes_own : (config : Config) (h : History) (e : Entry) (u : ℕ) → Follows config h e → e.call ≡ Close u → IsMine h e.actor u
closes_own config h e u follows is = (subst (MayCall config h e.actor) is follows.may).1

-- another's entry closes no tunnel of this actor
mine_stays : (config : Config) (h : History) (e : Entry) (actor t : ℕ) → Follows config h e → e.actor ≢ actor → IsMine h actor t → IsMine (h ++ e ∷ []) actor t
mine_stays config h e actor t follows other mine =
    let less = live_within h t mine.live in
    let stays_so : closes t e.call ≡ false = stays_open t e.call (λ u is same.
    other (sym (closes_own config h e u follows is).actor_is ∙ ap (λ k. actor_at (slice_get h k)) same ∙ mine.actor_is)) in
    record {
      live = live_old h e t less ∙ ap (λ b. b && not (closes t e.call)) mine.live ∙ ap not stays_so;
      actor_is = ap actor_at (entry_stays h (e ∷ []) t less) ∙ mine.actor_is;
    }

pub all_stay : (config : Config) (h more : History) (actor t : ℕ) → IsLegal config (h ++ more) → All (λ e. actor_of e ≢ actor) more → IsMine h actor t → IsMine (h ++ more) actor t
all_stay config h [] actor t legal others mine = subst (λ l. IsMine l actor t) (sym (append-nil h)) mine
all_stay config h (e ∷ more) actor t legal others mine =
    let same : (h ++ e ∷ []) ++ more ≡ h ++ e ∷ more = append_assoc h (e ∷ []) more in
    subst (λ l. IsMine l actor t) same
    (all_stay config (h ++ e ∷ []) more actor t (subst (IsLegal config) (sym same) legal) (All-tail (λ e. actor_of e ≢ actor) e more others)
    (mine_stays config h e actor t (legal_at config h e more legal) (All-head (λ e. actor_of e ≢ actor) e more others) mine))

may_call : (config : Config) (h more : History) (actor : ℕ) (c : Call) → IsLegal config (h ++ more) → All (λ e. actor_of e ≢ actor) more → MayCall config h actor c → MayCall config (h ++ more) actor c
may_call config h more actor (Open conn stream names goal) legal others may = may
may_call config h more actor (Assign tunnel asked) legal others may = (may.0, all_stay config h more actor tunnel legal others may.1, may.2, may.3, may.4)
may_call config h more actor (Advertise tunnel ranges) legal others may = (may.0, all_stay config h more actor tunnel legal others may.1, may.2, may.3)
may_call config h more actor (Close tunnel) legal others may = (may.0, all_stay config h more actor tunnel legal others may.1)

pub stays : (config : Config) (h more : History) (a : Ask) → IsLegal config (h ++ more) → All (λ e. actor_of e ≢ asker a) more → MayAsk config h a → MayAsk config (h ++ more) a
stays config h more (ask.Call actor c) legal others may = may_call config h more actor c legal others may
stays config h more (ask.Judge actor (origin.Tunnel tunnel) flow) legal others may = all_stay config h more actor tunnel legal others may
stays config h more (ask.Judge actor origin.Net flow) legal others may = tt
