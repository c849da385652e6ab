-- A call has one answer.
use Rattle.std.proofs.Common.{◌≡◌, ℕ, ◌<◌, ◌≤◌, ◌⊎◌, true, false, List, [], ◌∷◌, ◌++◌, length, Some, None, ap, sym, ◌∙◌, refl, subst, arith, inl, inr}
use Rattle.mq_addr.specs.declared.addr.Addr.{Addr}
use Rattle.mq_addr.specs.declared.prefix.Prefix.{Prefix}
use Rattle.mq_addr.specs.declared.entry.Asked.{Asked}
use Rattle.mq_addr.specs.declared.entry.Given.{Given}
use Rattle.mq_addr.specs.declared.range.Range.{Range}
use Rattle.mq_addr.specs.Block.{bits_of}
use Rattle.mq_addr.specs.Cover.{version_of, IsLeastFree}
use Rattle.mq_talk.specs.declared.goal.Goal.{Goal}
use Rattle.mq_talk.specs.declared.goal.Goal.TheVariants as goal
use Rattle.mq_talk.specs.declared.book.Config.{Config}
use Rattle.mq_talk.specs.declared.book.Call.TheVariants.{Open, Assign, Advertise, Close}
use Rattle.mq_talk.specs.declared.book.Reply.{Reply}
use Rattle.mq_talk.specs.declared.book.Reply.TheVariants.{Opened, HistoryFull, Assigned, Accepted, Closed}
use Rattle.mq_talk.specs.Book.{History, held, taken}
use Rattle.mq_talk.specs.Answers.{IsAnswer, HasPlaces, IsFull, IsRoutes, Outcome, Keeps, Denies, Gives, IsOffered, IsOutcome, taken_by, given_by, denied_by, AreTreated, IsAssigned}
use Rattle.mq_book.specs.Laws.{HasOneAnswer}
use Rattle.mq_book.proofs.OneMeet.{same_addr, one_meet}

routes_once : (config : Config) (g : Goal) (a b : List Range) → IsRoutes config g a → IsRoutes config g b → a ≡ b
routes_once config (goal.Udp addr port) a b x y = x ∙ sym y
routes_once config (goal.Ip area protocol) a b x y = one_meet config.routes area protocol a b x y

same_block : (a b : Prefix) → a.addr ≡ b.addr → a.length ≡ b.length → a ≡ b
same_block a b x y =
    let by_addr : Addr → Prefix = λ z. record { addr = z; length = a.length } in
    let by_length : ℕ → Prefix = λ z. record { addr = b.addr; length = z } in
    ap by_addr x ∙ ap by_length y

least_once : (pool old : List Prefix) (version length : ℕ) (a b : Prefix) → IsLeastFree pool old version length (Some a) → IsLeastFree pool old version length (Some b) → a ≡ b
least_once pool old version length a b x y =
    let below = x.1 b y.0 in
    let above = y.1 a x.0 in
    let same : bits_of a.addr ≡ bits_of b.addr = omega (arith, below, above) in
    same_block a b (same_addr a.addr b.addr (x.0.0.version_is ∙ sym y.0.0.version_is) same) (x.0.0.length_is ∙ sym y.0.0.length_is)

given_once : (pool old : List Prefix) (a : Asked) (b c : Prefix) → IsOffered pool old a (Some b) → IsOffered pool old a (Some c) → b ≡ c
given_once pool old a b c (inl x) (inl y) = least_once pool old (version_of a.block.addr) a.block.length b c x.1 y.1
given_once pool old a b c (inl x) (inr y) = absurd (y.0 x.0)
given_once pool old a b c (inr x) (inl y) = absurd (x.0 y.0)
given_once pool old a b c (inr x) (inr y) = x.1 ∙ sym y.1

not_both : (pool old : List Prefix) (a : Asked) (b : Prefix) → IsOffered pool old a (Some b) → IsOffered pool old a None → ⊥
not_both pool old a b (inl x) (inl y) = y.1 b x.1.0
not_both pool old a b (inl x) (inr y) = y.0 x.0
not_both pool old a b (inr x) (inl y) = x.0 y.0
not_both pool old a b (inr x) (inr y) = y.1 x.2

not_denied : (pool old : List Prefix) (have : List Given) (a : Asked) (b : Prefix) → length have < 16 → IsOffered pool old a (Some b) → (16 ≤ length have) ⊎ ((length have < 16) × IsOffered pool old a None) → ⊥
not_denied pool old have a b few x (inl full) = omega (arith, few, full)
not_denied pool old have a b few x (inr y) = not_both pool old a b x y.1

outcome_once : (pool old : List Prefix) (have : List Given) (a : Asked) (did does : Outcome) → IsOutcome pool old have a did → IsOutcome pool old have a does → did ≡ does
outcome_once pool old have a Keeps Keeps x y = refl
outcome_once pool old have a Keeps Denies x y = absurd (y.0 x)
outcome_once pool old have a Keeps (Gives b) x y = absurd (y.0 x)
outcome_once pool old have a Denies Keeps x y = absurd (x.0 y)
outcome_once pool old have a Denies Denies x y = refl
outcome_once pool old have a Denies (Gives b) x y = absurd (not_denied pool old have a b y.1 y.2 x.1)
outcome_once pool old have a (Gives b) Keeps x y = absurd (x.0 y)
outcome_once pool old have a (Gives b) Denies x y = absurd (not_denied pool old have a b x.1 x.2 y.1)
outcome_once pool old have a (Gives b) (Gives c) x y = ap Gives (given_once pool old a b c x.2 y.2)

treated_once : (pool old : List Prefix) (have : List Given) (asked : List Asked) (g k d e : List Given) → AreTreated pool old have asked g d → AreTreated pool old have asked k e → (g ≡ k) × (d ≡ e)
treated_once pool old have [] g k d e (x, y) (z, w) = (x ∙ sym z, y ∙ sym w)
treated_once pool old have (a ∷ rest) g k d e (did, more, others, outcome, treated, gs, ds) (does, most, rests, out, treats, ks, es) =
    let same = outcome_once pool old have a did does outcome out in
    let back : AreTreated pool (old ++ taken_by did) (have ++ given_by a did) rest most rests =
    subst (λ o. AreTreated pool (old ++ taken_by o) (have ++ given_by a o) rest most rests) (sym same) treats in
    let next = treated_once pool (old ++ taken_by did) (have ++ given_by a did) rest more most others rests treated back in (
      gs ∙ ap (λ l. given_by a did ++ l) next.0 ∙ ap (λ o. given_by a o ++ most) same ∙ sym ks,
      ds ∙ ap (λ l. denied_by a did ++ l) next.1 ∙ ap (λ o. denied_by a o ++ rests) same ∙ sym es,
    )

assigned_once : (config : Config) (h : History) (t : ℕ) (asked : List Asked) (a b : List Given) → IsAssigned config h t asked a → IsAssigned config h t asked b → a ≡ b
assigned_once config h t asked a b x y =
    let same = treated_once config.pool (taken h) (held h t) asked x.given y.given x.denied y.denied x.treated y.treated in
    x.list_is ∙ ap (λ l. held h t ++ l ++ x.denied) same.0 ∙ ap (λ l. held h t ++ y.given ++ l) same.1 ∙ sym y.list_is

full_once : (config : Config) (h : History) (n entries live others lives : ℕ) → IsFull config h n entries live → IsFull config h n others lives → HistoryFull entries live ≡ HistoryFull others lives
full_once config h n entries live others lives x y =
    let a = x.entries_are ∙ sym y.entries_are in
    let b = x.live_are ∙ sym y.live_are in
    cc

not_full : (config : Config) (h : History) (n entries live : ℕ) → HasPlaces config h n → IsFull config h n entries live → ⊥
not_full config h n entries live x y = omega (arith, x, y.full)

opened_once : (config : Config) (h : History) (conn stream actor : ℕ) (g : Goal) (a b : Reply) → IsAnswer config h (Open conn stream actor g) a → IsAnswer config h (Open conn stream actor g) b → a ≡ b
opened_once config h conn stream actor g (Opened t r) (Opened u s) x y = let n = x.1 ∙ sym y.1 in let m = routes_once config g r s x.2 y.2 in cc
opened_once config h conn stream actor g (Opened t r) (HistoryFull e l) x y = absurd (not_full config h 2 e l x.0 y)
opened_once config h conn stream actor g (HistoryFull e l) (Opened t r) x y = absurd (not_full config h 2 e l y.0 x)
opened_once config h conn stream actor g (HistoryFull e l) (HistoryFull f m) x y = full_once config h 2 e l f m x y
opened_once config h conn stream actor g (Opened t r) b x y = absurd y
opened_once config h conn stream actor g (HistoryFull e l) b x y = absurd y
opened_once config h conn stream actor g a b x y = absurd x

assign_once : (config : Config) (h : History) (t : ℕ) (asked : List Asked) (a b : Reply) → IsAnswer config h (Assign t asked) a → IsAnswer config h (Assign t asked) b → a ≡ b
assign_once config h t asked (Assigned r i) (Assigned s j) x y = let n = x.1 ∙ sym y.1 in let m = assigned_once config h t asked r s x.2 y.2 in cc
assign_once config h t asked (Assigned r i) (HistoryFull e l) x y = absurd (not_full config h 1 e l x.0 y)
assign_once config h t asked (HistoryFull e l) (Assigned r i) x y = absurd (not_full config h 1 e l y.0 x)
assign_once config h t asked (HistoryFull e l) (HistoryFull f m) x y = full_once config h 1 e l f m x y
assign_once config h t asked (Assigned r i) b x y = absurd y
assign_once config h t asked (HistoryFull e l) b x y = absurd y
assign_once config h t asked a b x y = absurd x

advertised_once : (config : Config) (h : History) (t : ℕ) (offered : List Range) (a b : Reply) → IsAnswer config h (Advertise t offered) a → IsAnswer config h (Advertise t offered) b → a ≡ b
advertised_once config h t offered (Accepted true i) (Accepted true j) x y = ap (λ n. Accepted true n) (x.1 ∙ sym y.1)
advertised_once config h t offered (Accepted true i) (Accepted false j) x y = absurd (y.2 x.2)
advertised_once config h t offered (Accepted false i) (Accepted true j) x y = absurd (x.2 y.2)
advertised_once config h t offered (Accepted false i) (Accepted false j) x y = ap (λ n. Accepted false n) (x.1 ∙ sym y.1)
advertised_once config h t offered (Accepted is i) (HistoryFull e l) x y = absurd (not_full config h 1 e l x.0 y)
advertised_once config h t offered (HistoryFull e l) (Accepted is i) x y = absurd (not_full config h 1 e l y.0 x)
advertised_once config h t offered (HistoryFull e l) (HistoryFull f m) x y = full_once config h 1 e l f m x y
advertised_once config h t offered (Accepted is i) b x y = absurd y
advertised_once config h t offered (HistoryFull e l) b x y = absurd y
advertised_once config h t offered a b x y = absurd x

closed_once : (config : Config) (h : History) (t : ℕ) (a b : Reply) → IsAnswer config h (Close t) a → IsAnswer config h (Close t) b → a ≡ b
closed_once config h t Closed Closed x y = refl
closed_once config h t Closed b x y = absurd y
closed_once config h t a b x y = absurd x

pub one_answer : HasOneAnswer
one_answer config h (Open conn stream actor g) a b x y = opened_once config h conn stream actor g a b x y
one_answer config h (Assign t asked) a b x y = assign_once config h t asked a b x y
one_answer config h (Advertise t offered) a b x y = advertised_once config h t offered a b x y
one_answer config h (Close t) a b x y = closed_once config h t a b x y
