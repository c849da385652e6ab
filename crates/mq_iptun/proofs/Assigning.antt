-- What a tunnel holds after a legal history, and what it is told of a request: few entries, with small Request IDs.
use Rattle.std.proofs.Common.{◌≡◌, ℕ, ◌+◌, ◌^◌, ◌<◌, ◌≤◌, ◌⊎◌, Bool, true, false, cond, List, [], ◌∷◌, ◌++◌, length, Some, None, ap, sym, ◌∙◌, refl, subst, arith, inl, inr}
use Rattle.std.specs.List.{All, filter}
use Rattle.std.proofs.lemmas.Bool.{ne_eqb, eq-eqb, cases_eq}
use Rattle.std.proofs.lemmas.List.{length-append}
use Rattle.std.proofs.lemmas.List.Elements.{All-nil, All-cons, All-head, All-tail, All-append, All-filter, filter-append}
use Rattle.mq_addr.specs.declared.prefix.Prefix.{Prefix}
use Rattle.mq_addr.specs.Block.{width}
use Rattle.mq_addr.specs.declared.addr.Addr.{Addr}
use Rattle.mq_addr.specs.declared.addr.Addr.TheVariants.{V4, V6}
use Rattle.mq_addr.specs.declared.entry.Asked.{Asked}
use Rattle.mq_addr.specs.declared.entry.Given.{Given}
use Rattle.mq_talk.specs.declared.book.Config.{Config}
use Rattle.mq_talk.specs.declared.book.Call.{Call}
use Rattle.mq_talk.specs.declared.book.Call.TheVariants.{Open, Assign, Advertise, Close}
use Rattle.mq_talk.specs.declared.book.Reply.{Reply}
use Rattle.mq_talk.specs.declared.book.Reply.TheVariants.{Opened, HistoryFull, Assigned, Accepted, Closed}
use Rattle.mq_talk.specs.Book.{History, assigned, is_given, held, taken}
use Rattle.mq_talk.specs.Answers.{IsLegal, MayCall, IsAnswer, IsAsked, IsAssigned, AreTreated, IsOutcome, Outcome, Keeps, Denies, Gives, taken_by, given_by, denied_by, denial, zero}
use Rattle.mq_iptun.specs.Answers.{AreTold}
use Rattle.mq_iptun.proofs.Histories.{by_entries, append_nil, held_kept, held_new}

abbrev Small : Given → Type 0
Small g = g.id < 2 ^ 62

-- at most 16 entries, with small Request IDs
pub record Fit (list : List Given) : Type 0 where
  pub few : length list ≤ 16
  pub small : All Small list

-- ---- how many

room : (pool old : List Prefix) (have : List Given) (a : Asked) (did : Outcome) → IsOutcome pool old have a did
    → length have ≤ 16
    → length (have ++ given_by a did) ≤ 16
room pool old have a Keeps is few = omega (arith, few, length-append have (given_by a Keeps))
room pool old have a Denies is few = omega (arith, few, length-append have (given_by a Denies))
room pool old have a (Gives block) (new, less, offered) few =
    omega (arith, less, length-append have (given_by a (Gives block)))

one : (a : Asked) (did : Outcome) → length (given_by a did) + length (denied_by a did) ≤ 1
one a Keeps = omega arith
one a Denies = omega arith
one a (Gives block) = omega arith

pub treated_few : (pool old : List Prefix) (have : List Given) (asked : List Asked) (given denied : List Given)
    → AreTreated pool old have asked given denied
    → length have ≤ 16 → (length have + length given ≤ 16) × (length given + length denied ≤ length asked)
treated_few pool old have [] given denied (g, d) few =
    let none : length given ≡ 0 = ap length g in
    let no : length denied ≡ 0 = ap length d in
    (omega (arith, few, none), omega (arith, none, no))
treated_few pool old have (a ∷ rest) given denied (did, more, others, outcome, treated, g, d) few =
    let fits = room pool old have a did outcome few in
    let next = treated_few pool (old ++ taken_by did) (have ++ given_by a did) rest more others treated fits in
    let gs : length given ≡ length (given_by a did) + length more = ap length g ∙ length-append (given_by a did) more in
    let ds : length denied ≡ length (denied_by a did) + length others =
    ap length d ∙ length-append (denied_by a did) others in
    let hs = length-append have (given_by a did) in
    let single = one a did in
    let all = next.0 in
    let behind = next.1 in
    (omega (arith, gs, hs, all), omega (arith, gs, ds, single, behind))

-- ---- which Request IDs

given_small : (a : Asked) (did : Outcome) → IsAsked a → All Small (given_by a did)
given_small a Keeps is = All-nil Small
given_small a Denies is = All-nil Small
given_small a (Gives block) is = All-cons Small (record { id = a.id; block = block }) [] is.fits (All-nil Small)

denied_small : (a : Asked) (did : Outcome) → IsAsked a → All Small (denied_by a did)
denied_small a Keeps is = All-nil Small
denied_small a Denies is = All-cons Small (denial a) [] is.fits (All-nil Small)
denied_small a (Gives block) is = All-nil Small

pub treated_small : (pool old : List Prefix) (have : List Given) (asked : List Asked) (given denied : List Given)
    → AreTreated pool old have asked given denied
    → All IsAsked asked → All Small given × All Small denied
treated_small pool old have [] given denied (g, d) all =
    (subst (All Small) (sym g) (All-nil Small), subst (All Small) (sym d) (All-nil Small))
treated_small pool old have (a ∷ rest) given denied (did, more, others, outcome, treated, g, d) all =
    let is = All-head IsAsked a rest all in
    let rest_all = All-tail IsAsked a rest all in
    let next = treated_small pool (old ++ taken_by did) (have ++ given_by a did) rest more others treated rest_all in (
      subst (All Small) (sym g) (All-append Small (given_by a did) more (given_small a did is) next.0),
      subst (All Small) (sym d) (All-append Small (denied_by a did) others (denied_small a did is) next.1),
    )

-- ---- what is denied isn't held

abbrev nowhere : ℕ → Addr → Given
nowhere id addr = record { id = id; block = record { addr = zero addr; length = width addr } }

nowhere_hidden : (id : ℕ) (addr : Addr) → is_given (nowhere id addr) ≡ false
nowhere_hidden id (V4 bits) = refl
nowhere_hidden id (V6 bits) = refl

zero_hidden : (a : Asked) → is_given (denial a) ≡ false
zero_hidden a = nowhere_hidden a.id a.block.addr

denied_hidden : (a : Asked) (did : Outcome) → filter is_given (denied_by a did) ≡ []
denied_hidden a Keeps = refl
denied_hidden a Denies = ap (λ b. cond b (denial a ∷ []) []) (zero_hidden a)
denied_hidden a (Gives block) = refl

pub treated_hidden : (pool old : List Prefix) (have : List Given) (asked : List Asked) (given denied : List Given)
    → AreTreated pool old have asked given denied
    → filter is_given denied ≡ []
treated_hidden pool old have [] given denied (g, d) = ap (λ l. filter is_given l) d
treated_hidden pool old have (a ∷ rest) given denied (did, more, others, outcome, treated, g, d) =
    ap (λ l. filter is_given l) d ∙ filter-append is_given (denied_by a did) others
    ∙ ap (λ l. l ++ filter is_given others) (denied_hidden a did)
    ∙ treated_hidden pool (old ++ taken_by did) (have ++ given_by a did) rest more others treated

-- ---- the list of an assignment

cond_short : (b : Bool) (x : Given) (fs : List Given) → length (cond b (x ∷ fs) fs) ≤ 1 + length fs
cond_short true x fs = omega arith
cond_short false x fs = omega arith

filter_short : (p : Given → Bool) (xs : List Given) → length (filter p xs) ≤ length xs
filter_short p [] = omega arith
filter_short p (x ∷ xs) =
    let first = cond_short (p x) x (filter p xs) in
    let rest = filter_short p xs in
    omega (arith, first, rest)

told_small : (have given denied : List Given) → All Small have → All Small given × All Small denied
    → All Small (have ++ given ++ denied)
told_small have given denied old new =
    All-append Small (have ++ given) denied (All-append Small have given old new.0) new.1

pub assigned_told : (config : Config) (h : History) (t : ℕ) (asked : List Asked) (list : List Given) → Fit (held h t)
    → length asked ≤ 16 → All IsAsked asked
    → IsAssigned config h t asked list → AreTold list
assigned_told config h t asked list fit short all is =
    let pool = config.pool in
    let counts = treated_few pool (taken h) (held h t) asked is.given is.denied is.treated fit.few in
    let new_small = treated_small pool (taken h) (held h t) asked is.given is.denied is.treated all in
    let small = told_small (held h t) is.given is.denied fit.small new_small in
    let long : length list ≡ length (held h t) + length is.given + length is.denied =
    ap length is.list_is ∙ length-append (held h t ++ is.given) is.denied ∙ ap (λ n. n + length is.denied)
    (length-append (held h t) is.given) in
    let under = counts.1 in
    let few = fit.few in
    record {
      few = omega (arith, long, under, short, few);
      ids = subst (All Small) (sym is.list_is) small;
    }

pub assigned_fit : (config : Config) (h : History) (t : ℕ) (asked : List Asked) (list : List Given) → Fit (held h t)
    → All IsAsked asked
    → IsAssigned config h t asked list → Fit (filter is_given list)
assigned_fit config h t asked list fit all is =
    let pool = config.pool in
    let counts = treated_few pool (taken h) (held h t) asked is.given is.denied is.treated fit.few in
    let new_small = treated_small pool (taken h) (held h t) asked is.given is.denied is.treated all in
    let small = told_small (held h t) is.given is.denied fit.small new_small in
    let hidden = treated_hidden pool (taken h) (held h t) asked is.given is.denied is.treated in
    let parts : filter is_given list ≡ filter is_given (held h t) ++ filter is_given is.given =
    ap (λ l. filter is_given l) is.list_is ∙ filter-append is_given (held h t ++ is.given) is.denied
    ∙ ap (λ l. filter is_given (held h t ++ is.given) ++ l) hidden ∙ append_nil (filter is_given (held h t ++ is.given))
    ∙ filter-append is_given (held h t) is.given in
    let long : length (filter is_given list) ≡ length (filter is_given (held h t)) + length (filter is_given is.given) =
    ap length parts ∙ length-append (filter is_given (held h t)) (filter is_given is.given) in
    let old = filter_short is_given (held h t) in
    let new = filter_short is_given is.given in
    let under = counts.0 in
    record {
      few = omega (arith, long, old, new, under);
      small = All-filter is_given Small list (subst (All Small) (sym is.list_is) small);
    }

-- ---- every legal history

-- what this tunnel holds stays, or is of this list
abbrev Changes : ℕ → Call → Reply → Type 0
Changes t call reply =
    (assigned t call reply ≡ None)
    ⊎ ((list : List Given) × (assigned t call reply ≡ Some list) × Fit (filter is_given list))

changes : (config : Config) (h : History) (actor : ℕ) (call : Call) (reply : Reply) (t : ℕ) → Fit (held h t)
    → MayCall config h actor call → IsAnswer config h call reply → Changes t call reply
changes config h actor (Open conn stream names goal) reply t fit may is = inl refl
changes config h actor (Assign tunnel asked) (Assigned list at) t fit (by, mine, some, short, all) (fits, at_is, is) =
    elim (cases_eq tunnel t) [
      | inl same ↦ inr (
        list,
        ap (λ b. cond b (Some list) None) (eq-eqb tunnel t same),
        assigned_fit config h tunnel asked list (subst (λ n. Fit (held h n)) (sym same) fit) all is,
      )
      | inr ne ↦ inl (ap (λ b. cond b (Some list) None) (ne_eqb tunnel t ne))
    ]
changes config h actor (Assign tunnel asked) (HistoryFull entries live) t fit may is = inl refl
changes config h actor (Assign tunnel asked) (Opened u routes) t fit may is = inl refl
changes config h actor (Assign tunnel asked) (Accepted taken_up at) t fit may is = inl refl
changes config h actor (Assign tunnel asked) Closed t fit may is = inl refl
changes config h actor (Advertise tunnel offered) reply t fit may is = inl refl
changes config h actor (Close tunnel) reply t fit may is = inl refl

none_fit : Fit []
none_fit = record { few = omega arith; small = All-nil Small }

pub held_fit : (config : Config) (h : History) → IsLegal config h → (t : ℕ) → Fit (held h t)
held_fit config =
    by_entries config (λ h. (t : ℕ) → Fit (held h t)) (λ t. none_fit)
    (λ h e legal fit follows t. elim (changes config h e.actor e.call e.reply t (fit t) follows.may follows.answer) [
      | inl none ↦ subst Fit (sym (held_kept h e t none)) (fit t)
      | inr (list, some, new) ↦ subst Fit (sym (held_new h e t list some)) new
    ])
