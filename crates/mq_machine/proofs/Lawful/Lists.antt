-- Lists of what is due, of tunnels and of data streams, where one stream's part of them goes.
use Rattle.std.proofs.Common.{◌≡◌, ◌≢◌, ℕ, ◌<◌, ◌+◌, ◌==◌, Bool, true, false, not, cond, List, [], ◌∷◌, ◌++◌, Option, Some, None, option_map, refl, sym, ap, ◌∙◌, subst, arith, eq-eqb, ne_eqb, eqb-true, inl, inr, ◌⊎◌, ◌||◌, filter, drop}
use Rattle.std.specs.Prelude.{find}
use Rattle.std.specs.List.{AllByRecursion, list_any}
use Rattle.std.specs.Option.{is_some, unwrap_or}
use Rattle.mq_addr.specs.declared.kind.Kind.{Kind}
use Rattle.mq_talk.specs.declared.note.Why.{Why}
use Rattle.mq_talk.specs.declared.note.Why.TheVariants as why
use Rattle.mq_machine.specs.declared.act.Act.TheVariants as act
use Rattle.mq_machine.specs.declared.act.StreamAct.{StreamAct}
use Rattle.mq_machine.specs.declared.act.StreamAct.TheVariants as stream
use Rattle.mq_machine.specs.declared.act.Due.{Due}
use Rattle.mq_machine.specs.declared.act.Due.TheVariants as due
use Rattle.mq_machine.specs.State.{Tunnel, Waiting, kind_of}
use Rattle.mq_machine.specs.Done.{is_on, waits as waits_last}
use Rattle.mq_machine.specs.Steps.{set_waiting}
use Rattle.mq_machine.specs.Lawful.{has_on, kind_on, with_one, IsAskedOf, Follows, begins_on, kind_behind, Alone, has_number, Numbered, IsOfZero, IsOneRequest, spends}

-- ---- tests

pub either : {A : Type 0} (b : Bool) (P : A → Type 0) (x y : A) → P x → P y → P (cond b x y)
either true P x y p q = p
either false P x y p q = q

-- each case may use its test
pub by_test : {A : Type 0} (b : Bool) (P : A → Type 0) (x y : A) → (b ≡ true → P x) → (b ≡ false → P y) → P (cond b x y)
by_test true P x y p q = p refl
by_test false P x y p q = q refl

pub cases : (b : Bool) → (b ≡ true) ⊎ (b ≡ false)
cases true = inl refl
cases false = inr refl

pub never : {A : Type 0} (b : Bool) → b ≡ true → b ≡ false → A
never true h k = absurd cc
never false h k = absurd cc

pub unless_true : (b : Bool) → (b ≡ true → ⊥) → b ≡ false
unless_true true h = absurd (h refl)
unless_true false h = refl

pub either_way : (a b : ℕ) → (a == b) ≡ (b == a)
either_way a b = by_case (cases (a == b))
  where
    by_case : ((a == b) ≡ true) ⊎ ((a == b) ≡ false) → (a == b) ≡ (b == a)
    by_case (inl h) = h ∙ sym (eq-eqb b a (sym (eqb-true a b h)))
    by_case (inr h) = h ∙ sym (unless_true (b == a) (λ k. never (a == b) (eq-eqb a b (sym (eqb-true b a k))) h))

pub itself : (a : ℕ) → (a == a) ≡ true
itself a = eq-eqb a a refl

-- one is left, and the other not
pub other_than : {A : Type 0} (live : ℕ → Option A) (a b : ℕ) (x : A) → live a ≡ Some x → live b ≡ None → (b == a) ≡ false
other_than live a b x h k = unless_true (b == a) (λ e. some_none (sym h ∙ sym (ap live (eqb-true b a e)) ∙ k))
  where
    some_none : Some x ≡ None → ⊥
    some_none e = cc

pub or_false : (a b : Bool) → (a || b) ≡ false → (a ≡ false) × (b ≡ false)
or_false true b h = absurd cc
or_false false b h = (refl, h)

-- ---- all of a list

pub each_filter : {A : Type 0} (P : A → Type 0) (p : A → Bool) (xs : List A) → AllByRecursion P xs → AllByRecursion P (filter p xs)
each_filter P p [] h = tt
each_filter P p (x ∷ xs) h =
    let rest = each_filter P p xs h.1 in
    either (p x) (λ ys. AllByRecursion P ys) (x ∷ filter p xs) (filter p xs) (h.0, rest) rest

pub each_append : {A : Type 0} (P : A → Type 0) (xs ys : List A) → AllByRecursion P xs → AllByRecursion P ys → AllByRecursion P (xs ++ ys)
each_append P [] ys h k = k
each_append P (x ∷ xs) ys h k = (h.0, each_append P xs ys h.1 k)

pub each_so : {A : Type 0} (P Q : A → Type 0) (xs : List A) → ((x : A) → P x → Q x) → AllByRecursion P xs → AllByRecursion Q xs
each_so P Q [] f h = tt
each_so P Q (x ∷ xs) f h = (f x h.0, each_so P Q xs f h.1)

-- of those that stay, what held of each that stays
pub each_kept : {A : Type 0} (P Q : A → Type 0) (p : A → Bool) (xs : List A) → ((x : A) → p x ≡ true → P x → Q x) → AllByRecursion P xs → AllByRecursion Q (filter p xs)
each_kept P Q p [] f h = tt
each_kept P Q p (x ∷ xs) f h =
    let rest = each_kept P Q p xs f h.1 in
    by_test (p x) (λ ys. AllByRecursion Q ys) (x ∷ filter p xs) (filter p xs) (λ e. (f x e h.0, rest)) (λ e. rest)

pub any_filter : {A : Type 0} (f p : A → Bool) (xs : List A) → list_any f xs ≡ false → list_any f (filter p xs) ≡ false
any_filter f p [] h = refl
any_filter f p (x ∷ xs) h =
    let parts = or_false (f x) (list_any f xs) h in
    let rest = any_filter f p xs parts.1 in
    either (p x) (λ ys. list_any f ys ≡ false) (x ∷ filter p xs) (filter p xs) (ap (λ b. b || list_any f (filter p xs)) parts.0 ∙ rest) rest

pub none_dropped : {A : Type 0} (f : A → Bool) (xs : List A) → list_any f xs ≡ false → list_any f (drop 1 xs) ≡ false
none_dropped f [] h = refl
none_dropped f (x ∷ xs) h = by_first (f x) h
  where
    by_first : (b : Bool) → (b || list_any f xs) ≡ false → list_any f xs ≡ false
    by_first true k = absurd cc
    by_first false k = k

-- ---- what is asked of a kind

-- a tunnel is there
pub some_asked : (o : Option Kind) (a : StreamAct) → IsAskedOf o a → is_some o ≡ true
some_asked None a h = absurd h
some_asked (Some k) a h = refl

pub asked_reason : (o : Option Kind) (reason : Why) → IsAskedOf o (stream.Close reason) → reason ≢ why.Conn
asked_reason None reason h = absurd h
asked_reason (Some k) reason h = h

-- each may be closed
pub closes_asked : (o : Option Kind) (reason : Why) → is_some o ≡ true → reason ≢ why.Conn → IsAskedOf o (stream.Close reason)
closes_asked None reason h k = absurd cc
closes_asked (Some kind) reason h k = k

-- ---- what follows

pub with_same : (id : ℕ) (kind : Kind) (live after : ℕ → Option Kind) → ((k : ℕ) → after k ≡ live k) → (k : ℕ) → with_one id kind after k ≡ with_one id kind live k
with_same id kind live after same k = ap (λ o. cond (id == k) (Some kind) o) (same k)

pub follows_same : (live after : ℕ → Option Kind) → ((k : ℕ) → after k ≡ live k) → (ds : List Due) → Follows live ds → Follows after ds
follows_same live after same [] h = tt
follows_same live after same (due.Do (act.Bind id goal) ∷ rest) h =
    (same id ∙ h.0, h.1, follows_same (with_one id (kind_of goal) live) (with_one id (kind_of goal) after) (with_same id (kind_of goal) live after same) rest h.2)
follows_same live after same (due.Do (act.Open id goal) ∷ rest) h =
    (same id ∙ h.0, follows_same (with_one id (kind_of goal) live) (with_one id (kind_of goal) after) (with_same id (kind_of goal) live after same) rest h.1)
follows_same live after same (due.Do (act.Refuse id status rule) ∷ rest) h = follows_same live after same rest h
follows_same live after same (due.Do (act.Reset id code) ∷ rest) h = follows_same live after same rest h
follows_same live after same (due.Do (act.OfStream id a) ∷ rest) h = (subst (λ (o : Option Kind). IsAskedOf o a) (sym (same id)) h.0, follows_same live after same rest h.1)
follows_same live after same (due.Spend id size ∷ rest) h = follows_same live after same rest h
follows_same live after same (due.Fault code ∷ rest) h = follows_same live after same rest h

-- what isn't asked of this stream
abbrev pub kept : ℕ → List Due → List Due
kept id ds = filter (λ d. not (is_on id d)) ds

-- what stays follows
pub follows_kept : (id : ℕ) (live : ℕ → Option Kind) (ds : List Due) → Follows live ds → Follows live (kept id ds)
follows_kept id live [] h = tt
follows_kept id live (due.Do (act.Bind on goal) ∷ rest) h = (h.0, h.1, follows_kept id (with_one on (kind_of goal) live) rest h.2)
follows_kept id live (due.Do (act.Open on goal) ∷ rest) h = (h.0, follows_kept id (with_one on (kind_of goal) live) rest h.1)
follows_kept id live (due.Do (act.Refuse on status rule) ∷ rest) h = follows_kept id live rest h
follows_kept id live (due.Do (act.Reset on code) ∷ rest) h = follows_kept id live rest h
follows_kept id live (due.Do (act.OfStream on a) ∷ rest) h =
    let later = follows_kept id live rest h.1 in
    either (not (on == id)) (Follows live) (due.Do (act.OfStream on a) ∷ kept id rest) (kept id rest) (h.0, later) later
follows_kept id live (due.Spend on size ∷ rest) h = follows_kept id live rest h
follows_kept id live (due.Fault code ∷ rest) h = follows_kept id live rest h

-- this stream isn't live any more
abbrev pub Loses : ℕ → (ℕ → Option Kind) → (ℕ → Option Kind) → Type 0
Loses id live after = (k : ℕ) → after k ≡ cond (k == id) None (live k)

pub lost_other : (id on : ℕ) (live after : ℕ → Option Kind) → Loses id live after → (on == id) ≡ false → after on ≡ live on
lost_other id on live after lost other = lost on ∙ ap (λ b. cond b None (live on)) other

-- another that comes is live in both
lost_with : (id on : ℕ) (kind : Kind) (live after : ℕ → Option Kind) → Loses id live after → (on == id) ≡ false → Loses id (with_one on kind live) (with_one on kind after)
lost_with id on kind live after lost other k = by_case (cases (on == k))
  where
    by_case : ((on == k) ≡ true) ⊎ ((on == k) ≡ false) → with_one on kind after k ≡ cond (k == id) None (with_one on kind live k)
    by_case (inl e) =
        let none : (k == id) ≡ false = ap (λ i. i == id) (sym (eqb-true on k e)) ∙ other in
        ap (λ b. cond b (Some kind) (after k)) e ∙ sym (ap (λ b. cond b None (with_one on kind live k)) none ∙ ap (λ b. cond b (Some kind) (live k)) e)
    by_case (inr e) = ap (λ b. cond b (Some kind) (after k)) e ∙ lost k ∙ sym (ap (λ b. cond (k == id) None (cond b (Some kind) (live k))) e)

with_live : (id on : ℕ) (kind was : Kind) (live : ℕ → Option Kind) → (on == id) ≡ false → live id ≡ Some was → with_one on kind live id ≡ Some was
with_live id on kind was live other h = ap (λ b. cond b (Some kind) (live id)) other ∙ h

pub follows_lost : (id : ℕ) (was : Kind) (live after : ℕ → Option Kind) → live id ≡ Some was → Loses id live after → (ds : List Due) → Follows live ds → Follows after (kept id ds)
follows_lost id was live after is lost [] h = tt
follows_lost id was live after is lost (due.Do (act.Bind on goal) ∷ rest) h =
    let other = other_than live id on was is h.0 in
    let kind = kind_of goal in (
      lost_other id on live after lost other ∙ h.0,
      h.1,
      follows_lost id was (with_one on kind live) (with_one on kind after) (with_live id on kind was live other is) (lost_with id on kind live after lost other) rest h.2,
    )
follows_lost id was live after is lost (due.Do (act.Open on goal) ∷ rest) h =
    let other = other_than live id on was is h.0 in
    let kind = kind_of goal in (
      lost_other id on live after lost other ∙ h.0,
      follows_lost id was (with_one on kind live) (with_one on kind after) (with_live id on kind was live other is) (lost_with id on kind live after lost other) rest h.1,
    )
follows_lost id was live after is lost (due.Do (act.Refuse on status rule) ∷ rest) h = follows_lost id was live after is lost rest h
follows_lost id was live after is lost (due.Do (act.Reset on code) ∷ rest) h = follows_lost id was live after is lost rest h
follows_lost id was live after is lost (due.Do (act.OfStream on a) ∷ rest) h =
    let later = follows_lost id was live after is lost rest h.1 in
    by_case (cases (on == id)) later
  where
    by_case : ((on == id) ≡ true) ⊎ ((on == id) ≡ false) → Follows after (kept id rest) → Follows after (kept id (due.Do (act.OfStream on a) ∷ rest))
    by_case (inl e) later = subst (λ (b : Bool). Follows after (cond (not b) (due.Do (act.OfStream on a) ∷ kept id rest) (kept id rest))) (sym e) later
    by_case (inr e) later =
        subst (λ (b : Bool). Follows after (cond (not b) (due.Do (act.OfStream on a) ∷ kept id rest) (kept id rest))) (sym e)
        (subst (λ (o : Option Kind). IsAskedOf o a) (sym (lost_other id on live after lost e)) h.0, later)
follows_lost id was live after is lost (due.Spend on size ∷ rest) h = follows_lost id was live after is lost rest h
follows_lost id was live after is lost (due.Fault code ∷ rest) h = follows_lost id was live after is lost rest h

-- one that was to come doesn't, where it wasn't live
pub lost_one : (id : ℕ) (kind : Kind) (live : ℕ → Option Kind) → live id ≡ None → Loses id (with_one id kind live) live
lost_one id kind live was k = by_case (cases (id == k))
  where
    by_case : ((id == k) ≡ true) ⊎ ((id == k) ≡ false) → live k ≡ cond (k == id) None (with_one id kind live k)
    by_case (inl e) =
        let same : id ≡ k = eqb-true id k e in
        sym (ap live same) ∙ was ∙ sym (ap (λ b. cond b None (with_one id kind live k)) (either_way k id ∙ e))
    by_case (inr e) = sym (ap (λ b. cond b None (with_one id kind live k)) (either_way k id ∙ e) ∙ ap (λ b. cond b (Some kind) (live k)) e)

-- ---- the kind behind what is due

pub behind_kept : (k id : ℕ) (ds : List Due) (o : Option Kind) → kind_behind k (kept id ds) o ≡ kind_behind k ds o
behind_kept k id [] o = refl
behind_kept k id (due.Do (act.Bind on goal) ∷ rest) o = behind_kept k id rest (cond (on == k) (Some (kind_of goal)) o)
behind_kept k id (due.Do (act.Open on goal) ∷ rest) o = behind_kept k id rest (cond (on == k) (Some (kind_of goal)) o)
behind_kept k id (due.Do (act.Refuse on status rule) ∷ rest) o = behind_kept k id rest o
behind_kept k id (due.Do (act.Reset on code) ∷ rest) o = behind_kept k id rest o
behind_kept k id (due.Do (act.OfStream on a) ∷ rest) o =
    let later = behind_kept k id rest o in
    either (not (on == id)) (λ (ds : List Due). kind_behind k ds o ≡ kind_behind k rest o) (due.Do (act.OfStream on a) ∷ kept id rest) (kept id rest) later later
behind_kept k id (due.Spend on size ∷ rest) o = behind_kept k id rest o
behind_kept k id (due.Fault code ∷ rest) o = behind_kept k id rest o

pub behind_both : (k : ℕ) (xs ys : List Due) (o : Option Kind) → kind_behind k (xs ++ ys) o ≡ kind_behind k ys (kind_behind k xs o)
behind_both k [] ys o = refl
behind_both k (due.Do (act.Bind on goal) ∷ xs) ys o = behind_both k xs ys (cond (on == k) (Some (kind_of goal)) o)
behind_both k (due.Do (act.Open on goal) ∷ xs) ys o = behind_both k xs ys (cond (on == k) (Some (kind_of goal)) o)
behind_both k (due.Do (act.Refuse on status rule) ∷ xs) ys o = behind_both k xs ys o
behind_both k (due.Do (act.Reset on code) ∷ xs) ys o = behind_both k xs ys o
behind_both k (due.Do (act.OfStream on a) ∷ xs) ys o = behind_both k xs ys o
behind_both k (due.Spend on size ∷ xs) ys o = behind_both k xs ys o
behind_both k (due.Fault code ∷ xs) ys o = behind_both k xs ys o

one_begins : (b : Bool) (kind : Kind) (o : Option Kind) (rest : Bool) → (is_some (cond b (Some kind) o) || rest) ≡ (is_some o || (b || rest))
one_begins true kind None rest = refl
one_begins true kind (Some was) rest = refl
one_begins false kind o rest = refl

-- one is there where one was, or is to open
pub behind_some : (k : ℕ) (ds : List Due) (o : Option Kind) → is_some (kind_behind k ds o) ≡ (is_some o || list_any (begins_on k) ds)
behind_some k [] o = by_first (is_some o)
  where
    by_first : (b : Bool) → b ≡ (b || false)
    by_first true = refl
    by_first false = refl
behind_some k (due.Do (act.Bind on goal) ∷ rest) o = behind_some k rest (cond (on == k) (Some (kind_of goal)) o) ∙ one_begins (on == k) (kind_of goal) o (list_any (begins_on k) rest)
behind_some k (due.Do (act.Open on goal) ∷ rest) o = behind_some k rest (cond (on == k) (Some (kind_of goal)) o) ∙ one_begins (on == k) (kind_of goal) o (list_any (begins_on k) rest)
behind_some k (due.Do (act.Refuse on status rule) ∷ rest) o = behind_some k rest o
behind_some k (due.Do (act.Reset on code) ∷ rest) o = behind_some k rest o
behind_some k (due.Do (act.OfStream on a) ∷ rest) o = behind_some k rest o
behind_some k (due.Spend on size ∷ rest) o = behind_some k rest o
behind_some k (due.Fault code ∷ rest) o = behind_some k rest o

-- none is to open
pub behind_none : (k : ℕ) (ds : List Due) (o : Option Kind) → list_any (begins_on k) ds ≡ false → kind_behind k ds o ≡ o
behind_none k [] o h = refl
behind_none k (due.Do (act.Bind on goal) ∷ rest) o h =
    let parts = or_false (on == k) (list_any (begins_on k) rest) h in
    behind_none k rest (cond (on == k) (Some (kind_of goal)) o) parts.1 ∙ ap (λ b. cond b (Some (kind_of goal)) o) parts.0
behind_none k (due.Do (act.Open on goal) ∷ rest) o h =
    let parts = or_false (on == k) (list_any (begins_on k) rest) h in
    behind_none k rest (cond (on == k) (Some (kind_of goal)) o) parts.1 ∙ ap (λ b. cond b (Some (kind_of goal)) o) parts.0
behind_none k (due.Do (act.Refuse on status rule) ∷ rest) o h = behind_none k rest o h
behind_none k (due.Do (act.Reset on code) ∷ rest) o h = behind_none k rest o h
behind_none k (due.Do (act.OfStream on a) ∷ rest) o h = behind_none k rest o h
behind_none k (due.Spend on size ∷ rest) o h = behind_none k rest o h
behind_none k (due.Fault code ∷ rest) o h = behind_none k rest o h

-- ---- what begins, and what is spent

pub begins_kept : (k id : ℕ) (ds : List Due) → list_any (begins_on k) (kept id ds) ≡ list_any (begins_on k) ds
begins_kept k id [] = refl
begins_kept k id (due.Do (act.Bind on goal) ∷ rest) = ap (λ b. (on == k) || b) (begins_kept k id rest)
begins_kept k id (due.Do (act.Open on goal) ∷ rest) = ap (λ b. (on == k) || b) (begins_kept k id rest)
begins_kept k id (due.Do (act.Refuse on status rule) ∷ rest) = begins_kept k id rest
begins_kept k id (due.Do (act.Reset on code) ∷ rest) = begins_kept k id rest
begins_kept k id (due.Do (act.OfStream on a) ∷ rest) =
    let later = begins_kept k id rest in
    either (not (on == id)) (λ (ds : List Due). list_any (begins_on k) ds ≡ list_any (begins_on k) rest) (due.Do (act.OfStream on a) ∷ kept id rest) (kept id rest) later later
begins_kept k id (due.Spend on size ∷ rest) = begins_kept k id rest
begins_kept k id (due.Fault code ∷ rest) = begins_kept k id rest

pub spends_kept : (k id : ℕ) (ds : List Due) → spends k (kept id ds) ≡ spends k ds
spends_kept k id [] = refl
spends_kept k id (due.Do (act.Bind on goal) ∷ rest) = ap (λ n. 0 + n) (spends_kept k id rest)
spends_kept k id (due.Do (act.Open on goal) ∷ rest) = ap (λ n. 0 + n) (spends_kept k id rest)
spends_kept k id (due.Do (act.Refuse on status rule) ∷ rest) = ap (λ n. 0 + n) (spends_kept k id rest)
spends_kept k id (due.Do (act.Reset on code) ∷ rest) = ap (λ n. 0 + n) (spends_kept k id rest)
spends_kept k id (due.Do (act.OfStream on a) ∷ rest) =
    let later = spends_kept k id rest in
    either (not (on == id)) (λ (ds : List Due). spends k ds ≡ 0 + spends k rest) (due.Do (act.OfStream on a) ∷ kept id rest) (kept id rest) (ap (λ n. 0 + n) later) (omega (arith, later))
spends_kept k id (due.Spend on size ∷ rest) = ap (λ n. cond (on == k) size 0 + n) (spends_kept k id rest)
spends_kept k id (due.Fault code ∷ rest) = ap (λ n. 0 + n) (spends_kept k id rest)

-- all that is asked of stream 0
pub none_kept : (ds : List Due) → AllByRecursion IsOfZero ds → kept 0 ds ≡ []
none_kept [] h = refl
none_kept (due.Do (act.Bind on goal) ∷ rest) h = absurd h.0
none_kept (due.Do (act.Open on goal) ∷ rest) h = absurd h.0
none_kept (due.Do (act.Refuse on status rule) ∷ rest) h = absurd h.0
none_kept (due.Do (act.Reset on code) ∷ rest) h = absurd h.0
none_kept (due.Do (act.OfStream on a) ∷ rest) h =
    ap (λ b. cond (not b) (due.Do (act.OfStream on a) ∷ kept 0 rest) (kept 0 rest)) (eq-eqb on 0 h.0) ∙ none_kept rest h.1
none_kept (due.Spend on size ∷ rest) h = absurd h.0
none_kept (due.Fault code ∷ rest) h = absurd h.0

-- behind the first these are a request themselves
pub zero_request : (ds : List Due) → AllByRecursion IsOfZero ds → IsOneRequest ds
zero_request [] h = tt
zero_request (due.Do (act.Bind on goal) ∷ rest) h = absurd h.0
zero_request (due.Do (act.Open on goal) ∷ rest) h = absurd h.0
zero_request (due.Do (act.Refuse on status rule) ∷ rest) h = absurd h.0
zero_request (due.Do (act.Reset on code) ∷ rest) h = absurd h.0
zero_request (due.Do (act.OfStream on a) ∷ rest) h = h
zero_request (due.Spend on size ∷ rest) h = absurd h.0
zero_request (due.Fault code ∷ rest) h = absurd h.0

-- ---- tunnels

abbrev pub In : Tunnel → List Tunnel → Type 0
In t [] = ⊥
In t (u ∷ us) = (u ≡ t) ⊎ In t us

pub found_in : (p : Tunnel → Bool) (ts : List Tunnel) (t : Tunnel) → find p ts ≡ Some t → (p t ≡ true) × In t ts
found_in p [] t h = absurd cc
found_in p (u ∷ us) t h = by_first (p u) refl h (found_in p us t)
  where
    by_first : (b : Bool) → p u ≡ b → cond b (Some u) (find p us) ≡ Some t → (find p us ≡ Some t → (p t ≡ true) × In t us) → (p t ≡ true) × In t (u ∷ us)
    by_first true e k later = let same : u ≡ t = ap (λ o. unwrap_or o u) k in (ap p (sym same) ∙ e, inl same)
    by_first false e k later = let l = later k in (l.0, inr l.1)

pub in_each : (P : Tunnel → Type 0) (ts : List Tunnel) (t : Tunnel) → AllByRecursion P ts → In t ts → P t
in_each P [] t h i = absurd i
in_each P (u ∷ us) t h (inl e) = subst P e h.0
in_each P (u ∷ us) t h (inr i) = in_each P us t h.1 i

pub in_has : (ts : List Tunnel) (t : Tunnel) → In t ts → has_on ts t.stream ≡ true
in_has [] t i = absurd i
in_has (u ∷ us) t (inl e) = ap (λ b. is_some (cond b (Some u) (find (λ (v : Tunnel). v.stream == t.stream) us))) (ap (λ (v : Tunnel). v.stream == t.stream) e ∙ itself t.stream)
in_has (u ∷ us) t (inr i) = either (u.stream == t.stream) (λ (o : Option Tunnel). is_some o ≡ true) (Some u) (find (λ (v : Tunnel). v.stream == t.stream) us) refl (in_has us t i)

pub in_number : (ts : List Tunnel) (t : Tunnel) → In t ts → has_number ts t.id ≡ true
in_number [] t i = absurd i
in_number (u ∷ us) t (inl e) = ap (λ b. b || has_number us t.id) (ap (λ (v : Tunnel). v.id == t.id) e ∙ itself t.id)
in_number (u ∷ us) t (inr i) = by_first (u.id == t.id) (in_number us t i)
  where
    by_first : (b : Bool) → has_number us t.id ≡ true → (b || has_number us t.id) ≡ true
    by_first true k = refl
    by_first false k = k

-- a tunnel in front, for another stream
pub has_behind : (t : Tunnel) (ts : List Tunnel) (k : ℕ) → (t.stream == k) ≡ false → has_on (t ∷ ts) k ≡ has_on ts k
has_behind t ts k e = ap (λ b. is_some (cond b (Some t) (find (λ (v : Tunnel). v.stream == k) ts))) e

pub has_front : (t : Tunnel) (ts : List Tunnel) (k : ℕ) → (t.stream == k) ≡ true → has_on (t ∷ ts) k ≡ true
has_front t ts k e = ap (λ b. is_some (cond b (Some t) (find (λ (v : Tunnel). v.stream == k) ts))) e

pub kind_after : (t : Tunnel) (ts : List Tunnel) (k : ℕ) → (t.stream == k) ≡ false → kind_on (t ∷ ts) k ≡ kind_on ts k
kind_after t ts k e = ap (λ b. option_map (λ (t : Tunnel). kind_of t.goal) (cond b (Some t) (find (λ (v : Tunnel). v.stream == k) ts))) e

pub kind_front : (t : Tunnel) (ts : List Tunnel) (k : ℕ) → (t.stream == k) ≡ true → kind_on (t ∷ ts) k ≡ Some (kind_of t.goal)
kind_front t ts k e = ap (λ b. option_map (λ (t : Tunnel). kind_of t.goal) (cond b (Some t) (find (λ (v : Tunnel). v.stream == k) ts))) e

-- a tunnel is there where it has a kind
pub kind_there : (ts : List Tunnel) (k : ℕ) → is_some (kind_on ts k) ≡ has_on ts k
kind_there ts k = by_found (find (λ (v : Tunnel). v.stream == k) ts)
  where
    by_found : (o : Option Tunnel) → is_some (option_map (λ (t : Tunnel). kind_of t.goal) o) ≡ is_some o
    by_found None = refl
    by_found (Some t) = refl

pub no_kind : (ts : List Tunnel) (k : ℕ) → has_on ts k ≡ false → kind_on ts k ≡ None
no_kind ts k h = by_found (find (λ (v : Tunnel). v.stream == k) ts) h
  where
    by_found : (o : Option Tunnel) → is_some o ≡ false → option_map (λ (t : Tunnel). kind_of t.goal) o ≡ None
    by_found None h = refl
    by_found (Some t) h = absurd cc

pub none_there : (ts : List Tunnel) (k : ℕ) → kind_on ts k ≡ None → has_on ts k ≡ false
none_there ts k h = sym (kind_there ts k) ∙ ap (λ (o : Option Kind). is_some o) h

pub some_kind : (o : Option Kind) → is_some o ≡ true → (kind : Kind) × (o ≡ Some kind)
some_kind None h = absurd cc
some_kind (Some kind) h = (kind, refl)

-- ---- one more tunnel

-- this one, or one of those
abbrev or_one : ℕ → (ℕ → Bool) → ℕ → Bool
or_one id live other = cond (id == other) true (live other)

has_one_more : (t : Tunnel) (ts : List Tunnel) (k : ℕ) → has_on (ts ++ t ∷ []) k ≡ or_one t.stream (has_on ts) k
has_one_more t [] k = by_first (t.stream == k)
  where
    by_first : (b : Bool) → is_some (cond b (Some t) None) ≡ cond b true false
    by_first true = refl
    by_first false = refl
has_one_more t (u ∷ us) k = by_first (u.stream == k) (has_one_more t us k)
  where
    rest : Option Tunnel
    rest = find (λ (v : Tunnel). v.stream == k) us

    either_true : (b : Bool) → true ≡ cond b true true
    either_true true = refl
    either_true false = refl

    by_first : (b : Bool) → has_on (us ++ t ∷ []) k ≡ or_one t.stream (has_on us) k
        → is_some (cond b (Some u) (find (λ (v : Tunnel). v.stream == k) (us ++ t ∷ []))) ≡ cond (t.stream == k) true (is_some (cond b (Some u) rest))
    by_first true later = either_true (t.stream == k)
    by_first false later = later

pub kind_one_more : (t : Tunnel) (ts : List Tunnel) → kind_on ts t.stream ≡ None → (k : ℕ) → kind_on (ts ++ t ∷ []) k ≡ with_one t.stream (kind_of t.goal) (kind_on ts) k
kind_one_more t [] none k = by_first (t.stream == k)
  where
    by_first : (b : Bool) → option_map (λ (t : Tunnel). kind_of t.goal) (cond b (Some t) None) ≡ cond b (Some (kind_of t.goal)) None
    by_first true = refl
    by_first false = refl
kind_one_more t (u ∷ us) none k = by_case (cases (u.stream == k)) (λ free. kind_one_more t us free k)
  where
    other : (u.stream == t.stream) ≡ false
    other = unless_true (u.stream == t.stream) (λ e. some_none (sym (kind_front u us t.stream e) ∙ none))
      where
        some_none : Some (kind_of u.goal) ≡ None → ⊥
        some_none e = cc

    by_case : ((u.stream == k) ≡ true) ⊎ ((u.stream == k) ≡ false) → (kind_on us t.stream ≡ None → kind_on (us ++ t ∷ []) k ≡ with_one t.stream (kind_of t.goal) (kind_on us) k)
        → kind_on (u ∷ us ++ t ∷ []) k ≡ with_one t.stream (kind_of t.goal) (kind_on (u ∷ us)) k
    by_case (inl e) later =
        let apart : (t.stream == k) ≡ false = ap (λ i. t.stream == i) (sym (eqb-true u.stream k e)) ∙ either_way t.stream u.stream ∙ other in
        kind_front u (us ++ t ∷ []) k e ∙ sym (ap (λ b. cond b (Some (kind_of t.goal)) (kind_on (u ∷ us) k)) apart ∙ kind_front u us k e)
    by_case (inr e) later =
        kind_after u (us ++ t ∷ []) k e ∙ later (sym (kind_after u us t.stream other) ∙ none)
        ∙ ap (λ o. cond (t.stream == k) (Some (kind_of t.goal)) o) (sym (kind_after u us k e))

pub alone_one_more : (t : Tunnel) (ts : List Tunnel) → has_on ts t.stream ≡ false → Alone ts → Alone (ts ++ t ∷ [])
alone_one_more t [] none h = (refl, tt)
alone_one_more t (u ∷ us) none h =
    let other : (u.stream == t.stream) ≡ false = unless_true (u.stream == t.stream) (λ e. never (has_on (u ∷ us) t.stream) (has_front u us t.stream e) none) in
    let later = sym (has_behind u us t.stream other) ∙ none in
    (has_one_more t us u.stream ∙ ap (λ b. cond b true (has_on us u.stream)) (either_way t.stream u.stream ∙ other) ∙ h.0, alone_one_more t us later h.1)

number_one_more : (t : Tunnel) (ts : List Tunnel) (k : ℕ) → (t.id == k) ≡ false → has_number ts k ≡ false → has_number (ts ++ t ∷ []) k ≡ false
number_one_more t [] k other h = ap (λ b. b || false) other
number_one_more t (u ∷ us) k other h =
    let parts = or_false (u.id == k) (has_number us k) h in
    ap (λ b. b || has_number (us ++ t ∷ []) k) parts.0 ∙ number_one_more t us k other parts.1

pub numbered_one_more : (t : Tunnel) (ts : List Tunnel) → has_number ts t.id ≡ false → Numbered ts → Numbered (ts ++ t ∷ [])
numbered_one_more t [] none h = (refl, tt)
numbered_one_more t (u ∷ us) none h =
    let parts = or_false (u.id == t.id) (has_number us t.id) none in
    (number_one_more t us u.id (either_way t.id u.id ∙ parts.0) h.0, numbered_one_more t us parts.1 h.1)

-- a number above all is new
pub number_above : (ts : List Tunnel) (n : ℕ) → AllByRecursion (λ (t : Tunnel). t.id < n) ts → has_number ts n ≡ false
number_above [] n h = refl
number_above (t ∷ ts) n h = ap (λ b. b || has_number ts n) (ne_eqb t.id n (λ e. (let less = h.0 in absurd (omega (arith, less, e))))) ∙ number_above ts n h.1

-- ---- one tunnel less

abbrev pub apart : ℕ → List Tunnel → List Tunnel
apart id ts = filter (λ (t : Tunnel). not (t.id == id)) ts

pub has_less : (p : Tunnel → Bool) (ts : List Tunnel) (k : ℕ) → has_on ts k ≡ false → has_on (filter p ts) k ≡ false
has_less p [] k h = refl
has_less p (u ∷ us) k h =
    let other : (u.stream == k) ≡ false = unless_true (u.stream == k) (λ e. never (has_on (u ∷ us) k) (has_front u us k e) h) in
    let rest = has_less p us k (sym (has_behind u us k other) ∙ h) in
    either (p u) (λ (ts : List Tunnel). has_on ts k ≡ false) (u ∷ filter p us) (filter p us) (has_behind u (filter p us) k other ∙ rest) rest

pub alone_less : (p : Tunnel → Bool) (ts : List Tunnel) → Alone ts → Alone (filter p ts)
alone_less p [] h = tt
alone_less p (u ∷ us) h = either (p u) Alone (u ∷ filter p us) (filter p us) (has_less p us u.stream h.0, alone_less p us h.1) (alone_less p us h.1)

pub numbered_less : (p : Tunnel → Bool) (ts : List Tunnel) → Numbered ts → Numbered (filter p ts)
numbered_less p [] h = tt
numbered_less p (u ∷ us) h =
    either (p u) Numbered (u ∷ filter p us) (filter p us) (any_filter (λ (t : Tunnel). t.id == u.id) p us h.0, numbered_less p us h.1) (numbered_less p us h.1)

all_apart : (id : ℕ) (ts : List Tunnel) → has_number ts id ≡ false → apart id ts ≡ ts
all_apart id [] h = refl
all_apart id (u ∷ us) h =
    let parts = or_false (u.id == id) (has_number us id) h in
    ap (λ b. cond (not b) (u ∷ apart id us) (apart id us)) parts.0 ∙ ap (λ (ts : List Tunnel). u ∷ ts) (all_apart id us parts.1)

-- the stream of this tunnel has none any more
pub loses_tunnel : (t : Tunnel) (ts : List Tunnel) → Alone ts → Numbered ts → In t ts → Loses t.stream (kind_on ts) (kind_on (apart t.id ts))
loses_tunnel t [] alone numbered i k = absurd i
loses_tunnel t (u ∷ us) alone numbered (inl e) k = subst (λ (v : Tunnel). kind_on (apart v.id (u ∷ us)) k ≡ cond (k == v.stream) None (kind_on (u ∷ us) k)) e (
    ap (λ (ts : List Tunnel). kind_on ts k) (ap (λ b. cond (not b) (u ∷ apart u.id us) (apart u.id us)) (itself u.id) ∙ all_apart u.id us numbered.0)
    ∙ by_case (cases (u.stream == k))
    )
  where
    by_case : ((u.stream == k) ≡ true) ⊎ ((u.stream == k) ≡ false) → kind_on us k ≡ cond (k == u.stream) None (kind_on (u ∷ us) k)
    by_case (inl f) =
        ap (kind_on us) (sym (eqb-true u.stream k f)) ∙ no_kind us u.stream alone.0 ∙ sym (ap (λ b. cond b None (kind_on (u ∷ us) k)) (either_way k u.stream ∙ f))
    by_case (inr f) = sym (ap (λ b. cond b None (kind_on (u ∷ us) k)) (either_way k u.stream ∙ f) ∙ kind_after u us k f)
loses_tunnel t (u ∷ us) alone numbered (inr i) k =
    let other : (u.id == t.id) ≡ false = unless_true (u.id == t.id) (λ e. never (has_number us u.id) (ap (has_number us) (eqb-true u.id t.id e) ∙ in_number us t i) numbered.0) in
    ap (λ (b : Bool). kind_on (cond (not b) (u ∷ apart t.id us) (apart t.id us)) k) other ∙ by_case (cases (u.stream == k)) (loses_tunnel t us alone.1 numbered.1 i k)
  where
    others : (u.stream == t.stream) ≡ false
    others = unless_true (u.stream == t.stream) (λ e. never (has_on us u.stream) (ap (has_on us) (eqb-true u.stream t.stream e) ∙ in_has us t i) alone.0)

    by_case : ((u.stream == k) ≡ true) ⊎ ((u.stream == k) ≡ false) → kind_on (apart t.id us) k ≡ cond (k == t.stream) None (kind_on us k)
        → kind_on (u ∷ apart t.id us) k ≡ cond (k == t.stream) None (kind_on (u ∷ us) k)
    by_case (inl f) later =
        let none : (k == t.stream) ≡ false = ap (λ j. j == t.stream) (sym (eqb-true u.stream k f)) ∙ others in
        kind_front u (apart t.id us) k f ∙ sym (ap (λ b. cond b None (kind_on (u ∷ us) k)) none ∙ kind_front u us k f)
    by_case (inr f) later = kind_after u (apart t.id us) k f ∙ later ∙ sym (ap (λ o. cond (k == t.stream) None o) (kind_after u us k f))

-- ---- tunnels in which something else waits

abbrev pub Same : List Tunnel → List Tunnel → Type 0
Same [] [] = Unit {0}
Same [] (u ∷ us) = ⊥
Same (t ∷ ts) [] = ⊥
Same (t ∷ ts) (u ∷ us) = (u.id ≡ t.id) × (u.stream ≡ t.stream) × (u.goal ≡ t.goal) × Same ts us

same_all : (ts : List Tunnel) → Same ts ts
same_all [] = tt
same_all (t ∷ ts) = (refl, refl, refl, same_all ts)

pub set_same : (id : ℕ) (ws : List Waiting) (ts : List Tunnel) → Same ts (set_waiting id ws ts)
set_same id ws [] = tt
set_same id ws (t ∷ ts) =
    either (t.stream == id) (λ (us : List Tunnel). Same (t ∷ ts) us) (record t { waiting = ws } ∷ ts) (t ∷ set_waiting id ws ts) (refl, refl, refl, same_all ts) (refl, refl, refl, set_same id ws ts)

pub waits_same : (id : ℕ) (w : Waiting) (ts : List Tunnel) → Same ts (waits_last id w ts)
waits_same id w [] = tt
waits_same id w (t ∷ ts) =
    either (t.id == id) (λ (us : List Tunnel). Same (t ∷ ts) us) (record t { waiting = t.waiting ++ w ∷ [] } ∷ ts) (t ∷ waits_last id w ts)
    (refl, refl, refl, same_all ts) (refl, refl, refl, waits_same id w ts)

pub has_same : (ts us : List Tunnel) → Same ts us → (k : ℕ) → has_on us k ≡ has_on ts k
has_same [] [] s k = refl
has_same [] (u ∷ us) s k = absurd s
has_same (t ∷ ts) [] s k = absurd s
has_same (t ∷ ts) (u ∷ us) s k =
    ap (λ (i : ℕ). is_some (cond (i == k) (Some u) (find (λ (v : Tunnel). v.stream == k) us))) s.1 ∙ by_first (t.stream == k) (has_same ts us s.3 k)
  where
    by_first : (b : Bool) → has_on us k ≡ has_on ts k → is_some (cond b (Some u) (find (λ (v : Tunnel). v.stream == k) us)) ≡ is_some (cond b (Some t) (find (λ (v : Tunnel). v.stream == k) ts))
    by_first true later = refl
    by_first false later = later

pub kind_same : (ts us : List Tunnel) → Same ts us → (k : ℕ) → kind_on us k ≡ kind_on ts k
kind_same [] [] s k = refl
kind_same [] (u ∷ us) s k = absurd s
kind_same (t ∷ ts) [] s k = absurd s
kind_same (t ∷ ts) (u ∷ us) s k = by_case (cases (t.stream == k)) (kind_same ts us s.3 k)
  where
    by_case : ((t.stream == k) ≡ true) ⊎ ((t.stream == k) ≡ false) → kind_on us k ≡ kind_on ts k → kind_on (u ∷ us) k ≡ kind_on (t ∷ ts) k
    by_case (inl e) later = kind_front u us k (ap (λ i. i == k) s.1 ∙ e) ∙ ap (λ g. Some (kind_of g)) s.2 ∙ sym (kind_front t ts k e)
    by_case (inr e) later = kind_after u us k (ap (λ i. i == k) s.1 ∙ e) ∙ later ∙ sym (kind_after t ts k e)

number_same : (ts us : List Tunnel) → Same ts us → (k : ℕ) → has_number us k ≡ has_number ts k
number_same [] [] s k = refl
number_same [] (u ∷ us) s k = absurd s
number_same (t ∷ ts) [] s k = absurd s
number_same (t ∷ ts) (u ∷ us) s k = ap (λ (i : ℕ). (i == k) || has_number us k) s.0 ∙ ap (λ b. (t.id == k) || b) (number_same ts us s.3 k)

pub alone_same : (ts us : List Tunnel) → Same ts us → Alone ts → Alone us
alone_same [] [] s h = tt
alone_same [] (u ∷ us) s h = absurd s
alone_same (t ∷ ts) [] s h = absurd s
alone_same (t ∷ ts) (u ∷ us) s h = (ap (has_on us) s.1 ∙ has_same ts us s.3 t.stream ∙ h.0, alone_same ts us s.3 h.1)

pub numbered_same : (ts us : List Tunnel) → Same ts us → Numbered ts → Numbered us
numbered_same [] [] s h = tt
numbered_same [] (u ∷ us) s h = absurd s
numbered_same (t ∷ ts) [] s h = absurd s
numbered_same (t ∷ ts) (u ∷ us) s h = (ap (has_number us) s.0 ∙ number_same ts us s.3 t.id ∙ h.0, numbered_same ts us s.3 h.1)

pub each_same : (P : Tunnel → Type 0) (ts us : List Tunnel) → Same ts us → ((t u : Tunnel) → u.stream ≡ t.stream → u.goal ≡ t.goal → P t → P u) → AllByRecursion P ts → AllByRecursion P us
each_same P [] [] s f h = tt
each_same P [] (u ∷ us) s f h = absurd s
each_same P (t ∷ ts) [] s f h = absurd s
each_same P (t ∷ ts) (u ∷ us) s f h = (f t u s.1 s.2 h.0, each_same P ts us s.3 f h.1)
