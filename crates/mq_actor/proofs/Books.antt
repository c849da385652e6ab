-- What the book says of an actor's tunnels, as others and itself write to it.
use Rattle.std.proofs.Common.{◌≡◌, ◌≢◌, ◌⊎◌, inl, inr, ℕ, zero, suc, ◌<◌, ◌==◌, false, not, ◌&&◌, ◌||◌, List, [], ◌∷◌, ◌++◌}
use Rattle.std.proofs.Common.{length, slice_get, Some, refl, sym, ap, subst, ◌∙◌, arith, true≢false}
use Rattle.std.proofs.lemmas.Bool.{eq-eqb, ne_eqb}
use Rattle.mq_addr.specs.declared.range.Range.{Range}
use Rattle.mq_talk.specs.declared.book.Call.{Call}
use Rattle.mq_talk.specs.declared.book.Call.TheVariants as call
use Rattle.mq_talk.specs.declared.book.Entry.{Entry}
use Rattle.mq_talk.specs.declared.book.Reply.{Reply}
use Rattle.mq_talk.specs.declared.book.Reply.TheVariants as reply
use Rattle.mq_talk.specs.declared.goal.Goal.{Goal}
use Rattle.mq_talk.specs.Book.{History, is_live}
use Rattle.mq_talk.specs.Offices.{Seen, Sees, IsOfOther}
use Rattle.mq_book.proofs.Onward.{IsBehind, any_closes, both, entry_all, entry_front, entry_last, entry_part, entry_within, live_front, live_last, not_is, others_keep}
use Rattle.mq_machine.specs.Acting.{IsOpen}
use Rattle.mq_held.specs.Answers.{IsFor}

-- an open tunnel is an entry of the history
pub open_within : (book : History) (actor tunnel conn stream : ℕ) (goal : Goal) → IsOpen book actor tunnel conn stream goal → tunnel < length book
open_within book actor tunnel conn stream goal is = entry_within book tunnel is.entry is.at

-- a tunnel has one connection
pub open_once : (book : History) (actor tunnel conn stream other on : ℕ) (goal to : Goal) → IsOpen book actor tunnel conn stream goal
    → IsOpen book actor tunnel other on to → other ≡ conn
open_once book actor tunnel conn stream other on goal to is also =
    let same : Some is.entry ≡ Some also.entry = sym is.at ∙ also.at in
    let one : is.entry ≡ also.entry = cc in
    let calls : call.Open conn stream actor goal ≡ call.Open other on actor to = sym is.call ∙ ap (λ (e : Entry). e.call) one ∙ also.call in
    cc

-- It stays open behind entries none of which closes it.
pub open_onward : (book more : History) (actor tunnel conn stream : ℕ) (goal : Goal) → any_closes tunnel more ≡ false
    → IsOpen book actor tunnel conn stream goal → IsOpen (book ++ more) actor tunnel conn stream goal
open_onward book more actor tunnel conn stream goal none is =
    let less = open_within book actor tunnel conn stream goal is in
    record {
      entry = is.entry;
      at = entry_front book more tunnel less ∙ is.at;
      call = is.call;
      by = is.by;
      live = live_front book more tunnel less ∙ ap (λ b. b && not (any_closes tunnel more)) is.live ∙ ap not none;
    }

-- It was open before them, where its entry is one of the first ones.
pub open_backward : (book more : History) (actor tunnel conn stream : ℕ) (goal : Goal) → tunnel < length book
    → IsOpen (book ++ more) actor tunnel conn stream goal → IsOpen book actor tunnel conn stream goal × (any_closes tunnel more ≡ false)
open_backward book more actor tunnel conn stream goal less is =
    let live = both (is_live book tunnel) (not (any_closes tunnel more)) (sym (live_front book more tunnel less) ∙ is.live) in (
      record { entry = is.entry; at = sym (entry_front book more tunnel less) ∙ is.at; call = is.call; by = is.by; live = live.0 },
      not_is (any_closes tunnel more) live.1,
    )

-- ---- what others wrote

-- a tunnel that its actor has seen open is open in the book
pub stays_open : (seen : Seen) (book : History) → Sees seen book → (tunnel conn stream : ℕ) (goal : Goal)
    → IsOpen seen.entries seen.actor tunnel conn stream goal → IsOpen book seen.actor tunnel conn stream goal
stays_open seen book sees tunnel conn stream goal is =
    let P : History → Type 0 = λ h. IsOpen h seen.actor tunnel conn stream goal in
    let none = others_keep seen sees.more tunnel is.entry sees.others is.at is.by in
    subst P (sym sees.goes_on) (open_onward seen.entries sees.more seen.actor tunnel conn stream goal none is)

-- a tunnel of the actor that is open in the book is one that it has seen open
pub was_open : (seen : Seen) (book : History) → Sees seen book → (tunnel conn stream : ℕ) (goal : Goal) → IsOpen book seen.actor tunnel conn stream goal
    → IsOpen seen.entries seen.actor tunnel conn stream goal
was_open seen book sees tunnel conn stream goal is = by_case (entry_part seen.entries sees.more tunnel now.entry now.at) where
  now : IsOpen (seen.entries ++ sees.more) seen.actor tunnel conn stream goal
  now = let P : History → Type 0 = λ h. IsOpen h seen.actor tunnel conn stream goal in subst P sees.goes_on is

  by_case : (tunnel < length seen.entries) ⊎ IsBehind seen.entries sees.more tunnel now.entry → IsOpen seen.entries seen.actor tunnel conn stream goal
  by_case (inl less) = (open_backward seen.entries sees.more seen.actor tunnel conn stream goal less now).0
  by_case (inr (k, far, there)) = absurd ((entry_all (IsOfOther seen) sees.more k now.entry sees.others there).by now.by)

-- ---- what the actor wrote itself

-- an entry that opens a tunnel
abbrev pub own_opening : History → (actor conn stream : ℕ) → Goal → List Range → Entry
own_opening book actor conn stream goal routes = record { actor = actor; call = call.Open conn stream actor goal; reply = reply.Opened (length book) routes }

-- an entry that closes one
abbrev pub own_close : (actor tunnel : ℕ) → Entry
own_close actor tunnel = record { actor = actor; call = call.Close tunnel; reply = reply.Closed }

-- what is open stays open behind an opening
pub open_behind : (book : History) (actor c s : ℕ) (g : Goal) (routes : List Range) (t conn stream : ℕ) (goal : Goal)
    → IsOpen book actor t conn stream goal → IsOpen (book ++ own_opening book actor c s g routes ∷ []) actor t conn stream goal
open_behind book actor c s g routes t conn stream goal is = open_onward book (own_opening book actor c s g routes ∷ []) actor t conn stream goal refl is

-- the tunnel that it opens is open
pub opens : (book : History) (actor c s : ℕ) (g : Goal) (routes : List Range)
    → IsOpen (book ++ own_opening book actor c s g routes ∷ []) actor (length book) c s g
opens book actor c s g routes =
    let e : Entry = own_opening book actor c s g routes in
    record { entry = e; at = entry_last book e; call = refl; by = refl; live = live_last book e }

-- an entry of a book with an entry more is an earlier one, or that
pub entry_or_last : (book : History) (e : Entry) (t : ℕ) (x : Entry) → slice_get (book ++ e ∷ []) t ≡ Some x → (t < length book) ⊎ ((t ≡ length book) × (x ≡ e))
entry_or_last book e t x at = by_case (entry_part book (e ∷ []) t x at) where
  by_case : (t < length book) ⊎ IsBehind book (e ∷ []) t x → (t < length book) ⊎ ((t ≡ length book) × (x ≡ e))
  by_case (inl less) = inl less
  by_case (inr (zero, far, there)) = let last : t ≡ length book = omega (arith, far) in inr (last, cc)
  by_case (inr (suc k, far, there)) = absurd cc

-- behind an opening what is open was, or was opened by it
pub open_before : (book : History) (actor c s : ℕ) (g : Goal) (routes : List Range) (t conn stream : ℕ) (goal : Goal)
    → IsOpen (book ++ own_opening book actor c s g routes ∷ []) actor t conn stream goal
    → IsOpen book actor t conn stream goal ⊎ ((t ≡ length book) × (conn ≡ c) × (stream ≡ s) × (goal ≡ g))
open_before book actor c s g routes t conn stream goal is = by_case (entry_or_last book e t is.entry is.at) where
  e : Entry
  e = own_opening book actor c s g routes

  by_case : (t < length book) ⊎ ((t ≡ length book) × (is.entry ≡ e))
      → IsOpen book actor t conn stream goal ⊎ ((t ≡ length book) × (conn ≡ c) × (stream ≡ s) × (goal ≡ g))
  by_case (inl less) = inl (open_backward book (e ∷ []) actor t conn stream goal less is).0
  by_case (inr (last, it)) =
      let calls : call.Open conn stream actor goal ≡ call.Open c s actor g = sym is.call ∙ ap (λ (x : Entry). x.call) it in
      inr (last, cc, cc, cc)

-- what is open stays open behind the close of another
pub open_beside : (book : History) (actor tunnel t conn stream : ℕ) (goal : Goal) → t ≢ tunnel → IsOpen book actor t conn stream goal
    → IsOpen (book ++ own_close actor tunnel ∷ []) actor t conn stream goal
open_beside book actor tunnel t conn stream goal ne is =
    let other : (tunnel == t) ≡ false = ne_eqb tunnel t (λ same. ne (sym same)) in
    open_onward book (own_close actor tunnel ∷ []) actor t conn stream goal (ap (λ b. b || false) other) is

-- behind a close what is open was, and is another
pub beside_open : (book : History) (actor tunnel t conn stream : ℕ) (goal : Goal) → IsOpen (book ++ own_close actor tunnel ∷ []) actor t conn stream goal
    → IsOpen book actor t conn stream goal × (t ≢ tunnel)
beside_open book actor tunnel t conn stream goal is = by_case (entry_or_last book (own_close actor tunnel) t is.entry is.at) where
  other : any_closes t (own_close actor tunnel ∷ []) ≡ false → t ≢ tunnel
  other none same = true≢false (sym (ap (λ b. b || false) (eq-eqb tunnel t (sym same))) ∙ none)

  by_case : (t < length book) ⊎ ((t ≡ length book) × (is.entry ≡ own_close actor tunnel)) → IsOpen book actor t conn stream goal × (t ≢ tunnel)
  by_case (inl less) = let was = open_backward book (own_close actor tunnel ∷ []) actor t conn stream goal less is in (was.0, other was.1)
  by_case (inr (last, it)) =
      let calls : call.Open conn stream actor goal ≡ call.Close tunnel = sym is.call ∙ ap (λ (x : Entry). x.call) it in
      absurd cc

-- ---- addresses and ways

-- an entry that asks for addresses or ways
abbrev pub own_telling : ℕ → Call → Reply → Entry
own_telling actor asked said = record { actor = actor; call = asked; reply = said }

-- it closes no tunnel
telling_closes : (actor tunnel t : ℕ) (asked : Call) (said : Reply) → IsFor tunnel asked → any_closes t (own_telling actor asked said ∷ []) ≡ false
telling_closes actor tunnel t (call.Open conn stream by goal) said of = absurd of
telling_closes actor tunnel t (call.Close on) said of = absurd of
telling_closes actor tunnel t (call.Assign on list) said of = refl
telling_closes actor tunnel t (call.Advertise on ranges) said of = refl

-- nor opens one
telling_opens : (tunnel conn stream actor : ℕ) (goal : Goal) (asked : Call) → IsFor tunnel asked → call.Open conn stream actor goal ≡ asked → ⊥
telling_opens tunnel conn stream actor goal (call.Open on id by to) of is = of
telling_opens tunnel conn stream actor goal (call.Close on) of is = of
telling_opens tunnel conn stream actor goal (call.Assign on list) of is = cc
telling_opens tunnel conn stream actor goal (call.Advertise on ranges) of is = cc

-- what is open stays open behind it
pub open_told : (book : History) (actor tunnel : ℕ) (asked : Call) (said : Reply) (t conn stream : ℕ) (goal : Goal) → IsFor tunnel asked
    → IsOpen book actor t conn stream goal → IsOpen (book ++ own_telling actor asked said ∷ []) actor t conn stream goal
open_told book actor tunnel asked said t conn stream goal of is =
    open_onward book (own_telling actor asked said ∷ []) actor t conn stream goal (telling_closes actor tunnel t asked said of) is

-- and what is open then was
pub told_open : (book : History) (actor tunnel : ℕ) (asked : Call) (said : Reply) (t conn stream : ℕ) (goal : Goal) → IsFor tunnel asked
    → IsOpen (book ++ own_telling actor asked said ∷ []) actor t conn stream goal → IsOpen book actor t conn stream goal
told_open book actor tunnel asked said t conn stream goal of is = by_case (entry_or_last book e t is.entry is.at) where
  e : Entry
  e = own_telling actor asked said

  by_case : (t < length book) ⊎ ((t ≡ length book) × (is.entry ≡ e)) → IsOpen book actor t conn stream goal
  by_case (inl less) = (open_backward book (e ∷ []) actor t conn stream goal less is).0
  by_case (inr (last, it)) = absurd (telling_opens tunnel conn stream actor goal asked of (sym is.call ∙ ap (λ (x : Entry). x.call) it))
