-- A step that was refused memory leads to one state.
use Rattle.std.proofs.Common.{◌≡◌, ℕ, Bool, true, false, List, [], ◌∷◌, Option, Some, None, refl, sym, ap, subst, ◌∙◌, slice_set, map}
use Rattle.std.specs.Prelude.{find, cond, if◌then◌else◌}
use Rattle.mq_talk.specs.declared.note.End.{End}
use Rattle.mq_talk.specs.declared.note.End.TheVariants as end
use Rattle.mq_machine.specs.State.{Conn, Tunnel, Port, Held, Orders, Worker, Shared, State, owed, held_of}
use Rattle.mq_machine.specs.Settle.{gives_up}
use Rattle.mq_machine.specs.Want.{Want, Nothing, Send, Over, Answer, want_of, want_by, ending_want, over_want}
use Rattle.mq_talk.specs.Mails.{box_at}
use Rattle.mq_machine.specs.Laws.{SaysOne}
use Rattle.mq_machine.specs.Shared.{Answers, PortsAnswer, Ordered}
use Rattle.mq_machine.specs.Steps.{starved}
use Rattle.mq_machine.specs.Silent.{Reached, Leaves, Heard, takes_memory, tunnels_after, ConnStarves, SeatStarves, WorkerStarves, WorkerSilent, SilentTurn, may_starve}
use Rattle.mq_machine.specs.Turn.{Try, Act, Frame, Write, Read, Receive, can_do, can_try, try_of, Seat, Offers, Inbox, Of, replace, Actor, WorkerOf, ThePump}
use Rattle.mq_machine.proofs.Turns.{some_same, same_after, orders_agree, same_orders}

-- what was asked is answered in one way
abbrev Same : {A : Type 0} → A → A → Shared → Shared → Answer → Answer → Type 0
Same a b s t k l = (a ≡ b) × (s ≡ t) × (k ≡ l)

one_leaves : (took : Bool) (try : Try) (old a b : List (List ℕ)) → Leaves took try old a → Leaves took try old b → a ≡ b
one_leaves false try old a b x y = x ∙ sym y
one_leaves true try [] a b x y = absurd x
one_leaves true try (first ∷ others) a b x y = x.1 ∙ sym y.1

-- what takes memory is no send
no_port : (want : Want) (a : Answer) → takes_memory want ≡ true → PortsAnswer [] want a
no_port (Send tunnel n payload) a h = absurd cc
no_port want a h = tt

one_heard : (asked : Bool) (old : Held) (sh : Shared) → SaysOne sh.config sh.book → (try : Try) (k l : Answer) (a b : List Tunnel) (s t : Shared) (p q : Orders)
    → Heard asked old sh try k a s → Heard asked old sh try l b t → Ordered sh.orders k p → Ordered sh.orders l q → Same a b s t k l
one_heard false old sh one try k l a b s t p q x y o r = (x.1 ∙ sym y.1, x.2 ∙ sym y.2, x.0 ∙ sym y.0)
one_heard true old sh one try k l a b s t p q x y o r =
    let want = want_of old.conn in
    let answers = orders_agree sh one sh.orders p q k l o r old.conn.actor want [] s t x.answers y.answers (no_port want k x.takes) (no_port want l x.takes) in
    let P : Answer → Type 0 = λ answer. Answers old.conn.actor sh want answer t in (
      x.tunnels_are ∙ ap (λ answer. tunnels_after want answer old.conn.tunnels) answers ∙ sym y.tunnels_are,
      same_after sh one old.conn.actor want k s t x.answers (subst P (sym answers) y.answers),
      answers,
    )

one_conn : (old : Worker) (sh : Shared) → SaysOne sh.config sh.book → (number : ℕ) (reached : Reached) (k l : Answer) (a b : Worker) (s t : Shared) (p q : Orders)
    → ConnStarves old sh number reached k a s → ConnStarves old sh number reached l b t → Ordered sh.orders k p → Ordered sh.orders l q → Same a b s t k l
one_conn old sh one number reached k l a b s t p q x y o r =
    let held = some_same (sym y.has ∙ x.has) in
    let P : Held → Type 0 = λ h. try_of h ≡ Some y.try in
    let tries = some_same (sym (subst P held y.tries) ∙ x.tries) in
    let Q : Held → Type 0 = λ h. Heard reached.asked h sh y.try l y.tunnels t in
    let R : Try → Type 0 = λ try. Heard reached.asked x.held sh try l y.tunnels t in
    let heard = one_heard reached.asked x.held sh one x.try k l x.tunnels y.tunnels s t p q x.heard (subst R tries (subst Q held y.heard)) o r in
    let M : Held → Type 0 = λ h. Leaves reached.took y.try h.link.pieces y.pieces in
    let N : Try → Type 0 = λ try. Leaves reached.took try x.held.link.pieces y.pieces in
    let pieces = one_leaves reached.took x.try x.held.link.pieces x.pieces y.pieces x.leaves (subst N tries (subst M held y.leaves)) in
    let next : Held → List (List ℕ) → List Tunnel → Worker = λ h ps ts. record old {
      conns = replace number (Some (record h {
        link = record h.link { pieces = ps };
        conn = record (starved h.conn) { tunnels = ts };
      })) old.conns;
    } in (
      x.new_is ∙ ap (λ (h : Held). next h x.pieces x.tunnels) (sym held) ∙ ap (λ (ps : List (List ℕ)). next y.held ps x.tunnels) pieces
          ∙ ap (λ (ts : List Tunnel). next y.held y.pieces ts) heard.0 ∙ sym y.new_is,
      heard.1,
      heard.2,
    )

one_seat : (old : Worker) (sh : Shared) → SaysOne sh.config sh.book → (seat : Seat) (reached : Reached) (k l : Answer) (a b : Worker) (s t : Shared) (p q : Orders)
    → SeatStarves old sh seat reached k a s → SeatStarves old sh seat reached l b t → Ordered sh.orders k p → Ordered sh.orders l q → Same a b s t k l
one_seat old sh one Offers reached k l a b s t p q x y o r = (x.2 ∙ sym y.2, x.3 ∙ sym y.3, x.1 ∙ sym y.1)
one_seat old sh one Inbox reached k l a b s t p q x y o r = absurd x
one_seat old sh one (Of conn) reached k l a b s t p q x y o r = one_conn old sh one conn reached k l a b s t p q x y o r

one_silent : (old : State) → SaysOne old.shared.config old.shared.book → (number : ℕ) (reached : Reached) (a b : State) → WorkerSilent old number reached a → WorkerSilent old number reached b → a ≡ b
one_silent old one number reached a b x y =
    let sh = old.shared in
    let worker = some_same (sym y.at ∙ x.at) in
    let P : Worker → Type 0 = λ w. WorkerStarves w (box_at sh.boxes w.id) sh reached y.answer y.next y.shared in
    let starves = subst P worker y.starves in
    let Q : Seat → Type 0 = λ seat. SeatStarves x.worker sh seat reached y.answer y.next y.shared in
    let same = one_seat x.worker sh one x.starves.seat reached x.answer y.answer x.next y.next x.shared y.shared x.after.orders y.after.orders
    x.starves.starves (subst Q (some_same (sym starves.turn ∙ x.starves.turn)) starves.starves) x.ordered y.ordered in
    let R : Answer → Type 0 = λ answer. Ordered sh.orders answer y.after.orders in
    let orders = same_orders sh.orders x.after.orders y.after.orders x.answer x.ordered (subst R (sym same.2) y.ordered) in
    let after = x.after_is ∙ ap (λ (s : Shared). record s { orders = x.after.orders }) same.1 ∙ ap (λ (o : Orders). record y.shared { orders = o }) orders ∙ sym y.after_is in
    x.new_is ∙ ap (λ (w : Worker). record old { workers = slice_set old.workers number w; shared = x.after }) same.0
    ∙ ap (λ (s : Shared). record old { workers = slice_set old.workers number y.next; shared = s }) after ∙ sym y.new_is

pub one_turn : (old : State) → SaysOne old.shared.config old.shared.book → (actor : Actor) (reached : Reached) (a b : State) → SilentTurn old actor reached a → SilentTurn old actor reached b → a ≡ b
one_turn old one (WorkerOf number) reached a b x y = one_silent old one number reached a b x y
one_turn old one ThePump reached a b x y = x.2 ∙ sym y.2

-- ---- once

-- an ending connection wants nothing that takes memory
pub starves_alive : (c : Conn) → may_starve (want_of c) ≡ true → c.ending ≡ None
starves_alive c takes = by_end c.ending takes where
  by_over : (why : End) (gives : Bool) → may_starve (if gives then Over why else Nothing) ≡ true → ⊥
  by_over why true e = cc
  by_over why false e = cc

  by_owed : (why : End) (bytes : List ℕ) → may_starve (over_want why bytes) ≡ true → ⊥
  by_owed why [] e = cc
  by_owed why (b ∷ bytes) e = by_over why (gives_up why) e

  by_tunnels : (why : End) (ts : List Tunnel) → may_starve (ending_want c why ts) ≡ true → ⊥
  by_tunnels why [] e = by_owed why (owed c) e
  by_tunnels why (t ∷ ts) e = cc

  by_end : (end : Option End) → may_starve (want_by c end) ≡ true → end ≡ None
  by_end None e = refl
  by_end (Some why) e = absurd (by_tunnels why c.tunnels e)

-- an ending connection for which memory was refused has a tunnel to close, or is over
starved_can : (ports : List Port) (c : Conn) (e : Option End) → e ≡ Some end.NoMemory → can_do ports (want_by c e) ≡ true
starved_can ports c e is = let P : Option End → Type 0 = λ e. can_do ports (want_by c e) ≡ true in subst P (sym is) (by_tunnels c.tunnels) where
  by_owed : (bytes : List ℕ) → can_do ports (over_want end.NoMemory bytes) ≡ true
  by_owed [] = refl
  by_owed (b ∷ bytes) = refl

  by_tunnels : (ts : List Tunnel) → can_do ports (ending_want c end.NoMemory ts) ≡ true
  by_tunnels [] = by_owed (owed c)
  by_tunnels (t ∷ ts) = refl

first_found : (f : Try → Bool) (t : Try) (ts : List Try) → f t ≡ true → find f (t ∷ ts) ≡ Some t
first_found f t ts h = let P : Bool → Type 0 = λ b. cond b (Some t) (find f ts) ≡ Some t in subst P (sym h) refl

pub once : (old new : Worker) (sh after : Shared) (number : ℕ) (reached : Reached) (answer : Answer) (h : Held) → ConnStarves old sh number reached answer new after
    → held_of old number ≡ Some h → h.conn.ending ≡ Some end.NoMemory → ⊥
once old new sh after number reached answer h x has ending =
    let held = some_same (sym has ∙ x.has) in
    let is = ap (λ (k : Held). k.conn.ending) (sym held) ∙ ending in
    let can = starved_can x.held.ports x.held.conn x.held.conn.ending is in
    let act = some_same (sym x.tries ∙ first_found (can_try x.held) Act (Frame ∷ Write ∷ Read ∷ map (λ (p : Port). Receive p.tunnel) x.held.ports) can) in
    let none = sym is ∙ starves_alive x.held.conn (x.takes act) in
    absurd cc
