-- The link of a number changes, and so does the machine's.
use Rattle.std.proofs.Common.{◌≡◌, ◌≢◌, ℕ, zero, suc, ◌+◌, ◌<◌, ◌==◌, Bool, true, false, cond, List, [], ◌∷◌, ◌++◌, length, map, find, position, All, slice_get, slice_set, Option, Some, None, refl, sym, ap, subst, ◌∙◌, arith}
use Rattle.std.specs.Prelude.{if◌then◌else◌}
use Rattle.std.specs.Vec.{with_item}
use Rattle.std.specs.VecDeque.{deque_with_item}
use Rattle.std.specs.declared.alloc.Global.{Global}
use Rattle.std.specs.declared.collections.VecDeque.{VecDeque}
use Rattle.std.specs.declared.vec.Vec.{Vec}
use Rattle.std.proofs.lemmas.Bool.{eq-eqb, ne_eqb, eqb-true}
use Rattle.std.proofs.lemmas.List.Elements.{All-map, All-weaker}
use Rattle.slab.specs.Slab.{Slab}
use Rattle.mq_machine.specs.State.{Link, Offer, Held, Worker}
use Rattle.mq_held.specs.declared.held.Held.{Held as HeldBy}
use Rattle.mq_step.specs.Holds.{IsHeld}
use Rattle.mq_actor.specs.declared.offer.Offer.{Offer as OfferBy}
use Rattle.mq_actor.specs.declared.ring.Ring.{Ring}
use Rattle.mq_actor.specs.Ended.{conn_numbers, offer_numbers, numbers_in}
use Rattle.mq_actor.specs.Holds.{IsWorker, AreHeld, AreOffered, numbers_of}
use Rattle.mq_actor.specs.Lent.{link_at, with_link, with_conn_link, with_offer_link}
use Rattle.mq_actor.specs.Seen.{Words}
use Rattle.mq_actor.specs.Told.{TellPorts, TellsConn, TellConns, TellOffers, TellsRing}
use Rattle.mq_actor.proofs.Lending.{found, missing, at_conn, at_offer as offer_found, at_none, conn_link, conn_there, offer_link, offer_there}
use Rattle.mq_actor.proofs.Lists.{get_map}
use Rattle.mq_play.specs.Events.{at_offer, at_held, at_worker}

-- the ring with a link of the connection at a place
conn_put : {L : Type 0} (r : Ring L) (place : ℕ) (h : HeldBy L) (link : L) → slice_get r.conns.items place ≡ Some h
    → record r { conns = with_item r.conns place (record h { link = link }) } ≡ with_conn_link r place link
conn_put {L} r place h link at =
    ap {B = Ring L} (λ (hs : Vec (HeldBy L) Global). record r { conns = hs }) (conn_there r.conns place h link at) ∙ conn_link r place link

-- the ring with a link of the offer at a place
offer_put : {L : Type 0} (r : Ring L) (place : ℕ) (f : OfferBy L) (link : L) → slice_get r.offered.items place ≡ Some f
    → record r { offered = deque_with_item r.offered place (record f { link = link }) } ≡ with_offer_link r place link
offer_put {L} r place f link at =
    ap {B = Ring L} (λ (fs : VecDeque (OfferBy L) Global). record r { offered = fs }) (offer_there r.offered place f link at) ∙ offer_link r place link

-- ---- of numbers

front_at : (xs ys : List ℕ) (i n : ℕ) → slice_get xs i ≡ Some n → slice_get (xs ++ ys) i ≡ Some n
front_at [] ys i n at = absurd cc
front_at (x ∷ xs) ys zero n at = at
front_at (x ∷ xs) ys (suc i) n at = front_at xs ys i n at

back_at : (xs ys : List ℕ) (i n : ℕ) → slice_get ys i ≡ Some n → slice_get (xs ++ ys) (length xs + i) ≡ Some n
back_at [] ys i n at = let e : i ≡ 0 + i = omega arith in let P : ℕ → Type 0 = λ k. slice_get ys k ≡ Some n in subst P e at
back_at (x ∷ xs) ys i n at =
    let e : suc (length xs + i) ≡ suc (length xs) + i = omega arith in
    let P : ℕ → Type 0 = λ k. slice_get (x ∷ xs ++ ys) k ≡ Some n in
    subst P e (back_at xs ys i n at)

within_front : (xs : List ℕ) (i n : ℕ) → slice_get xs i ≡ Some n → i < length xs
within_front [] i n at = absurd cc
within_front (x ∷ xs) zero n at = omega arith
within_front (x ∷ xs) (suc i) n at = let lt = within_front xs i n at in omega (arith, lt)

-- what a search found passes
find_true : {A : Type 0} (p : A → Bool) (xs : List A) (x : A) → find p xs ≡ Some x → p x ≡ true
find_true p [] x is = absurd cc
find_true {A} p (y ∷ xs) x is = by_case (p y) refl (λ later. find_true p xs x later) where
  by_case : (b : Bool) → p y ≡ b → (find p xs ≡ Some x → p x ≡ true) → p x ≡ true
  by_case true so later =
      let both : Some y ≡ Some x = ap {B = Option A} (λ (b : Bool). cond b (Some y) (find p xs)) (sym so) ∙ is in
      let e : y ≡ x = cc in
      ap p (sym e) ∙ so
  by_case false so later = later (ap {B = Option A} (λ (b : Bool). cond b (Some y) (find p xs)) (sym so) ∙ is)

-- and where it found nothing, nothing does
find_none : {A : Type 0} (p : A → Bool) (xs : List A) → find p xs ≡ None → (i : ℕ) (x : A) → slice_get xs i ≡ Some x → p x ≡ true → ⊥
find_none p [] none i x at = absurd cc
find_none {A} p (y ∷ xs) none i x at = by_case (p y) refl i at (λ later. find_none p xs later) where
  by_case : (b : Bool) → p y ≡ b → (i : ℕ) → slice_get (y ∷ xs) i ≡ Some x → (find p xs ≡ None → (i : ℕ) (x : A) → slice_get xs i ≡ Some x → p x ≡ true → ⊥) → p x ≡ true → ⊥
  by_case true so i at later passes =
      let both : Some y ≡ None = ap {B = Option A} (λ (b : Bool). cond b (Some y) (find p xs)) (sym so) ∙ none in
      absurd cc
  by_case false so zero at later passes =
      let e : y ≡ x = cc in
      let z : true ≡ false = sym passes ∙ ap p (sym e) ∙ so in
      absurd cc
  by_case false so (suc i) at later passes = later (ap {B = Option A} (λ (b : Bool). cond b (Some y) (find p xs)) (sym so) ∙ none) i x at passes

module _ (change : Link → Link) (number : ℕ) where
  held_here : (s : Held) → s.conn.number ≡ number → at_held number change s ≡ record s { link = change s.link }
  held_here s same = ap {B = Held} (λ (b : Bool). if b then record s { link = change s.link } else s) (eq-eqb s.conn.number number same)

  held_else : (s : Held) → s.conn.number ≢ number → at_held number change s ≡ s
  held_else s ne = ap {B = Held} (λ (b : Bool). if b then record s { link = change s.link } else s) (ne_eqb s.conn.number number ne)

  offer_here : (s : Offer) → s.number ≡ number → at_offer number change s ≡ record s { link = change s.link }
  offer_here s same = ap {B = Offer} (λ (b : Bool). if b then record s { link = change s.link } else s) (eq-eqb s.number number same)

  offer_else : (s : Offer) → s.number ≢ number → at_offer number change s ≡ s
  offer_else s ne = ap {B = Offer} (λ (b : Bool). if b then record s { link = change s.link } else s) (ne_eqb s.number number ne)

  -- ---- nothing has the number

  helds_else : {L Q : Type 0} (most : Q → ℕ) (table : Slab Q) (hs : List (HeldBy L)) (ss : List Held) → AreHeld most table hs ss
      → ((j : ℕ) (g : HeldBy L) → slice_get hs j ≡ Some g → g.number ≢ number) → map (at_held number change) ss ≡ ss
  helds_else most table [] [] are each = refl
  helds_else most table [] (s ∷ ss) are each = absurd are
  helds_else most table (h ∷ hs) [] are each = absurd are
  helds_else most table (h ∷ hs) (s ∷ ss) are each =
      ap (λ (xs : List Held). at_held number change s ∷ xs) (helds_else most table hs ss are.1 (λ j g at. each (suc j) g at))
      ∙ ap (λ (x : Held). x ∷ ss) (held_else s (λ same. each 0 h refl (sym are.0.number ∙ same)))

  offers_else : {L : Type 0} (fs : List (OfferBy L)) (os : List Offer) → AreOffered fs os
      → ((j : ℕ) (g : OfferBy L) → slice_get fs j ≡ Some g → g.number ≢ number) → map (at_offer number change) os ≡ os
  offers_else [] [] are each = refl
  offers_else [] (s ∷ os) are each = absurd are
  offers_else (f ∷ fs) [] are each = absurd are
  offers_else (f ∷ fs) (s ∷ os) are each =
      ap (λ (xs : List Offer). at_offer number change s ∷ xs) (offers_else fs os are.1 (λ j g at. each (suc j) g at))
      ∙ ap (λ (x : Offer). x ∷ os) (offer_else s (λ same. each 0 f refl (sym are.0 ∙ same)))

  -- ---- the value stands for the worker with its link changed

  helds_changed : {L Q : Type 0} (most : Q → ℕ) (table : Slab Q) (hs : List (HeldBy L)) (ss : List Held) → AreHeld most table hs ss → AreHeld most table hs (map (at_held number change) ss)
  helds_changed most table [] [] are = tt
  helds_changed most table [] (s ∷ ss) are = absurd are
  helds_changed most table (h ∷ hs) [] are = absurd are
  helds_changed {L} most table (h ∷ hs) (s ∷ ss) are = (here (s.conn.number == number), helds_changed most table hs ss are.1) where
    here : (b : Bool) → IsHeld most table h (if b then record s { link = change s.link } else s)
    here true = record { conn = are.0.conn; number = are.0.number; ports = are.0.ports; apart = are.0.apart; served = are.0.served; bound = are.0.bound; room = are.0.room }
    here false = are.0

  offers_changed : {L : Type 0} (fs : List (OfferBy L)) (os : List Offer) → AreOffered fs os → AreOffered fs (map (at_offer number change) os)
  offers_changed [] [] are = tt
  offers_changed [] (s ∷ os) are = absurd are
  offers_changed (f ∷ fs) [] are = absurd are
  offers_changed (f ∷ fs) (s ∷ os) are = (here (s.number == number), offers_changed fs os are.1) where
    here : (b : Bool) → (if b then record s { link = change s.link } else s).number ≡ f.number
    here true = are.0
    here false = are.0

  actors_changed : (ss : List Held) (id : ℕ) → All (λ (h : Held). h.conn.actor ≡ id) ss → All (λ (h : Held). h.conn.actor ≡ id) (map (at_held number change) ss)
  actors_changed ss id all = All-map (λ (h : Held). h.conn.actor ≡ id) (at_held number change) ss (All-weaker (λ (h : Held). h.conn.actor ≡ id) (λ (h : Held). (at_held number change h).conn.actor ≡ id) (λ h is. one h is (h.conn.number == number)) ss all) where
    one : (h : Held) → h.conn.actor ≡ id → (b : Bool) → (if b then record h { link = change h.link } else h).conn.actor ≡ id
    one h is true = is
    one h is false = is

  pub stands_linked : {L Q : Type 0} (most : Q → ℕ) (table : Slab Q) (r : Ring L) (w : Worker) → IsWorker most table r w → IsWorker most table r (at_worker number change w)
  stands_linked most table r w is = record {
    id = is.id;
    setup = is.setup;
    offered = offers_changed r.offered.items w.offered is.offered;
    conns = helds_changed most table r.conns.items w.conns is.conns;
    next = is.next;
    actors = actors_changed w.conns w.id is.actors;
    rooms = is.rooms;
    ports = is.ports;
    numbers = is.numbers;
  }

  -- ---- one has it

  module _ {L Q : Type 0} (words : Words L Q) (table : Slab Q) (was now : L) (tells_now : (x : Link) → words.link was ≡ Some x → words.link now ≡ Some (change x)) where
    conns_tell : (hs : List (HeldBy L)) (ss : List Held) (i : ℕ) (h : HeldBy L) → slice_get hs i ≡ Some h → h.number ≡ number → h.link ≡ was
        → ((j : ℕ) (g : HeldBy L) → slice_get hs j ≡ Some g → g.number ≡ number → j ≡ i) → AreHeld words.most table hs ss → TellConns words table hs ss
        → TellConns words table (slice_set hs i (record h { link = now })) (map (at_held number change) ss)
    conns_tell [] ss i h at same link once are tell = absurd cc
    conns_tell (g ∷ hs) [] i h at same link once are tell = absurd are
    conns_tell (g ∷ hs) (s ∷ ss) zero h at same link once are tell =
        let e : g ≡ h = cc in
        let number_is : s.conn.number ≡ number = are.0.number ∙ ap (λ (x : HeldBy L). x.number) e ∙ same in
        let linked : words.link was ≡ Some s.link = ap words.link (sym link ∙ ap (λ (x : HeldBy L). x.link) (sym e)) ∙ tell.0.link in
        let T : HeldBy L → Type 0 = λ x. TellPorts words table x.ports.items s.ports in
        let P : Held → Type 0 = λ x. TellsConn words table (record h { link = now }) x in
        let R : List Held → Type 0 = λ xs. TellConns words table hs xs in (
          subst P (sym (held_here s number_is)) (record { link = tells_now s.link linked; ports = subst T e tell.0.ports }),
          subst R (sym (helds_else words.most table hs ss are.1 (λ j x at_x same_x. let z : suc j ≡ 0 = once (suc j) x at_x same_x in omega (arith, z)))) tell.1,
        )
    conns_tell (g ∷ hs) (s ∷ ss) (suc i) h at same link once are tell =
        let P : Held → Type 0 = λ x. TellsConn words table g x in (
          subst P (sym (held_else s (λ e. let z : 0 ≡ suc i = once 0 g refl (sym are.0.number ∙ e) in omega (arith, z)))) tell.0,
          conns_tell hs ss i h at same link (λ j x at_x same_x. let z : suc j ≡ suc i = once (suc j) x at_x same_x in omega (arith, z)) are.1 tell.1,
        )

    offers_tell : (fs : List (OfferBy L)) (os : List Offer) (i : ℕ) (f : OfferBy L) → slice_get fs i ≡ Some f → f.number ≡ number → f.link ≡ was
        → ((j : ℕ) (g : OfferBy L) → slice_get fs j ≡ Some g → g.number ≡ number → j ≡ i) → AreOffered fs os → TellOffers words fs os
        → TellOffers words (slice_set fs i (record f { link = now })) (map (at_offer number change) os)
    offers_tell [] os i f at same link once are tell = absurd cc
    offers_tell (g ∷ fs) [] i f at same link once are tell = absurd are
    offers_tell (g ∷ fs) (s ∷ os) zero f at same link once are tell =
        let e : g ≡ f = cc in
        let number_is : s.number ≡ number = are.0 ∙ ap (λ (x : OfferBy L). x.number) e ∙ same in
        let linked : words.link was ≡ Some s.link = ap words.link (sym link ∙ ap (λ (x : OfferBy L). x.link) (sym e)) ∙ tell.0 in
        let P : Offer → Type 0 = λ x. words.link now ≡ Some x.link in
        let R : List Offer → Type 0 = λ xs. TellOffers words fs xs in (
          subst P (sym (offer_here s number_is)) (tells_now s.link linked),
          subst R (sym (offers_else fs os are.1 (λ j x at_x same_x. let z : suc j ≡ 0 = once (suc j) x at_x same_x in omega (arith, z)))) tell.1,
        )
    offers_tell (g ∷ fs) (s ∷ os) (suc i) f at same link once are tell =
        let P : Offer → Type 0 = λ x. words.link g.link ≡ Some x.link in (
          subst P (sym (offer_else s (λ e. let z : 0 ≡ suc i = once 0 g refl (sym are.0 ∙ e) in omega (arith, z)))) tell.0,
          offers_tell fs os i f at same link (λ j x at_x same_x. let z : suc j ≡ suc i = once (suc j) x at_x same_x in omega (arith, z)) are.1 tell.1,
        )

-- ---- the ring

module _ {L Q : Type 0} (words : Words L Q) (table : Slab Q) (r : Ring L) (w : Worker) (is : IsWorker words.most table r w) (number : ℕ) (change : Link → Link) where
  conn_number : (j : ℕ) (g : HeldBy L) → slice_get r.conns.items j ≡ Some g → slice_get (numbers_of r.conns.items r.offered.items) j ≡ Some g.number
  conn_number j g at = front_at (map (λ (h : HeldBy L). h.number) r.conns.items) (map (λ (f : OfferBy L). f.number) r.offered.items) j g.number
      (get_map (λ (h : HeldBy L). h.number) r.conns.items j g at)

  offer_number : (j : ℕ) (g : OfferBy L) → slice_get r.offered.items j ≡ Some g
      → slice_get (numbers_of r.conns.items r.offered.items) (length (map (λ (h : HeldBy L). h.number) r.conns.items) + j) ≡ Some g.number
  offer_number j g at = back_at (map (λ (h : HeldBy L). h.number) r.conns.items) (map (λ (f : OfferBy L). f.number) r.offered.items) j g.number
      (get_map (λ (f : OfferBy L). f.number) r.offered.items j g at)

  lt_front : (j : ℕ) (g : HeldBy L) → slice_get r.conns.items j ≡ Some g → j < length (map (λ (h : HeldBy L). h.number) r.conns.items)
  lt_front j g at = within_front (map (λ (h : HeldBy L). h.number) r.conns.items) j g.number (get_map (λ (h : HeldBy L). h.number) r.conns.items j g at)

  some_number : (n : ℕ) → n ≡ number → (o : Option ℕ) → o ≡ Some n → o ≡ Some number
  some_number n same o at = at ∙ ap {B = Option ℕ} (λ (k : ℕ). Some k) same

  -- a connection of the number is the only one, and no offered link has it
  conn_once : (i : ℕ) (h : HeldBy L) → slice_get r.conns.items i ≡ Some h → h.number ≡ number → (j : ℕ) (g : HeldBy L) → slice_get r.conns.items j ≡ Some g → g.number ≡ number → j ≡ i
  conn_once i h at same j g at_g same_g =
      is.numbers j i number (some_number g.number same_g _ (conn_number j g at_g)) (some_number h.number same _ (conn_number i h at))

  no_offer : (i : ℕ) (h : HeldBy L) → slice_get r.conns.items i ≡ Some h → h.number ≡ number → (j : ℕ) (g : OfferBy L) → slice_get r.offered.items j ≡ Some g → g.number ≢ number
  no_offer i h at same j g at_g same_g =
      let e = is.numbers (length (map (λ (h : HeldBy L). h.number) r.conns.items) + j) i number (some_number g.number same_g _ (offer_number j g at_g)) (some_number h.number same _ (conn_number i h at)) in
      let lt = lt_front i h at in
      omega (arith, e, lt)

  no_conn : (i : ℕ) (f : OfferBy L) → slice_get r.offered.items i ≡ Some f → f.number ≡ number → (j : ℕ) (g : HeldBy L) → slice_get r.conns.items j ≡ Some g → g.number ≢ number
  no_conn i f at same j g at_g same_g =
      let e = is.numbers j (length (map (λ (h : HeldBy L). h.number) r.conns.items) + i) number (some_number g.number same_g _ (conn_number j g at_g)) (some_number f.number same _ (offer_number i f at)) in
      let lt = lt_front j g at_g in
      omega (arith, e, lt)

  offer_once : (i : ℕ) (f : OfferBy L) → slice_get r.offered.items i ≡ Some f → f.number ≡ number → (j : ℕ) (g : OfferBy L) → slice_get r.offered.items j ≡ Some g → g.number ≡ number → j ≡ i
  offer_once i f at same j g at_g same_g =
      let n = length (map (λ (h : HeldBy L). h.number) r.conns.items) in
      let e = is.numbers (n + j) (n + i) number (some_number g.number same_g _ (offer_number j g at_g)) (some_number f.number same _ (offer_number i f at)) in
      omega (arith, e)

  -- nothing has it
  pub none_linked : ((j : ℕ) (g : HeldBy L) → slice_get r.conns.items j ≡ Some g → g.number ≢ number) → ((j : ℕ) (g : OfferBy L) → slice_get r.offered.items j ≡ Some g → g.number ≢ number)
      → at_worker number change w ≡ w
  none_linked conns offers =
      ap (λ (os : List Offer). record w { offered = os; conns = map (at_held number change) w.conns }) (offers_else change number r.offered.items w.offered is.offered offers)
      ∙ ap (λ (hs : List Held). record w { conns = hs }) (helds_else change number words.most table r.conns.items w.conns is.conns conns)

  module _ (was now : L) (tells : TellsRing words table r w) (tells_now : (x : Link) → words.link was ≡ Some x → words.link now ≡ Some (change x)) where
    conn_linked : (i : ℕ) (h : HeldBy L) → slice_get r.conns.items i ≡ Some h → h.number ≡ number → h.link ≡ was
        → TellsRing words table (record r { conns = with_item r.conns i (record h { link = now }) }) (at_worker number change w)
    conn_linked i h at same link =
        let O : List Offer → Type 0 = λ os. TellOffers words r.offered.items os in
        record {
          conns = conns_tell change number words table was now tells_now r.conns.items w.conns i h at same link (conn_once i h at same) is.conns tells.conns;
          offered = subst O (sym (offers_else change number r.offered.items w.offered is.offered (no_offer i h at same))) tells.offered;
        }

    offer_linked : (i : ℕ) (f : OfferBy L) → slice_get r.offered.items i ≡ Some f → f.number ≡ number → f.link ≡ was
        → TellsRing words table (record r { offered = deque_with_item r.offered i (record f { link = now }) }) (at_worker number change w)
    offer_linked i f at same link =
        let C : List Held → Type 0 = λ hs. TellConns words table r.conns.items hs in
        record {
          conns = subst C (sym (helds_else change number words.most table r.conns.items w.conns is.conns (no_conn i f at same))) tells.conns;
          offered = offers_tell change number words table was now tells_now r.offered.items w.offered i f at same link (offer_once i f at same) is.offered tells.offered;
        }

    -- the link that was lent is another
    pub lent_linked : link_at number r ≡ Some was → TellsRing words table (with_link number r now) (at_worker number change w)
    lent_linked lent = by_place (position (λ (h : HeldBy L). h.number == number) r.conns.items) (position (λ (f : OfferBy L). f.number == number) r.offered.items) refl refl where
      T : Ring L → Type 0
      T x = TellsRing words table x (at_worker number change w)

      by_place : (o u : Option ℕ) → position (λ (h : HeldBy L). h.number == number) r.conns.items ≡ o → position (λ (f : OfferBy L). f.number == number) r.offered.items ≡ u
          → TellsRing words table (with_link number r now) (at_worker number change w)
      by_place (Some i) u at_o at_u =
          let f = at_conn r number i at_o in
          let x = found (λ (h : HeldBy L). h.number == number) r.conns.items i at_o in
          let passes : x.0.number ≡ number = eqb-true x.0.number number (find_true (λ (h : HeldBy L). h.number == number) r.conns.items x.0 x.2) in
          let both : Some x.0 ≡ Some f.0 = sym x.1 ∙ f.1 in
          let e : x.0 ≡ f.0 = cc in
          let links : Some f.0.link ≡ Some was = sym f.2 ∙ lent in
          let link : f.0.link ≡ was = cc in
          let F : (L → Ring L) → Type 0 = λ make. T (make now) in
          subst F f.3 (subst T (conn_put r i f.0 now f.1) (conn_linked i f.0 f.1 (ap (λ (h : HeldBy L). h.number) (sym e) ∙ passes) link))
      by_place None (Some i) at_o at_u =
          let f = offer_found r number i at_o at_u in
          let x = found (λ (g : OfferBy L). g.number == number) r.offered.items i at_u in
          let passes : x.0.number ≡ number = eqb-true x.0.number number (find_true (λ (g : OfferBy L). g.number == number) r.offered.items x.0 x.2) in
          let both : Some x.0 ≡ Some f.0 = sym x.1 ∙ f.1 in
          let e : x.0 ≡ f.0 = cc in
          let links : Some f.0.link ≡ Some was = sym f.2 ∙ lent in
          let link : f.0.link ≡ was = cc in
          let F : (L → Ring L) → Type 0 = λ make. T (make now) in
          subst F f.3 (subst T (offer_put r i f.0 now f.1) (offer_linked i f.0 f.1 (ap (λ (g : OfferBy L). g.number) (sym e) ∙ passes) link))
      by_place None None at_o at_u =
          let both : Some was ≡ None = sym lent ∙ at_none r number at_o at_u in
          absurd cc

  -- no link was lent
  pub unlent_linked : link_at number r ≡ None → at_worker number change w ≡ w
  unlent_linked none = by_place (position (λ (h : HeldBy L). h.number == number) r.conns.items) (position (λ (f : OfferBy L). f.number == number) r.offered.items) refl refl where
    by_place : (o u : Option ℕ) → position (λ (h : HeldBy L). h.number == number) r.conns.items ≡ o → position (λ (f : OfferBy L). f.number == number) r.offered.items ≡ u
        → at_worker number change w ≡ w
    by_place (Some i) u at_o at_u = let f = at_conn r number i at_o in let both : None ≡ Some f.0.link = sym none ∙ f.2 in absurd cc
    by_place None (Some i) at_o at_u = let f = offer_found r number i at_o at_u in let both : None ≡ Some f.0.link = sym none ∙ f.2 in absurd cc
    by_place None None at_o at_u =
        none_linked
        (λ j g at same. find_none (λ (h : HeldBy L). h.number == number) r.conns.items (missing (λ (h : HeldBy L). h.number == number) r.conns.items at_o) j g at (eq-eqb g.number number same))
        (λ j g at same. find_none (λ (f : OfferBy L). f.number == number) r.offered.items (missing (λ (f : OfferBy L). f.number == number) r.offered.items at_u) j g at (eq-eqb g.number number same))

-- ---- all else stays

module _ {L : Type 0} (r : Ring L) (number : ℕ) (now : L) where
  map_set : {A : Type 0} (f : A → ℕ) (xs : List A) (i : ℕ) (x y : A) → slice_get xs i ≡ Some x → f y ≡ f x → map f (slice_set xs i y) ≡ map f xs
  map_set f [] i x y at same = absurd cc
  map_set {A} f (z ∷ xs) zero x y at same = let e : z ≡ x = cc in ap (λ (n : ℕ). n ∷ map f xs) (same ∙ ap f (sym e))
  map_set f (z ∷ xs) (suc i) x y at same = ap (λ (ns : List ℕ). f z ∷ ns) (map_set f xs i x y at same)

  pub record Same (x : Ring L) : Type 0 where
    pub id : x.id ≡ r.id
    pub numbers : numbers_in x ≡ numbers_in r

  -- the numbers and the worker's own stay
  pub linked_same : Same (with_link number r now)
  linked_same = by_place (position (λ (h : HeldBy L). h.number == number) r.conns.items) (position (λ (f : OfferBy L). f.number == number) r.offered.items) refl refl where
    by_place : (o u : Option ℕ) → position (λ (h : HeldBy L). h.number == number) r.conns.items ≡ o → position (λ (f : OfferBy L). f.number == number) r.offered.items ≡ u
        → Same (with_link number r now)
    by_place (Some i) u at_o at_u =
        let f = at_conn r number i at_o in
        let F : (L → Ring L) → Type 0 = λ make. Same (make now) in
        subst F f.3 (subst Same (conn_put r i f.0 now f.1) (record {
          id = refl;
          numbers = ap (λ (ns : List ℕ). ns ++ offer_numbers r) (map_set (λ (h : HeldBy L). h.number) r.conns.items i f.0 (record f.0 { link = now }) f.1 refl);
        }))
    by_place None (Some i) at_o at_u =
        let f = offer_found r number i at_o at_u in
        let F : (L → Ring L) → Type 0 = λ make. Same (make now) in
        subst F f.3 (subst Same (offer_put r i f.0 now f.1) (record {
          id = refl;
          numbers = ap (λ (ns : List ℕ). conn_numbers r ++ ns) (map_set (λ (g : OfferBy L). g.number) r.offered.items i f.0 (record f.0 { link = now }) f.1 refl);
        }))
    by_place None None at_o at_u = ap_none at_o at_u where
      ap_none : position (λ (h : HeldBy L). h.number == number) r.conns.items ≡ None → position (λ (f : OfferBy L). f.number == number) r.offered.items ≡ None → Same (with_link number r now)
      ap_none a b = rw (a, b) (record { id = refl; numbers = refl })
