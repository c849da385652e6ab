-- What stands at a place that a search found, and the link of a ring there.
use Rattle.std.proofs.Common.{◌≡◌, ℕ, suc, ◌+◌, ◌<◌, ◌≤◌, ◌==◌, cond, Bool, true, false, List, [], ◌∷◌, length, nat_lt, Option, Some, None, slice_get, find, flat_map, get_or, drop, length-drop, position, option_map, refl, sym, ap, subst, ◌∙◌, arith}
use Rattle.std.specs.List.{position_or_len}
use Rattle.std.specs.Option.{option_or, option_map_or}
use Rattle.std.specs.Vec.{with_item}
use Rattle.std.specs.VecDeque.{deque_with_item}
use Rattle.std.specs.declared.alloc.Global.{Global}
use Rattle.std.specs.declared.collections.VecDeque.{VecDeque}
use Rattle.std.specs.declared.vec.Vec.{Vec}
use Rattle.std.proofs.lemmas.Bool.{ltb-true, ltb-false}
use Rattle.std.proofs.Math.Seq.{drop-cons}
use Rattle.std.proofs.lemmas.List.{nil_from_length}
use Rattle.std.proofs.lemmas.List.Concat.{flat_map-cons}
use Rattle.std.proofs.lemmas.List.Folds.{find_at, find-append}
use Rattle.std.proofs.lemmas.List.Sums.{fails_before_first}
use Rattle.std.proofs.lemmas.Option.{slice_get_past, get_or_from_slice_get}
use Rattle.mq_step.proofs.Others.{at_within}
use Rattle.mq_conn.specs.declared.conn.Conn.{Conn as Core}
use Rattle.mq_held.specs.declared.held.Held.{Held as HeldBy}
use Rattle.mq_held.specs.declared.held.PortSeat.{PortSeat}
use Rattle.mq_actor.specs.declared.offer.Offer.{Offer as OfferBy}
use Rattle.mq_actor.specs.declared.ring.Ring.{Ring}
use Rattle.mq_actor.specs.Conns.{with_link_of}
use Rattle.mq_actor.specs.Offers.{with_link_at}
use Rattle.mq_actor.specs.Lent.{conn_at, link_at, with_link, with_conn_link, with_offer_link}
use Rattle.mq_actor.proofs.Pointwise.{there}

-- ---- searches

module _ {A : Type 0} (p : A → Bool) (xs : List A) where
  found_by : (k : ℕ) → k ≡ position_or_len p xs → (b : Bool) → nat_lt k (length xs) ≡ b → (i : ℕ)
      → ◌≡◌ {A = Option ℕ} (cond b (Some k) None) (Some i) → (x : A) × (slice_get xs i ≡ Some x) × (find p xs ≡ Some x)
  found_by k is true less i e =
      let x = there xs k (ltb-true k (length xs) less) in
      let same : k ≡ i = cc in (
        x.0,
        subst (λ (j : ℕ). slice_get xs j ≡ Some x.0) same x.1,
        find_at p xs ∙ subst (λ (j : ℕ). slice_get xs j ≡ Some x.0) is x.1,
      )
  found_by k is false less i e = absurd cc

  -- the element at the place is the one that is found
  pub found : (i : ℕ) → position p xs ≡ Some i → (x : A) × (slice_get xs i ≡ Some x) × (find p xs ≡ Some x)
  found i e = found_by (position_or_len p xs) refl (nat_lt (position_or_len p xs) (length xs)) refl i e

  missing_by : (k : ℕ) → k ≡ position_or_len p xs → (b : Bool) → nat_lt k (length xs) ≡ b
      → ◌≡◌ {A = Option ℕ} (cond b (Some k) None) None → find p xs ≡ None
  missing_by k is true less e = absurd cc
  missing_by k is false less e =
      find_at p xs ∙ subst (λ (j : ℕ). slice_get xs j ≡ None) is (slice_get_past xs k (ltb-false k (length xs) less))

  pub missing : position p xs ≡ None → find p xs ≡ None
  missing e = missing_by (position_or_len p xs) refl (nat_lt (position_or_len p xs) (length xs)) refl e

  before_by : (n : ℕ) → n ≡ position_or_len p xs → (b : Bool) → nat_lt n (length xs) ≡ b → (i k : ℕ)
      → ◌≡◌ {A = Option ℕ} (cond b (Some n) None) (Some i) → (x : A) → slice_get xs k ≡ Some x → k < i → p x ≡ false
  before_by n is true less i k e x at low =
      let same : n ≡ i = cc in
      ap {B = Bool} p (sym (get_or_from_slice_get xs k x x at)) ∙ fails_before_first p xs k x (omega (arith, low, same, is))
  before_by n is false less i k e x at low = absurd cc

  -- it fails at each place before that
  pub fails_before : (i k : ℕ) → position p xs ≡ Some i → (x : A) → slice_get xs k ≡ Some x → k < i → p x ≡ false
  fails_before i k e x at low = before_by (position_or_len p xs) refl (nat_lt (position_or_len p xs) (length xs)) refl i k e x at low

  always_by : (n : ℕ) → n ≡ position_or_len p xs → (b : Bool) → nat_lt n (length xs) ≡ b
      → ◌≡◌ {A = Option ℕ} (cond b (Some n) None) None → (k : ℕ) (x : A) → slice_get xs k ≡ Some x → p x ≡ false
  always_by n is true less e k x at = absurd cc
  always_by n is false less e k x at =
      let past = ltb-false n (length xs) less in
      let within = at_within xs k x at in
      ap {B = Bool} p (sym (get_or_from_slice_get xs k x x at)) ∙ fails_before_first p xs k x (omega (arith, past, within, is))

  -- where none is found, it fails at each
  pub fails_always : position p xs ≡ None → (k : ℕ) (x : A) → slice_get xs k ≡ Some x → p x ≡ false
  fails_always e k x at = always_by (position_or_len p xs) refl (nat_lt (position_or_len p xs) (length xs)) refl e k x at

-- ---- links

module _ {L : Type 0} (r : Ring L) where
  conn_by : (place : ℕ) (link : L) (o : Option (HeldBy L))
      → record r { conns = option_map_or (λ (h : HeldBy L). with_item r.conns place (record h { link = link })) o r.conns }
      ≡ option_map_or (λ (h : HeldBy L). record r { conns = with_item r.conns place (record h { link = link }) }) o r
  conn_by place link None = refl
  conn_by place link (Some h) = refl

  -- with a link of the connection at a place
  pub conn_link : (place : ℕ) (link : L) → record r { conns = with_link_of r.conns place link } ≡ with_conn_link r place link
  conn_link place link = conn_by place link (slice_get r.conns.items place)

  offer_by : (place : ℕ) (link : L) (o : Option (OfferBy L))
      → record r { offered = option_map_or (λ (f : OfferBy L). deque_with_item r.offered place (record f { link = link })) o r.offered }
      ≡ option_map_or (λ (f : OfferBy L). record r { offered = deque_with_item r.offered place (record f { link = link }) }) o r
  offer_by place link None = refl
  offer_by place link (Some f) = refl

  -- with a link of the offer at a place
  pub offer_link : (place : ℕ) (link : L) → record r { offered = with_link_at r.offered place link } ≡ with_offer_link r place link
  offer_link place link = offer_by place link (slice_get r.offered.items place)

-- the connections with a link of one of them
pub conn_there : {L : Type 0} (hs : Vec (HeldBy L) Global) (place : ℕ) (h : HeldBy L) (link : L) → slice_get hs.items place ≡ Some h
    → with_item hs place (record h { link = link }) ≡ with_link_of hs place link
conn_there {L} hs place h link at =
    ap {B = Vec (HeldBy L) Global} (λ (o : Option (HeldBy L)). option_map_or (λ (g : HeldBy L). with_item hs place (record g { link = link })) o hs) (sym at)

-- the offers with a link of one of them
pub offer_there : {L : Type 0} (fs : VecDeque (OfferBy L) Global) (place : ℕ) (f : OfferBy L) (link : L) → slice_get fs.items place ≡ Some f
    → deque_with_item fs place (record f { link = link }) ≡ with_link_at fs place link
offer_there {L} fs place f link at =
    ap {B = VecDeque (OfferBy L) Global} (λ (o : Option (OfferBy L)). option_map_or (λ (g : OfferBy L). deque_with_item fs place (record g { link = link })) o fs) (sym at)

module _ {L : Type 0} (r : Ring L) (number : ℕ) where
  abbrev has : HeldBy L → Bool
  has h = h.number == number

  abbrev offers : OfferBy L → Bool
  offers f = f.number == number

  abbrev chain : Option ℕ → Option ℕ → L → Ring L
  chain o u link = option_map_or (λ i. with_conn_link r i link) o (option_map_or (λ i. with_offer_link r i link) u r)

  -- a connection has the number
  pub at_conn : (place : ℕ) → position has r.conns.items ≡ Some place
      → (h : HeldBy L) × (slice_get r.conns.items place ≡ Some h) × (link_at number r ≡ Some h.link)
      × (with_conn_link r place ≡ with_link number r)
  at_conn place is =
      let x = found has r.conns.items place is in
      let offered = option_map (λ (f : OfferBy L). f.link) (find offers r.offered.items) in (
        x.0,
        x.1,
        ap {B = Option L} (λ (o : Option (HeldBy L)). option_or (option_map (λ (h : HeldBy L). h.link) o) offered) x.2,
        ap {B = L → Ring L} (λ (o : Option ℕ). chain o (position offers r.offered.items)) (sym is),
      )

  -- no connection has it, but an offer
  pub at_offer : (place : ℕ) → position has r.conns.items ≡ None → position offers r.offered.items ≡ Some place
      → (f : OfferBy L) × (slice_get r.offered.items place ≡ Some f) × (link_at number r ≡ Some f.link)
      × (with_offer_link r place ≡ with_link number r)
  at_offer place none is =
      let x = found offers r.offered.items place is in (
        x.0,
        x.1,
        rw (missing has r.conns.items none, x.2) refl,
        ap {B = L → Ring L} (λ (u : Option ℕ). chain None u) (sym is)
            ∙ ap {B = L → Ring L} (λ (o : Option ℕ). chain o (position offers r.offered.items)) (sym none),
      )

  -- nothing has it
  pub at_none : position has r.conns.items ≡ None → position offers r.offered.items ≡ None → link_at number r ≡ None
  at_none none never = rw (missing has r.conns.items none, missing offers r.offered.items never) refl

-- ---- connections

module _ {L : Type 0} (r : Ring L) (number : ℕ) where
  abbrev numbered : HeldBy L → Bool
  numbered h = h.number == number

  -- a connection has the number
  pub core_there : (place : ℕ) → position numbered r.conns.items ≡ Some place
      → (h : HeldBy L) × (slice_get r.conns.items place ≡ Some h) × (conn_at number r ≡ Some h.conn)
  core_there place is =
      let x = found numbered r.conns.items place is in
      (x.0, x.1, ap {B = Option Core} (λ (o : Option (HeldBy L)). option_map (λ (h : HeldBy L). h.conn) o) x.2)

  -- none has it
  pub core_none : position numbered r.conns.items ≡ None → conn_at number r ≡ None
  core_none none = rw (missing numbered r.conns.items none) refl

-- ---- seats

module _ {L : Type 0} (hs : List (HeldBy L)) (tunnel : ℕ) where
  abbrev is : PortSeat → Bool
  is seat = seat.tunnel == tunnel

  abbrev seats : List (HeldBy L) → List PortSeat
  seats gs = flat_map (λ (h : HeldBy L). h.ports.items) gs

  -- what the search finds among the connections from a place on
  pub from_place : (i : ℕ) (h : HeldBy L) → i < length hs → h ≡ get_or hs i h
      → find is (seats (drop i hs)) ≡ option_or (find is h.ports.items) (find is (seats (drop (i + 1) hs)))
  from_place i h less at =
      let next : suc i ≡ i + 1 = omega arith in
      subst (λ (k : ℕ). find is (seats (drop i hs)) ≡ option_or (find is h.ports.items) (find is (seats (drop k hs)))) next
      (ap {B = Option PortSeat} (λ (gs : List (HeldBy L)). find is (seats gs)) (drop-cons hs i h less)
      ∙ ap {B = Option PortSeat} (λ (g : HeldBy L). find is (seats (g ∷ drop (suc i) hs))) (sym at)
      ∙ ap {B = Option PortSeat} (λ (ss : List PortSeat). find is ss) (flat_map-cons (λ (g : HeldBy L). g.ports.items) h (drop (suc i) hs))
      ∙ find-append is h.ports.items (seats (drop (suc i) hs)))

  pub seat_there : (i : ℕ) (h : HeldBy L) (seat : PortSeat) → i < length hs → h ≡ get_or hs i h → find is h.ports.items ≡ Some seat
      → find is (seats (drop i hs)) ≡ Some seat
  seat_there i h seat less at here =
      from_place i h less at ∙ ap {B = Option PortSeat} (λ (o : Option PortSeat). option_or o (find is (seats (drop (i + 1) hs)))) here

  pub seat_behind : (i : ℕ) (h : HeldBy L) → i < length hs → h ≡ get_or hs i h → find is h.ports.items ≡ None
      → find is (seats (drop i hs)) ≡ find is (seats (drop (i + 1) hs))
  seat_behind i h less at none =
      from_place i h less at ∙ ap {B = Option PortSeat} (λ (o : Option PortSeat). option_or o (find is (seats (drop (i + 1) hs)))) none

  pub no_seat : (i : ℕ) → length hs ≤ i → find is (seats (drop i hs)) ≡ None
  no_seat i past =
      let cut = length-drop i hs in
      let none : drop i hs ≡ [] = nil_from_length (drop i hs) (omega (arith, cut, past)) in
      ap {B = Option PortSeat} (λ (gs : List (HeldBy L)). find is (seats gs)) none
