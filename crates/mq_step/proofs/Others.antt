-- The ports of other connections stay as they are.
use Rattle.std.proofs.Common.{◌≡◌, ◌≢◌, ◌⊎◌, inl, inr, ℕ, zero, suc, ◌<◌, List, [], ◌∷◌, length, remove, All, slice_get, slice_set}
use Rattle.std.proofs.Common.{◌++◌, Option, Some, None, MatchOption, refl, sym, ap, subst, ◌∙◌, arith}
use Rattle.std.proofs.lemmas.Bool.{cases_eq}
use Rattle.std.proofs.lemmas.List.Elements.{All-cons, All-head, All-tail}
use Rattle.slab.specs.Slab.{Slab, get, Updates}
use Rattle.mq_held.specs.declared.held.Held.{Held as HeldBy}
use Rattle.mq_held.specs.declared.held.PortSeat.{PortSeat}
use Rattle.mq_held.specs.Seats.{IsSeatOf, HasNoSeat}
use Rattle.mq_step.specs.Holds.{IsOther, KeepsOthers, Seats}

-- ---- the first seat of a tunnel, or none

no_seats : (tunnel : ℕ) → HasNoSeat [] tunnel
no_seats tunnel = λ place seat at. absurd cc

none_first : (seat : PortSeat) (seats : List PortSeat) (tunnel : ℕ) → seat.tunnel ≢ tunnel → HasNoSeat seats tunnel → HasNoSeat (seat ∷ seats) tunnel
none_first seat seats tunnel ne none = by_place where
  by_place : HasNoSeat (seat ∷ seats) tunnel
  by_place zero x at = let e : x ≡ seat = cc in λ is. ne (ap (λ (y : PortSeat). y.tunnel) (sym e) ∙ is)
  by_place (suc place) x at = none place x at

later_first : (seat : PortSeat) (seats : List PortSeat) (tunnel place : ℕ) (x : PortSeat) → seat.tunnel ≢ tunnel → IsSeatOf seats tunnel place x → IsSeatOf (seat ∷ seats) tunnel (suc place) x
later_first seat seats tunnel place x ne is = record { at = is.at; tunnel_is = is.tunnel_is; first = by_place } where
  by_place : (other : ℕ) (before : PortSeat) → other < suc place → slice_get (seat ∷ seats) other ≡ Some before → before.tunnel ≢ tunnel
  by_place zero before lt at = let e : before ≡ seat = cc in λ same. ne (ap (λ (y : PortSeat). y.tunnel) (sym e) ∙ same)
  by_place (suc other) before lt at = is.first other before (omega (arith, lt)) at

pub find_seat : (seats : List PortSeat) (tunnel : ℕ) → HasNoSeat seats tunnel ⊎ ((place : ℕ) × (seat : PortSeat) × IsSeatOf seats tunnel place seat)
find_seat [] tunnel = inl (no_seats tunnel)
find_seat (seat ∷ seats) tunnel = by_case (cases_eq seat.tunnel tunnel) (find_seat seats tunnel) where
  by_case : (seat.tunnel ≡ tunnel) ⊎ (seat.tunnel ≡ tunnel → ⊥) → HasNoSeat seats tunnel ⊎ ((place : ℕ) × (x : PortSeat) × IsSeatOf seats tunnel place x)
      → HasNoSeat (seat ∷ seats) tunnel ⊎ ((place : ℕ) × (x : PortSeat) × IsSeatOf (seat ∷ seats) tunnel place x)
  by_case (inl same) rest = inr (0, seat, record { at = refl; tunnel_is = same; first = λ other before lt at. absurd (omega (arith, lt)) })
  by_case (inr ne) (inl none) = inl (none_first seat seats tunnel ne none)
  by_case (inr ne) (inr (place, x, is)) = inr (suc place, x, later_first seat seats tunnel place x ne is)

-- ---- keys

abbrev pub HasKey : ℕ → PortSeat → Type 0
HasKey key seat = seat.key ≢ key

pub key_at : (seats : List PortSeat) (key place : ℕ) (seat : PortSeat) → All (HasKey key) seats → slice_get seats place ≡ Some seat → seat.key ≢ key
key_at [] key place seat all at = absurd cc
key_at (x ∷ seats) key zero seat all at =
    let e : x ≡ seat = cc in
    λ same. All-head (HasKey key) x seats all (ap (λ (y : PortSeat). y.key) e ∙ same)
key_at (x ∷ seats) key (suc place) seat all at = key_at seats key place seat (All-tail (HasKey key) x seats all) at

pub keys_removed : (seats : List PortSeat) (key place : ℕ) → All (HasKey key) seats → All (HasKey key) (remove seats place)
keys_removed [] key zero all = all
keys_removed [] key (suc place) all = all
keys_removed (x ∷ seats) key zero all = All-tail (HasKey key) x seats all
keys_removed (x ∷ seats) key (suc place) all = All-cons (HasKey key) x (remove seats place) (All-head (HasKey key) x seats all) (keys_removed seats key place (All-tail (HasKey key) x seats all))

-- a tunnel's port is handed back
pub retire_others : {Q : Type 0} (table after : Slab Q) (seats seats_after : List PortSeat) (tunnel key : ℕ) (port : Q)
    → ((place : ℕ) (seat : PortSeat) → IsSeatOf seats tunnel place seat → (seats_after ≡ remove seats place) × Updates table after seat.key None)
    → (HasNoSeat seats tunnel → (seats_after ≡ seats) × (after ≡ table))
    → get table key ≡ Some port → All (HasKey key) seats → (get after key ≡ Some port) × All (HasKey key) seats_after
retire_others {Q} table after seats seats_after tunnel key port gone none at all = by_case (find_seat seats tunnel) where
  by_case : HasNoSeat seats tunnel ⊎ ((place : ℕ) × (seat : PortSeat) × IsSeatOf seats tunnel place seat) → (get after key ≡ Some port) × All (HasKey key) seats_after
  by_case (inl without) =
      let same = none without in
      let P : List PortSeat → Type 0 = λ xs. All (HasKey key) xs in
      (ap (λ (t : Slab Q). get t key) same.1 ∙ at, subst P (sym same.0) all)
  by_case (inr (place, seat, is)) =
      let does = gone place seat is in
      let P : List PortSeat → Type 0 = λ xs. All (HasKey key) xs in
      let other : key ≢ seat.key = λ same. key_at seats key place seat all is.at (sym same) in
      (does.1.others key other ∙ at, subst P (sym does.0) (keys_removed seats key place all))

pub at_within : {A : Type 0} (xs : List A) (i : ℕ) (a : A) → slice_get xs i ≡ Some a → i < length xs
at_within [] i a at = absurd cc
at_within (x ∷ xs) zero a at = omega arith
at_within (x ∷ xs) (suc i) a at = let lt = at_within xs i a at in omega (arith, lt)

-- one seat's port was called
pub call_others : {Q : Type 0} (table after : Slab Q) (seats seats_after : List PortSeat) (place key : ℕ) (seat : PortSeat) (port : Q) → slice_get seats place ≡ Some seat
    → ((other : ℕ) → other ≢ seat.key → get after other ≡ get table other) → seats_after ≡ seats → get table key ≡ Some port → All (HasKey key) seats
    → (get after key ≡ Some port) × All (HasKey key) seats_after
call_others table after seats seats_after place key seat port here others same at all =
    let P : List PortSeat → Type 0 = λ xs. All (HasKey key) xs in
    (others key (λ is. key_at seats key place seat all here (sym is)) ∙ at, subst P (sym same) all)

-- a seat became another with the same key
pub keys_set : (seats : List PortSeat) (key place : ℕ) (new : PortSeat) → new.key ≢ key → All (HasKey key) seats → All (HasKey key) (slice_set seats place new)
keys_set [] key zero new not all = all
keys_set [] key (suc place) new not all = all
keys_set (x ∷ seats) key zero new not all = All-cons (HasKey key) new seats not (All-tail (HasKey key) x seats all)
keys_set (x ∷ seats) key (suc place) new not all = All-cons (HasKey key) x (slice_set seats place new) (All-head (HasKey key) x seats all) (keys_set seats key place new not (All-tail (HasKey key) x seats all))

-- ---- one call after another

same_other : (seats seats_after : List PortSeat) (bound bound_after : Option ℕ) (key : ℕ) → seats_after ≡ seats → bound_after ≡ bound
    → IsOther seats bound key → IsOther seats_after bound_after key
same_other seats seats_after bound bound_after key same still other =
    let P : List PortSeat → Type 0 = λ xs. All (HasKey key) xs in
    record { seats_are = subst P (sym same) other.seats_are; bound_is = λ is. other.bound_is (sym still ∙ is) }

-- the call before kept the seats, what is bound and the table
pub keeps_from : {L Q : Type 0} (old mid new : HeldBy L) (table after : Slab Q)
    → mid.ports.items ≡ old.ports.items → mid.bound ≡ old.bound → KeepsOthers mid new table after → KeepsOthers old new table after
keeps_from {L} {Q} old mid new table after same still keeps =
    λ key port at other. keeps key port at (same_other old.ports.items mid.ports.items old.bound mid.bound key same still other)

-- both calls kept the ports of others
pub keeps_both : {L Q : Type 0} (old mid new : HeldBy L) (table between after : Slab Q)
    → KeepsOthers old mid table between → KeepsOthers mid new between after → KeepsOthers old new table after
keeps_both {L} {Q} old mid new table between after first second =
    λ key port at other.
    let kept = first key port at other in
    second key port kept.0 kept.1

-- ---- the port of an opening

keys_added : (seats : List PortSeat) (key : ℕ) (new : PortSeat) → new.key ≢ key → All (HasKey key) seats → All (HasKey key) (seats ++ new ∷ [])
keys_added [] key new not all = All-cons (HasKey key) new [] not all
keys_added (x ∷ seats) key new not all =
    All-cons (HasKey key) x (seats ++ new ∷ []) (All-head (HasKey key) x seats all) (keys_added seats key new not (All-tail (HasKey key) x seats all))

seat_others : {Q T : Type 0} (slab : T → Slab Q) (before after : T) (opened bound : Option ℕ) (seats seats_after : List PortSeat) (key : ℕ) (port : Q)
    → Seats opened seats bound seats_after
    → MatchOption opened (MatchOption bound (after ≡ before) (λ k. Updates (slab before) (slab after) k None)) (λ tunnel. after ≡ before)
    → get (slab before) key ≡ Some port → IsOther seats bound key → (get (slab after) key ≡ Some port) × All (HasKey key) seats_after
seat_others {Q} {T} slab before after None None seats seats_after key port is same at other =
    let P : List PortSeat → Type 0 = λ xs. All (HasKey key) xs in
    (ap (λ (t : T). get (slab t) key) same ∙ at, subst P (sym is) other.seats_are)
seat_others {Q} {T} slab before after None (Some k) seats seats_after key port is gone at other =
    let P : List PortSeat → Type 0 = λ xs. All (HasKey key) xs in
    (gone.others key (λ same. other.bound_is (ap Some (sym same))) ∙ at, subst P (sym is) other.seats_are)
seat_others {Q} {T} slab before after (Some tunnel) None seats seats_after key port is same at other =
    let P : List PortSeat → Type 0 = λ xs. All (HasKey key) xs in
    (ap (λ (t : T). get (slab t) key) same ∙ at, subst P (sym is) other.seats_are)
seat_others {Q} {T} slab before after (Some tunnel) (Some k) seats seats_after key port is same at other =
    let P : List PortSeat → Type 0 = λ xs. All (HasKey key) xs in
    let one : PortSeat = record { tunnel = tunnel; key = k; received = 0 } in
    let apart : k ≢ key = λ e. other.bound_is (ap Some e) in
    (ap (λ (t : T). get (slab t) key) same ∙ at, subst P (sym is) (keys_added seats key one apart other.seats_are))

-- it has its seat, or was handed back
pub seat_keeps : {L Q T : Type 0} (slab : T → Slab Q) (before after : T) (opened : Option ℕ) (old new : HeldBy L)
    → Seats opened old.ports.items old.bound new.ports.items
    → MatchOption opened (MatchOption old.bound (after ≡ before) (λ k. Updates (slab before) (slab after) k None)) (λ tunnel. after ≡ before)
    → new.bound ≡ None → KeepsOthers old new (slab before) (slab after)
seat_keeps {L} {Q} {T} slab before after opened old new seats table none =
    λ key port at other.
    let r = seat_others slab before after opened old.bound old.ports.items new.ports.items key port seats table at other in
    (r.0, record { seats_are = r.1; bound_is = λ is. none_some key (sym none ∙ is) }) where
      none_some : (key : ℕ) → ◌≡◌ {A = Option ℕ} None (Some key) → ⊥
      none_some key is = cc
