-- The ring behind a step in which the connection at a place became another, or ended.
use Rattle.std.proofs.Common.{◌≡◌, ◌≢◌, ◌⊎◌, inl, inr, ℕ, zero, suc, ◌<◌, ◌≤◌, List, [], ◌∷◌, ◌++◌, length, map, remove, All, slice_get, slice_set, Option, Some, refl, sym, ap, subst, ◌∙◌, arith}
use Rattle.std.proofs.lemmas.Bool.{cases_eq}
use Rattle.slab.specs.Slab.{Slab}
use Rattle.mq_machine.specs.State.{Held}
use Rattle.mq_machine.specs.Acting.{Outside, ConnsTold}
use Rattle.mq_held.specs.declared.held.Held.{Held as HeldBy}
use Rattle.mq_actor.specs.declared.offer.Offer.{Offer as OfferBy}
use Rattle.mq_actor.specs.Holds.{AreHeld, AreDistinct, numbers_of}
use Rattle.mq_actor.proofs.Between.{numbers_same, get_append}
use Rattle.mq_actor.proofs.Helds.{held_from}
use Rattle.mq_actor.proofs.InRing.{all_at}
use Rattle.mq_actor.proofs.Lists.{get_map, get_set_same, get_set_other, get_removed, map_remove}
use Rattle.mq_actor.proofs.Neighbours.{Fine}
use Rattle.mq_actor.proofs.Pointwise.{Pointwise, there, within, set_size}
use Rattle.mq_actor.proofs.Refilled.{conns_told}

-- what connections stand for that are fine
pub record AllFine {L Q : Type 0} (most : Q → ℕ) (table : Slab Q) (n : Outside) (id : ℕ) (hs : List (HeldBy L)) (us : List Held) : Type 0 where
  pub held : AreHeld most table hs us
  pub told : ConnsTold n us
  pub actors : All (λ (u : Held). u.conn.actor ≡ id) us

pub all_fine : {L Q : Type 0} (most : Q → ℕ) (table : Slab Q) (n : Outside) (id : ℕ) (hs : List (HeldBy L)) (us : List Held) → Pointwise (Fine most table n id) hs us
    → AllFine most table n id hs us
all_fine {L} most table n id hs us each = record {
  held = held_from most table hs us each.size (λ i h u at_h at_u. (each.at i h u at_h at_u).stands);
  told = conns_told n us (λ i u at. let f = fine i u at in (f.1.link, f.1.ports));
  actors = all_at (λ (u : Held). u.conn.actor ≡ id) us (λ i u at. (fine i u at).1.actor);
} where
  fine : (i : ℕ) (u : Held) → slice_get us i ≡ Some u → (h : HeldBy L) × Fine most table n id h u
  fine i u at =
      let lt = within us i u at in
      let size = each.size in
      let h = there hs i (omega (arith, lt, size)) in
      (h.0, each.at i h.0 u h.1 at)

-- ---- numbers

distinct_removed : (ns : List ℕ) (place : ℕ) → AreDistinct ns → AreDistinct (remove ns place)
distinct_removed ns place apart = λ i j n at_i at_j. by_sides i j n (get_removed ns place i n at_i) (get_removed ns place j n at_j) where
  Side : ℕ → ℕ → Type 0
  Side i n = ((i < place) × (slice_get ns i ≡ Some n)) ⊎ ((place ≤ i) × (slice_get ns (suc i) ≡ Some n))

  by_sides : (i j n : ℕ) → Side i n → Side j n → i ≡ j
  by_sides i j n (inl (less, at_i)) (inl (less_j, at_j)) = apart i j n at_i at_j
  by_sides i j n (inl (less, at_i)) (inr (more, at_j)) = let e = apart i (suc j) n at_i at_j in absurd (omega (arith, e, less, more))
  by_sides i j n (inr (more, at_i)) (inl (less, at_j)) = let e = apart (suc i) j n at_i at_j in absurd (omega (arith, e, less, more))
  by_sides i j n (inr (more, at_i)) (inr (more_j, at_j)) = let e = apart (suc i) (suc j) n at_i at_j in omega (arith, e)

removed_front : {A : Type 0} (xs ys : List A) (place : ℕ) → place < length xs → remove (xs ++ ys) place ≡ remove xs place ++ ys
removed_front [] ys place lt = absurd (omega (arith, lt))
removed_front (x ∷ xs) ys zero lt = refl
removed_front {A} (x ∷ xs) ys (suc place) lt = ap {B = List A} (λ (zs : List A). x ∷ zs) (removed_front xs ys place (omega (arith, lt)))

abbrev numbers : {L : Type 0} → List (HeldBy L) → List ℕ
numbers {L} hs = map (λ (h : HeldBy L). h.number) hs

numbers_size : {L : Type 0} (hs : List (HeldBy L)) → length (numbers hs) ≡ length hs
numbers_size [] = refl
numbers_size (h ∷ hs) = ap (λ (k : ℕ). suc k) (numbers_size hs)

-- the numbers where one ended
pub removed_numbers : {L : Type 0} (hs : List (HeldBy L)) (fs : List (OfferBy L)) (place : ℕ) → place < length hs
    → remove (numbers_of hs fs) place ≡ numbers_of (remove hs place) fs
removed_numbers {L} hs fs place lt =
    let os : List ℕ = map (λ (f : OfferBy L). f.number) fs in
    let size = numbers_size hs in
    removed_front (numbers hs) os place (omega (arith, lt, size)) ∙ ap (λ (ns : List ℕ). ns ++ os) (sym (map_remove (λ (h : HeldBy L). h.number) hs place))

free_removed : (ns : List ℕ) (place n : ℕ) → AreDistinct ns → slice_get ns place ≡ Some n → All (λ k. k ≢ n) (remove ns place)
free_removed ns place n apart at = all_at (λ k. k ≢ n) (remove ns place) (λ i k at_k. by_side i k (get_removed ns place i k at_k)) where
  by_side : (i k : ℕ) → ((i < place) × (slice_get ns i ≡ Some k)) ⊎ ((place ≤ i) × (slice_get ns (suc i) ≡ Some k)) → k ≢ n
  by_side i k (inl (lt, at_k)) = λ same. let e = apart i place k at_k (at ∙ ap {B = Option ℕ} (λ (z : ℕ). Some z) (sym same)) in omega (arith, e, lt)
  by_side i k (inr (le, at_k)) = λ same. let e = apart (suc i) place k at_k (at ∙ ap {B = Option ℕ} (λ (z : ℕ). Some z) (sym same)) in omega (arith, e, le)

-- and its own is none of them
pub number_freed : {L : Type 0} (hs : List (HeldBy L)) (fs : List (OfferBy L)) (place : ℕ) (was : HeldBy L) → slice_get hs place ≡ Some was → AreDistinct (numbers_of hs fs)
    → All (λ k. k ≢ was.number) (numbers_of (remove hs place) fs)
number_freed {L} hs fs place was at apart =
    let N : List ℕ → Type 0 = λ ns. All (λ k. k ≢ was.number) ns in
    subst N (removed_numbers hs fs place (within hs place was at)) (free_removed (numbers_of hs fs) place was.number apart
    (get_append (numbers hs) (map (λ (f : OfferBy L). f.number) fs) place was.number (get_map (λ (h : HeldBy L). h.number) hs place was at)))

-- the numbers stay apart where one ended
pub numbers_removed : {L : Type 0} (hs : List (HeldBy L)) (fs : List (OfferBy L)) (place : ℕ) → place < length hs → AreDistinct (numbers_of hs fs)
    → AreDistinct (numbers_of (remove hs place) fs)
numbers_removed {L} hs fs place lt apart =
    let os : List ℕ = map (λ (f : OfferBy L). f.number) fs in
    let size = numbers_size hs in
    let e : remove (numbers hs ++ os) place ≡ numbers (remove hs place) ++ os =
    removed_front (numbers hs) os place (omega (arith, lt, size)) ∙ ap (λ (ns : List ℕ). ns ++ os) (sym (map_remove (λ (h : HeldBy L). h.number) hs place)) in
    subst AreDistinct e (distinct_removed (numbers hs ++ os) place apart)

-- and where one became another with its number
pub numbers_set : {L : Type 0} (hs : List (HeldBy L)) (fs : List (OfferBy L)) (place : ℕ) (was now : HeldBy L) → slice_get hs place ≡ Some was → now.number ≡ was.number
    → AreDistinct (numbers_of hs fs) → AreDistinct (numbers_of (slice_set hs place now) fs)
numbers_set {L} hs fs place was now at same apart =
    let os : List ℕ = map (λ (f : OfferBy L). f.number) fs in
    let e = numbers_same hs (slice_set hs place now) (set_size hs place now) (λ i h at_h. each i h at_h (cases_eq i place)) in
    subst AreDistinct (ap (λ (ns : List ℕ). ns ++ os) (sym e)) apart where
      each : (i : ℕ) (h : HeldBy L) → slice_get hs i ≡ Some h → (i ≡ place) ⊎ (i ≡ place → ⊥) → (g : HeldBy L) × (slice_get (slice_set hs place now) i ≡ Some g) × (g.number ≡ h.number)
      each i h at_h (inl is) =
          let both : Some was ≡ Some h = sym at ∙ ap (λ (k : ℕ). slice_get hs k) (sym is) ∙ at_h in
          let e : was ≡ h = cc in
          (now, ap (λ (k : ℕ). slice_get (slice_set hs place now) k) is ∙ get_set_same hs place was now at, same ∙ ap (λ (g : HeldBy L). g.number) e)
      each i h at_h (inr not) = (h, get_set_other hs place i now (λ e. not (sym e)) ∙ at_h, refl)
