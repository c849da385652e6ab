-- What connections stand for, place by place.
use Rattle.std.proofs.Common.{◌≡◌, ℕ, zero, suc, List, [], ◌∷◌, ◌++◌, length, slice_get, Some, refl, subst, ap, arith}
use Rattle.slab.specs.Slab.{Slab}
use Rattle.mq_machine.specs.State.{Held}
use Rattle.mq_held.specs.declared.held.Held.{Held as HeldBy}
use Rattle.mq_step.specs.Holds.{IsHeld}
use Rattle.mq_actor.specs.Holds.{AreHeld}

-- for what the connection at a place stands
pub held_at : {L Q : Type 0} (most : Q → ℕ) (table : Slab Q) (hs : List (HeldBy L)) (ss : List Held) (i : ℕ) (h : HeldBy L) → AreHeld most table hs ss
    → slice_get hs i ≡ Some h → (s : Held) × (slice_get ss i ≡ Some s) × IsHeld most table h s
held_at most table [] ss i h are at = absurd cc
held_at most table (x ∷ hs) [] i h are at = absurd are
held_at {L} most table (x ∷ hs) (s ∷ ss) zero h are at =
    let e : x ≡ h = cc in
    let P : HeldBy L → Type 0 = λ y. IsHeld most table y s in
    (s, refl, subst P e are.0)
held_at most table (x ∷ hs) (s ∷ ss) (suc i) h are at = held_at most table hs ss i h are.1 at

-- which connection stands for that at a place
pub at_held : {L Q : Type 0} (most : Q → ℕ) (table : Slab Q) (hs : List (HeldBy L)) (ss : List Held) (i : ℕ) (s : Held) → AreHeld most table hs ss
    → slice_get ss i ≡ Some s → (h : HeldBy L) × (slice_get hs i ≡ Some h) × IsHeld most table h s
at_held most table hs [] i s are at = absurd cc
at_held most table [] (y ∷ ss) i s are at = absurd are
at_held most table (h ∷ hs) (y ∷ ss) zero s are at =
    let e : y ≡ s = cc in
    let P : Held → Type 0 = λ z. IsHeld most table h z in
    (h, refl, subst P e are.0)
at_held most table (h ∷ hs) (y ∷ ss) (suc i) s are at = at_held most table hs ss i s are.1 at

-- there are as many
pub held_length : {L Q : Type 0} (most : Q → ℕ) (table : Slab Q) (hs : List (HeldBy L)) (ss : List Held) → AreHeld most table hs ss → length hs ≡ length ss
held_length most table [] [] are = refl
held_length most table [] (s ∷ ss) are = absurd are
held_length most table (h ∷ hs) [] are = absurd are
held_length most table (h ∷ hs) (s ∷ ss) are = ap (λ (k : ℕ). suc k) (held_length most table hs ss are.1)

-- where there are as many, each may be looked at for itself
pub held_from : {L Q : Type 0} (most : Q → ℕ) (table : Slab Q) (hs : List (HeldBy L)) (ss : List Held) → length hs ≡ length ss
    → ((i : ℕ) (h : HeldBy L) (s : Held) → slice_get hs i ≡ Some h → slice_get ss i ≡ Some s → IsHeld most table h s) → AreHeld most table hs ss
held_from most table [] [] same each = tt
held_from most table [] (s ∷ ss) same each = absurd (omega (arith, same))
held_from most table (h ∷ hs) [] same each = absurd (omega (arith, same))
held_from most table (h ∷ hs) (s ∷ ss) same each =
    let less : length hs ≡ length ss = omega (arith, same) in
    (each 0 h s refl refl, held_from most table hs ss less (λ i x y at_x at_y. each (suc i) x y at_x at_y))

-- one more
pub held_pushed : {L Q : Type 0} (most : Q → ℕ) (table : Slab Q) (hs : List (HeldBy L)) (ss : List Held) (h : HeldBy L) (s : Held) → AreHeld most table hs ss
    → IsHeld most table h s → AreHeld most table (hs ++ h ∷ []) (ss ++ s ∷ [])
held_pushed most table [] [] h s are is = (is, tt)
held_pushed most table [] (y ∷ ss) h s are is = absurd are
held_pushed most table (x ∷ hs) [] h s are is = absurd are
held_pushed most table (x ∷ hs) (y ∷ ss) h s are is = (are.0, held_pushed most table hs ss h s are.1 is)
