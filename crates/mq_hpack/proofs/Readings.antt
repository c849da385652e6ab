-- Readings, one after another.
use Rattle.std.proofs.Common.{inl, inr, Result, Ok, Err}
use Rattle.mq_hpack.specs.declared.fault.HpackFault.{HpackFault}
use Rattle.mq_hpack.specs.declared.fault.HpackFault.TheVariants.{Index, Integer, Text, Update, TooLarge, NoMemory}
use Rattle.mq_hpack.specs.Text.{Told, Then, Tells}

pub told_weaker : {A B : Type 0} (R : Result A HpackFault → Type 0) (S : Result B HpackFault → Type 0) → ((e : HpackFault) → R (Err e) → S (Err e)) → (e : HpackFault) → Told R (Err e) → Told S (Err e)
told_weaker R S f Index h = f Index h
told_weaker R S f Integer h = f Integer h
told_weaker R S f Text h = f Text h
told_weaker R S f Update h = f Update h
told_weaker R S f TooLarge h = f TooLarge h
told_weaker R S f NoMemory h = h

-- a fault of the first reading is the fault of both
pub first_fault : {A B : Type 0} (R : Result A HpackFault → Type 0) (S : A → Result B HpackFault → Type 0) (e : HpackFault) → Told R (Err e) → Told (Then R S) (Err e)
first_fault R S e h = told_weaker R (Then R S) (λ e h. inl h) e h

-- and one of the second too
pub second_fault : {A B : Type 0} (R : Result A HpackFault → Type 0) (S : A → Result B HpackFault → Type 0) (a : A) (e : HpackFault) → R (Ok a) → Told (S a) (Err e) → Told (Then R S) (Err e)
second_fault R S a e k h = told_weaker (S a) (Then R S) (λ e h. inr (a, k, h)) e h

pub then_so : {A B : Type 0} (R : Result A HpackFault → Type 0) (S : A → Result B HpackFault → Type 0) (a : A) (r : Result B HpackFault) → R (Ok a) → S a r → Then R S r
then_so R S a (Ok b) k h = (a, k, h)
then_so R S a (Err e) k h = inr (a, k, h)

-- the second reading's answer is that of both
pub second : {X A B : Type 0} (view : X → B) (R : Result A HpackFault → Type 0) (S : A → Result B HpackFault → Type 0) (a : A) (r : Result X HpackFault) → R (Ok a) → Tells view (S a) r → Tells view (Then R S) r
second view R S a (Ok x) k h = (a, k, h)
second view R S a (Err e) k h = second_fault R S a e k h
