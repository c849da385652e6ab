-- An outside that tells of the ports of a connection what their table has.
use Rattle.std.proofs.Common.{◌≡◌, ◌≢◌, ℕ, zero, suc, ◌==◌, Bool, List, [], ◌∷◌, slice_get, Option, Some, None, refl, sym, ap, ◌∙◌}
use Rattle.std.specs.Prelude.{if◌then◌else◌, option_map}
use Rattle.std.specs.Option.{unwrap_or}
use Rattle.std.proofs.lemmas.Bool.{eq-eqb, ne_eqb}
use Rattle.slab.specs.Slab.{Slab, get}
use Rattle.mq_outside.specs.Counts.{PortCounts, no_port_counts}
use Rattle.mq_outside.specs.Ports.{PortHolds}
use Rattle.mq_machine.specs.Acting.{Outside, Binder}
use Rattle.mq_held.specs.declared.held.PortSeat.{PortSeat}
use Rattle.mq_step.specs.Holds.{IsApartFrom, SeatsApart}
use Rattle.mq_step.specs.Sights.{SeesPort, SeesTable}
use Rattle.mq_step.proofs.Places.{at_all, all_by}

-- of a tunnel, what the port of its first seat has
abbrev pub there : {Q A : Type 0} → (Q → A) → A → Slab Q → List PortSeat → ℕ → A
there f none table [] tunnel = none
there f none table (seat ∷ seats) tunnel = if seat.tunnel == tunnel then unwrap_or (option_map f (get table seat.key)) none else there f none table seats tunnel

pub there_is : {Q A : Type 0} (f : Q → A) (none : A) (table : Slab Q) (seats : List PortSeat) (i : ℕ) (x : PortSeat) (port : Q) → SeatsApart seats → slice_get seats i ≡ Some x → get table x.key ≡ Some port
    → there f none table seats x.tunnel ≡ f port
there_is f none table [] i x port apart at is = absurd cc
there_is {Q} {A} f none table (seat ∷ seats) zero x port apart at is =
    let e : seat ≡ x = cc in
    let rest : A = there f none table seats x.tunnel in
    ap {B = A} (λ (b : Bool). if b then unwrap_or (option_map f (get table seat.key)) none else rest) (eq-eqb seat.tunnel x.tunnel (ap (λ (y : PortSeat). y.tunnel) e))
    ∙ ap {B = A} (λ (y : PortSeat). unwrap_or (option_map f (get table y.key)) none) e
    ∙ ap {B = A} (λ (o : Option Q). unwrap_or (option_map f o) none) is
there_is {Q} {A} f none table (seat ∷ seats) (suc i) x port apart at is =
    let rest : A = there f none table seats x.tunnel in
    let ne : seat.tunnel ≢ x.tunnel = λ same. (at_all (IsApartFrom seat) seats apart.0 i x at).0 (same_back same) in
    ap {B = A} (λ (b : Bool). if b then unwrap_or (option_map f (get table seat.key)) none else rest) (ne_eqb seat.tunnel x.tunnel ne)
    ∙ there_is f none table seats i x port apart.1 at is where
      same_back : seat.tunnel ≡ x.tunnel → x.tunnel ≡ seat.tunnel
      same_back e = sym e

abbrev pub sight_of : {Q : Type 0} → (Q → Option PortHolds) → (Q → PortCounts) → Binder → Slab Q → List PortSeat → Outside → Outside
sight_of holds counts binds table seats o = record o { port = λ tunnel. there holds None table seats tunnel; port_counts = λ tunnel. there counts no_port_counts table seats tunnel; binds = binds }

pub sight_sees : {Q : Type 0} (holds : Q → Option PortHolds) (counts : Q → PortCounts) (binds : Binder) (table : Slab Q) (seats : List PortSeat) (o : Outside) → SeatsApart seats
    → SeesTable holds counts binds table seats (sight_of holds counts binds table seats o)
sight_sees {Q} holds counts binds table seats o apart = record {
  ports = all_by (SeesPort holds counts table (sight_of holds counts binds table seats o)) seats
      (λ i x at port is. (there_is holds None table seats i x port apart at is, there_is counts no_port_counts table seats i x port apart at is));
  binds_are = refl;
}
