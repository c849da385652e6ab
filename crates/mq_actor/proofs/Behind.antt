-- The connection behind a step, or that none is there.
use Rattle.std.proofs.Common.{◌≡◌, Option, Some, None, refl, ap, subst}
use Rattle.std.specs.Prelude.{option_map}
use Rattle.mq_talk.specs.declared.note.Note.{Note}
use Rattle.mq_machine.specs.State.{Conn, Held}
use Rattle.mq_machine.specs.Want.{Want, Nothing, Say, Bind, Ask, Judge, Push, Send, Over, Answer}
use Rattle.mq_machine.specs.Done.{Done, done}
use Rattle.mq_machine.specs.Shared.{ports_after}
use Rattle.mq_machine.specs.Turn.{HeldDone, with_conn, over_or}
use Rattle.mq_step.proofs.Wanting.{IsNotOver}

-- the note, and the connection
abbrev note_in : HeldDone → Note → Note
note_in None other = other
note_in (Some d) other = d.0

abbrev held_in : HeldDone → Option Held
held_in None = None
held_in (Some d) = d.1

-- behind what is done
pub mapped : (h g : Held) (o : Done) (n : Note) → option_map (with_conn h) o ≡ Some (n, Some g) → o ≡ Some (n, g.conn)
mapped h g None n is = absurd cc
mapped h g (Some (m, x)) n is =
    let said : m ≡ n = ap (λ (d : HeldDone). note_in d m) is in
    let some : Some (record h { conn = x }) ≡ Some g = ap held_in is in
    let held : record h { conn = x } ≡ g = cc in
    let conn : x ≡ g.conn = ap (λ (y : Held). y.conn) held in
    let D : Note → Conn → Type 0 = λ k y. ◌≡◌ {A = Done} (Some (m, x)) (Some (k, y)) in
    subst (λ (y : Conn). D n y) conn (subst (λ (k : Note). D k x) said refl)

-- where something is done a connection is there
pub unmapped : (h : Held) (o : Done) (n : Note) → option_map (with_conn h) o ≡ Some (n, None) → ⊥
unmapped h None n is = cc
unmapped h (Some (m, x)) n is = let none : ◌≡◌ {A = Option Held} (Some (record h { conn = x })) None = ap held_in is in cc

-- with the ports behind an answer
abbrev pub ported : Held → Want → Answer → Held
ported h w a = record h { ports = ports_after w a h.ports }

-- what it wanted was done, and it hasn't ended
pub record Acted (h : Held) (w : Want) (a : Answer) (n : Note) (t : Conn) : Type 0 where
  pub over : IsNotOver w
  pub is : done h.conn a ≡ Some (n, t)

-- a want that was done leaves the connection
pub acted_done : (h g : Held) (w : Want) (a : Answer) (n : Note) → over_or h w a ≡ Some (n, Some g) → Acted h w a n g.conn
acted_done h g Nothing a n is = record { over = tt; is = mapped (ported h Nothing a) g (done h.conn a) n is }
acted_done h g Say a n is = record { over = tt; is = mapped (ported h Say a) g (done h.conn a) n is }
acted_done h g (Bind id goal) a n is = record { over = tt; is = mapped (ported h (Bind id goal) a) g (done h.conn a) n is }
acted_done h g (Ask asked) a n is = record { over = tt; is = mapped (ported h (Ask asked) a) g (done h.conn a) n is }
acted_done h g (Judge tunnel k flow) a n is = record { over = tt; is = mapped (ported h (Judge tunnel k flow) a) g (done h.conn a) n is }
acted_done h g (Push parcel) a n is = record { over = tt; is = mapped (ported h (Push parcel) a) g (done h.conn a) n is }
acted_done h g (Send tunnel k payload) a n is = record { over = tt; is = mapped (ported h (Send tunnel k payload) a) g (done h.conn a) n is }
acted_done h g (Over why) a n is = let none : ◌≡◌ {A = Option Held} None (Some g) = ap held_in is in absurd cc

-- the connection behind what is done whatever is answered
pub conn_of : (h g : Held) (d : Note × Conn) (n : Note) → Some (with_conn h d) ≡ Some (n, Some g) → d.1 ≡ g.conn
conn_of h g d n is =
    let some : Some (record h { conn = d.1 }) ≡ Some g = ap held_in is in
    let held : record h { conn = d.1 } ≡ g = cc in
    ap (λ (y : Held). y.conn) held

-- and one is there
pub conn_stays : (h : Held) (d : Note × Conn) (n : Note) → Some (with_conn h d) ≡ Some (n, None) → ⊥
conn_stays h d n is = let none : ◌≡◌ {A = Option Held} (Some (record h { conn = d.1 })) None = ap held_in is in cc
