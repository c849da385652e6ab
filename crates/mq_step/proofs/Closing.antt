-- A connection closed a tunnel, whatever its link and its ports hold.
use Rattle.std.proofs.Common.{◌≡◌, ℕ, [], ◌∷◌, ◌++◌, Option, Some, None, MatchOption, refl, sym, subst}
use Rattle.slab.specs.Slab.{Slab}
use Rattle.mq_talk.specs.declared.book.Call.TheVariants as call
use Rattle.mq_talk.specs.declared.book.Reply.{Reply}
use Rattle.mq_talk.specs.declared.book.Reply.TheVariants as reply
use Rattle.mq_talk.specs.declared.book.Entry.{Entry}
use Rattle.mq_talk.specs.declared.note.Note.{Note}
use Rattle.mq_talk.specs.Answers.{recorded}
use Rattle.mq_talk.specs.Offices.{Seen}
use Rattle.mq_machine.specs.State.{Conn, Held, Orders, Shared}
use Rattle.mq_machine.specs.Want.{Want, Ask, Replied, want_of}
use Rattle.mq_machine.specs.Done.{done}
use Rattle.mq_machine.specs.Shared.{Answers, Asks}
use Rattle.mq_conn.specs.Conns.{IsConn}
use Rattle.mq_held.specs.declared.held.Held.{Held as HeldBy}
use Rattle.mq_step.specs.Holds.{IsHeld}
use Rattle.mq_step.specs.Closing.{Closed, Retires}
use Rattle.mq_step.proofs.Wanting.{Mailed, shared_by}
use Rattle.mq_step.proofs.Retiring.{retired_stands}
use Rattle.mq_step.proofs.Asking.{Closes, closed_only}
use Rattle.mq_talk.proofs.Mails.{nothing_moved}

-- the answer that it heard
pub closed_does : (actor : ℕ) (seen seen_after : Seen) (s : Held) (tunnel : ℕ) (said : Note) (t : Conn) → Closes actor seen seen_after s tunnel said t → done s.conn (Replied reply.Closed) ≡ Some (said, t)
closed_does actor seen seen_after s tunnel said t closes =
    let D : Reply → Type 0 = λ r. done s.conn (Replied r) ≡ Some (said, t) in
    subst D (closed_only closes.reply_is seen closes.replied.book tunnel closes.replied.reply_is) closes.does

-- what it closed
pub closed_is : {L Q : Type 0} (most : Q → ℕ) (table after : Slab Q) (h g : HeldBy L) (actor : ℕ) (seen seen_after : Seen) (m : Mailed seen) (orders : Orders) (s : Held) (tunnel : ℕ) (said : Note) (t : Conn)
    → IsHeld most table h s → s.conn.actor ≡ actor → want_of s.conn ≡ Ask (call.Close tunnel) → g.number ≡ h.number → Retires table after h.ports.items g.ports.items tunnel → g.bound ≡ None
    → Closes actor seen seen_after s tunnel said t → IsConn g.conn t → Closed seen seen_after m.mail m.mail orders (IsHeld most after g) tunnel s said
closed_is most table after h g actor seen seen_after m orders s tunnel said t held mine want number retires bound closes new =
    let ok = closes.replied in
    let closed = closed_only closes.reply_is seen ok.book tunnel ok.reply_is in
    let D : Reply → Type 0 = λ r. done s.conn (Replied r) ≡ Some (said, t) in
    let does = subst D closed closes.does in
    let entry : Entry = record { actor = actor; call = call.Close tunnel; reply = reply.Closed } in
    let sh : Shared = shared_by seen ok.book m.boxes orders in
    let sh_after : Shared = shared_by seen (ok.book ++ entry ∷ []) m.boxes orders in
    let A : Want → Type 0 = λ w. Answers s.conn.actor sh w (Replied reply.Closed) sh_after in
    let B : ℕ → Type 0 = λ who. Asks sh who (call.Close tunnel) reply.Closed sh_after in
    let R : Reply → Type 0 = λ r. seen_after.entries ≡ recorded ok.book actor (call.Close tunnel) r in
    record {
      conn = t;
      sh = sh;
      after = sh_after;
      shares = record { config = refl; book = ok.sees; wrote = subst R closed ok.seen; same = ok.same; boxes = m.told; count = m.count; boxes_after = m.told; moves = nothing_moved m.mail m.mail m.boxes refl; orders_are = refl };
      answers = subst A (sym want) (subst B (sym mine) (record { said = reply.Closed; is = tt; reply_is = refl; after_is = refl }));
      does = does;
      stands_for = λ link o f. retired_stands most table after h g s tunnel said t link o f held want number retires bound does new;
    }

-- the port that was handed back
pub at_some : {Q : Type 0} (o : Option Q) (port : Q) (N : Type 0) (S : Q → Type 0) → o ≡ Some port → MatchOption o N S → S port
at_some o port N S is m = let P : Option _ → Type 0 = λ x. MatchOption x N S in subst P is m
