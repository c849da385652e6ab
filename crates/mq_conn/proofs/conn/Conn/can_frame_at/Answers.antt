use Rattle.std.proofs.Common.{◌≡◌, Some, List, ℕ, slice_get, ◌∙◌, sym, ap, subst}
use Rattle.std.proofs.lemmas.Option.{get_or_from_slice_get}
use Rattle.mq_conn.specs.declared.conn.Tunnel.{Tunnel}
use Rattle.std.proofs.lemmas.List.{length-drop}
use Rattle.mq_machine.specs.State as machine
use Rattle.mq_machine.specs.State.{Stream}
use Rattle.mq_machine.specs.Steps.{frame_size}
use Rattle.mq_front.specs.Fronts.{IsFront}
use Rattle.mq_conn.proofs.Framing.{frames_at, frames_none, goes_fronted}
use Rattle.mq_conn.proofs.conn.Conn.can_frame_at.Goals as goal

pub returns-in_default-left : goal.returns-in_default-left
returns-in_default-left c = λ s stands goes t at.
    (let items : slice_get c.deref.result.now c.args.place ≡ Some t = ap (λ (ts : List Tunnel). slice_get ts c.args.place) c.deref.ensures.value ∙ at in
    let read : c.in-Some.tunnel.now ≡ t = c.in-Some.ensures.lookup.1 ∙ get_or_from_slice_get c.deref.result.now c.args.place t c.in-Some.tunnel.now items in
    frames_none c.args.self.now t (ap (λ (u : Tunnel). u.waiting) (sym read) ∙ c.in_default-left.ensures) s)

pub returns-in-None : goal.returns-in-None
returns-in-None c = λ s stands goes t at. absurd (goes_fronted c.args.self.now c.in-None.is s stands goes)

pub returns-in-Some-front : goal.returns-in-Some-front
returns-in-Some-front c = λ s stands goes t at.
    (let items : slice_get c.deref.result.now c.args.place ≡ Some t = ap (λ (ts : List Tunnel). slice_get ts c.args.place) c.deref.ensures.value ∙ at in
    let read : c.in-Some.tunnel.now ≡ t = c.in-Some.ensures.lookup.1 ∙ get_or_from_slice_get c.deref.result.now c.args.place t c.in-Some.tunnel.now items in
    let e = c.in-Some-left.ensures in
    let left = e.3 ∙ sym (length-drop e.0.framed e.0.capsule) in
    let P : Tunnel → Type 0 = λ u. (f : machine.Front) (streams : List Stream) (owed : List ℕ) → IsFront c.in-Some-front.front f streams owed → c.room.result ≡ frame_size f u.stream c.in-Some-left.left in
    frames_at c.args.self.now t e.0 e.1 c.in-Some-front.front c.in-Some-left.left c.room.result c.in-Some-front.is (ap (λ (u : Tunnel). u.waiting) (sym read) ∙ e.2) left (subst P read c.room.ensures) s stands)
