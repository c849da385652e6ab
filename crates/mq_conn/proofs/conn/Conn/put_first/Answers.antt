use Rattle.std.proofs.Common.{◌≡◌, Some, List, ◌++◌, ℕ, drop, slice_get, ◌∙◌, refl, sym, ap, subst}
use Rattle.std.proofs.lemmas.Option.{slice_get-get_or}
use Rattle.mq_conn.specs.declared.conn.Tunnel.{Tunnel}
use Rattle.mq_front.specs.Fronts.{IsFront, Frames}
use Rattle.mq_machine.specs.State as machine
use Rattle.mq_machine.specs.State.{Stream}
use Rattle.mq_conn.specs.Queues.{behind}
use Rattle.mq_conn.proofs.Framing.{puts_first}
use Rattle.mq_conn.proofs.conn.Conn.put_first.Goals as goal

pub returns : goal.returns
returns c =
    let old = c.args.self.now in
    let u = c.in-Some.tunnel.now in
    let e = c.in-Some-first.ensures in
    let p = c.in-Some-first.first.now in
    let w = behind e.0 p in
    let at : slice_get old.tunnels.items c.args.place ≡ Some u =
    ap (λ (ts : List Tunnel). slice_get ts c.args.place) (sym c.deref.ensures.value) ∙ slice_get-get_or c.deref.result.now c.args.place u c.in-Some.ensures.lookup.3.0 ∙ ap (λ (v : Tunnel). Some v) (sym c.in-Some.ensures.lookup.1) in
    let whole : c.behind.result.0.now ++ c.behind.result.1.now ≡ drop w.framed w.capsule =
    c.behind.ensures ∙ ap (λ (n : ℕ). drop n (c.parts.result.0.now ++ c.parts.result.1.now)) (c.framed.ensures w e.1 e.2) ∙ ap (λ (xs : List ℕ). drop e.0 xs) c.parts.ensures in
    let P : List ℕ → Type 0 = λ bytes. (f : machine.Front) (streams : List Stream) (owed : List ℕ) → IsFront c.in-Some-front.front f streams owed → Frames c.frame.new.self c.frame.result f u.stream bytes streams owed in
    puts_first old _ c.args.place c.frame.result u w e.1 c.in-Some-front.front c.frame.new.self at e.2 c.in-Some-front.is refl (subst P whole c.frame.ensures)
