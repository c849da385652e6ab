use Rattle.std.proofs.Common.{◌≡◌, Some, List, ℕ, ◌<◌, ◌+◌, length, nat_le, slice_get, min, ◌∙◌, ap, subst, arith}
use Rattle.std.specs.Prelude.{filter, sum_by}
use Rattle.std.proofs.lemmas.Option.{get_or_from_slice_get}
use Rattle.mq_capsule.specs.Writing.{capsule_text, datagram}
use Rattle.mq_machine.specs.State.{is_packet}
use Rattle.mq_conn.specs.declared.conn.Tunnel.{Tunnel}
use Rattle.mq_conn.specs.Queues.{size_of}
use Rattle.mq_conn.proofs.Framing.{room_is, sum_is}
use Rattle.mq_conn.proofs.conn.Conn.has_room.Goals as goal

pub returns-else-waiting-gt-MOST_WAITING-clause-is : goal.returns-else-waiting-gt-MOST_WAITING-clause-is
returns-else-waiting-gt-MOST_WAITING-clause-is c = λ t at packet e.
    (let ts = c.args.self.now.tunnels.items in
    let f : Tunnel → ℕ = λ u. size_of u.waiting in
    let items : slice_get c.deref.result.now c.args.place ≡ Some t = ap (λ (ts : List Tunnel). slice_get ts c.args.place) c.deref.ensures.value ∙ at in
    let read : c.in-Some.tunnel.now ≡ t = c.in-Some.ensures.lookup.1 ∙ get_or_from_slice_get c.deref.result.now c.args.place t c.in-Some.tunnel.now items in
    let P : Tunnel → Type 0 = λ u. length (filter is_packet u.waiting) < 64 in
    let few = subst P read (omega (arith, c.len.ensures.is, c.if-len-ge-MOST_PACKETS.false)) in
    let sum = sum_is c.waiting_in-waiting.result (sum_by f ts) (c.waiting_in-waiting.ensures ∙ ap (λ (us : List Tunnel). min (sum_by f us) 18446744073709551615) c.as_slice.ensures.value) c.if-waiting-gt-MOST_WAITING.false in
    ap (λ (n : ℕ). nat_le (c.waiting_in-waiting.result + n) 1048576) (c.capsule_size.ensures.is packet e)
    ∙ room_is (length (filter is_packet t.waiting)) c.waiting_in-waiting.result (length (capsule_text (datagram packet))) (sum_by f ts) few sum)
