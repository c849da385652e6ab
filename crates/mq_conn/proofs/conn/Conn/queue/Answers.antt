use Rattle.std.proofs.Common.{◌≡◌, ◌∷◌, ◌++◌, [], Some, List, length, slice_get, slice_set, ◌∙◌, refl, sym, ap}
use Rattle.std.specs.Vec.{with_item}
use Rattle.std.proofs.lemmas.Option.{get_or_from_slice_get, slice_get-get_or}
use Rattle.mq_machine.specs.State.{Waiting}
use Rattle.mq_conn.specs.Queues.{a_packet}
use Rattle.mq_conn.specs.declared.conn.Tunnel.{Tunnel}
use Rattle.mq_conn.proofs.Framing.{drops, queues, full, not_false, not_full, not_true}
use Rattle.mq_conn.proofs.conn.Conn.queue.Goals as goal

pub returns-then-not-has_room : goal.returns-then-not-has_room
returns-then-not-has_room c = λ t at.
    (let old = c.args.self.now in
    let room = c.has_room.ensures.is t at.at c.args.packet (ap (λ (xs : List _). length xs) c.as_slice.ensures) in
    drops old c.settle.new.self t c.args.from c.args.n c.args.packet (not_false (full old.tunnels.items t c.args.packet) (sym room ∙ c.if-not-has_room.true)) c.settle.ensures)

pub push-requires-clause-few : goal.push-requires-clause-few
push-requires-clause-few c =
    let old = c.args.self.now in
    let t = c.index_mut.result.now in
    let at : slice_get old.tunnels.items c.args.place ≡ Some t = slice_get-get_or old.tunnels.items c.args.place t (c.has_room.ensures.there c.if-not-has_room.false) ∙ ap (λ (u : Tunnel). Some u) (sym c.index_mut.ensures.value) in
    let room = c.has_room.ensures.is t at c.args.packet (ap (λ (xs : List _). length xs) c.as_slice.ensures) in
    let some = not_true (full old.tunnels.items t c.args.packet) (sym room ∙ c.if-not-has_room.false) in
    (not_full old.tunnels.items c.args.place t c.args.packet at some).0

pub push-requires-clause-small : goal.push-requires-clause-small
push-requires-clause-small c =
    let old = c.args.self.now in
    let t = c.index_mut.result.now in
    let at : slice_get old.tunnels.items c.args.place ≡ Some t = slice_get-get_or old.tunnels.items c.args.place t (c.has_room.ensures.there c.if-not-has_room.false) ∙ ap (λ (u : Tunnel). Some u) (sym c.index_mut.ensures.value) in
    let room = c.has_room.ensures.is t at c.args.packet (ap (λ (xs : List _). length xs) c.as_slice.ensures) in
    let some = not_true (full old.tunnels.items t c.args.packet) (sym room ∙ c.if-not-has_room.false) in
    (not_full old.tunnels.items c.args.place t c.args.packet at some).1

pub returns : goal.returns
returns c = λ t at.
    (let old = c.args.self.now in
    let room = c.has_room.ensures.is t at.at c.args.packet (ap (λ (xs : List _). length xs) c.as_slice.ensures) in
    let some = not_true (full old.tunnels.items t c.args.packet) (sym room ∙ c.if-not-has_room.false) in
    let read : c.index_mut.result.now ≡ t = c.index_mut.ensures.value ∙ get_or_from_slice_get old.tunnels.items c.args.place t c.index_mut.result.now at.at in
    let w : Waiting = a_packet c.args.from c.args.n c.args.packet in
    let items = ap (λ (xs : List Waiting). slice_set old.tunnels.items c.args.place (record c.index_mut.result.now { waiting = xs })) c.push.ensures
    ∙ ap (λ (u : Tunnel). slice_set old.tunnels.items c.args.place (record u { waiting = u.waiting ++ w ∷ [] })) read in
    queues old (record old { tunnels = with_item old.tunnels c.args.place (record c.index_mut.result.now { waiting = c.push.new.self }) }) c.settle-2.new.self c.args.tunnel c.args.place t c.args.from c.args.n c.args.packet at some
    (record { keeps = refl; items = items; len = refl; capacity = refl }) c.settle-2.ensures)
