use Rattle.std.proofs.Common.{rules, ◌≡◌, ◌+◌, ◌≤◌, ◌∷◌, ◌++◌, [], List, length, deque_len, deque_capacity, ap, ◌∙◌, arith}
use Rattle.mq_net.specs.declared.store.Waiting.{Waiting}
use Rattle.mq_net.specs.declared.store.Waiting.TheVariants.{Arrived}
use Rattle.mq_net.proofs.Stores.{push_keeps, push_shows}
use Rattle.mq_net.proofs.store.Store.push.Goals as goal

pub invariant_of-self-2 : goal.invariant_of-self-2
invariant_of-self-2 c =
    let old = c.self.inside.waiting in
    let items : c.push_back_reserved.new.self.items ≡ old.items ++ Arrived c.args.packet c.args.more ∷ [] =
    c.push_back_reserved.ensures.items ∙ ap (λ (l : List Waiting). l ++ Arrived c.args.packet c.args.more ∷ []) c.reserve.ensures.items in
    let len : deque_len old ≡ length old.items = search rules in
    let room : length old.items + (c.self.inside.room + 1) ≤ deque_capacity c.push_back_reserved.new.self =
    omega (arith, c.in_ok-reserve.ensures.ok, c.reserve.ensures.len, c.push_back_reserved.ensures.capacity, len) in
    push_keeps old.items c.push_back_reserved.new.self.items c.self.inside.bytes.items c.args.packet c.args.more c.self.inside.room (deque_capacity old)
    (deque_capacity c.push_back_reserved.new.self) items c.self.invariant c.requires room

pub returns-clause-ok : goal.returns-clause-ok
returns-clause-ok c =
    let old = c.self.inside.waiting in
    let items : c.push_back_reserved.new.self.items ≡ old.items ++ Arrived c.args.packet c.args.more ∷ [] =
    c.push_back_reserved.ensures.items ∙ ap (λ (l : List Waiting). l ++ Arrived c.args.packet c.args.more ∷ []) c.reserve.ensures.items in
    rw (← c.self.view_is)
    (push_shows old.items c.push_back_reserved.new.self.items c.self.inside.bytes.items c.args.packet c.args.more c.self.inside.room c.self.inside.bytes.capacity items)
