use Rattle.std.proofs.Common.{rules, ◌≡◌, ◌==◌, length, deque_len, sym, ap, ◌∙◌}
use Rattle.mq_net.proofs.Stores.{none_waits}
use Rattle.mq_net.proofs.store.Store.is_empty.Goals as goal

pub returns : goal.returns
returns c =
    let old = c.self.inside.waiting in
    let len : deque_len old ≡ length old.items = search rules in
    rw (← c.self.view_is) (c.is_empty.ensures ∙ ap (λ n. n == 0) len ∙ sym (none_waits old.items c.self.inside.bytes.items))
