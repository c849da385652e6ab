use Rattle.std.proofs.Common.{◌≡◌, ℕ, List, length, get_or, sym, subst, arith}
use borrow.Author.Tests.{ltb-true}
use Rattle.mq_mem.proofs.Unread.{reads_more, without_first}
use Rattle.mq_mem.proofs.pieces.Pieces.read.Goals as goal

pub returns-then-left-count : goal.returns-then-left-count
returns-then-left-count c =
    let items = c.self.inside.queue.items in
    let P : List ℕ → Type 0 = λ p. p ≡ get_or items 0 p in
    reads_more items c.args.self.now c.self.inside.taken c.fill-count.result c.as_slice.result.now c.split_at.result.1.now _ (sym c.self.view_is)
    (ltb-true 0 (length items) (sym c.in_ok-piece.ensures.item.0)) (subst P (sym c.as_slice.ensures) c.in_ok-piece.ensures.lookup) c.split_at.ensures.back
    c.if-left-count.true (c.fill-count.ensures.some c.requires (omega (arith, c.if-left-count.true))) (rw c.fill-count.auto.into c.fill-count.ensures.value) c.fill-count.ensures.copied

pub invariant_of-self-2 : goal.invariant_of-self-2
invariant_of-self-2 c = without_first c.self.inside.queue.items c.pop_front.new.self.items c.pop_front.ensures.rest c.self.invariant.1
