use Rattle.std.proofs.Common.{◌≡◌, [], ◌∷◌, ◌++◌, drop, sym, ap, ◌∙◌, append_assoc}
use Rattle.mq_route.specs.Puts.{put}
use Rattle.mq_route.proofs.Merge.{stops_at, stops_behind}
use Rattle.mq_route.proofs.put.put.Goals.{then-loop-next-test+else-not-precedes, else-loop-next-test}
use Rattle.mq_route.proofs.put.put.Goals as goal

pub returns : goal.returns
returns c =
    let end : put c.loop-next.joined (drop c.loop-next.next c.args.list.now) ≡ c.loop-next.joined ∷ drop c.loop-next.next c.args.list.now = elim c.loop-next-test.branch [
      | then-loop-next-test+else-not-precedes w ↦ stops_at c.loop-next.joined c.args.list.now c.loop-next.next _ w.loop-next-test.true (sym w.precedes.ensures ∙ w.if-not-precedes.false)
      | else-loop-next-test w ↦ stops_behind c.loop-next.joined c.args.list.now c.loop-next.next w.loop-next-test.false
    ] in
    let joined = c.loop-next.joined in
    let rest = drop c.loop-next.next c.args.list.now in
    c.in_ok-extend_from_slice.ensures.items
    ∙ ap (λ l. l ++ c.split_at.result.1.now) c.in_ok-push-2.ensures.items
    ∙ append_assoc c.loop-next.new.items (joined ∷ []) c.split_at.result.1.now
    ∙ ap (λ t. c.loop-next.new.items ++ joined ∷ t) c.split_at.ensures.back
    ∙ ap (λ t. c.loop-next.new.items ++ t) (sym end)
    ∙ c.loop-next.invariant.same
