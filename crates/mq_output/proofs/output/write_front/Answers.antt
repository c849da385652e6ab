use Rattle.std.proofs.Common.{ℕ, ◌++◌, List, take, drop, sym, ap, ◌∙◌, append_assoc}
use Rattle.std.proofs.lemmas.List.{take-append-drop}
use Rattle.mq_output.proofs.Shown.{adds_took}
use Rattle.mq_output.specs.Joined.{adds_more}
use Rattle.mq_output.proofs.output.write_front.Goals as goal

pub loop-rest-preserved : goal.loop-rest-preserved
loop-rest-preserved g c =
    let rest = c.loop-rest.rest.now in
    let front = take c.in-Took.count rest in
    let took = adds_took (g.K.Sink.taken c.loop-rest.sink) (g.K.Sink.taken c.write.new.self) rest c.in-Took.count c.in-Took.ensures.writes in
    let inv = c.loop-rest.invariant in (
      inv.0 ++ front,
      adds_more _ _ _ inv.0 front inv.1 took,
      inv.2 ∙ ap (λ (xs : List ℕ). inv.0 ++ xs) (sym (take-append-drop c.in-Took.count rest)) ∙ sym (append_assoc inv.0 front (drop c.in-Took.count rest)) ∙ ap (λ (xs : List ℕ). (inv.0 ++ front) ++ xs) (sym c.split_at.ensures.back),
      c.in-Took.ensures.counts ∙ inv.3,
    )
