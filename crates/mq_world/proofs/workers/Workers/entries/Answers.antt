use Rattle.std.proofs.Common.{length, sym, ap, ◌∙◌}
use Rattle.mq_machine.specs.State.{Shared}
use Rattle.mq_world.proofs.workers.Workers.entries.Goals as goal

pub returns : goal.returns
returns c = λ s is. c.count.ensures ∙ ap (λ (b : _). length b.history) c.book.ensures ∙ sym (ap (λ (sh : Shared). length sh.book) is.shared)
