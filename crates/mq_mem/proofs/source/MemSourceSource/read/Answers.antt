use Rattle.std.proofs.Common.{rules, arith, ◌<◌, ◌≤◌, ◌≡◌, ℕ, List, ◌++◌, length, drop, sym, ◌∙◌, ap, refl}
use Rattle.std.proofs.lemmas.List.{take-append-drop}
use Rattle.mq_mem.specs.Streams.{Source}
use Rattle.mq_mem.proofs.Lists.{given}
use Rattle.mq_mem.proofs.source.MemSourceSource.read.Goals as goal

pub returns-clause-reads : goal.returns-clause-reads
returns-clause-reads c =
    let contents : List ℕ = c.self.inside.contents in
    let left : List ℕ = c.split_at.result.1.now in
    let is : left ≡ drop c.self.inside.place contents = search rules in
    let whole : left ≡ c.split_at-2.result.0.now ++ c.split_at-2.result.1.now =
    rw (c.split_at-2.ensures.front, c.split_at-2.ensures.back) (sym (take-append-drop c.min.result left)) in
    let some : 0 < c.fill-count.result = c.fill-count.ensures.some c.requires (grind arith) in
    let fits : c.fill-count.result ≤ length c.fill-count.new.into = search rules in
    (some, fits, (_, refl, ap (λ (s : Source). s.left) (sym c.self.view_is) ∙ sym is ∙ given c.fill-count.result c.self.inside.place contents left _ _ _ is whole c.fill-count.ensures.within.1 c.fill-count.ensures.copied))
