use Rattle.std.proofs.Common.{rules}
use Rattle.std.proofs.lemmas.List.Sorted.{answers_always}
use Rattle.mq_streams.specs.declared.stream.Stream.{Stream}
use Rattle.mq_streams.proofs.Place.{searched}
use Rattle.mq_streams.proofs.table.Table.place.Goals as goal

-- the closure gives a row's id, and the slice is the rows
pub returns : goal.returns
returns c =
    let facts = c.binary_search_by_key.ensures in
    let by_key = facts.position (λ (row : Stream). row.id) (answers_always _ _ _ (λ f a r g called. search rules)) in
    rw (c.ok.ensures.value, ← c.as_slice.ensures.value) (searched c.as_slice.result.now (rw c.as_slice.ensures.value c.args.self.now.rising) c.args.id c.binary_search_by_key.result facts.bound by_key)
