use Rattle.mq_addr.specs.declared.prefix.Prefix.{Prefix}
use Rattle.mq_addr.specs.Block.{Overlap}
use Rattle.mq_book.proofs.Members.{none_any}
use Rattle.mq_book.proofs.setup.is_free.Goals as goal

pub returns-then-lies_in : goal.returns-then-lies_in
returns-then-lies_in c =
    let apart = none_any (λ (other : Prefix). Overlap other c.args.block.now) c.args.taken.now c.meets_any.result c.meets_any.ensures in (
      λ passed. record { inside = c.lies_in.ensures.0 c.if-lies_in.true; apart = apart.0 passed },
      λ free. apart.1 free.apart,
    )
