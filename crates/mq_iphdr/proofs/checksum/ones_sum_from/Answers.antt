use Rattle.std.proofs.Common.{◌≡◌, ◌+◌, ◌*◌, slice_index, sym, ap, ◌∙◌, arith}
use Rattle.mq_addr.specs.Packet.{ones_add}
use Rattle.mq_iphdr.proofs.Sums.{word_added, behind_word, odd_added, none_added}
use Rattle.mq_iphdr.proofs.checksum.ones_sum_from.Goals as goal

pub loop-rest-preserved : goal.loop-rest-preserved
loop-rest-preserved c =
    let rest = c.loop-rest.rest.now in
    let sum : c.ones_add-sum.result ≡ ones_add c.loop-rest.sum (slice_index rest 0 * 256 + slice_index rest 1) =
    c.ones_add-sum.ensures ∙ ap (λ w. ones_add c.loop-rest.sum w) c.from_be_bytes.ensures in
    rw (behind_word rest c.in-len2-up.len_at_least, sum) (sym (word_added c.loop-rest.sum rest c.in-len2-up.len_at_least) ∙ c.loop-rest.invariant)

pub returns-in-len1 : goal.returns-in-len1
returns-in-len1 c = grind (arith, odd_added c.loop-rest.sum c.loop-rest.rest.now (omega arith), c.loop-rest.invariant, c.ones_add.ensures, c.from.ensures)

pub returns-in_default-rest : goal.returns-in_default-rest
returns-in_default-rest c = sym (none_added c.loop-rest.sum c.loop-rest.rest.now (omega arith)) ∙ c.loop-rest.invariant
