use Rattle.mq_huff.proofs.Unique.{first_code}
use Rattle.mq_huff.proofs.Whole.{begins_with_code}
use Rattle.mq_huff.proofs.laws.whole_code.Goals as goal

pub returns : goal.returns
returns c = record {
  prefix_free = λ s t x y hs ht h. (first_code s t x y hs ht h).0;
  complete = begins_with_code;
}
