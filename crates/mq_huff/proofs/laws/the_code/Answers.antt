use Rattle.mq_huff.proofs.Packed.{is_the_code}
use Rattle.mq_huff.proofs.Unique.{length-coded}
use Rattle.mq_huff.proofs.laws.the_code.Goals as goal

pub returns : goal.returns
returns c = record {
  spelled = λ text bytes. is_the_code text bytes;
  len = λ text coded is. length-coded text coded is;
}
