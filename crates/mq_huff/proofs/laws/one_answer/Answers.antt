use Rattle.std.proofs.Common.{inl, inr}
use Rattle.mq_huff.proofs.Unique.{coded_no_eos, coded_not_badly, badly_no_eos}
use Rattle.mq_huff.proofs.laws.one_answer.Goals as goal

pub returns : goal.returns
returns c = record {
  text_or_fault = λ text bytes coded fault. elim fault [
    | inl eos ↦ coded_no_eos text bytes coded eos
    | inr badly ↦ coded_not_badly text bytes coded badly
  ];
  one_fault = λ bytes eos badly. badly_no_eos bytes badly eos;
}
