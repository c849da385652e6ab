use Rattle.mq_hpack.proofs.Blocked.{Code, written_so, written_once}
use Rattle.mq_hpack.proofs.laws.is_one_text.Goals as goal

pub returns : goal.returns
returns c =
    let code : Code = record { spelled_is = c.the_code.ensures.spelled; one = c.one_coding.ensures; len = c.the_code.ensures.len } in
    record {
      so = λ owed fields bytes. written_so code owed fields bytes;
      once = λ owed fields bytes all is. written_once code owed fields bytes all is;
    }
