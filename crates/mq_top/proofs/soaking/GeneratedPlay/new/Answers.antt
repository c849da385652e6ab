use Rattle.std.proofs.Common.{[], refl, sym}
use Rattle.mq_play.specs.Play.{opening}
use Rattle.mq_top.proofs.Counting.{counted_at}
use Rattle.mq_top.proofs.soaking.GeneratedPlay.new.Goals as goal

pub returns : goal.returns
returns c = record {
  before = [];
  here = opening;
  lines_are = sym c.new.ensures;
  is = counted_at c.new-3.result c.new-3.ensures;
  stands = c.new-2.ensures;
  number = refl;
}
