use Rattle.std.proofs.Common.{ℕ, List, ◌++◌, Err, ap, subst, ◌∙◌}
use Rattle.mq_output.specs.declared.stop.Stop.{Stop}
use Rattle.mq_play.specs.Play.{opened}
use Rattle.mq_script.specs.Generated.{generated}
use Rattle.mq_top.proofs.Counting.{no_bad_line}
use Rattle.mq_top.specs.Soaking.{SoaksAll, summary_text}
use Rattle.mq_top.proofs.soaking.sum.Goals as goal

pub returns-in-Ok-sum_up : goal.returns-in-Ok-sum_up
returns-in-Ok-sum_up c =
    let played = c.play_all.new.self in
    let all = c.in-Ok.ensures (generated c.args.seed c.args.count) c.new-soak.ensures in
    record {
      counts = played.tally;
      new = all.here;
      is = all.is;
      out_is = c.in-Ok-sum_up.ensures all.here all.stands ∙ ap (λ (bytes : List ℕ). bytes ++ summary_text played.tally (opened all.here)) c.requires;
    }

pub unreachable-requires : goal.unreachable-requires
unreachable-requires c =
    let lines = generated c.args.seed c.args.count in
    let P : Stop → Type 0 = λ why. SoaksAll lines (Err why) c.play_all.new.self in
    let bad = subst P c.in-Err-BadLine.field-0-is (c.in-Err-BadLine.ensures lines c.new-soak.ensures) in
    no_bad_line c.no_line_is_bad.ensures c.args.seed c.args.count c.play_all.new.self.number bad
