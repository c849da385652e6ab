use Rattle.std.proofs.Common.{◌++◌, [], refl, ◌∙◌}
use Rattle.std.proofs.lemmas.Result.{err_from_is_err_and}
use Rattle.mq_play.specs.Script.{text_of}
use Rattle.mq_replay.proofs.Ending.{from_none}
use Rattle.mq_top.proofs.Generating.{lines_all, lines_flushed, lines_more, lines_stopped}
use Rattle.mq_output.proofs.Shown.{prints_flushed}
use Rattle.mq_output.specs.Joined.{prints_more, prints_none}
use Rattle.mq_top.proofs.generate.print_lines.Goals as goal

pub loop-init : goal.loop-init
loop-init g c = record { shown = []; prints = prints_none _ _; is = refl; counts = refl }

pub loop-preserved : goal.loop-preserved
loop-preserved g c =
    let inv = c.loop.invariant in
    let line = c.in_ok-print_line.ensures.prints in record {
      shown = inv.shown ++ line.0;
      prints = prints_more _ _ _ _ inv.shown line.0 inv.prints line.1;
      is = lines_more (text_of c.args.generator.now) inv.shown line.0 c.loop.generator c.print_line.new.generator c.in_ok-print_line.field-0 c.if-branch.true inv.is line.2;
      counts = c.in_ok-print_line.ensures.counts ∙ inv.counts;
    }

pub returns-in_err-print_line-clause-prints : goal.returns-in_err-print_line-clause-prints
returns-in_err-print_line-clause-prints g c =
    let inv = c.loop.invariant in
    let line = c.in_err-print_line.ensures.prints in
    let all = prints_more _ _ _ _ inv.shown line.0 inv.prints line.1 in
    let owed = from_none _ _ (inv.shown ++ line.0) all.written c.requires all.is in
    let why = c.in_err-print_line.field-0.0 in
    let p = err_from_is_err_and c.from_residual.result c.from_residual.ensures.1 in (
      all.written,
      all.takes,
      rw (p.1, p.2) (lines_stopped c.args.generator.now c.loop.generator c.print_line.new.generator inv.shown line.0 all.written _ why inv.is line.2 owed),
    )

pub returns-clause-prints : goal.returns-clause-prints
returns-clause-prints g c =
    let inv = c.loop.invariant in
    let line = c.in_ok-print_line.ensures.prints in
    let shown = inv.shown ++ line.0 in
    let all = prints_flushed _ _ _ _ shown (prints_more _ _ _ _ inv.shown line.0 inv.prints line.1) c.flush.ensures.prints in
    let owed = from_none _ _ shown all.written c.requires all.is in
    let whole = lines_all (text_of c.args.generator.now) inv.shown line.0 c.loop.generator c.print_line.new.generator c.in_ok-print_line.field-0 c.if-branch.false inv.is line.2 in (
      all.written,
      all.takes,
      lines_flushed c.args.generator.now shown all.written _ c.flush.result c.flush.ensures.all whole owed,
    )
