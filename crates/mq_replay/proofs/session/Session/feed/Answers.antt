use Rattle.std.proofs.Common.{◌++◌, ◌∷◌, [], Ok, Err, refl, ◌∙◌}
use Rattle.std.proofs.lemmas.Result.{err_from_is_err_and}
use Rattle.mq_replay.proofs.Reading.{read_none, cut_here, regrouped, regrouped_last, stops_more}
use Rattle.mq_output.proofs.Shown.{silent_counts}
use Rattle.mq_output.specs.Joined.{prints_none, prints_more}
use Rattle.mq_replay.proofs.session.Session.feed.Goals as goal

pub loop-end-init : goal.loop-end-init
loop-end-init g c = ([], [], refl, prints_none _ _, (λ script lines text r. (lines, read_none c.args.self.now script lines text r)), refl)

pub returns-in_err-end_line-clause-reads : goal.returns-in_err-end_line-clause-reads
returns-in_err-end_line-clause-reads g c =
    let inv = c.loop-end.invariant in
    let step = c.in_err-end_line.ensures.reads in
    let cut = c.in-Some.ensures in
    let last = c.in-Some.end.now ++ 10 ∷ [] in
    let front = inv.0 in
    let why = c.in_err-end_line.field-0.0 in
    let new = c.end_line.new.self in (
      inv.1 ++ step.0,
      prints_more _ _ _ _ inv.1 step.0 inv.3 step.1,
      λ script lines text r.
          let before = inv.4 script lines text r in
          let told = step.2 (script ++ front) before.0 (text ++ inv.1) cut.first before.1 in
          let grouped = regrouped script front last (front ++ last) text inv.1 step.0 (Err why) new refl told in
          let p = err_from_is_err_and c.from_residual.result c.from_residual.ensures.1 in
          rw (p.1, p.2) (stops_more script (front ++ last) c.in-Some.behind.now c.args.bytes.now (text ++ (inv.1 ++ step.0)) why new.number (cut_here _ front _ _ _ inv.2 cut.is) grouped),
    )

pub loop-end-preserved : goal.loop-end-preserved
loop-end-preserved g c =
    let inv = c.loop-end.invariant in
    let step = c.in_ok-end_line.ensures.reads in
    let cut = c.in-Some.ensures in
    let last = c.in-Some.end.now ++ 10 ∷ [] in
    let front = inv.0 in (
      front ++ last,
      inv.1 ++ step.0,
      cut_here _ front _ _ _ inv.2 cut.is,
      prints_more _ _ _ _ inv.1 step.0 inv.3 step.1,
      (λ script lines text r.
          let before = inv.4 script lines text r in
          let told = step.2 (script ++ front) before.0 (text ++ inv.1) cut.first before.1 in
          regrouped script front last (front ++ last) text inv.1 step.0 (Ok tt) c.end_line.new.self refl told),
      c.in_ok-end_line.ensures.counts ∙ inv.5,
    )

pub returns-clause-reads : goal.returns-clause-reads
returns-clause-reads g c =
    let inv = c.loop-end.invariant in (
      inv.1,
      inv.3,
      λ script lines text r.
          let before = inv.4 script lines text r in
          let told = c.keep.ensures.keeps (script ++ inv.0) before.0 (text ++ inv.1) c.in_default.ensures before.1 in
          regrouped_last script inv.0 c.loop-end.rest.now c.args.bytes.now (text ++ inv.1) c.keep.result c.keep.new.self inv.2 told,
    )

pub returns-clause-counts : goal.returns-clause-counts
returns-clause-counts g c = let inv = c.loop-end.invariant in silent_counts _ _ c.keep.result inv.5 c.keep.ensures.silent
