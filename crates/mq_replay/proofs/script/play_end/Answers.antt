use Rattle.std.proofs.Common.{ℕ, ◌++◌, List, subst, append_assoc}
use Rattle.mq_play.specs.Script.{IsPlayed}
use Rattle.mq_replay.proofs.Ending.{all_written, from_none, part_front, says_written, says_finish}
use Rattle.mq_output.proofs.Shown.{prints_flushed}
use Rattle.mq_output.specs.Joined.{prints_more}
use Rattle.mq_replay.specs.Reading.{SaysTo}
use Rattle.mq_replay.proofs.script.play_end.Goals as goal

pub returns-in-Err-clause-ends : goal.returns-in-Err-clause-ends
returns-in-Err-clause-ends g c =
    let ended = c.in-Err.ensures.ends in
    let stopped = c.stop.ensures.stops in
    let all = prints_more _ _ _ _ ended.0 stopped.0 ended.1 stopped.1 in (
      all.written,
      all.takes,
      λ script lines text none r.
          let P : List ℕ → Type 0 = λ out. SaysTo script out c.stop.result in
          let says = subst P (append_assoc text ended.0 stopped.0) (stopped.2 script (text ++ ended.0) (ended.2 script lines text r)) in
          says_finish script (text ++ all.written) c.stop.result (says_written script text _ _ (ended.0 ++ stopped.0) all.written c.stop.result none all.is c.stop.ensures.written says),
    )

pub returns-in-Ok-clause-ends : goal.returns-in-Ok-clause-ends
returns-in-Ok-clause-ends g c =
    let ended = c.in_default.ensures.ends in
    let all = prints_flushed _ _ _ _ ended.0 ended.1 c.in-Ok.ensures.prints in (
      all.written,
      all.takes,
      λ script lines text none r.
          let told = ended.2 script lines text r in
          let P : List ℕ → Type 0 = λ out. IsPlayed script (text ++ out) in
          subst P (all_written _ _ ended.0 all.written none c.in-Ok.ensures.all all.is) told.0,
    )

pub returns-in-Err-flush-clause-ends : goal.returns-in-Err-flush-clause-ends
returns-in-Err-flush-clause-ends g c =
    let ended = c.in_default.ensures.ends in
    let all = prints_flushed _ _ _ _ ended.0 ended.1 c.in-Err-flush.ensures.prints in (
      all.written,
      all.takes,
      λ script lines text none r.
          let told = ended.2 script lines text r in
          part_front script text ended.0 all.written _ (from_none _ _ ended.0 all.written none all.is) told.1,
    )
