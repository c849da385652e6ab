use Rattle.std.proofs.Common.{ℕ, ◌++◌, List, subst, append_assoc}
use Rattle.mq_replay.proofs.Ending.{all_written, fault_part, says_written}
use Rattle.mq_output.proofs.Shown.{prints_flushed}
use Rattle.mq_output.specs.Joined.{prints_more}
use Rattle.mq_replay.specs.Reading.{IsRead, SaysTo}
use Rattle.mq_replay.proofs.script.play_bytes.Goals as goal

pub returns-in-Ok-flush-clause-plays : goal.returns-in-Ok-flush-clause-plays
returns-in-Ok-flush-clause-plays g c =
    let fed = c.in-Ok.ensures.reads in
    let all = prints_flushed _ _ _ _ fed.0 fed.1 c.in-Ok-flush.ensures.prints in (
      all.written,
      all.takes,
      λ script lines text none r.
          let told = fed.2 script lines text r in
          let P : List ℕ → Type 0 = λ out. IsRead c.feed.new.self (script ++ c.args.bytes.now) told.0 (text ++ out) in
          (told.0, subst P (all_written _ _ fed.0 all.written none c.in-Ok-flush.ensures.all all.is) told.1, c.in-Ok-flush.ensures.all),
    )

pub returns-in-Err-flush-clause-plays : goal.returns-in-Err-flush-clause-plays
returns-in-Err-flush-clause-plays g c =
    let fed = c.in-Ok.ensures.reads in
    let all = prints_flushed _ _ _ _ fed.0 fed.1 c.in-Err-flush.ensures.prints in (
      all.written,
      all.takes,
      λ script lines text none r more.
          let told = fed.2 script lines text r in
          fault_part c.feed.new.self (script ++ c.args.bytes.now) told.0 text _ _ fed.0 all.written more none all.is told.1,
    )

pub returns-in-Err-clause-plays : goal.returns-in-Err-clause-plays
returns-in-Err-clause-plays g c =
    let fed = c.in-Err.ensures.reads in
    let stopped = c.stop.ensures.stops in
    let all = prints_more _ _ _ _ fed.0 stopped.0 fed.1 stopped.1 in (
      all.written,
      all.takes,
      λ script lines text none r more.
          let whole = script ++ c.args.bytes.now ++ more in
          let P : List ℕ → Type 0 = λ out. SaysTo whole out c.stop.result in
          let says = subst P (append_assoc text fed.0 stopped.0) (stopped.2 whole (text ++ fed.0) (fed.2 script lines text r more)) in
          says_written whole text _ _ (fed.0 ++ stopped.0) all.written c.stop.result none all.is c.stop.ensures.written says,
    )
