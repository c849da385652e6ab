use Rattle.std.proofs.Common.{ℕ, List, refl, subst}
use Rattle.mq_replay.proofs.Reading.{ends_line}
use Rattle.mq_replay.specs.Listening.{MayBeAny}
use Rattle.mq_replay.specs.Playing.{LineTo}
use Rattle.mq_replay.specs.declared.session.Session.{Session}
use Rattle.mq_replay.proofs.session.Session.finish.Goals as goal

pub returns-clause-ends : goal.returns-clause-ends
returns-clause-ends g c =
    let ran = c.play_line.ensures.line in
    let old = c.args.self.now in
    let new : Session = record { stage = c.play_line.new.stage; begun = old.begun; number = old.number; count = old.count } in (
      ran.0,
      ran.1,
      λ script lines text r.
          let P : List ℕ → Type 0 = λ line. LineTo MayBeAny r.state line ran.0 c.play_line.result c.play_line.new.stage in
          ends_line old new script lines text ran.0 c.play_line.result r refl (subst P c.as_slice.ensures.value (ran.2 r.state r.stands)),
    )
