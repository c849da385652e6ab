use Rattle.std.proofs.Common.{ℕ, ◌++◌, List, [], refl, sym, subst, append-nil}
use Rattle.mq_outside.specs.Outside.{Gives}
use Rattle.mq_replay.specs.Replay.{Replays}
use Rattle.mq_replay.proofs.Ending.{plays_on, finishes, nothing_left, gives_none, so_far, option_source, play_source}
use Rattle.mq_replay.proofs.Reading.{read_none}
use Rattle.mq_output.specs.Joined.{takes_none}
use Rattle.mq_replay.proofs.script.read_more.Goals as goal

pub returns-in-Bytes-clause-reads : goal.returns-in-Bytes-clause-reads
returns-in-Bytes-clause-reads g c =
    let played = c.play_bytes.ensures.plays in
    let bytes = c.split_at.result.0.now in
    let left = g.S.Source.left c.read.new.self in
    let P : List ℕ → Type 0 = λ gave. Gives (g.S.Source.left c.args.source.now) left gave in (
      bytes,
      played.0,
      subst P (sym c.split_at.ensures.front) c.in-Bytes.ensures.reads.2,
      played.1,
      λ script lines text none r. plays_on (script ++ bytes) (text ++ played.0) c.play_bytes.new.output.owed.now.items left c.play_bytes.result c.play_bytes.new.session (played.2 script lines text none r),
    )

pub returns-in-Bytes-clause-reading : goal.returns-in-Bytes-clause-reading
returns-in-Bytes-clause-reading g c = option_source _ _ _ _ c.play_bytes.result c.play_bytes.ensures.counts c.in-Bytes.ensures.counts

pub returns-in-End-clause-reads : goal.returns-in-End-clause-reads
returns-in-End-clause-reads g c =
    let ended = c.play_end.ensures.ends in
    let before = g.S.Source.left c.args.source.now in
    let after = g.S.Source.left c.read.new.self in
    let reads = c.in-End.ensures.reads in (
      [],
      ended.0,
      gives_none before after reads.0,
      ended.1,
      λ script lines text none r rest e.
          let P : List ℕ → Type 0 = λ whole. Replays whole rest (text ++ ended.0) c.play_end.result in
          subst P (sym (append-nil script)) (finishes script (text ++ ended.0) c.play_end.result (ended.2 script lines text none r) rest (nothing_left before after reads.0 reads.1 rest e)),
    )

pub returns-in-End-clause-reading : goal.returns-in-End-clause-reading
returns-in-End-clause-reading g c = play_source _ _ _ _ c.play_end.result c.play_end.ensures.counts c.in-End.ensures.counts

pub returns-in-Failed-clause-reads : goal.returns-in-Failed-clause-reads
returns-in-Failed-clause-reads g c =
    let before = g.S.Source.left c.args.source.now in
    let after = g.S.Source.left c.read.new.self in (
      [],
      [],
      gives_none before after c.in-Failed.ensures.reads,
      takes_none _ _ _ refl,
      λ script lines text none r rest e. so_far c.args.session.now (script ++ []) lines (text ++ []) (read_none c.args.session.now script lines text r),
    )
