use Rattle.std.proofs.Common.{ℕ, ◌++◌, List, [], Err, sym, subst, append-nil}
use Rattle.mq_outside.specs.Outside.{Gives}
use Rattle.mq_udp.proofs.Sourced.{gives_none, is_at_end, refused, refused_last}
use Rattle.mq_udp.specs.Input.{EndsTo}
use Rattle.mq_udp.proofs.reading.read_more.Goals as goal

pub returns-in-Err-clause-reads : goal.returns-in-Err-clause-reads
returns-in-Err-clause-reads g c =
    let bytes = c.split_at.result.0.now in
    let left = g.S.Source.left c.read.new.self in
    let P : List ℕ → Type 0 = λ gave. Gives (g.S.Source.left c.args.source.now) left gave in (
      bytes,
      subst P (sym c.split_at.ensures.front) c.in-Bytes.ensures.reads.2,
      λ text r. refused (text ++ bytes) left c.in-Err.why c.refusal_of.result c.feed.new.self (c.in-Err.ensures text r) c.refusal_of.ensures,
    )

pub returns-in-Err-finish-clause-reads : goal.returns-in-Err-finish-clause-reads
returns-in-Err-finish-clause-reads g c =
    let before = g.S.Source.left c.args.source.now in
    let after = g.S.Source.left c.read.new.self in
    let reads = c.in-End.ensures.reads in (
      [],
      gives_none before after reads.0,
      λ text r.
          let P : List ℕ → Type 0 = λ whole. EndsTo whole (Err c.in-Err-finish.why) c.finish.new.self in
          refused_last (text ++ []) after c.in-Err-finish.why c.refusal_of-in-Err-finish.result c.finish.new.self (is_at_end before after reads.0 reads.1)
          (subst P (sym (append-nil text)) (c.in-Err-finish.ensures text r)) c.refusal_of-in-Err-finish.ensures,
    )

pub returns-in-Failed-clause-reads : goal.returns-in-Failed-clause-reads
returns-in-Failed-clause-reads g c = ([], gives_none (g.S.Source.left c.args.source.now) (g.S.Source.left c.read.new.self) c.in-Failed.ensures.reads, λ text r. tt)
