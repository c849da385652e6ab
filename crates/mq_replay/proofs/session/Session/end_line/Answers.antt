use Rattle.std.proofs.Common.{ℕ, ◌+◌, ◌++◌, ◌∷◌, List, [], refl, sym, subst, arith, append-nil}
use Rattle.std.proofs.lemmas.Result.{err_from_is_err_and}
use Rattle.mq_replay.proofs.Reading.{too_much, nothing_played, line_read, line_stopped}
use Rattle.mq_output.specs.Joined.{prints_none}
use Rattle.mq_replay.specs.Reading.{StopsAt}
use Rattle.mq_replay.specs.declared.session.Session.{Session}
use Rattle.mq_replay.proofs.session.Session.end_line.Goals as goal

pub returns-in_err-count-clause-reads : goal.returns-in_err-count-clause-reads
returns-in_err-count-clause-reads g c = (
  [],
  prints_none _ _,
  λ script lines text plain r.
      let old = c.args.self.now in
      let end = c.args.end.now in
      let why = c.in_err-count.field-0.0 in
      let p = err_from_is_err_and c.from_residual.result c.from_residual.ensures.1 in
      rw (p.1, p.2) (λ more.
      let P : List ℕ → Type 0 = λ out. StopsAt (script ++ (end ++ 10 ∷ []) ++ more) out why old.number in
      subst P (sym (append-nil text)) (too_much old script lines text end (10 ∷ []) why (omega arith) plain r c.in_err-count.ensures more)),
)

pub returns-then-self-clause-reads : goal.returns-then-self-clause-reads
returns-then-self-clause-reads g c = (
  [],
  prints_none _ _,
  λ script lines text plain r more. nothing_played c.args.self.now script lines text (c.args.end.now ++ 10 ∷ []) more r,
)

pub returns-in_err-play_whole-clause-reads : goal.returns-in_err-play_whole-clause-reads
returns-in_err-play_whole-clause-reads g c =
    let played = c.in_err-play_whole.ensures.line in (
      played.0,
      played.1,
      λ script lines text plain r.
          let p = err_from_is_err_and c.from_residual-in_err-play_whole.result c.from_residual-in_err-play_whole.ensures.1 in
          rw (p.1, p.2) (line_stopped c.args.self.now script lines text c.args.end.now played.0 c.in_ok-count.count c.in_err-play_whole.field-0.0 c.play_whole.new.stage plain r c.in_ok-count.ensures (played.2 r.state r.stands)),
    )

pub returns-clause-reads : goal.returns-clause-reads
returns-clause-reads g c =
    let played = c.in_ok-play_whole.ensures.line in
    let old = c.args.self.now in
    let end = c.args.end.now in
    let count = c.in_ok-count.count in
    let new : Session = record { stage = c.play_whole.new.stage; begun = c.clear.new.self; number = old.number + 1; count = count } in (
      played.0,
      played.1,
      λ script lines text plain r.
          (lines ++ (old.begun.items ++ end) ∷ [], line_read old new script lines text end played.0 count plain r c.in_ok-count.ensures (played.2 r.state r.stands) c.clear.ensures.items refl refl),
    )
