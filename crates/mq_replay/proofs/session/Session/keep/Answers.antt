use Rattle.std.proofs.Common.{◌≡◌, ℕ, ◌++◌, List, [], refl, sym, subst, arith, append_assoc, append-nil}
use Rattle.std.proofs.lemmas.Grind.{common_steps}
use Rattle.std.proofs.lemmas.Result.{err_from_is_err_and}
use Rattle.mq_replay.proofs.Reading.{too_much, kept, no_memory, room_silent}
use Rattle.mq_play.specs.Script.{IsPlayedPart}
use Rattle.mq_replay.specs.Reading.{StopsAt}
use Rattle.mq_replay.specs.declared.session.Session.{Session}
use Rattle.mq_replay.proofs.session.Session.keep.Goals as goal

pub returns-in_err-count-clause-keeps : goal.returns-in_err-count-clause-keeps
returns-in_err-count-clause-keeps c = λ script lines text plain r.
    let old = c.args.self.now in
    let bytes = c.args.bytes.now in
    let why = c.in_err-count.field-0.0 in
    let p = err_from_is_err_and c.from_residual.result c.from_residual.ensures.1 in
    rw (p.1, p.2) (λ more.
    let P : List ℕ → Type 0 = λ xs. StopsAt (script ++ xs ++ more) text why old.number in
    subst P (append-nil bytes) (too_much old script lines text bytes [] why (omega arith) plain r c.in_err-count.ensures more))

pub returns-in_err-count-clause-silent : goal.returns-in_err-count-clause-silent
returns-in_err-count-clause-silent c =
    let p = err_from_is_err_and c.from_residual.result c.from_residual.ensures.1 in
    rw (p.1, p.2) (room_silent _ _ _ c.in_err-count.field-0.0 c.in_err-count.ensures)

pub returns-then-is_err-clause-keeps : goal.returns-then-is_err-clause-keeps
returns-then-is_err-clause-keeps c = λ script lines text plain r more.
    let bytes = c.args.bytes.now in
    let P : List ℕ → Type 0 = λ whole. IsPlayedPart whole text in
    subst P (sym (append_assoc script bytes more)) (no_memory c.args.self.now script lines text (bytes ++ more) r)

pub returns-clause-keeps : goal.returns-clause-keeps
returns-clause-keeps c = λ script lines text plain r.
    let old = c.args.self.now in
    let bytes = c.args.bytes.now in
    let new : Session = record { stage = old.stage; begun = c.extend_from_slice.new.self; number = old.number; count = c.in_ok-count.count } in
    let begun : c.extend_from_slice.new.self.items ≡ old.begun.items ++ bytes = grind (arith, common_steps) in
    (lines, kept old new script lines text bytes c.in_ok-count.count plain r c.in_ok-count.ensures refl begun refl refl)
