use Rattle.std.proofs.Common.{◌≡◌, ℕ, List, Ok, Err, true, refl, subst, rules}
use Rattle.std.proofs.lemmas.Result.{err_from_is_err_and}
use Rattle.mq_top.proofs.Counting.{given_line, shorter_by, soaks_line, soaks_stopped}
use Rattle.mq_replay.specs.Listening.{IsNoted}
use Rattle.mq_replay.specs.Playing.{LineTo}
use Rattle.mq_top.proofs.soaking.GeneratedPlay.play_next.Goals as goal

pub returns-clause-goes : goal.returns-clause-goes
returns-clause-goes c = λ lines is.
    let yes : c.in_ok-next_line.field-0 ≡ true = search rules in
    let first = given_line c.in_ok-next_line.field-0 _ c.next_line.new.self _ c.next_line.new.out.items yes c.clear.ensures.items c.in_ok-next_line.ensures in
    let told = c.in_ok-play_line.ensures.line in
    let P : List ℕ → Type 0 = λ text. LineTo IsNoted is.here text told.0 (Ok tt) c.play_line.new.stage in
    soaks_line c.args.self.now _ lines c.next_line.new.self c.next_line.new.out.items told.0 is first (subst P c.as_slice.ensures.value (told.2 is.here is.stands)) told.1 refl refl

pub returns-clause-shorter : goal.returns-clause-shorter
returns-clause-shorter c = λ done.
    let yes : c.in_ok-next_line.field-0 ≡ true = search rules in
    let first = given_line c.in_ok-next_line.field-0 _ c.next_line.new.self _ c.next_line.new.out.items yes c.clear.ensures.items c.in_ok-next_line.ensures in
    shorter_by _ c.next_line.new.self c.next_line.new.out.items first

pub returns-in_err-play_line-clause-goes : goal.returns-in_err-play_line-clause-goes
returns-in_err-play_line-clause-goes c = λ lines is.
    let yes : c.in_ok-next_line.field-0 ≡ true = search rules in
    let first = given_line c.in_ok-next_line.field-0 _ c.next_line.new.self _ c.next_line.new.out.items yes c.clear.ensures.items c.in_ok-next_line.ensures in
    let told = c.in_err-play_line.ensures.line in
    let why = c.in_err-play_line.field-0.0 in
    let answer = c.from_residual-in_err-play_line in
    let p = err_from_is_err_and answer.result answer.ensures.1 in
    let P : List ℕ → Type 0 = λ text. LineTo IsNoted is.here text told.0 (Err why) c.play_line.new.stage in
    rw (p.1, p.2) (soaks_stopped c.args.self.now _ lines c.next_line.new.self c.next_line.new.out.items told.0 why c.play_line.new.stage is first (subst P c.as_slice.ensures.value (told.2 is.here is.stands)) c.in_err-play_line.ensures.counts refl)
