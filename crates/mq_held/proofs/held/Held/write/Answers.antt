use Rattle.std.proofs.Common.{◌≤◌, ◌∙◌, ℕ, List, length, take, ap, subst, arith}
use Rattle.mq_machine.specs.State.{owed}
use Rattle.mq_machine.specs.Steps.{wrote}
use Rattle.mq_talk.specs.declared.note.Note.TheVariants as note
use Rattle.mq_held.specs.Links.{WriteDoes}
use Rattle.mq_held.proofs.held.Held.write.Goals as goal
use Rattle.mq_held.proofs.Writing.{write_does}

pub returns-in-Took-clause-gives : goal.returns-in-Took-clause-gives
returns-in-Took-clause-gives g c = λ s stands number.
    let old = c.args.self.now in
    let e = c.in-Took.ensures in
    let same = c.owed-owed.ensures s stands in
    let within : c.in-Took.count ≤ length (owed s) = omega (arith, e.some.1, ap (λ (xs : List ℕ). length xs) same) in
    let does =
    write_does (g.L.Link.holds old.link) (g.L.Link.holds c.write.new.self) (g.L.Link.past old.link) (g.L.Link.past c.write.new.self) (g.L.Link.counts old.link) (g.L.Link.counts c.write.new.self) s
    c.owed-owed.result.now c.filled-bytes.result c.in-Took.count same e.some.0 e.some.1 c.size_of.ensures.small e.writes e.counts (c.filled-bytes.ensures ∙ c.split_at.ensures.front ∙ ap (λ (n : ℕ). take n c.owed-owed.result.now) c.size_of.ensures.size) in
    let P : ℕ → Type 0 = λ n. WriteDoes (record { holds = g.L.Link.holds old.link; after = g.L.Link.holds c.write.new.self; past = g.L.Link.past old.link; past_after = g.L.Link.past c.write.new.self; counts = g.L.Link.counts old.link; counts_after = g.L.Link.counts c.write.new.self }) s
    (note.Wrote n c.filled-bytes.result) (wrote s c.in-Took.count).1 in
    rw (c.put_note.ensures) ((wrote s c.in-Took.count).1, subst P number does, c.wrote.ensures s stands within)
