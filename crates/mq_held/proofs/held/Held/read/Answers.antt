use Rattle.std.proofs.Common.{rules, ◌≡◌, ◌∙◌, ℕ, true, length, take, sym, ap, inl, inr}
use Rattle.mq_talk.specs.declared.note.Note.{Note}
use Rattle.mq_talk.specs.declared.note.Note.TheVariants as note
use Rattle.mq_machine.specs.State.{Conn}
use Rattle.mq_machine.specs.Steps.{can_read, finished}
use Rattle.mq_held.proofs.held.Held.read.Goals as goal
use Rattle.mq_held.proofs.Reading.{takes_piece, takes_end, some_read, size_read}

pub returns-in-Err-clause-gives : goal.returns-in-Err-clause-gives
returns-in-Err-clause-gives g c = λ s stands number.
    let can : can_read s ≡ true = sym (c.can_read.ensures s stands) ∙ c.if-not-can_read.false in
    let r = c.in-Bytes.ensures in
    let piece_is = c.split_at.ensures.front ∙ ap (λ (n : ℕ). take n c.read.new.into) c.size_of.ensures.size in
    let size : length c.read.new.into ≡ 16384 = search rules in
    let piece = takes_piece (g.L.Link.holds c.args.self.now.link) (g.L.Link.holds c.read.new.self) (g.L.Link.past c.args.self.now.link) (g.L.Link.past c.read.new.self) (g.L.Link.counts c.args.self.now.link) (g.L.Link.counts c.read.new.self)
    c.read.new.into c.split_at.result.0.now c.in-Bytes.count size r.some.0 r.some.1 r.reads r.past r.counts piece_is in
    (can, (c.split_at.result.0.now, piece), c.in-Err.ensures.takes (some_read c.read.new.into c.split_at.result.0.now c.in-Bytes.count r.some.0 r.some.1 piece_is) s stands)

pub returns-in-End-clause-gives : goal.returns-in-End-clause-gives
returns-in-End-clause-gives g c = λ s stands number.
    let can : can_read s ≡ true = sym (c.can_read.ensures s stands) ∙ c.if-not-can_read.false in
    let does = takes_end (g.L.Link.holds c.args.self.now.link) (g.L.Link.holds c.read.new.self) (g.L.Link.past c.args.self.now.link) (g.L.Link.past c.read.new.self) (g.L.Link.counts c.args.self.now.link) (g.L.Link.counts c.read.new.self)
    c.read.new.into c.in-End.ensures.reads c.in-End.ensures.past c.in-End.ensures.counts in
    let f = c.finish.ensures s stands can in
    let t : Conn = (finished s f.0).1 in
    rw (c.put_note.ensures) (can, (t, inr (f.0, does, f.1, ap {B = Note × Conn} (λ (n : ℕ). (note.Finished n, t)) number), f.2))

pub returns-in-Ok-clause-gives : goal.returns-in-Ok-clause-gives
returns-in-Ok-clause-gives g c = λ s stands number.
    let can : can_read s ≡ true = sym (c.can_read.ensures s stands) ∙ c.if-not-can_read.false in
    let r = c.in-Bytes.ensures in
    let piece_is = c.split_at.ensures.front ∙ ap (λ (n : ℕ). take n c.read.new.into) c.size_of.ensures.size in
    let size : length c.read.new.into ≡ 16384 = search rules in
    let piece = takes_piece (g.L.Link.holds c.args.self.now.link) (g.L.Link.holds c.read.new.self) (g.L.Link.past c.args.self.now.link) (g.L.Link.past c.read.new.self) (g.L.Link.counts c.args.self.now.link) (g.L.Link.counts c.read.new.self)
    c.read.new.into c.split_at.result.0.now c.in-Bytes.count size r.some.0 r.some.1 r.reads r.past r.counts piece_is in
    let f = c.in-Ok.ensures.takes (some_read c.read.new.into c.split_at.result.0.now c.in-Bytes.count r.some.0 r.some.1 piece_is) s stands can in
    let is = ap {B = Note} (λ (n : ℕ). note.Took n c.in-Bytes.count) (sym number) ∙ ap {B = Note} (λ (n : ℕ). note.Took s.number n) (size_read c.read.new.into c.split_at.result.0.now c.in-Bytes.count r.some.1 piece_is) in
    rw (c.put_note-in-Ok.ensures) (can, (f.0, inl (c.split_at.result.0.now, piece, f.2, is), f.1))
