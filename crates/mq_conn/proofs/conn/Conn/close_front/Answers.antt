use Rattle.std.proofs.Common.{not, Option, Some, ◌≡◌, sym, ap, subst, ◌∙◌}
use Rattle.mq_talk.specs.declared.note.End.{End}
use Rattle.mq_machine.specs.Done.{closing}
use Rattle.mq_machine.specs.Putting.{first_of, putting}
use Rattle.mq_machine.specs.State.{owed}
use Rattle.mq_conn.specs.Conns.{Stands}
use Rattle.mq_conn.proofs.Standing.{closes_given, closes_puts, first_later, first_stands, reads}
use Rattle.mq_conn.proofs.conn.Conn.close_front.Goals as goal

pub returns-in_default : goal.returns-in_default
returns-in_default c = λ s t st on begun conn. closes_given c.args.self.now s t c.args.why c.in_default.is conn st

pub returns-then-is_none : goal.returns-then-is_none
returns-then-is_none c = λ s t st on begun conn.
    let old = c.args.self.now in
    let f = c.in-Some.front in
    let g = c.close-end.new.self in
    let reason = c.args.why in
    let put = closing s.front t reason in
    let h = c.close-end.ensures s.front s.streams (owed s) (reads old s f c.in-Some.is st) t on begun in
    let e : first_of old.ending put.ending ≡ c.close-end.result = first_later old.ending put.ending (c.is_none.ensures ∙ ap not c.if-is_none.true) ∙ sym h.1 in
    let P : Option End → Type 0 = λ x. Stands (record old { front = Some g; ending = x }) (putting s put) in
    subst P e (closes_puts old s t reason f g c.in-Some.is h.0 st)

pub returns-else-is_none : goal.returns-else-is_none
returns-else-is_none c = λ s t st on begun conn.
    let old = c.args.self.now in
    let f = c.in-Some.front in
    let g = c.close-end.new.self in
    let reason = c.args.why in
    let put = closing s.front t reason in
    let h = c.close-end.ensures s.front s.streams (owed s) (reads old s f c.in-Some.is st) t on begun in
    let e : first_of old.ending put.ending ≡ old.ending = first_stands old.ending put.ending (c.is_none.ensures ∙ ap not c.if-is_none.false) in
    let P : Option End → Type 0 = λ x. Stands (record old { front = Some g; ending = x }) (putting s put) in
    subst P e (closes_puts old s t reason f g c.in-Some.is h.0 st)
