use Rattle.std.proofs.Common.{◌≡◌, ◌≤◌, ◌+◌, ℕ, Bool, true, false, cond, eqb, ◌∷◌, refl, sym, ap, subst, ◌∙◌, arith}
use Rattle.std.proofs.lemmas.Bool.{eq-eqb}
use Rattle.mq_streams.specs.History.{Consumed, total, consumed_on, arrived_on}
use Rattle.mq_h2.specs.declared.event.StreamEvent.{StreamEvent}
use Rattle.mq_h2.specs.declared.parts.Core.{Core}
use Rattle.mq_h2.specs.State.{with_history}
use Rattle.mq_h2.specs.Reading.{is_withdrawn, drained_by, told_on}
use Rattle.mq_h2.specs.Stand.{Serves}
use Rattle.mq_h2.proofs.Cores.{serves_on}
use Rattle.mq_h2.proofs.parts.Core.drain_event.Goals as goal

pub returns-then-has-clause-serves : goal.returns-then-has-clause-serves
returns-then-has-clause-serves c = λ events are s serves held.
    let n : ℕ = c.in-Content.stream in
    let len : ℕ = c.in-Content.length in
    let gone : is_withdrawn events n ≡ true = sym (are n) ∙ sym c.has.ensures ∙ c.if-has.true in
    let here : total (consumed_on n) s.history + cond (eqb n n) len 0 ≤ total (arrived_on n) s.history =
    subst (λ (e : StreamEvent). total (consumed_on n) s.history + told_on n e ≤ total (arrived_on n) s.history) c.in-Content.is (held n) in
    let one : cond (eqb n n) len 0 ≡ len = ap (λ (b : Bool). cond b len 0) (eq-eqb n n refl) in
    let stand = c.consumed.ensures s.history serves.streams (omega (arith, here, one)) in
    let d : Core = record c.args.self.now { streams = c.consumed.new.self } in
    let Q : Bool → Type 0 = λ b. Serves d (with_history (cond b (Consumed n len ∷ s.history) s.history) s) in
    let P : StreamEvent → Type 0 = λ e. Serves d (with_history (drained_by events e s.history) s) in
    subst P (sym c.in-Content.is) (subst Q (sym gone) (serves_on c.args.self.now s serves c.consumed.new.self (Consumed n len ∷ s.history) stand))

pub returns-else-has-clause-serves : goal.returns-else-has-clause-serves
returns-else-has-clause-serves c = λ events are s serves held.
    let n : ℕ = c.in-Content.stream in
    let len : ℕ = c.in-Content.length in
    let stays : is_withdrawn events n ≡ false = sym (are n) ∙ sym c.has.ensures ∙ c.if-has.false in
    let Q : Bool → Type 0 = λ b. Serves c.args.self.now (with_history (cond b (Consumed n len ∷ s.history) s.history) s) in
    let P : StreamEvent → Type 0 = λ e. Serves c.args.self.now (with_history (drained_by events e s.history) s) in
    subst P (sym c.in-Content.is) (subst Q (sym stays) serves)
