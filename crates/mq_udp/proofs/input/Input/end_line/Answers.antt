use Rattle.std.proofs.Common.{◌≡◌, ℕ, List, [], ◌∷◌, ◌++◌, refl, subst, arith, inl, inr}
use Rattle.std.proofs.lemmas.Grind.{common_steps}
use Rattle.mq_play.specs.Lines.{IsPayload}
use Rattle.mq_udp.proofs.Cutting.{ended, line_bad}
use Rattle.mq_udp.proofs.input.Input.end_line.Goals as goal

pub returns-then-len-eq-MOST_PAYLOADS-clause-reads : goal.returns-then-len-eq-MOST_PAYLOADS-clause-reads
returns-then-len-eq-MOST_PAYLOADS-clause-reads c = λ text r. line_bad c.args.self.now text r (inl (omega arith))

pub returns-then-len-eq-MOST_PAYLOADS-clause-ends : goal.returns-then-len-eq-MOST_PAYLOADS-clause-ends
returns-then-len-eq-MOST_PAYLOADS-clause-ends c = (refl, inl (omega arith))

pub returns-in-Err-Syntax-clause-reads : goal.returns-in-Err-Syntax-clause-reads
returns-in-Err-Syntax-clause-reads c = λ text r.
    let none = rw (c.in-Err-Syntax.field-0-is) at c.in-Err-Syntax.ensures in
    let P : List ℕ → Type 0 = λ line. (payload : List ℕ) → IsPayload line payload → ⊥ in
    line_bad c.args.self.now text r (inr (subst P c.as_slice.ensures.value none))

pub returns-in-Err-Syntax-clause-ends : goal.returns-in-Err-Syntax-clause-ends
returns-in-Err-Syntax-clause-ends c =
    let none = rw (c.in-Err-Syntax.field-0-is) at c.in-Err-Syntax.ensures in
    let P : List ℕ → Type 0 = λ line. (payload : List ℕ) → IsPayload line payload → ⊥ in
    (refl, inr (subst P c.as_slice.ensures.value none))

pub returns-clause-reads : goal.returns-clause-reads
returns-clause-reads c = λ text r.
    let P : List ℕ → Type 0 = λ line. IsPayload line c.in-Ok.payload in
    let pushed : c.push.new.self.items ≡ c.args.self.now.payloads.items ++ c.in-Ok.payload ∷ [] = grind (arith, common_steps) in
    ended c.args.self.now _ text c.in-Ok.payload r (subst P c.as_slice.ensures.value c.in-Ok.ensures) c.clear.ensures.items pushed (omega (arith, r.spelled.few))
