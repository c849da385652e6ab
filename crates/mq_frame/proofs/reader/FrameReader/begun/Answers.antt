use Rattle.std.proofs.Common.{◌≡◌, ℕ, not, List, [], ◌∷◌, length, ltb, eqb, refl, sym, ap, subst, ◌∙◌, arith}
use Rattle.std.proofs.lemmas.Bool.{lt-ltb, ne_eqb}
use Rattle.mq_frame.specs.declared.state.State.{State}
use Rattle.mq_frame.specs.Steps.{Holds}
use Rattle.mq_frame.proofs.Readers.{begun_rest, begun_ended}
use Rattle.mq_frame.proofs.reader.FrameReader.begun.Goals as goal

some : (bytes : List ℕ) → not (eqb (length bytes) 0) ≡ ltb 0 (length bytes)
some [] = refl
some (b ∷ bytes) = ap not (ne_eqb (length (b ∷ bytes)) 0 (λ e. omega arith)) ∙ sym (lt-ltb 0 (length (b ∷ bytes)) (omega arith))

pub returns-then-is_ended : goal.returns-then-is_ended
returns-then-is_ended c = λ bytes stands. (λ e. absurd cc, λ ends. absurd (begun_ended c.args.self.now bytes stands (sym c.is_ended.ensures ∙ c.if-is_ended.true) ends))

pub returns-in-Head : goal.returns-in-Head
returns-in-Head c = λ bytes stands. begun_rest c.args.self.now bytes _ stands (sym c.is_ended.ensures ∙ c.if-is_ended.false) (λ rest holds.
    let P : State → Type 0 = λ s. Holds s rest in
    let head = subst P c.in-Head.is holds in
    ap not c.is_empty.ensures ∙ some c.in-Head.bytes.items ∙ ap (λ (b : List ℕ). ltb 0 (length b)) (sym head.0))
