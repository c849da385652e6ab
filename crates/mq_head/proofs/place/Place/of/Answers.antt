use Rattle.std.proofs.Common.{◌≡◌, List, ℕ, false, inl, inr, subst, sym, ◌∙◌}
use Rattle.mq_head.specs.declared.run.Run.{Run}
use Rattle.mq_head.specs.Heads.{ends_in_target}
use Rattle.mq_head.specs.Short.{short, run_of}
use Rattle.mq_head.specs.Places.{IsBehind}
use Rattle.mq_head.proofs.ShortLemmas.{is_behind}
use Rattle.mq_head.proofs.place.Place.of.Goals as goal

pub returns : goal.returns
returns c = λ more.
    let bytes = c.args.bytes.now in
    let outside : ends_in_target bytes ≡ false = sym c.ends_in_target.ensures ∙ c.if-ends_in_target.false in
    let is : IsBehind (short bytes) (run_of bytes) bytes = elim more.goes_on [
      | inl inside ↦ absurd (cc)
      | inr can ↦ is_behind bytes more.no_head can outside
    ] in
    subst (λ (r : Run). IsBehind c.in_ok-text.text.items r bytes) (sym c.in_ok-text.ensures.run)
    (subst (λ (t : List ℕ). IsBehind t (run_of bytes) bytes) (sym c.in_ok-text.ensures.text) is)
