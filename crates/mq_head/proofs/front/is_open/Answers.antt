use Rattle.std.proofs.Common.{◌≡◌, false, inl, inr, sym, ◌∙◌}
use Rattle.mq_head.specs.Heads.{ends_in_target}
use Rattle.mq_head.proofs.BytesLemmas.{target_ends}
use Rattle.mq_head.proofs.front.is_open.Goals as goal

pub returns-in-Open : goal.returns-in-Open
returns-in-Open c = λ _.
    let outside : ends_in_target c.args.front.now ≡ false = sym c.ends_in_target.ensures ∙ c.if-ends_in_target.false in
    record {
      none = c.in-Open.ensures.0;
      can = elim c.in-Open.ensures.1 [
        | inl can ↦ can
        | inr target ↦ (let inside = target_ends c.args.front.now target in absurd (cc))
      ];
      outside = outside;
    }
