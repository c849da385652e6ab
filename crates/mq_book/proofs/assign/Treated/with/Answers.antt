use Rattle.std.proofs.Common.{◌≤◌, ◌<◌, length, inl, inr, sym, subst, arith}
use Rattle.std.proofs.lemmas.Bool.{both_ways}
use Rattle.mq_talk.specs.Answers.{HasId, IsOffered}
use Rattle.mq_book.proofs.Treating.{denied_treats, given_treats}
use Rattle.mq_book.proofs.assign.Treated.with.Goals as goal

pub returns-then-len-ge-MOST_HELD : goal.returns-then-len-ge-MOST_HELD
returns-then-len-ge-MOST_HELD c =
    let many : 16 ≤ length c.args.self.held.items = omega arith in
    denied_treats c.args.setup.now.pool c.args.asked.now c.args.self c.denied.result c.denied.ensures.taken c.denied.ensures.held c.denied.ensures.denied (
      λ h. both_ways c.has_id.result c.if-has_id.false (c.has_id.ensures.1 (subst (λ l. HasId l c.args.asked.now) (sym c.as_slice.ensures.value) h)),
      inl many,
    )

pub returns-in-Some : goal.returns-in-Some
returns-in-Some c =
    let few : length c.args.self.held.items < 16 = omega arith in
    given_treats c.args.setup.now.pool c.args.asked.now c.in-Some.block c.args.self c.given.result c.given.ensures.taken c.given.ensures.held c.given.ensures.denied (
      λ h. both_ways c.has_id.result c.if-has_id.false (c.has_id.ensures.1 (subst (λ l. HasId l c.args.asked.now) (sym c.as_slice.ensures.value) h)),
      few,
      subst (λ o. IsOffered c.args.setup.now.pool c.args.self.taken.items c.args.asked.now o) c.in-Some.is
          (subst (λ l. IsOffered c.args.setup.now.pool l c.args.asked.now c.offer.result) c.as_slice-2.ensures.value c.offer.ensures),
    )

pub returns-in-None : goal.returns-in-None
returns-in-None c =
    let few : length c.args.self.held.items < 16 = omega arith in
    denied_treats c.args.setup.now.pool c.args.asked.now c.args.self c.denied-in-None.result c.denied-in-None.ensures.taken c.denied-in-None.ensures.held c.denied-in-None.ensures.denied (
      λ h. both_ways c.has_id.result c.if-has_id.false (c.has_id.ensures.1 (subst (λ l. HasId l c.args.asked.now) (sym c.as_slice.ensures.value) h)),
      inr (
        few,
        subst (λ o. IsOffered c.args.setup.now.pool c.args.self.taken.items c.args.asked.now o) c.in-None.is
            (subst (λ l. IsOffered c.args.setup.now.pool l c.args.asked.now c.offer.result) c.as_slice-2.ensures.value c.offer.ensures),
      ),
    )
