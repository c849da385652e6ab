use Rattle.std.proofs.Common.{List, [], ℕ, refl, subst}
use Rattle.mq_drawn.proofs.Chain.{Set, AreGood, good_at}
use Rattle.mq_drawn.proofs.Drawn.{all_good}
use Rattle.mq_drawn.proofs.laws.no_line_is_bad.Goals as goal

pub returns : goal.returns
returns c = λ seed count before line after fates text here is plays noted.
    let good = subst (λ (lines : List (List ℕ)). AreGood (Set []) lines) is (all_good c.printed_again.ensures seed count) in
    good_at c.one_saying.ensures before line after (Set []) good _ fates text here refl plays noted
