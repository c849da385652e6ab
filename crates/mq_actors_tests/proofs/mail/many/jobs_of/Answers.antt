use Rattle.std.proofs.Common.{◌≡◌, ◌∷◌, suc, List, All, length, ap, ◌∙◌, subst, arith}
use Rattle.mq_mail.specs.Posts.{PostId, KeyOf}
use Rattle.mq_actors_tests.proofs.mail.many.jobs_of.Goals as goal

all_front : (post : PostId) (x : KeyOf) (all rest : List KeyOf) → all ≡ x ∷ rest → All (λ (key : KeyOf). key.post ≡ post) all → x.post ≡ post
all_front post x all rest e h = let P : List KeyOf → Type 0 = All (λ (key : KeyOf). key.post ≡ post) in subst P e h 0 x (omega arith)

all_behind : (post : PostId) (x : KeyOf) (all rest : List KeyOf) → all ≡ x ∷ rest → All (λ (key : KeyOf). key.post ≡ post) all → All (λ (key : KeyOf). key.post ≡ post) rest
all_behind post x all rest e h = let P : List KeyOf → Type 0 = All (λ (key : KeyOf). key.post ≡ post) in λ k d lt. subst P e h (suc k) d (omega (arith, lt))

pub invariant_of-push : goal.invariant_of-push
invariant_of-push c =
    let same = all_front _ _ _ _ c.first_of-key.ensures c.loop-i.invariant.keys in
    record { same = same; size = ap length same ∙ c.requires.size.0 }

pub loop-i-preserved : goal.loop-i-preserved
loop-i-preserved c = record {
  size = omega (arith, c.loop-i.invariant.size, ap length c.first_of-key.ensures);
  keys = all_behind _ _ _ _ c.first_of-key.ensures c.loop-i.invariant.keys;
}
