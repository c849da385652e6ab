-- The first rule that matches, by its place.
use Rattle.std.proofs.Common.{◌≡◌, ◌≢◌, ℕ, ◌+◌, ◌<◌, Bool, List, [], ◌∷◌, ◌++◌, length, take, drop, get_or, ap, sym, ◌∙◌, subst, arith, inl, inr, length-append}
use Rattle.std.specs.List.{AllWithin, HoldsAt}
use Rattle.std.proofs.lemmas.List.{take-append-drop, drop_more, get_or-take, get_or_append_left, length-take}
use Rattle.std.proofs.lemmas.Bool.{cases_order}
use Rattle.std.proofs.Math.Seq.{get_or-append_seam}
use Rattle.mq_talk.specs.declared.goal.Goal.{Goal}
use Rattle.mq_policy.specs.declared.rule.Rule.{Rule}
use Rattle.mq_policy.specs.Rules.{Matches, allows}
use Rattle.mq_policy.specs.Decisions.{NoneMatches, First}

-- the first rule is at this place, and says so
pub first_at : (rules : List Rule) (goal : Goal) (place : ℕ) (d : Rule) (allow : Bool) → place < length rules → HoldsAt (λ rule. Matches rule goal) rules place
    → AllWithin (λ rule. ¬ (Matches rule goal)) rules 0 place → allow ≡ allows (get_or rules place d)
    → (first : First rules goal) × (allows first.rule ≡ allow) × (length first.before ≡ place)
first_at rules goal place d allow within matches none says =
    let size : length (take place rules) ≡ place = omega (arith, length-take place rules) in (
      record {
        before = take place rules;
        rule = get_or rules place d;
        after = drop (place + 1) rules;
        is = sym (take-append-drop place rules) ∙ ap (λ rest. take place rules ++ rest) (drop_more rules place d within);
        matches = matches d;
        none_before = λ k e below. let less : k < place = omega arith in subst (λ rule. ¬ (Matches rule goal)) (sym (get_or-take place rules k e less)) (none k e (omega arith) less);
      },
      sym says,
      size,
    )

-- what stands at the place of the first that matches, and before it
at_first : (rules : List Rule) (goal : Goal) (f : First rules goal) (d : Rule) → get_or rules (length f.before) d ≡ f.rule
at_first rules goal f d = ap (λ list. get_or list (length f.before) d) f.is ∙ get_or-append_seam f.before f.rule f.after d

before_first : (rules : List Rule) (goal : Goal) (f : First rules goal) (k : ℕ) (d : Rule) → k < length f.before → ¬ (Matches (get_or rules k d) goal)
before_first rules goal f k d less =
    let same = ap (λ list. get_or list k d) f.is ∙ get_or_append_left f.before (f.rule ∷ f.after) d k less in
    subst (λ rule. ¬ (Matches rule goal)) (sym same) (f.none_before k d less)

earlier : (rules : List Rule) (goal : Goal) (f g : First rules goal) → length f.before < length g.before → ⊥
earlier rules goal f g less = before_first rules goal g (length f.before) f.rule less (subst (λ rule. Matches rule goal) (sym (at_first rules goal f f.rule)) f.matches)

-- there is one first
pub one_first : (rules : List Rule) (goal : Goal) (f g : First rules goal) → (f.rule ≡ g.rule) × (length f.before ≡ length g.before)
one_first rules goal f g =
    elim (cases_order (length f.before) (length g.before)) [
      | inl same ↦ (sym (at_first rules goal f f.rule) ∙ ap (λ k. get_or rules k f.rule) same ∙ at_first rules goal g f.rule, same)
      | inr (inl less) ↦ absurd (earlier rules goal f g less)
      | inr (inr more) ↦ absurd (earlier rules goal g f more)
    ]

-- where there is a first, there are rules, and one of them matches
pub some_rule : (rules : List Rule) (goal : Goal) → First rules goal → rules ≢ []
some_rule rules goal f none = absurd (omega (arith, ap length none, ap length f.is, length-append f.before (f.rule ∷ f.after)))

pub some_matches : (rules : List Rule) (goal : Goal) → First rules goal → ¬ (NoneMatches rules goal)
some_matches rules goal f none =
    let within : length f.before < length rules = omega (arith, ap length f.is, length-append f.before (f.rule ∷ f.after)) in
    none (length f.before) f.rule within (subst (λ rule. Matches rule goal) (sym (at_first rules goal f f.rule)) f.matches)
