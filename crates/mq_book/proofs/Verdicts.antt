-- On legal histories there is one verdict.
use Rattle.std.proofs.Common.{◌≡◌, ℕ, ◌⊎◌, ap, sym, ◌∙◌, refl, subst, inl, inr}
use Rattle.mq_addr.specs.declared.range.Flow.{Flow}
use Rattle.mq_talk.specs.declared.book.Config.{Config}
use Rattle.mq_talk.specs.declared.place.Place.TheVariants as place
use Rattle.mq_talk.specs.declared.place.Origin.{Origin}
use Rattle.mq_talk.specs.declared.place.Origin.TheVariants as origin
use Rattle.mq_talk.specs.declared.place.Verdict.{Verdict}
use Rattle.mq_talk.specs.declared.place.Verdict.TheVariants.{Pass, Source, NoRoute}
use Rattle.mq_talk.specs.Config.{IsConfig, IsOurs}
use Rattle.mq_talk.specs.Book.{History, IsOwner, actor_of}
use Rattle.mq_talk.specs.Answers.{IsLegal}
use Rattle.mq_talk.specs.Judging.{IsJudged, Reaches, GoesTo, HasNoOwner, Misses, IsVacant, IsRouted}
use Rattle.mq_book.specs.Laws.{HasOneVerdict}
use Rattle.mq_book.proofs.Owners.{one_owner, leads_in}

-- a legal history under a configuration that may be
record Good (config : Config) (h : History) : Type 0 where
  config_is : IsConfig config
  legal : IsLegal config h

owner_of : (h : History) (flow : Flow) (u actor : ℕ) → GoesTo h flow u actor → IsOwner h u flow.target
owner_of h flow u actor g = leads_in h u flow.target flow.protocol g.reaches.owns

one_goal : (config : Config) (h : History) (flow : Flow) (u v a b : ℕ) → Good config h → GoesTo h flow u a → GoesTo h flow v b → Pass (place.Tunnel u a) ≡ Pass (place.Tunnel v b)
one_goal config h flow u v a b good x y =
    let same = one_owner config h u v flow.target good.config_is good.legal (owner_of h flow u a x) (owner_of h flow v b y) in
    let actors : a ≡ b = x.actor_is ∙ ap (λ t. actor_of h t) same ∙ sym y.actor_is in
    cc

not_missed : (config : Config) (h : History) (flow : Flow) (u a : ℕ) → Good config h → Misses h flow → GoesTo h flow u a → ⊥
not_missed config h flow u a good m g =
    let same = one_owner config h u m.owner flow.target good.config_is good.legal (owner_of h flow u a g) m.is in
    m.misses (subst (λ t. Reaches h flow t) same g.reaches)

stopped_or_passed : (config : Config) (h : History) (t u a : ℕ) (flow : Flow) → Good config h
    → ¬ (IsRouted h t flow) ⊎ (IsRouted h t flow × (Misses h flow ⊎ IsVacant config h flow)) → IsRouted h t flow → GoesTo h flow u a → ⊥
stopped_or_passed config h t u a flow good (inl stop) routed g = stop routed
stopped_or_passed config h t u a flow good (inr (way, inl m)) routed g = not_missed config h flow u a good m g
stopped_or_passed config h t u a flow good (inr (way, inr v)) routed g = v.no_owner u (owner_of h flow u a g)

stopped_or_out : (config : Config) (h : History) (t : ℕ) (flow : Flow)
    → ¬ (IsRouted h t flow) ⊎ (IsRouted h t flow × (Misses h flow ⊎ IsVacant config h flow)) → IsRouted h t flow → HasNoOwner h flow.target → ¬ (IsOurs config flow.target) → ⊥
stopped_or_out config h t flow (inl stop) routed free out = stop routed
stopped_or_out config h t flow (inr (way, inl m)) routed free out = free m.owner m.is
stopped_or_out config h t flow (inr (way, inr v)) routed free out = out v.ours

verdicts : (config : Config) (h : History) (o : Origin) (flow : Flow) (a b : Verdict) → Good config h → IsJudged config h o flow a → IsJudged config h o flow b → a ≡ b
verdicts config h (origin.Tunnel t) flow Source Source good x y = refl
verdicts config h (origin.Tunnel t) flow Source NoRoute good x y = absurd (x y.0)
verdicts config h (origin.Tunnel t) flow Source (Pass (place.Tunnel u a)) good x y = absurd (x y.0)
verdicts config h (origin.Tunnel t) flow Source (Pass place.Net) good x y = absurd (x y.0)
verdicts config h (origin.Tunnel t) flow NoRoute Source good x y = absurd (y x.0)
verdicts config h (origin.Tunnel t) flow NoRoute NoRoute good x y = refl
verdicts config h (origin.Tunnel t) flow NoRoute (Pass (place.Tunnel u a)) good x y = absurd (stopped_or_passed config h t u a flow good x.1 y.1 y.2)
verdicts config h (origin.Tunnel t) flow NoRoute (Pass place.Net) good x y = absurd (stopped_or_out config h t flow x.1 y.1 y.2 y.3)
verdicts config h (origin.Tunnel t) flow (Pass (place.Tunnel u a)) Source good x y = absurd (y x.0)
verdicts config h (origin.Tunnel t) flow (Pass (place.Tunnel u a)) NoRoute good x y = absurd (stopped_or_passed config h t u a flow good y.1 x.1 x.2)
verdicts config h (origin.Tunnel t) flow (Pass (place.Tunnel u a)) (Pass (place.Tunnel v b)) good x y = one_goal config h flow u v a b good x.2 y.2
verdicts config h (origin.Tunnel t) flow (Pass (place.Tunnel u a)) (Pass place.Net) good x y = absurd (y.2 u (owner_of h flow u a x.2))
verdicts config h (origin.Tunnel t) flow (Pass place.Net) Source good x y = absurd (y x.0)
verdicts config h (origin.Tunnel t) flow (Pass place.Net) NoRoute good x y = absurd (stopped_or_out config h t flow y.1 x.1 x.2 x.3)
verdicts config h (origin.Tunnel t) flow (Pass place.Net) (Pass (place.Tunnel v b)) good x y = absurd (x.2 v (owner_of h flow v b y.2))
verdicts config h (origin.Tunnel t) flow (Pass place.Net) (Pass place.Net) good x y = refl
verdicts config h origin.Net flow Source Source good x y = refl
verdicts config h origin.Net flow Source NoRoute good x y = absurd (y.0 x)
verdicts config h origin.Net flow Source (Pass (place.Tunnel u a)) good x y = absurd (y.0 x)
verdicts config h origin.Net flow Source (Pass place.Net) good x y = absurd y
verdicts config h origin.Net flow NoRoute Source good x y = absurd (x.0 y)
verdicts config h origin.Net flow NoRoute NoRoute good x y = refl
verdicts config h origin.Net flow NoRoute (Pass (place.Tunnel u a)) good x y = absurd (x.1 u y.1.reaches)
verdicts config h origin.Net flow NoRoute (Pass place.Net) good x y = absurd y
verdicts config h origin.Net flow (Pass (place.Tunnel u a)) Source good x y = absurd (x.0 y)
verdicts config h origin.Net flow (Pass (place.Tunnel u a)) NoRoute good x y = absurd (y.1 u x.1.reaches)
verdicts config h origin.Net flow (Pass (place.Tunnel u a)) (Pass (place.Tunnel v b)) good x y = one_goal config h flow u v a b good x.1 y.1
verdicts config h origin.Net flow (Pass (place.Tunnel u a)) (Pass place.Net) good x y = absurd y
verdicts config h origin.Net flow (Pass place.Net) b good x y = absurd x

pub one_verdict : HasOneVerdict
one_verdict config h origin flow a b good legal x y = verdicts config h origin flow a b (record { config_is = good; legal = legal }) x y
