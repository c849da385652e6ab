-- What the listed tunnels say of owners and of packets.
use Rattle.std.proofs.Common.{◌≡◌, ◌≢◌, ℕ, ◌<◌, ◌⊎◌, true, false, List, length, get_or, [], ◌∷◌, Option, Some, None, ap, sym, ◌∙◌, subst, inl, inr, arith}
use Rattle.std.specs.Prelude.{MatchOption, is_some}
use Rattle.std.specs.List.{All, Any, HoldsAt}
use Rattle.mq_addr.specs.declared.addr.Addr.{Addr}
use Rattle.mq_addr.specs.declared.range.Flow.{Flow}
use Rattle.mq_addr.specs.Block.{IsIn}
use Rattle.mq_addr.specs.Ranges.{InRange, Leads}
use Rattle.mq_talk.specs.declared.book.Config.{Config}
use Rattle.mq_talk.specs.declared.place.Place.TheVariants as place
use Rattle.mq_talk.specs.declared.place.Origin.TheVariants as origin
use Rattle.mq_talk.specs.declared.place.Verdict.{Verdict}
use Rattle.mq_talk.specs.declared.place.Verdict.TheVariants.{Pass, Source, NoRoute}
use Rattle.mq_talk.specs.Config.{IsConfig}
use Rattle.mq_talk.specs.Book.{History, is_live, actor_of, IsOwner, Owns}
use Rattle.mq_talk.specs.Answers.{IsLegal}
use Rattle.mq_talk.specs.Judging.{IsJudged, Reaches, HasNoOwner, IsItsOwn, IsRouted, IsInner}
use Rattle.mq_book.specs.declared.tunnel.Tunnel.{Tunnel}
use Rattle.mq_book.specs.Stand.{IsTunnel, AreLive, Has, Takes, IsToward, IsOnward}
use Rattle.mq_book.specs.Laws.{HasOneOwner}
use Rattle.std.proofs.lemmas.Bool.{cases_Bool}
use Rattle.mq_book.proofs.Standing.{listed}
use Rattle.mq_book.proofs.Owners.{leads_in}

pub owner_has : (h : History) (t : Tunnel) (a : Addr) → IsTunnel h t → Has t a → IsOwner h t.number a
unfolding Has
owner_has h t a is has = record {
  live = is.live;
  has = elim has [
    | inl x ↦ inl (subst (λ l. Any (λ g. IsIn g.block a) l) is.held_is x)
    | inr x ↦ inr (subst (λ l. Any (λ r. InRange r a) l) is.ranges_is x)
  ];
}

pub has_owner : (h : History) (t : Tunnel) (a : Addr) → IsTunnel h t → IsOwner h t.number a → Has t a
unfolding Has
has_owner h t a is owner = elim owner.has [
  | inl x ↦ inl (subst (λ l. Any (λ g. IsIn g.block a) l) (sym is.held_is) x)
  | inr x ↦ inr (subst (λ l. Any (λ r. InRange r a) l) (sym is.ranges_is) x)
]

owner_there : (h : History) (ts : List Tunnel) (a : Addr) (r : Option ℕ) → AreLive h ts → MatchOption r (All (λ t. ¬ (Has t a)) ts) (λ at. (at < length ts) × HoldsAt (λ t. Has t a) ts at)
    → MatchOption r (HasNoOwner h a) (λ at. (at < length ts) × HoldsAt (λ t. IsOwner h t.number a) ts at)
owner_there h ts a None live none = λ u owner.
    listed h ts u live owner.live (λ k d less same. none k d less (has_owner h (get_or ts k d) a (live.each k d less) (subst (λ n. IsOwner h n a) (sym same) owner)))
owner_there h ts a (Some at) live some = (some.0, λ d. owner_has h (get_or ts at d) a (live.each at d some.0) (some.1 d))

pub owner_found : (h : History) (xs ts : List Tunnel) (a : Addr) (r : Option ℕ) → xs ≡ ts → AreLive h ts → MatchOption r (All (λ t. ¬ (Has t a)) xs) (λ at. (at < length xs) × HoldsAt (λ t. Has t a) xs at)
    → MatchOption r (HasNoOwner h a) (λ at. (at < length ts) × HoldsAt (λ t. IsOwner h t.number a) ts at)
owner_found h xs ts a r same live m = owner_there h ts a r live (subst (λ l. MatchOption r (All (λ t. ¬ (Has t a)) l) (λ at. (at < length l) × HoldsAt (λ t. Has t a) l at)) same m)

pub at_owner : (h : History) (ts : List Tunnel) (at : ℕ) (t : Tunnel) (a : Addr) → t ≡ get_or ts at t → HoldsAt (λ t. IsOwner h t.number a) ts at → IsOwner h t.number a
at_owner h ts at t a is owner = subst (λ (x : Tunnel). IsOwner h x.number a) (sym is) (owner t)

pub some_owner : (h : History) (ts : List Tunnel) (a : Addr) (r : Option ℕ) → MatchOption r (HasNoOwner h a) (λ at. (at < length ts) × HoldsAt (λ t. IsOwner h t.number a) ts at) → is_some r ≡ true
    → (u : ℕ) × IsOwner h u a
some_owner h ts a None m some = cc
some_owner h [] a (Some at) m some = absurd (omega (arith, m.0))
some_owner h (t ∷ ts) a (Some at) m some = ((get_or (t ∷ ts) at t).number, m.1 t)

pub none_owner : (h : History) (ts : List Tunnel) (a : Addr) (r : Option ℕ) → MatchOption r (HasNoOwner h a) (λ at. (at < length ts) × HoldsAt (λ t. IsOwner h t.number a) ts at) → is_some r ≡ false
    → HasNoOwner h a
none_owner h ts a None m none = m
none_owner h ts a (Some at) m none = cc

pub live_is : (h : History) (ts : List Tunnel) (n : ℕ) (r : Option ℕ) → AreLive h ts → MatchOption r (All (λ t. t.number ≢ n) ts) (λ at. (at < length ts) × HoldsAt (λ t. t.number ≡ n) ts at) → is_some r ≡ is_live h n
live_is h ts n None live m =
    elim (cases_Bool (is_live h n)) [
      | inl held_on ↦ absurd (listed h ts n live held_on m)
      | inr gone ↦ sym gone
    ]
live_is h [] n (Some at) live m = absurd (omega (arith, m.0))
live_is h (t ∷ ts) n (Some at) live m = sym (ap (λ k. is_live h k) (sym (m.1 t)) ∙ (live.each at t m.0).live)

pub owns_its : (h : History) (t : Tunnel) (a : Addr) (p : ℕ) → IsTunnel h t → Any (λ g. IsIn g.block a) t.held ⊎ Leads t.ranges a p → Owns h t.number a p
owns_its h t a p is has = record {
  live = is.live;
  has = elim has [
    | inl x ↦ inl (subst (λ l. Any (λ g. IsIn g.block a) l) is.held_is x)
    | inr x ↦ inr (subst (λ l. Leads l a p) is.ranges_is x)
  ];
}

pub its_owns : (h : History) (t : Tunnel) (a : Addr) (p : ℕ) → IsTunnel h t → Owns h t.number a p → Any (λ g. IsIn g.block a) t.held ⊎ Leads t.ranges a p
its_owns h t a p is owns = elim owns.has [
  | inl x ↦ inl (subst (λ l. Any (λ g. IsIn g.block a) l) (sym is.held_is) x)
  | inr x ↦ inr (subst (λ l. Leads l a p) (sym is.ranges_is) x)
]

pub takes_reaches : (h : History) (t : Tunnel) (flow : Flow) → IsTunnel h t → Takes t flow → Reaches h flow t.number
takes_reaches h t flow is takes = record {
  owns = owns_its h t flow.target flow.protocol is takes.0;
  routed = subst (λ l. Leads l flow.source flow.protocol) is.routes_is takes.1;
}

pub reaches_takes : (h : History) (t : Tunnel) (flow : Flow) → IsTunnel h t → Reaches h flow t.number → Takes t flow
reaches_takes h t flow is r = (its_owns h t flow.target flow.protocol is r.owns, subst (λ l. Leads l flow.source flow.protocol) (sym is.routes_is) r.routed)

-- toward the owner of the target
pub onward : (config : Config) (h : History) (t : Tunnel) (flow : Flow) (v : Verdict) → IsTunnel h t → IsOwner h t.number flow.target → IsToward t flow v → IsOnward config h flow v
onward config h t flow Source is owner to = to
onward config h t flow NoRoute is owner to = inl (record { owner = t.number; is = owner; misses = λ r. to (reaches_takes h t flow is r) })
onward config h t flow (Pass (place.Tunnel u actor)) is owner to =
    let same = sym to.0 in record {
      reaches = subst (λ n. Reaches h flow n) same (takes_reaches h t flow is to.2);
      actor_is = to.1 ∙ is.actor_is ∙ ap (λ n. actor_of h n) same;
    }
onward config h t flow (Pass place.Net) is owner to = absurd to

-- the same of a packet of the network, since an address has one owner
pub inward : (config : Config) (h : History) (t : Tunnel) (flow : Flow) (v : Verdict) → HasOneOwner → IsConfig config → IsLegal config h → ¬ (IsInner config h flow.source)
    → IsTunnel h t → IsOwner h t.number flow.target → IsToward t flow v → IsJudged config h origin.Net flow v
inward config h t flow Source law good legal outer is owner to = absurd to
inward config h t flow NoRoute law good legal outer is owner to = (
  outer,
  λ u r.
      let same = law config h u t.number flow.target good legal (leads_in h u flow.target flow.protocol r.owns) owner in
      to (reaches_takes h t flow is (subst (λ n. Reaches h flow n) same r)),
)
inward config h t flow (Pass (place.Tunnel u actor)) law good legal outer is owner to =
    let same = sym to.0 in (
      outer,
      record {
        reaches = subst (λ n. Reaches h flow n) same (takes_reaches h t flow is to.2);
        actor_is = to.1 ∙ is.actor_is ∙ ap (λ n. actor_of h n) same;
      },
    )
inward config h t flow (Pass place.Net) law good legal outer is owner to = to

-- behind the source and the route
pub judged : (config : Config) (h : History) (t : ℕ) (flow : Flow) (v : Verdict) → IsItsOwn h t flow → IsRouted h t flow → IsOnward config h flow v → IsJudged config h (origin.Tunnel t) flow v
judged config h t flow Source own routed on = absurd on
judged config h t flow NoRoute own routed on = (own, inr (routed, on))
judged config h t flow (Pass (place.Tunnel u actor)) own routed on = (own, routed, on)
judged config h t flow (Pass place.Net) own routed on = (own, routed, on.0, on.1)

pub at_tunnel : (h : History) (ts : List Tunnel) (at : ℕ) (t : Tunnel) → AreLive h ts → at < length ts → t ≡ get_or ts at t → IsTunnel h t
at_tunnel h ts at t live less is = subst (IsTunnel h) (sym is) (live.each at t less)
