-- What the bytes of a data stream ask for.
use Rattle.std.proofs.Common.{◌≡◌, inl, inr, ℕ, ◌+◌, cond, Bool, true, false, not, ◌&&◌, List, [], ◌∷◌, ◌++◌, Result, Ok, Err, refl, sym, ap, ◌∙◌, subst, arith, append_assoc}
use Rattle.std.specs.Prelude.{OnOk}
use Rattle.mq_wire.specs.declared.NoMemory.{NoMemory}
use Rattle.mq_wire.specs.Integer.{int_of}
use Rattle.mq_addr.specs.declared.kind.Kind.{Kind}
use Rattle.mq_capsule.specs.declared.item.Item.{Item}
use Rattle.mq_capsule.specs.Capsule.{capsule_of, head_of}
use Rattle.mq_capsule.specs.Items.{ItemsOf}
use Rattle.mq_capsule.specs.Readers.{Stands, StandsOn, GivesItems}
use Rattle.mq_talk.specs.declared.goal.Goal.{Goal}
use Rattle.mq_talk.specs.declared.note.Why.{Why}
use Rattle.mq_machine.specs.declared.act.StreamAct.{StreamAct}
use Rattle.mq_machine.specs.declared.act.StreamAct.TheVariants as stream
use Rattle.mq_machine.specs.declared.act.Due.{Due}
use Rattle.mq_machine.specs.Reading.{EndsWith, acts_of, has_values, payload_count, on_stream, then_acts}
use Rattle.mq_machine.specs.State.{Stream, kind_of}
use Rattle.mq_front.specs.declared.data.DataStream.{DataStream}
use Rattle.mq_front.specs.declared.items.Carrier.{Carrier}
use Rattle.mq_front.specs.Data.{IsStream, EndsAs, Took, Takes}
use Rattle.mq_front.specs.Items.{PutsItems}
use Rattle.mq_front.specs.Limits.{AllMayAct}
use Rattle.mq_front.proofs.ItemLists.{on_both}
use Rattle.mq_front.proofs.Limits.{may_end, may_then}

nothing_said : (control : Bool) → ItemsOf control [] []
unfolding capsule_of head_of int_of
nothing_said control = record { capsules = []; rest = []; are = (refl, refl); items_are = refl }

-- one of which nothing was read
pub fresh : (d : DataStream) (id : ℕ) (g : Goal) → d.id ≡ id → d.kind ≡ kind_of g → d.n ≡ 0 → Stands d.reader (has_values g) [] → IsStream d (record { id = id; goal = g; bytes = [] })
fresh d id g same kind_is zero_is stands = record { id_is = same; kind_is = kind_is; items = []; stands = stands; items_are = nothing_said (has_values g); next = zero_is }

pub payloads_both : (xs ys : List Item) → payload_count (xs ++ ys) ≡ payload_count xs + payload_count ys
payloads_both [] ys = omega arith
payloads_both (x ∷ xs) ys = let rest = payloads_both xs ys in omega (arith, rest)

-- ---- more bytes of a data stream

-- where it ends, and where it doesn't
abbrev end_acts : Bool → Why → List StreamAct
end_acts ends why = cond ends (stream.Close why ∷ []) []

ends_inside : (d : DataStream) (g : Goal) (bytes : List ℕ) (why : Why) → Stands d.reader (has_values g) bytes → EndsAs d why → EndsWith g bytes true (stream.Close why ∷ [])
ends_inside d g bytes why stands (true, why_is, tells) = inl ((tells (has_values g) bytes stands).0 refl, ap (λ (w : Why). stream.Close w ∷ []) why_is)
ends_inside d g bytes why stands (false, why_is, tells) =
    inr (λ inside. (let e : false ≡ true = (tells (has_values g) bytes stands).1 inside in cc), ap (λ (w : Why). stream.Close w ∷ []) why_is)

ends_by : (d : DataStream) (g : Goal) (bytes : List ℕ) (ends : Bool) (why : Why) → Stands d.reader (has_values g) bytes → EndsAs d why → EndsWith g bytes ends (end_acts ends why)
ends_by d g bytes true why stands is = ends_inside d g bytes why stands is
ends_by d g bytes false why stands is = refl

unless_closed : (e c : Bool) (l : List StreamAct) → cond (e && not c) l [] ≡ cond c [] (cond e l [])
unless_closed true true l = refl
unless_closed true false l = refl
unless_closed false true l = refl
unless_closed false false l = refl

abbrev origin_of : DataStream → ℕ → Carrier
origin_of d mtu = record { stream = d.id; kind = d.kind; mtu = mtu }

-- its end was put, unless the tunnel is to close before
took : (old new : DataStream) (bytes : List ℕ) (ends closes : Bool) (given : List Item) (why : Why) (before mid after : List Due) (mtu : ℕ) (s : Stream) → new.id ≡ old.id → new.kind ≡ old.kind
    → GivesItems old.reader bytes given → StandsOn old.reader new.reader bytes → PutsItems (origin_of old mtu) old.n given before mid new.n closes → EndsAs new why
    → after ≡ mid ++ on_stream old.id (cond (ends && not closes) (stream.Close why ∷ []) []) → IsStream old s → Took mtu s bytes ends before after new
took old new bytes ends closes given why before mid after mtu s same same_kind gives on puts ended after_is is =
    let control = has_values s.goal in
    let whole = gives control s.bytes is.items is.stands is.items_are in
    let stands = on control s.bytes is.stands in
    let last = end_acts ends why in
    let acts : Kind → ℕ → List StreamAct = λ k n. acts_of k mtu n given in
    let asked = then_acts (acts (kind_of s.goal) (payload_count is.items)) last in
    let F : Bool → List Due = λ c. before ++ on_stream old.id (acts old.kind old.n ++ cond c [] last) in
    let same_acts : acts old.kind old.n ≡ acts (kind_of s.goal) (payload_count is.items) =
    ap (λ (k : Kind). acts k old.n) is.kind_is ∙ ap (λ (n : ℕ). acts (kind_of s.goal) n) is.next in
    record {
      asked = asked;
      asks = record { before = is.items; items = given; last = last; was = is.items_are; is = whole; ends_in = ends_by new s.goal (s.bytes ++ bytes) ends why stands ended; acts_are = refl };
      may = may_then (acts (kind_of s.goal) (payload_count is.items)) last (subst AllMayAct same_acts puts.3) (may_end ends why);
      after_is =
          after_is
          ∙ ap (λ (xs : List StreamAct). mid ++ on_stream old.id xs) (unless_closed ends closes (stream.Close why ∷ []))
          ∙ ap (λ (ds : List Due). ds ++ on_stream old.id (cond closes [] last)) puts.0
          ∙ append_assoc before (on_stream old.id (acts old.kind old.n)) (on_stream old.id (cond closes [] last))
          ∙ ap (λ (ds : List Due). before ++ ds) (sym (on_both old.id (acts old.kind old.n) (cond closes [] last)))
          ∙ ap F puts.2
          ∙ ap (λ (xs : List StreamAct). before ++ on_stream old.id (then_acts xs last)) same_acts
          ∙ ap (λ (i : ℕ). before ++ on_stream i asked) is.id_is;
      stands = record {
        id_is = same ∙ is.id_is;
        kind_is = same_kind ∙ is.kind_is;
        items = is.items ++ given;
        stands = stands;
        items_are = whole;
        next = puts.1 ∙ ap (λ (n : ℕ). n + payload_count given) is.next ∙ sym (payloads_both is.items given);
      };
    }

pub took_all : (old new : DataStream) (bytes : List ℕ) (ends closes : Bool) (given : List Item) (why : Why) (before mid after : List Due) (mtu : ℕ) (result : Result (Unit {0}) NoMemory) → new.id ≡ old.id → new.kind ≡ old.kind
    → GivesItems old.reader bytes given → StandsOn old.reader new.reader bytes → PutsItems (origin_of old mtu) old.n given before mid new.n closes → EndsAs new why
    → OnOk result (after ≡ mid ++ on_stream old.id (cond (ends && not closes) (stream.Close why ∷ []) [])) → OnOk result (Takes mtu old bytes ends before after new)
took_all old new bytes ends closes given why before mid after mtu (Err refused) same same_kind gives on puts ended h = tt
took_all old new bytes ends closes given why before mid after mtu (Ok done) same same_kind gives on puts ended h = λ s is. took old new bytes ends closes given why before mid after mtu s same same_kind gives on puts ended h is
