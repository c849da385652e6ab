-- What heads of HTTP/1.1 lead to, and the bytes behind them.
use Rattle.std.proofs.Common.{◌≡◌, ◌==◌, ℕ, min, Bool, true, false, List, [], ◌∷◌, ◌++◌, length, drop, Option, Some, None, Result, Ok, Err, refl, sym, ap, ◌∙◌, subst, append_assoc, append-nil, arith, eqb-true}
use Rattle.std.proofs.lemmas.List.{nil_from_length}
use Rattle.std.specs.Prelude.{OnOk}
use Rattle.mq_addr.specs.declared.kind.Kind.{Kind}
use Rattle.mq_capsule.specs.Readers.{Stands, TellsBegun}
use Rattle.mq_wire.specs.declared.NoMemory.{NoMemory}
use Rattle.mq_head.specs.declared.step.HeadStep.TheVariants.{Upgrade, Refuse}
use Rattle.mq_head.specs.Steps.{IsStep}
use Rattle.mq_talk.specs.declared.goal.Goal.{Goal}
use Rattle.mq_talk.specs.declared.note.Why.{Why}
use Rattle.mq_talk.specs.declared.note.Why.TheVariants as why
use Rattle.mq_machine.specs.declared.act.Act.TheVariants as act
use Rattle.mq_machine.specs.declared.act.StreamAct.{StreamAct}
use Rattle.mq_machine.specs.declared.act.Due.{Due}
use Rattle.mq_machine.specs.declared.act.Due.TheVariants as due
use Rattle.mq_machine.specs.declared.setup.Setup.{Setup}
use Rattle.mq_machine.specs.Reading.{HeadBrings, BytesAsk, Request, Leads, Refused, PathMeans, EndsIn, EndsBy, content_of, EventsAsk, goal_act, has_values, on_stream}
use Rattle.mq_machine.specs.State.{Stream, Tunnel, OverHttp1}
use Rattle.mq_front.specs.declared.data.DataStream.{DataStream}
use Rattle.mq_front.specs.declared.http1.Http1.{Http1 as One}
use Rattle.mq_front.specs.Data.{IsStream, EndsAs, Takes}
use Rattle.mq_front.specs.Fronts.{IsHttp1}
use Rattle.mq_front.specs.Parts.{ReadsData, ReadsFirst, LedTo, AnswersHead, EndsData}
use Rattle.mq_front.proofs.Limits.{may_lead, may_on}

-- ---- more bytes of a data stream

abbrev on_zero : Goal → List ℕ → Stream
on_zero g bytes = record { id = 0; goal = g; bytes = bytes }

is_zero : (s : Stream) → s.id ≡ 0 → s ≡ on_zero s.goal s.bytes
is_zero s e = ap (λ (i : ℕ). record { id = i; goal = s.goal; bytes = s.bytes }) e

-- no data stream was asked for
pub content_none : (mtu : ℕ) (ts : List Tunnel) (bytes : List ℕ) → EventsAsk mtu ts [] (content_of bytes) [] []
content_none mtu ts [] = (refl, refl)
content_none mtu ts (b ∷ bytes) = ([], [], [], (refl, refl), (refl, refl), refl)

content_some : (mtu : ℕ) (ts : List Tunnel) (g : Goal) (known bytes : List ℕ) (asked : List StreamAct) → (length bytes == 0) ≡ false → BytesAsk mtu (on_zero g known) bytes false asked
    → EventsAsk mtu ts (on_zero g known ∷ []) (content_of bytes) (on_stream 0 asked) (on_zero g (known ++ bytes) ∷ [])
content_some mtu ts g known [] asked some ask = absurd cc
content_some mtu ts g known (b ∷ bytes) asked some ask =
    (on_stream 0 asked, on_zero g (known ++ b ∷ bytes) ∷ [], [], ((asked, ask, sym (append-nil (on_stream 0 asked))), refl), (refl, refl), sym (append-nil (on_stream 0 asked)))

reads_some : (mtu : ℕ) (old new : DataStream) (kept bytes : List ℕ) (before after : List Due) → (length bytes == 0) ≡ false → Takes mtu old bytes false before after new
    → ReadsData mtu (record { stream = Some old; owed = kept }) bytes before after (record { stream = Some new; owed = kept })
reads_some mtu old new kept bytes before after some takes ts streams owed ((s, only, at, stands), owed_is) =
    let same = is_zero s at in
    let t = takes (on_zero s.goal s.bytes) (subst (λ (u : Stream). IsStream old u) same stands) in
    let P : List Stream → Type 0 = λ ss. EventsAsk mtu ts ss (content_of bytes) (on_stream 0 t.asked) (on_zero s.goal (s.bytes ++ bytes) ∷ []) in
    record {
      acts = on_stream 0 t.asked;
      others = on_zero s.goal (s.bytes ++ bytes) ∷ [];
      asks = subst P (sym (only ∙ ap (λ (u : Stream). u ∷ []) same)) (content_some mtu ts s.goal s.bytes bytes t.asked some t.asks);
      may = may_on 0 t.asked t.may;
      after_is = t.after_is;
      stands = ((on_zero s.goal (s.bytes ++ bytes), refl, refl, t.stands), owed_is);
    }

pub reads_taken : (mtu : ℕ) (old : One) (d new : DataStream) (bytes : List ℕ) (before after : List Due) (result : Result (Unit {0}) NoMemory) → old.stream ≡ Some d → (length bytes == 0) ≡ false
    → OnOk result (Takes mtu d bytes false before after new) → OnOk result (ReadsData mtu old bytes before after (record { stream = Some new; owed = old.owed }))
reads_taken mtu old d new bytes before after (Err refused) is some h = tt
reads_taken mtu old d new bytes before after (Ok done) is some h =
    let P : Option DataStream → Type 0 = λ o. ReadsData mtu (record { stream = o; owed = old.owed }) bytes before after (record { stream = Some new; owed = old.owed }) in
    subst P (sym is) (reads_some mtu d new old.owed bytes before after some h)

-- behind a refused request, or a closed tunnel
reads_past : (mtu : ℕ) (kept bytes : List ℕ) (before : List Due) → ReadsData mtu (record { stream = None; owed = kept }) bytes before before (record { stream = None; owed = kept })
reads_past mtu kept bytes before ts streams owed (none, owed_is) =
    let P : List Stream → Type 0 = λ ss. EventsAsk mtu ts ss (content_of bytes) [] [] in
    record { acts = []; others = []; asks = subst P (sym none) (content_none mtu ts bytes); may = tt; after_is = sym (append-nil before); stands = (refl, owed_is) }

pub reads_over : (mtu : ℕ) (old : One) (bytes : List ℕ) (before : List Due) → old.stream ≡ None → ReadsData mtu old bytes before before old
reads_over mtu old bytes before is =
    let P : Option DataStream → Type 0 = λ o. ReadsData mtu (record { stream = o; owed = old.owed }) bytes before before (record { stream = o; owed = old.owed }) in
    subst P (sym is) (reads_past mtu old.owed bytes before)

pub reads_none : (mtu : ℕ) (old : One) (bytes : List ℕ) (before : List Due) → (length bytes == 0) ≡ true → ReadsData mtu old bytes before before old
reads_none mtu old bytes before none =
    let P : List ℕ → Type 0 = λ xs. ReadsData mtu old xs before before old in
    subst P (sym (nil_from_length bytes (eqb-true (length bytes) 0 none)))
    (λ ts streams owed is. record { acts = []; others = streams; asks = (refl, refl); may = tt; after_is = sym (append-nil before); stands = is })

-- ---- heads

refused_so : (setup : Setup) (ts : List Tunnel) (known bytes behind : List ℕ) (before after : List Due) (status rule : ℕ) (new : One)
    → HeadBrings setup known bytes (Request 0 (Refused status rule) false ∷ content_of behind) OverHttp1 → after ≡ before ++ due.Do (act.Refuse 0 status rule) ∷ [] → IsHttp1 new [] []
    → LedTo setup ts known bytes before after new
refused_so setup ts known bytes behind before after status rule new brings after_is stands = record {
  events = Request 0 (Refused status rule) false ∷ content_of behind;
  acts = due.Do (act.Refuse 0 status rule) ∷ [];
  others = [];
  brings = brings;
  asks = (due.Do (act.Refuse 0 status rule) ∷ [], [], [], (refl, refl), content_none setup.mtu ts behind, refl);
  may = (tt, tt);
  after_is = after_is;
  stands = stands;
}

pub refused_head : (setup : Setup) (bytes : List ℕ) (before after : List Due) (status : ℕ) (new : One) → after ≡ before ++ due.Do (act.Refuse 0 status 0) ∷ [] → IsHttp1 new [] []
    → AnswersHead setup (Refuse status) bytes before after (Some new)
refused_head setup bytes before after status new after_is stands = λ ts known is.
    refused_so setup ts known bytes [] before after status 0 new (Refuse status, is, (refl, refl)) after_is stands

pub refused_path : (setup : Setup) (bytes path : List ℕ) (k : Kind) (used : ℕ) (before after : List Due) (status rule : ℕ) (new : One) → PathMeans setup k path (Refused status rule)
    → after ≡ before ++ due.Do (act.Refuse 0 status rule) ∷ [] → IsHttp1 new [] [] → AnswersHead setup (Upgrade k path used) bytes before after (Some new)
refused_path setup bytes path k used before after status rule new means after_is stands = λ ts known is.
    refused_so setup ts known bytes (drop used bytes) before after status rule new (Upgrade k path used, is, (Refused status rule, means, refl, refl)) after_is stands

leads_by : (setup : Setup) (ts : List Tunnel) (known bytes path : List ℕ) (k : Kind) (used : ℕ) (before after : List Due) (g : Goal) (new : One) → IsStep known bytes (Upgrade k path used) → PathMeans setup k path (Leads g)
    → ReadsFirst setup.mtu g (drop used bytes) (before ++ due.Do (goal_act 0 g) ∷ []) after new → LedTo setup ts known bytes before after new
leads_by setup ts known bytes path k used before after g new is means reads =
    let r = reads ts in
    let first = due.Do (goal_act 0 g) in
    record {
      events = Request 0 (Leads g) false ∷ content_of (drop used bytes);
      acts = first ∷ r.acts;
      others = r.others;
      brings = (Upgrade k path used, is, (Leads g, means, refl, refl));
      asks = (first ∷ [], on_zero g [] ∷ [], r.acts, (refl, refl), r.asks, refl);
      may = (may_lead 0 g, r.may);
      after_is = r.after_is ∙ append_assoc before (first ∷ []) r.acts;
      stands = r.stands;
    }

pub leads_so : (setup : Setup) (bytes behind path : List ℕ) (k : Kind) (used : ℕ) (before after : List Due) (g : Goal) (new : One) → behind ≡ drop (min used (length bytes)) bytes → PathMeans setup k path (Leads g)
    → ReadsFirst setup.mtu g behind (before ++ due.Do (goal_act 0 g) ∷ []) after new → AnswersHead setup (Upgrade k path used) bytes before after (Some new)
leads_so setup bytes behind path k used before after g new cut means reads = λ ts known is.
    let fits = is.1 in
    let same : min used (length bytes) ≡ used = omega (arith, fits) in
    let P : List ℕ → Type 0 = λ xs. ReadsFirst setup.mtu g xs (before ++ due.Do (goal_act 0 g) ∷ []) after new in
    leads_by setup ts known bytes path k used before after g new is means (subst P (cut ∙ ap (λ (n : ℕ). drop n bytes) same) reads)

-- ---- the end of the link

inside_of : (d : DataStream) (g : Goal) (bytes : List ℕ) (inside : Bool) → Stands d.reader (has_values g) bytes → TellsBegun d.reader (inside ≡ true) → EndsIn (Some (on_zero g bytes)) inside
inside_of d g bytes true stands tells = (tells (has_values g) bytes stands).0 refl
inside_of d g bytes false stands tells = λ inside. (let e : false ≡ true = (tells (has_values g) bytes stands).1 inside in cc)

ends_some : (d : DataStream) (kept : List ℕ) (reason : Why) → EndsAs d reason → EndsData (record { stream = Some d; owed = kept }) reason
ends_some d kept reason (inside, reason_is, tells) = λ streams owed is.
    let s : Stream = is.0.0 in
    let P : List Stream → Type 0 = λ ss. EndsBy OverHttp1 ss inside in
    (inside, subst P (sym (is.0.1 ∙ ap (λ (u : Stream). u ∷ []) (is_zero s is.0.2))) (inside_of d s.goal s.bytes inside is.0.3.stands tells), reason_is)

ends_none : (kept : List ℕ) → EndsData (record { stream = None; owed = kept }) why.End
ends_none kept = λ streams owed is. (let P : List Stream → Type 0 = λ ss. EndsBy OverHttp1 ss false in (false, subst P (sym is.0) refl, refl))

pub ends_with : (one : One) (d : DataStream) (reason : Why) → one.stream ≡ Some d → EndsAs d reason → EndsData one reason
ends_with one d reason is ended =
    let P : Option DataStream → Type 0 = λ o. EndsData (record { stream = o; owed = one.owed }) reason in
    subst P (sym is) (ends_some d one.owed reason ended)

pub ends_without : (one : One) → one.stream ≡ None → EndsData one why.End
ends_without one is =
    let P : Option DataStream → Type 0 = λ o. EndsData (record { stream = o; owed = one.owed }) why.End in
    subst P (sym is) (ends_none one.owed)
