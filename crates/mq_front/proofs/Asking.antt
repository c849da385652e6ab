-- What the events of a read ask for, one after the other.
use Rattle.std.proofs.Common.{◌≡◌, ◌==◌, inl, inr, ℕ, Bool, true, false, cond, List, [], ◌∷◌, ◌++◌, Option, Some, Result, Ok, Err, slice_set, refl, sym, ap, ◌∙◌, subst, append_assoc, append-nil}
use Rattle.std.specs.Prelude.{find, OnOk}
use Rattle.std.specs.Option.{is_some}
use Rattle.mq_wire.specs.declared.NoMemory.{NoMemory}
use Rattle.mq_h2.specs.declared.event.StreamEvent as http2
use Rattle.mq_h2.specs.Reading.{ReadTo}
use Rattle.mq_h2.specs.Stand.{IsH2}
use Rattle.mq_h2.specs.State as h2
use Rattle.mq_h2.specs.declared.event.StreamEvent.TheVariants as told
use Rattle.mq_hpack.specs.declared.field.Field.{Field}
use Rattle.mq_talk.specs.declared.goal.Goal.{Goal}
use Rattle.mq_talk.specs.declared.note.Why.TheVariants as why
use Rattle.mq_machine.specs.declared.act.Act.TheVariants as act
use Rattle.mq_machine.specs.declared.act.StreamAct.TheVariants as stream
use Rattle.mq_machine.specs.declared.act.Due.{Due}
use Rattle.mq_machine.specs.declared.act.Due.TheVariants as due
use Rattle.mq_machine.specs.declared.setup.Setup.{Setup}
use Rattle.mq_machine.specs.Reading.{StreamEvent, Request, Malformed, Content, Reset, ConnectionError, Leads as ToGoal, Refused, FieldsMean, EventBrings, EventsBring, EventAsks, EventsAsk, BytesAsk, ContentAsks, ended_acts, error_acts, goal_act, reset_acts, on_stream, more_bytes}
use Rattle.mq_machine.specs.State.{Stream, Tunnel}
use Rattle.mq_front.specs.declared.data.DataStream.{DataStream}
use Rattle.mq_front.specs.declared.http2.Http2.{Http2}
use Rattle.mq_front.specs.Data.{IsStream, Takes}
use Rattle.mq_front.specs.Events.{Contains, Leads, EventTo, EventsTo, ReadsFrames}
use Rattle.mq_front.specs.Streams.{AreStreams, HasNone, IsPlaceOf}
use Rattle.mq_front.proofs.Limits.{all_both, may_ended, may_error, may_lead, may_on, may_reset}
use Rattle.mq_front.proofs.Tables.{found, missing, added}

-- ---- contents

contains : (mtu id : ℕ) (bytes : List ℕ) (size : ℕ) (ends : Bool) (before mid after : List Due) (old new : List DataStream) (place : ℕ) (d e : DataStream) → IsPlaceOf old id place d → new ≡ slice_set old place e
    → Takes mtu d bytes ends before mid e → after ≡ mid ++ due.Spend id size ∷ [] → (setup : Setup) (ts : List Tunnel) → setup.mtu ≡ mtu → EventTo setup ts (told.Content id bytes size ends) before after old new
contains mtu id bytes size ends before mid after old new place d e at new_is takes after_is setup ts mtu_is streams are =
    let f = found old streams id place d are at in
    let t = takes f.s f.stands in
    let asks : BytesAsk setup.mtu f.s bytes ends t.asked = subst (λ (most : ℕ). BytesAsk most f.s bytes ends t.asked) (sym mtu_is) t.asks in
    let mark : List Due = due.Spend id size ∷ [] in
    let acts : List Due = on_stream id t.asked ++ mark in
    let P : Option Stream → Type 0 = λ o. ContentAsks setup.mtu id bytes (Some size) ends o acts in
    let Q : List DataStream → Type 0 = λ ds. AreStreams ds (more_bytes id bytes streams) in
    record {
      event = Content id bytes (Some size) ends;
      acts = acts;
      others = more_bytes id bytes streams;
      brings = refl;
      asks = (subst P (sym f.is) (t.asked, asks, refl), refl);
      may = all_both _ (on_stream id t.asked) mark (may_on id t.asked t.may) (tt, tt);
      after_is =
          after_is ∙ ap (λ (ds : List Due). ds ++ mark) t.after_is ∙ append_assoc before (on_stream f.s.id t.asked) mark
          ∙ ap (λ (i : ℕ). before ++ (on_stream i t.asked ++ mark)) f.id_is;
      stand = subst Q (sym new_is) (f.becomes e bytes t.stands);
    }

-- of a stream that leads nowhere
passes : (id : ℕ) (bytes : List ℕ) (size : ℕ) (ends : Bool) (before after : List Due) (old new : List DataStream) → HasNone old id → new ≡ old → after ≡ before ++ due.Spend id size ∷ []
    → (setup : Setup) (ts : List Tunnel) → EventTo setup ts (told.Content id bytes size ends) before after old new
passes id bytes size ends before after old new none same after_is setup ts streams are =
    let m = missing old streams id bytes are none in
    let acts : List Due = due.Spend id size ∷ [] in
    let P : Option Stream → Type 0 = λ o. ContentAsks setup.mtu id bytes (Some size) ends o acts in
    let Q : List DataStream → List Stream → Type 0 = λ ds ss. AreStreams ds ss in
    record {
      event = Content id bytes (Some size) ends;
      acts = acts;
      others = more_bytes id bytes streams;
      brings = refl;
      asks = (subst P (sym m.0) refl, refl);
      may = (tt, tt);
      after_is = after_is;
      stand = subst (λ (ds : List DataStream). Q ds (more_bytes id bytes streams)) (sym same) (subst (λ (ss : List Stream). Q old ss) (sym m.1) are);
    }

content_to : (mtu id : ℕ) (bytes : List ℕ) (size : ℕ) (ends : Bool) (before mid after : List Due) (old new : List DataStream) → Contains mtu id bytes ends before mid old new → after ≡ mid ++ due.Spend id size ∷ []
    → (setup : Setup) (ts : List Tunnel) → setup.mtu ≡ mtu → EventTo setup ts (told.Content id bytes size ends) before after old new
content_to mtu id bytes size ends before mid after old new (inl (place, d, e, at, new_is, takes)) after_is = contains mtu id bytes size ends before mid after old new place d e at new_is takes after_is
content_to mtu id bytes size ends before mid after old new (inr (none, same, nothing)) after_is = λ setup ts mtu_is.
    passes id bytes size ends before after old new none same (after_is ∙ ap (λ (ds : List Due). ds ++ due.Spend id size ∷ []) nothing) setup ts

-- ---- requests

ended_is : (id : ℕ) (ends : Bool) → on_stream id (cond ends (stream.Close why.End ∷ []) []) ≡ ended_acts id ends
ended_is id true = refl
ended_is id false = refl

-- its port is to be bound or its tunnel opens, and its data stream begins
pub leads_there : (id : ℕ) (g : Goal) (ends : Bool) (before mid after : List Due) (old new : List DataStream) (d : DataStream) → mid ≡ before ++ due.Do (goal_act id g) ∷ []
    → after ≡ mid ++ on_stream id (cond ends (stream.Close why.End ∷ []) []) → new ≡ old ++ d ∷ [] → IsStream d (record { id = id; goal = g; bytes = [] })
    → Leads id g ends before after old new
leads_there id g ends before mid after old new d mid_is after_is new_is stands = record {
  after_is =
      after_is ∙ ap (λ (ds : List Due). ds ++ on_stream id (cond ends (stream.Close why.End ∷ []) [])) mid_is
      ∙ append_assoc before (due.Do (goal_act id g) ∷ []) (on_stream id (cond ends (stream.Close why.End ∷ []) []))
      ∙ ap (λ (ds : List Due). before ++ due.Do (goal_act id g) ∷ ds) (ended_is id ends);
  stand = λ streams are.
      (let P : List DataStream → Type 0 = λ ds. AreStreams ds (streams ++ record { id = id; goal = g; bytes = [] } ∷ []) in
      subst P (sym new_is) (added old streams d (record { id = id; goal = g; bytes = [] }) are stands));
}

leads_to : (setup : Setup) (ts : List Tunnel) (id : ℕ) (fields : List Field) (g : Goal) (ends : Bool) (before after : List Due) (old new : List DataStream) → FieldsMean setup fields (ToGoal g)
    → Leads id g ends before after old new → EventTo setup ts (told.Request id fields ends) before after old new
leads_to setup ts id fields g ends before after old new means leads streams are = record {
  event = Request id (ToGoal g) ends;
  acts = due.Do (goal_act id g) ∷ ended_acts id ends;
  others = streams ++ record { id = id; goal = g; bytes = [] } ∷ [];
  brings = (ToGoal g, means, refl);
  asks = (refl, refl);
  may = (may_lead id g, may_ended id ends);
  after_is = leads.after_is;
  stand = leads.stand streams are;
}

refuses : (setup : Setup) (ts : List Tunnel) (id : ℕ) (fields : List Field) (status rule : ℕ) (ends : Bool) (before after : List Due) (old new : List DataStream) → FieldsMean setup fields (Refused status rule)
    → after ≡ before ++ due.Do (act.Refuse id status rule) ∷ [] → new ≡ old → EventTo setup ts (told.Request id fields ends) before after old new
refuses setup ts id fields status rule ends before after old new means after_is same streams are =
    let Q : List DataStream → Type 0 = λ ds. AreStreams ds streams in
    record {
      event = Request id (Refused status rule) ends;
      acts = due.Do (act.Refuse id status rule) ∷ [];
      others = streams;
      brings = (Refused status rule, means, refl);
      asks = (refl, refl);
      may = (tt, tt);
      after_is = after_is;
      stand = subst Q (sym same) are;
    }

-- ---- errors and resets

fails : (setup : Setup) (ts : List Tunnel) (id code : ℕ) (has : Bool) (before after : List Due) (old new : List DataStream) → has ≡ is_some (find (λ (t : Tunnel). t.stream == id) ts)
    → ((t : Option Tunnel) → has ≡ is_some t → after ≡ before ++ error_acts id code t) → new ≡ old → EventTo setup ts (told.Malformed id code) before after old new
fails setup ts id code has before after old new has_is after_is same streams are =
    let o = find (λ (t : Tunnel). t.stream == id) ts in
    let Q : List DataStream → Type 0 = λ ds. AreStreams ds streams in
    record {
      event = Malformed id code;
      acts = error_acts id code o;
      others = streams;
      brings = refl;
      asks = (refl, refl);
      may = may_error id code o;
      after_is = after_is o has_is;
      stand = subst Q (sym same) are;
    }

was_reset : (setup : Setup) (ts : List Tunnel) (id code : ℕ) (has : Bool) (before after : List Due) (old new : List DataStream) → has ≡ is_some (find (λ (t : Tunnel). t.stream == id) ts)
    → ((t : Option Tunnel) → has ≡ is_some t → after ≡ before ++ reset_acts id t) → new ≡ old → EventTo setup ts (told.Reset id code) before after old new
was_reset setup ts id code has before after old new has_is after_is same streams are =
    let o = find (λ (t : Tunnel). t.stream == id) ts in
    let Q : List DataStream → Type 0 = λ ds. AreStreams ds streams in
    record {
      event = Reset id;
      acts = reset_acts id o;
      others = streams;
      brings = refl;
      asks = (refl, refl);
      may = may_reset id o;
      after_is = after_is o has_is;
      stand = subst Q (sym same) are;
    }

breaks : (setup : Setup) (ts : List Tunnel) (code : ℕ) (before after : List Due) (old new : List DataStream) → after ≡ before ++ due.Fault code ∷ [] → new ≡ old
    → EventTo setup ts (told.ConnectionError code) before after old new
breaks setup ts code before after old new after_is same streams are =
    let Q : List DataStream → Type 0 = λ ds. AreStreams ds streams in
    record { event = ConnectionError code; acts = due.Fault code ∷ []; others = streams; brings = refl; asks = (refl, refl); may = (tt, tt); after_is = after_is; stand = subst Q (sym same) are }

-- ---- as a call answers

pub contents : (mtu id : ℕ) (bytes : List ℕ) (size : ℕ) (ends : Bool) (before mid after : List Due) (old new : List DataStream) (result : Result (Unit {0}) NoMemory) → Contains mtu id bytes ends before mid old new
    → OnOk result (after ≡ mid ++ due.Spend id size ∷ [])
    → OnOk result ((setup : Setup) (ts : List Tunnel) → setup.mtu ≡ mtu → EventTo setup ts (told.Content id bytes size ends) before after old new)
contents mtu id bytes size ends before mid after old new (Err refused) has h = tt
contents mtu id bytes size ends before mid after old new (Ok done) has h = content_to mtu id bytes size ends before mid after old new has h

pub leads_all : (setup : Setup) (id : ℕ) (fields : List Field) (g : Goal) (ends : Bool) (before after : List Due) (old new : List DataStream) (result : Result (Unit {0}) NoMemory) → FieldsMean setup fields (ToGoal g)
    → OnOk result (Leads id g ends before after old new) → OnOk result ((ts : List Tunnel) → EventTo setup ts (told.Request id fields ends) before after old new)
leads_all setup id fields g ends before after old new (Err refused) means h = tt
leads_all setup id fields g ends before after old new (Ok done) means h = λ ts. leads_to setup ts id fields g ends before after old new means h

pub refuses_all : (setup : Setup) (id : ℕ) (fields : List Field) (status rule : ℕ) (ends : Bool) (before after : List Due) (old : List DataStream) (result : Result (Unit {0}) NoMemory) → FieldsMean setup fields (Refused status rule)
    → OnOk result (after ≡ before ++ due.Do (act.Refuse id status rule) ∷ []) → OnOk result ((ts : List Tunnel) → EventTo setup ts (told.Request id fields ends) before after old old)
refuses_all setup id fields status rule ends before after old (Err refused) means h = tt
refuses_all setup id fields status rule ends before after old (Ok done) means h = λ ts. refuses setup ts id fields status rule ends before after old old means h refl

pub fails_all : (setup : Setup) (ts : List Tunnel) (id code : ℕ) (has : Bool) (before after : List Due) (old : List DataStream) (result : Result (Unit {0}) NoMemory) → has ≡ is_some (find (λ (t : Tunnel). t.stream == id) ts)
    → OnOk result ((t : Option Tunnel) → has ≡ is_some t → after ≡ before ++ error_acts id code t) → OnOk result (EventTo setup ts (told.Malformed id code) before after old old)
fails_all setup ts id code has before after old (Err refused) has_is h = tt
fails_all setup ts id code has before after old (Ok done) has_is h = fails setup ts id code has before after old old has_is h refl

pub reset_all : (setup : Setup) (ts : List Tunnel) (id code : ℕ) (has : Bool) (before after : List Due) (old : List DataStream) (result : Result (Unit {0}) NoMemory) → has ≡ is_some (find (λ (t : Tunnel). t.stream == id) ts)
    → OnOk result ((t : Option Tunnel) → has ≡ is_some t → after ≡ before ++ reset_acts id t) → OnOk result (EventTo setup ts (told.Reset id code) before after old old)
reset_all setup ts id code has before after old (Err refused) has_is h = tt
reset_all setup ts id code has before after old (Ok done) has_is h = was_reset setup ts id code has before after old old has_is h refl

pub breaks_all : (setup : Setup) (ts : List Tunnel) (code : ℕ) (before after : List Due) (old : List DataStream) (result : Result (Unit {0}) NoMemory)
    → OnOk result (after ≡ before ++ due.Fault code ∷ []) → OnOk result (EventTo setup ts (told.ConnectionError code) before after old old)
breaks_all setup ts code before after old (Err refused) h = tt
breaks_all setup ts code before after old (Ok done) h = breaks setup ts code before after old old h refl

-- ---- one after the other

brings_last : (setup : Setup) (ts : List http2.StreamEvent) (es : List StreamEvent) (t : http2.StreamEvent) (e : StreamEvent) → EventsBring setup ts es → EventBrings setup t e → EventsBring setup (ts ++ t ∷ []) (es ++ e ∷ [])
brings_last setup [] es t e none is = (e, [], is, refl, ap (λ (xs : List StreamEvent). xs ++ e ∷ []) none)
brings_last setup (x ∷ ts) es t e (first, later, here, rest, all) is =
    (first, later ++ e ∷ [], here, brings_last setup ts later t e rest is, ap (λ (xs : List StreamEvent). xs ++ e ∷ []) all)

asks_last : (mtu : ℕ) (ts : List Tunnel) (old mid new : List Stream) (es : List StreamEvent) (e : StreamEvent) (acts here : List Due) → EventsAsk mtu ts old es acts mid → EventAsks mtu ts mid e here new
    → EventsAsk mtu ts old (es ++ e ∷ []) (acts ++ here) new
asks_last mtu ts old mid new [] e acts here none is =
    let P : List Stream → Type 0 = λ ss. EventAsks mtu ts ss e here new in
    (here, new, [], subst P none.1 is, (refl, refl), ap (λ (ds : List Due). ds ++ here) none.0 ∙ sym (append-nil here))
asks_last mtu ts old mid new (x ∷ es) e acts here (first, between, later, asks, rest, all) is =
    (first, between, later ++ here, asks, asks_last mtu ts between mid new es e later here rest is, ap (λ (ds : List Due). ds ++ here) all ∙ append_assoc first later here)

pub puts_none : (setup : Setup) (ts : List Tunnel) (before : List Due) (old : List DataStream) → EventsTo setup ts [] before before old old
puts_none setup ts before old streams are =
    record { events = []; acts = []; others = streams; brings = refl; asks = (refl, refl); may = tt; after_is = sym (append-nil before); stand = are }

pub puts_last : (setup : Setup) (ts : List Tunnel) (told : List http2.StreamEvent) (e : http2.StreamEvent) (before mid after : List Due) (old between new : List DataStream)
    → EventsTo setup ts told before mid old between → EventTo setup ts e mid after between new → EventsTo setup ts (told ++ e ∷ []) before after old new
puts_last setup ts told e before mid after old between new was is streams are =
    let a = was streams are in
    let b = is a.others a.stand in
    record {
      events = a.events ++ b.event ∷ [];
      acts = a.acts ++ b.acts;
      others = b.others;
      brings = brings_last setup told a.events e b.event a.brings b.brings;
      asks = asks_last setup.mtu ts streams a.others b.others a.events b.event a.acts b.acts a.asks b.asks;
      may = all_both _ a.acts b.acts a.may b.may;
      after_is = b.after_is ∙ ap (λ (ds : List Due). ds ++ b.acts) a.after_is ∙ append_assoc before a.acts b.acts;
      stand = b.stand;
    }

-- ---- a read

pub reads_all : (setup : Setup) (ts : List Tunnel) (piece : List ℕ) (told : List http2.StreamEvent) (before after : List Due) (old new : Http2) (result : Result (Unit {0}) NoMemory)
    → ((h : h2.State) → IsH2 old.h2 h → (t : h2.State) × ReadTo h piece told t × IsH2 new.h2 t) → OnOk result (EventsTo setup ts told before after old.streams.items new.streams.items)
    → OnOk result (ReadsFrames setup ts piece before after old new)
reads_all setup ts piece told before after old new (Err refused) feeds h = tt
reads_all setup ts piece told before after old new (Ok done) feeds h = λ s streams is.
    let r = feeds s is.core in
    record { told = told; next = r.0; reads = r.1; core = r.2; puts = h streams is.streams_are }
