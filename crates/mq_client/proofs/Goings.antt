-- What a core stands for after its parts changed.
use Rattle.std.proofs.Common.{◌≡◌, ℕ, ◌≤◌, Bool, true, false, ◌||◌, List, [], ◌∷◌, ◌++◌, length, drop, Result, Ok, Err, IfOk, refl, sym, ap, subst, ◌∙◌, arith, append-nil, append_assoc}
use Rattle.std.proofs.lemmas.List.{length-append, drop-append-le}
use Rattle.mq_capsule.specs.declared.item.Item.{Item}
use Rattle.mq_capsule.specs.declared.reader.Reader.{Reader}
use Rattle.mq_capsule.specs.Readers as capsules
use Rattle.mq_wire.specs.declared.NoMemory.{NoMemory}
use Rattle.mq_streams.specs.History.{History, is_live}
use Rattle.mq_streams.specs.Stand.{StandFor}
use Rattle.mq_streams.specs.declared.streams.Streams.{Streams}
use Rattle.mq_client.specs.declared.event.ClientEvent.{ClientEvent}
use Rattle.mq_client.specs.declared.event.ClientEvent.TheVariants.{BadPeer}
use Rattle.mq_client.specs.declared.parts.Parts.{Parts}
use Rattle.mq_client.specs.declared.stage.Stage as code
use Rattle.mq_client.specs.declared.stage.Stage.TheVariants as stage
use Rattle.mq_client.specs.Asking.{stream}
use Rattle.mq_client.specs.Events.{events_of}
use Rattle.mq_client.specs.Frames.{Did, Is, tells, closing, told_of, unless_last}
use Rattle.mq_client.specs.Session.{Session, Stage, Greeting, Asked, Open, puts, with_history, ended}
use Rattle.mq_client.specs.Talking.{IsStage, Serves, Goes, Leads, Comes, Gave}
use Rattle.mq_client.proofs.Told.{ended_both}

-- ---- windows

-- something happened to the windows
pub serves_on : (c : Parts) (s : Session) → Serves c s → (streams : Streams) (h : History) → StandFor streams h → is_live stream h ≡ true
    → Serves (record c { streams = streams }) (with_history h s)
serves_on c s is streams h stand lives =
    record { streams = stand; live = lives; waits_are = is.waits_are; owed_is = is.owed_is; within = is.within }

pub goes_on : (c : Parts) (s : Session) → Goes c s → (streams : Streams) (h : History) → StandFor streams h → is_live stream h ≡ true
    → Goes (record c { streams = streams }) (with_history h s)
goes_on c s is streams h stand lives = record {
  decodes = record { serves = serves_on c s is.decodes.serves streams h stand lives; decoder = is.decodes.decoder; stage_is = is.decodes.stage_is };
  block = is.block;
}

-- ---- bytes that are owed

pub put_owed : (written : ℕ) (put bytes before after : List ℕ) → written ≤ length put → before ≡ drop written put → after ≡ before ++ bytes
    → after ≡ drop written (put ++ bytes)
put_owed written put bytes before after within was is =
    is ∙ ap (λ (x : List ℕ). x ++ bytes) was ∙ sym (drop-append-le written put bytes within)

pub put_within : (written : ℕ) (put bytes : List ℕ) → written ≤ length put → written ≤ length (put ++ bytes)
put_within written put bytes within = omega (arith, length-append put bytes)

-- bytes were put for writing
pub serves_put : (c : Parts) (s : Session) → Serves c s → (owed bytes : List ℕ) → owed ≡ c.owed ++ bytes → Serves (record c { owed = owed }) (puts bytes s)
serves_put c s is owed bytes e = record {
  streams = is.streams;
  live = is.live;
  waits_are = is.waits_are;
  owed_is = put_owed s.written s.put bytes c.owed owed is.within is.owed_is e;
  within = put_within s.written s.put bytes is.within;
}

pub goes_put : (c : Parts) (s : Session) → Goes c s → (owed bytes : List ℕ) → owed ≡ c.owed ++ bytes → Goes (record c { owed = owed }) (puts bytes s)
goes_put c s is owed bytes e = record {
  decodes = record { serves = serves_put c s is.decodes.serves owed bytes e; decoder = is.decodes.decoder; stage_is = is.decodes.stage_is };
  block = is.block;
}

-- ---- stages

pub open_stage : (c : code.Stage) (st : Stage) (reader : Reader) → c ≡ stage.Open reader → IsStage c st
    → (bytes : List ℕ) × (st ≡ Open bytes) × capsules.Stands reader false bytes
open_stage c (Greeting request) reader e is = absurd (subst (λ (x : code.Stage). IsStage x (Greeting request)) e is)
open_stage c Asked reader e is = absurd (subst (λ (x : code.Stage). IsStage x Asked) e is)
open_stage c (Open bytes) reader e is = (bytes, refl, subst (λ (x : code.Stage). IsStage x (Open bytes)) e is)

pub asked_stage : (c : code.Stage) (st : Stage) → c ≡ stage.Asked → IsStage c st → st ≡ Asked
asked_stage c (Greeting request) e is = absurd (subst (λ (x : code.Stage). IsStage x (Greeting request)) e is)
asked_stage c Asked e is = refl
asked_stage c (Open bytes) e is = absurd (subst (λ (x : code.Stage). IsStage x (Open bytes)) e is)

pub greeting_stage : (c : code.Stage) (st : Stage) (request : List ℕ) → c ≡ stage.Greeting request → IsStage c st → st ≡ Greeting request
greeting_stage c (Greeting bytes) request e is = ap Greeting (sym (subst (λ (x : code.Stage). IsStage x (Greeting bytes)) e is))
greeting_stage c Asked request e is = absurd (subst (λ (x : code.Stage). IsStage x Asked) e is)
greeting_stage c (Open bytes) request e is = absurd (subst (λ (x : code.Stage). IsStage x (Open bytes)) e is)

-- ---- events

pub ends_so : (end : Bool) → ended (closing end) ≡ end
ends_so true = refl
ends_so false = refl

pub told_over : (later : List Item) (end : Bool) → ended (events_of later) ≡ true → told_of later end ≡ events_of later
told_over later end e =
    ap (λ (b : Bool). events_of later ++ unless_last b (closing end)) e ∙ append-nil (events_of later)

pub told_open : (later : List Item) (end : Bool) → ended (events_of later) ≡ false → told_of later end ≡ events_of later ++ closing end
told_open later end e = ap (λ (b : Bool). events_of later ++ unless_last b (closing end)) e

pub ended_open : (later : List Item) (end : Bool) → ended (events_of later) ≡ false → ended (told_of later end) ≡ end
ended_open later end e =
    ap ended (told_open later end e) ∙ ended_both (events_of later) (closing end) ∙ ap (λ (b : Bool). b || ended (closing end)) e ∙ ends_so end

-- ---- what is done is done as a relation says

pub gave_by : (did : Did) (R : List ClientEvent → Session → Type 0) (before after : List ClientEvent) (over : Bool) (c : Parts)
    → ((events : List ClientEvent) (t : Session) → Is did events t → R events t) → Comes did before after over c → Gave R before after over c
gave_by did R before after over c into comes = record {
  given = did.events;
  state = did.after;
  so = into did.events did.after (refl, refl);
  added = comes.added;
  over_is = comes.over_is;
  leads = comes.leads;
}

pub gave_as : (R S : List ClientEvent → Session → Type 0) (before after : List ClientEvent) (over : Bool) (c : Parts)
    → ((events : List ClientEvent) (t : Session) → R events t → S events t) → Gave R before after over c → Gave S before after over c
gave_as R S before after over c into gave = record {
  given = gave.given;
  state = gave.state;
  so = into gave.given gave.state gave.so;
  added = gave.added;
  over_is = gave.over_is;
  leads = gave.leads;
}

pub leads_goes : (over : Bool) (c : Parts) (s : Session) → Goes c s → Leads over c s
leads_goes true c s goes = goes.decodes.serves
leads_goes false c s goes = goes

-- in both outcomes
pub gave_by_all : (did : Did) (R : List ClientEvent → Session → Type 0) (before after : List ClientEvent) (c : Parts) (r : Result Bool NoMemory)
    → ((events : List ClientEvent) (t : Session) → Is did events t → R events t) → IfOk r (λ over. Comes did before after over c)
    → IfOk r (λ over. Gave R before after over c)
gave_by_all did R before after c (Ok over) into comes = gave_by did R before after over c into comes
gave_by_all did R before after c (Err refused) into comes = tt

pub gave_as_all : (R S : List ClientEvent → Session → Type 0) (before after : List ClientEvent) (c : Parts) (r : Result Bool NoMemory)
    → ((events : List ClientEvent) (t : Session) → R events t → S events t) → IfOk r (λ over. Gave R before after over c)
    → IfOk r (λ over. Gave S before after over c)
gave_as_all R S before after c (Ok over) into gave = gave_as R S before after over c into gave
gave_as_all R S before after c (Err refused) into gave = tt

-- the proxy's bytes are malformed
abbrev pub IsBroken : ℕ → List ClientEvent → List ClientEvent → Bool → Type 0
IsBroken code before after over = (over ≡ true) × (after ≡ before ++ BadPeer code ∷ [])

pub broke_all : (code : ℕ) (R : List ClientEvent → Session → Type 0) (before after : List ClientEvent) (c : Parts) (s : Session) (r : Result Bool NoMemory)
    → R (BadPeer code ∷ []) s → Serves c s → IfOk r (IsBroken code before after) → IfOk r (λ over. Gave R before after over c)
broke_all code R before after c s (Ok over) so serves broken = record {
  given = BadPeer code ∷ [];
  state = s;
  so = so;
  added = broken.1;
  over_is = broken.0;
  leads = subst (λ (b : Bool). Leads b c s) (sym broken.0) serves;
}
broke_all code R before after c s (Err refused) so serves broken = tt

-- END_STREAM behind events that aren't the last
closes : (front : List ClientEvent) (end over : Bool) (before mid after : List ClientEvent) (c : Parts) (s : Session) → ended front ≡ false → Goes c s → mid ≡ before ++ front
    → over ≡ end → after ≡ mid ++ closing end → Comes (tells (front ++ closing end) s) before after over c
closes front end over before mid after c s none goes told is added = record {
  added = added ∙ ap (λ (l : List ClientEvent). l ++ closing end) told ∙ append_assoc before front (closing end);
  over_is = is ∙ sym (ended_both front (closing end) ∙ ap (λ (b : Bool). b || ended (closing end)) none ∙ ends_so end);
  leads = leads_goes over c s goes;
}

pub closes_all : (front : List ClientEvent) (end : Bool) (before mid after : List ClientEvent) (c : Parts) (s : Session) (r : Result Bool NoMemory) → ended front ≡ false → Goes c s
    → mid ≡ before ++ front → IfOk r (λ over. (over ≡ end) × (after ≡ mid ++ closing end)) → IfOk r (λ over. Comes (tells (front ++ closing end) s) before after over c)
closes_all front end before mid after c s (Ok over) none goes told closed = closes front end over before mid after c s none goes told closed.0 closed.1
closes_all front end before mid after c s (Err refused) none goes told closed = tt
