-- What an act of HTTP/2 does and puts is the same whatever was put before: so a front stands for the state of its core without
-- that.
use Rattle.std.proofs.Common.{◌≡◌, ◌+◌, ◌≤◌, ◌↔◌, nat_lt, ℕ, Bool, true, false, cond, List, [], ◌∷◌, ◌++◌, length, take, drop, Option, Some, None, Result, Ok, Err, refl, sym, ap, ◌∙◌, subst, append_assoc, append-nil}
use Rattle.std.proofs.lemmas.List.{drop-append-le, drop-drop}
use Rattle.std.specs.Prelude.{MatchResult, IsTrue}
use Rattle.mq_frame.specs.declared.frame.Frame.TheVariants as frame
use Rattle.mq_frame.specs.Writing.{spelling_of}
use Rattle.mq_hpack.specs.declared.field.Field.{Field}
use Rattle.mq_hpack.specs.Writing.{block_text}
use Rattle.mq_streams.specs.History.{Dropped, GivenBack, Sent, is_live, has_finished, total, arrived_on, consumed_on}
use Rattle.mq_streams.specs.Answers.{next_update}
use Rattle.mq_h2.specs.declared.h2.H2.{H2}
use Rattle.mq_h2.specs.Acts.{data_room, ending_text, ends, responds, where_live, with_headers, sends, ends_stream, resets_stream, consumes, gives_back, ends_act, writes}
use Rattle.mq_h2.specs.Acts as h2_acts
use Rattle.mq_h2.specs.Laws.{over, ReadsApart}
use Rattle.mq_h2.specs.Reading.{ReadTo}
use Rattle.mq_h2.specs.Stand.{IsH2, IsBegun}
use Rattle.mq_h2.specs.State.{State, new_state, owed, put}
use Rattle.mq_h2.proofs.Phases.{serves_of}
use Rattle.mq_talk.specs.declared.note.Why.{Why}
use Rattle.mq_talk.specs.declared.note.Why.TheVariants as why
use Rattle.mq_wire.specs.declared.NoMemory.{NoMemory}
use Rattle.mq_talk.specs.declared.note.End.TheVariants as end
use Rattle.mq_machine.specs.declared.act.Due.{Due}
use Rattle.mq_machine.specs.declared.setup.Setup.{Setup}
use Rattle.mq_machine.specs.Http2.{grants, refuses, closes, puts_data, status_field, capsule_field}
use Rattle.mq_machine.specs.Reading.{Opening, Whole, OpeningBrings, EndsInFrames, opening_of, preface}
use Rattle.mq_machine.specs.Settle as settle
use Rattle.mq_machine.specs.State as machine
use Rattle.mq_machine.specs.State.{Stream, Tunnel, OverHttp1, OverHttp2}
use Rattle.mq_front.specs.declared.data.DataStream.{DataStream}
use Rattle.mq_front.specs.declared.finish.Finish.TheVariants.{Ends}
use Rattle.mq_front.specs.declared.front.Front.TheVariants.{Http2}
use Rattle.mq_front.specs.declared.http2.Http2.{Http2 as Many}
use Rattle.mq_front.specs.Events.{IsHttp2, ReadsFrames, FramesReadTo}
use Rattle.mq_front.specs.Fronts.{OverFrames, HasPut, Framed, ReadsTo, Reads, Finishes}
use Rattle.mq_front.specs.Parts.{HasPutFrames, PutsFrames, ReadsBehind}
use Rattle.mq_front.specs.Streams.{AreStreams}

-- ---- acts

abbrev pub Apart : (State → State) → Type 0
Apart act = (out : List ℕ) (given : ℕ) (s : State) → act (over out given s) ≡ over out given (act s)

if_apart : (b : Bool) (out : List ℕ) (given : ℕ) (x u v : State) → x ≡ over out given u → cond b x (over out given v) ≡ over out given (cond b u v)
if_apart true out given x u v p = p
if_apart false out given x u v p = refl

live_apart : (id : ℕ) (act : State → State) → Apart act → Apart (where_live id act)
live_apart id act apart out given s = if_apart (is_live id s.history) out given (act (over out given s)) (act s) s (apart out given s)

ends_apart : (id : ℕ) → Apart (ends id)
ends_apart id out given s =
    let F : List ℕ → State = λ o. record s { out = o; given = given; history = Dropped id ∷ s.history } in
    ap F (append_assoc out s.out (ending_text (has_finished id s.history) id))

headers_apart : (id : ℕ) (block : List ℕ) (end : Bool) → Apart (with_headers id block end)
headers_apart id block false out given s =
    let F : List ℕ → State = λ o. record s { out = o; given = given; owes_limit = false } in
    ap F (append_assoc out s.out (spelling_of (frame.Headers id block false true)))
headers_apart id block true out given s =
    let text = spelling_of (frame.Headers id block true true) in
    let F : List ℕ → State = λ o. ends id (record s { out = o; given = given; owes_limit = false }) in
    ap F (append_assoc out s.out text) ∙ ends_apart id out given (record s { out = s.out ++ text; owes_limit = false })

responds_apart : (id : ℕ) (fields : List Field) (end : Bool) → Apart (responds id fields end)
responds_apart id fields end out given s = headers_apart id (block_text s.owes_limit fields) end out given s

resets_apart : (id code : ℕ) → Apart (resets_stream id code)
resets_apart id code out given s =
    let F : List ℕ → State = λ o. record s { out = o; given = given; history = Dropped id ∷ s.history } in
    ap F (append_assoc out s.out (spelling_of (frame.Reset id code)))

stream_apart : (id : ℕ) → Apart (ends_stream id)
stream_apart id out given s =
    let text = spelling_of (frame.Content id [] 0 true) in
    let F : List ℕ → State = λ o. ends id (record s { out = o; given = given }) in
    ap F (append_assoc out s.out text) ∙ ends_apart id out given (put text s)

sends_apart : (id : ℕ) (bytes : List ℕ) → Apart (sends id bytes)
sends_apart id bytes out given s =
    let text = spelling_of (frame.Content id bytes (length bytes) false) in
    if_apart (nat_lt 0 (length bytes)) out given _ _ s
    (let F : List ℕ → State = λ o. record s { out = o; given = given; history = Sent id (length bytes) ∷ s.history } in ap F (append_assoc out s.out text))

pub grants_apart : (id : ℕ) → Apart (grants id)
grants_apart id = live_apart id (responds id (status_field 200 ∷ capsule_field ∷ []) false) (responds_apart id (status_field 200 ∷ capsule_field ∷ []) false)

pub refuses_apart : (id status : ℕ) → Apart (refuses id status)
refuses_apart id status = live_apart id (responds id (status_field status ∷ []) true) (responds_apart id (status_field status ∷ []) true)

pub puts_apart : (id : ℕ) (bytes : List ℕ) → Apart (puts_data id bytes)
puts_apart id bytes = live_apart id (sends id bytes) (sends_apart id bytes)

reset_apart : (id code : ℕ) → Apart (where_live id (resets_stream id code))
reset_apart id code = live_apart id (resets_stream id code) (resets_apart id code)

pub closes_apart : (id : ℕ) (begun : Bool) (reason : Why) → Apart (closes id begun reason)
closes_apart id true why.End = reset_apart id 8
closes_apart id false why.End = live_apart id (ends_stream id) (stream_apart id)
closes_apart id begun why.Malformed = reset_apart id 1
closes_apart id begun why.Truncated = reset_apart id 1
closes_apart id begun why.Port = reset_apart id 10
closes_apart id begun why.Full = reset_apart id 11
closes_apart id begun why.Reset = λ out given s. refl
closes_apart id begun why.Conn = λ out given s. refl

back_apart : (update : Option (ℕ × ℕ)) → Apart (gives_back update)
back_apart None out given s = refl
back_apart (Some update) out given s =
    let F : List ℕ → State = λ o. record s { out = o; given = given; history = GivenBack update.0 update.1 ∷ s.history } in
    ap F (append_assoc out s.out (spelling_of (frame.Window update.0 update.1)))

-- ---- the state without what was put before

pub bare : State → State
bare s = record s { out = []; given = 0 }

pub is_over : (s : State) → s ≡ over s.out s.given (bare s)
unfolding bare
is_over s = ap (λ (o : List ℕ). record s { out = o }) (sym (append-nil s.out))

none_given : (act : State → State) → Apart act → (s : State) → (act (bare s)).given ≡ 0
unfolding bare
none_given act apart s = ap (λ (t : State). t.given) (apart [] 0 (bare s))

pub all_given : (v : H2) (s : State) → IsH2 v s → s.given ≤ length s.out
all_given v s is = (serves_of v.phase v s is.phase).given

-- what is put behind a state is owed behind what is owed
pub owed_behind : (s : State) (text : List ℕ) → s.given ≤ length s.out → drop s.given (s.out ++ text) ≡ owed s ++ text
owed_behind s text few = drop-append-le s.given s.out text few

-- what an act does
pub put_by : (act : State → State) → Apart act → (old new : Many) (h : State) (streams : List Stream) (owes : List ℕ) → (was : OverFrames old h streams owes) → IsHttp2 new (act was.core) streams
    → HasPutFrames new (act h) streams owes
unfolding bare
put_by act apart old new h streams owes was stands =
    let core : State = was.core in
    let b : State = bare core in
    let same : act core ≡ over core.out core.given (act b) = ap act (is_over core) ∙ apart core.out core.given b in
    let text_is : (act h).out ≡ (act b).out = ap (λ (t : State). (act t).out) was.is in
    record {
      core = act core;
      stands = stands;
      is = ap (λ (t : State). record (act t) { out = [] }) was.is ∙ ap (λ (n : ℕ). record (act b) { out = []; given = n }) (none_given act apart core) ∙ ap (λ (t : State). bare t) (sym same);
      owed_is =
          ap (λ (xs : List ℕ). xs ++ (act h).out) was.owed_is ∙ ap (λ (xs : List ℕ). owed core ++ xs) text_is ∙ sym (owed_behind core (act b).out (all_given old.h2 core was.stands.core))
          ∙ ap owed (sym same);
    }

kept : (old new : Many) (s t : State) (streams : List Stream) → new.streams ≡ old.streams → IsHttp2 old s streams → IsH2 new.h2 t → IsHttp2 new t streams
kept old new s t streams same was is = record { core = is; streams_are = (let P : List DataStream → Type 0 = λ ds. AreStreams ds streams in subst P (ap (λ v. v.items) (sym same)) was.streams_are) }

-- an act that takes no memory
pub done_by : (act : State → State) → Apart act → (old new : Many) (h : State) (streams : List Stream) (owes : List ℕ) → new.streams ≡ old.streams → ((s : State) → IsH2 old.h2 s → IsH2 new.h2 (act s))
    → OverFrames old h streams owes → HasPutFrames new (act h) streams owes
done_by act apart old new h streams owes same acts was =
    put_by act apart old new h streams owes was (kept old new was.core (act was.core) streams same was.stands (acts was.core was.stands.core))

-- one that may be refused memory
pub puts_by : (act : State → State) → Apart act → (old new : Many) (h : State) (streams : List Stream) (owes : List ℕ) (result : Result (Unit {0}) NoMemory) → new.streams ≡ old.streams
    → ((s : State) → IsH2 old.h2 s → MatchResult result (λ _. IsH2 new.h2 (act s)) (λ _. IsH2 new.h2 s)) → OverFrames old h streams owes → PutsFrames new result h (act h) streams owes
puts_by act apart old new h streams owes (Ok done) same acts was = done_by act apart old new h streams owes same acts was
puts_by act apart old new h streams owes (Err refused) same acts was =
    record { core = was.core; stands = kept old new was.core was.core streams same was.stands (acts was.core was.stands.core); is = was.is; owed_is = was.owed_is }

-- ---- acts that change what is owed in another way, or not at all

pub wrote_by : (count : ℕ) (old new : Many) (h : State) (streams : List Stream) (owes : List ℕ) → new.streams ≡ old.streams → ((s : State) → IsH2 old.h2 s → count ≤ length (owed s) → IsH2 new.h2 (writes count s))
    → count ≤ length owes → OverFrames old h streams owes → OverFrames new h streams (drop count owes)
unfolding bare
wrote_by count old new h streams owes same acts few was =
    let core : State = was.core in
    let fits : count ≤ length (owed core) = subst (λ (xs : List ℕ). count ≤ length xs) was.owed_is few in
    record {
      core = writes count core;
      stands = kept old new core (writes count core) streams same was.stands (acts core was.stands.core fits);
      is = was.is;
      owed_is = ap (λ (xs : List ℕ). drop count xs) was.owed_is ∙ drop-drop count core.given core.out;
    }

pub spent_by : (id count : ℕ) (old new : Many) (h : State) (streams : List Stream) (owes : List ℕ) → new.streams ≡ old.streams
    → ((s : State) → IsH2 old.h2 s → total (consumed_on id) s.history + count ≤ total (arrived_on id) s.history → IsH2 new.h2 (consumes id count s))
    → total (consumed_on id) h.history + count ≤ total (arrived_on id) h.history → OverFrames old h streams owes → OverFrames new (consumes id count h) streams owes
unfolding bare
spent_by id count old new h streams owes same acts few was =
    let core : State = was.core in
    let fits : total (consumed_on id) core.history + count ≤ total (arrived_on id) core.history =
    subst (λ (t : State). total (consumed_on id) t.history + count ≤ total (arrived_on id) t.history) was.is few in
    record {
      core = consumes id count core;
      stands = kept old new core (consumes id count core) streams same was.stands (acts core was.stands.core fits);
      is = ap (λ (t : State). consumes id count t) was.is;
      owed_is = was.owed_is;
    }

pub none_put : (new : Many) (h : State) (streams : List Stream) (owes : List ℕ) → OverFrames new h streams owes → OverFrames new h streams (owes ++ [])
none_put new h streams owes is = subst (λ (xs : List ℕ). OverFrames new h streams xs) (sym (append-nil owes)) is

update_put : (u : Option (ℕ × ℕ)) (old new : Many) (core : State) (streams : List Stream) → IsHttp2 old core streams → [] ≡ owed core → IsHttp2 new (gives_back u core) streams
    → HasPut (Http2 new) (settle.update_put u (bare core)) streams []
unfolding bare
update_put None old new core streams was nothing now = record { core = core; stands = now; is = refl; owed_is = nothing }
update_put (Some update) old new core streams was nothing now =
    put_by (gives_back (Some update)) (back_apart (Some update)) old new (bare core) streams [] (record { core = core; stands = was; is = refl; owed_is = nothing }) now

updates_put : (owes : List ℕ) (old new : Many) (core : State) (streams : List Stream) → IsHttp2 old core streams → owes ≡ owed core → IsHttp2 new (h2_acts.updates owes core) streams
    → HasPut (Http2 new) (settle.updates owes (bare core)) streams owes
unfolding bare
updates_put [] old new core streams was owed_is now = update_put (next_update core.history) old new core streams was owed_is now
updates_put (b ∷ bytes) old new core streams was owed_is now = none_put new (bare core) streams (b ∷ bytes) (record { core = core; stands = now; is = refl; owed_is = owed_is })

-- the end of an act
pub updated_by : (old new : Many) (h : State) (streams : List Stream) (owes : List ℕ) → new.streams ≡ old.streams → ((s : State) → IsH2 old.h2 s → IsH2 new.h2 (ends_act s)) → OverFrames old h streams owes
    → HasPut (Http2 new) (settle.updating (OverHttp2 h) owes) streams owes
unfolding bare
updated_by old new h streams owes same acts was =
    let core : State = was.core in
    let now : IsHttp2 new (ends_act core) streams = kept old new core (ends_act core) streams same was.stands (acts core was.stands.core) in
    let P : State → Type 0 = λ t. HasPut (Http2 new) (settle.updates owes t) streams owes in
    let Q : List ℕ → Type 0 = λ xs. IsHttp2 new (h2_acts.updates xs core) streams in
    subst P (sym was.is) (updates_put owes old new core streams was.stands was.owed_is (subst Q (sym was.owed_is) now))

-- ---- frames and their room

pub room_by : (id size room : ℕ) (v : Many) (h : State) (streams : List Stream) (owes : List ℕ) → ((s : State) → IsH2 v.h2 s → room ≡ data_room id size s) → OverFrames v h streams owes
    → room ≡ data_room id size h
room_by id size room v h streams owes is was = is was.core was.stands.core ∙ ap (λ (t : State). data_room id size t) (sym was.is)

pub framed_by : (id : ℕ) (bytes : List ℕ) (old new : Many) (h : State) (streams : List Stream) (owes : List ℕ) (count : ℕ) → new.streams ≡ old.streams
    → ((s : State) → IsH2 old.h2 s → (count ≡ data_room id (length bytes) s) × IsH2 new.h2 (where_live id (sends id (take count bytes)) s)) → OverFrames old h streams owes
    → Framed (Http2 new) (OverHttp2 h) id count bytes streams owes
framed_by id bytes old new h streams owes count same sent was = record {
  count_is = room_by id (length bytes) count old h streams owes (λ s is. (sent s is).0) was;
  put = done_by (puts_data id (take count bytes)) (puts_apart id (take count bytes)) old new h streams owes same (λ s is. (sent s is).1) was;
}

-- ---- reads

next_owed : (s next alone : State) (owes : List ℕ) → s.given ≤ length s.out → owes ≡ owed s → next ≡ over s.out s.given alone → owes ++ alone.out ≡ owed next
next_owed s next alone owes few owed_is is =
    ap (λ (xs : List ℕ). xs ++ alone.out) owed_is ∙ sym (owed_behind s alone.out few) ∙ ap owed (sym is)

frames_to : ReadsApart → (setup : Setup) (ts : List Tunnel) (piece : List ℕ) (before after : List Due) (old new : Many) (h : State) (streams : List Stream) (owes : List ℕ) → (was : OverFrames old h streams owes)
    → FramesReadTo setup ts was.core streams piece before after new → ReadsTo setup ts (OverHttp2 h) streams owes piece before after (Http2 new)
unfolding bare
frames_to apart setup ts piece before after old new h streams owes was r =
    let core : State = was.core in
    let P : State → Type 0 = λ s. ReadTo s piece r.told r.next in
    let behind = apart core.out core.given (bare core) piece r.told r.next (subst P (is_over core) r.reads) in
    let alone : State = behind.alone in
    let again = apart [] 0 (bare core) piece r.told alone behind.reads in
    let none : alone.given ≡ 0 = ap (λ (t : State). t.given) again.is in
    let Q : State → Type 0 = λ s. ReadTo s piece r.told alone in
    record {
      events = r.puts.events;
      text = alone.out;
      front = OverHttp2 (record alone { out = [] });
      acts = r.puts.acts;
      others = r.puts.others;
      brings = record { told = r.told; next = alone; reads = subst Q (sym was.is) behind.reads; brings = r.puts.brings; text_is = refl; new_is = refl };
      asks = r.puts.asks;
      may = r.puts.may;
      after_is = r.puts.after_is;
      stands = record {
        core = r.next;
        stands = record { core = r.core; streams_are = r.puts.stand };
        is = ap (λ (n : ℕ). record alone { out = []; given = n }) none ∙ ap (λ (t : State). bare t) (sym behind.is);
        owed_is = next_owed core r.next alone owes (all_given old.h2 core was.stands.core) was.owed_is behind.is;
      };
    }

-- one behind the preface
pub reads_on : ReadsApart → (setup : Setup) (ts : List Tunnel) (piece : List ℕ) (before after : List Due) (old new : Many) → ReadsFrames setup ts piece before after old new
    → Reads setup ts piece before after (Http2 old) (Http2 new)
reads_on apart setup ts piece before after old new reads (machine.Head bytes) streams owes is = absurd is
reads_on apart setup ts piece before after old new reads OverHttp1 streams owes is = absurd is
reads_on apart setup ts piece before after old new reads (OverHttp2 h) streams owes is =
    frames_to apart setup ts piece before after old new h streams owes is (reads is.core streams is.stands)

-- and the one that ends it
pub reads_frames : ReadsApart → (setup : Setup) (ts : List Tunnel) (count : ℕ) (piece frames : List ℕ) (before after : List Due) (old new : Many) → opening_of (take count preface ++ piece) ≡ Whole frames → IsHttp2 old new_state []
    → ReadsFrames setup ts frames before after old new → ReadsBehind setup ts count piece before after (Http2 new)
unfolding bare
reads_frames apart setup ts count piece frames before after old new whole stands reads few =
    let r : FramesReadTo setup ts new_state [] frames before after new = reads new_state [] stands in
    let again = apart [] 0 new_state frames r.told r.next r.reads in
    let none : r.next.given ≡ 0 = ap (λ (t : State). t.given) again.is in
    let front : machine.Front = OverHttp2 (record r.next { out = [] }) in
    let P : Opening → Type 0 = λ o. OpeningBrings setup o (take count preface) piece r.puts.events r.next.out front in
    record {
      events = r.puts.events;
      text = r.next.out;
      front = front;
      acts = r.puts.acts;
      others = r.puts.others;
      brings = subst P (sym whole) (record { told = r.told; next = r.next; reads = r.reads; brings = r.puts.brings; text_is = refl; new_is = refl });
      asks = r.puts.asks;
      may = r.puts.may;
      after_is = r.puts.after_is;
      stands = record {
        core = r.next;
        stands = record { core = r.core; streams_are = r.puts.stand };
        is = ap (λ (n : ℕ). record r.next { out = []; given = n }) none;
        owed_is = ap (λ (n : ℕ). drop n r.next.out) (sym none);
      };
    }

-- ---- the end of the link

ends_in : (begun : Bool) (h : State) → IsTrue begun ↔ IsBegun h → EndsInFrames h begun
ends_in true h is = is.0 refl
ends_in false h is = λ inside. (let e : false ≡ true = is.1 inside in cc)

pub finishes_by : (begun : Bool) (v : Many) (h : State) (streams : List Stream) (owes : List ℕ) → ((s : State) → IsH2 v.h2 s → IsTrue begun ↔ IsBegun s) → OverFrames v h streams owes
    → Finishes (OverHttp2 h) streams (Ends (cond begun end.Truncated end.Done))
unfolding bare
finishes_by begun v h streams owes is was =
    let P : State → Type 0 = λ t. EndsInFrames t begun in
    (begun, subst P (sym was.is) (ends_in begun (bare was.core) (is was.core was.stands.core)), refl)
