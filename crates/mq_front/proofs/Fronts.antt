-- The calls of a front, by how far its bytes were read.
use Rattle.std.proofs.Common.{◌≡◌, ◌==◌, ◌<◌, not, ℕ, Bool, false, cond, List, [], ◌∷◌, ◌++◌, length, take, filter, Some, None, Result, Ok, Err, refl, sym, ap, ◌∙◌, subst, append-nil, arith, eq-eqb, ne_eqb}
use Rattle.std.proofs.lemmas.List.{length-take-le}
use Rattle.std.specs.Prelude.{OnOk, IfOk}
use Rattle.mq_h2.specs.Acts as acts
use Rattle.mq_h2.specs.Acts.{consumes, ends_act, sends, where_live, writes}
use Rattle.mq_h2.specs.Laws.{ReadsApart}
use Rattle.mq_h2.specs.Stand.{IsH2}
use Rattle.mq_h2.specs.State as h2
use Rattle.mq_h2.specs.State.{owed}
use Rattle.mq_head.specs.declared.reader.HeadReader.{HeadReader}
use Rattle.mq_head.specs.declared.step.HeadStep.{HeadStep}
use Rattle.mq_head.specs.declared.step.HeadStep.TheVariants.{More}
use Rattle.mq_head.specs.Reader.{IsHeadOf}
use Rattle.mq_head.specs.Steps.{IsStep}
use Rattle.mq_talk.specs.declared.note.End.{End}
use Rattle.mq_talk.specs.declared.note.End.TheVariants as end
use Rattle.mq_talk.specs.declared.note.Why.{Why}
use Rattle.mq_wire.specs.declared.NoMemory.{NoMemory}
use Rattle.mq_machine.specs.declared.act.Due.{Due}
use Rattle.mq_machine.specs.declared.setup.Setup.{Setup}
use Rattle.mq_machine.specs.Done.{is_begun}
use Rattle.mq_machine.specs.Http2.{closes}
use Rattle.mq_machine.specs.Settle.{updating}
use Rattle.mq_machine.specs.Reading.{Opening, Part, Other, OpeningBrings, OtherBrings, EndsIn, opening_of, preface, stream_of}
use Rattle.mq_machine.specs.State as machine
use Rattle.mq_machine.specs.State.{Stream, Tunnel, OverHttp1, OverHttp2}
use Rattle.mq_front.specs.declared.finish.Finish.{Finish}
use Rattle.mq_front.specs.declared.finish.Finish.TheVariants.{Ends, Closes}
use Rattle.mq_front.specs.declared.front.Front.{Front}
use Rattle.mq_front.specs.declared.front.Front.TheVariants.{Preface, Head, Http1, Http2}
use Rattle.mq_front.specs.declared.http1.Http1.{Http1 as One}
use Rattle.mq_front.specs.declared.http2.Http2.{Http2 as Many}
use Rattle.mq_front.specs.Fronts.{IsHttp1, IsFront, OverFrames, HasPut, Closed, Framed, ReadsTo, Reads, Finishes, finish_of}
use Rattle.mq_front.specs.Events.{IsHttp2, ReadsFrames}
use Rattle.mq_front.specs.Parts.{HasPutFrames, AnswersHead, LedTo, ReadsBehind, ReadsData, ReadsOther, EndsData}
use Rattle.mq_front.proofs.Apart.{framed_by, reads_on, updated_by}
use Rattle.mq_front.proofs.Starts.{other_stays, part_is}

-- ---- how far the bytes were read

pub as_is : (v w : Front) → v ≡ w → (f : machine.Front) (streams : List Stream) (owes : List ℕ) → IsFront v f streams owes → IsFront w f streams owes
as_is v w same f streams owes is = subst (λ (u : Front). IsFront u f streams owes) same is

pub by_preface : (count : ℕ) (streams : List Stream) (owes : List ℕ) (P : machine.Front → Type 0) → ((bytes : List ℕ) → IsFront (Preface count) (machine.Head bytes) streams owes → P (machine.Head bytes))
    → (f : machine.Front) → IsFront (Preface count) f streams owes → P f
by_preface count streams owes P so (machine.Head bytes) is = so bytes is
by_preface count streams owes P so OverHttp1 is = absurd is
by_preface count streams owes P so (OverHttp2 h) is = absurd is

pub by_head : (reader : HeadReader) (streams : List Stream) (owes : List ℕ) (P : machine.Front → Type 0) → ((bytes : List ℕ) → IsFront (Head reader) (machine.Head bytes) streams owes → P (machine.Head bytes))
    → (f : machine.Front) → IsFront (Head reader) f streams owes → P f
by_head reader streams owes P so (machine.Head bytes) is = so bytes is
by_head reader streams owes P so OverHttp1 is = absurd is
by_head reader streams owes P so (OverHttp2 h) is = absurd is

pub by_one : (one : One) (streams : List Stream) (owes : List ℕ) (P : machine.Front → Type 0) → (IsHttp1 one streams owes → P OverHttp1) → (f : machine.Front) → IsFront (Http1 one) f streams owes → P f
by_one one streams owes P so (machine.Head bytes) is = absurd is
by_one one streams owes P so OverHttp1 is = so is
by_one one streams owes P so (OverHttp2 h) is = absurd is

pub by_many : (many : Many) (streams : List Stream) (owes : List ℕ) (P : machine.Front → Type 0) → ((h : h2.State) → OverFrames many h streams owes → P (OverHttp2 h)) → (f : machine.Front) → IsFront (Http2 many) f streams owes → P f
by_many many streams owes P so (machine.Head bytes) is = absurd is
by_many many streams owes P so OverHttp1 is = absurd is
by_many many streams owes P so (OverHttp2 h) is = so h is

-- nothing is put
pub nothing : (v : Front) (f : machine.Front) (streams : List Stream) (owes : List ℕ) → IsFront v f streams owes → IsFront v f streams (owes ++ [])
nothing v f streams owes is = subst (λ (xs : List ℕ). IsFront v f streams xs) (sym (append-nil owes)) is

-- ---- the first bytes

-- no more than a part of the preface
pub waits : (setup : Setup) (ts : List Tunnel) (count : ℕ) (piece : List ℕ) (more : ℕ) (before : List Due)
    → (count < 24 → (opening_of (take count preface ++ piece) ≡ Part) × (more < 24) × (take count preface ++ piece ≡ take more preface))
    → ReadsBehind setup ts count piece before before (Preface more)
waits setup ts count piece more before so few =
    let part = so few in
    let known : List ℕ = take count preface in
    let P : Opening → Type 0 = λ o. OpeningBrings setup o known piece [] [] (machine.Head (known ++ piece)) in
    record {
      events = [];
      text = [];
      front = machine.Head (known ++ piece);
      acts = [];
      others = [];
      brings = subst P (sym part.0) (refl, refl, refl);
      asks = (refl, refl);
      may = tt;
      after_is = sym (append-nil before);
      stands = (part.1, part.2, refl, refl);
    }

-- what a reader of heads that was fed all of them leads to
other_brings : (setup : Setup) (count : ℕ) (piece : List ℕ) → count < 24 → opening_of (take count preface ++ piece) ≡ Other → (events : List _) (front : machine.Front)
    → OtherBrings setup Part (take count preface) piece events front → OpeningBrings setup (opening_of (take count preface ++ piece)) (take count preface) piece events [] front
other_brings setup count piece few other events front brings =
    let known : List ℕ = take count preface in
    let P : Opening → Type 0 = λ o. OpeningBrings setup o known piece events [] front in
    let Q : Opening → Type 0 = λ o. OtherBrings setup o known piece events front in
    subst P (sym other) (subst Q (sym (part_is count few)) brings, refl)

pub other_led : (setup : Setup) (count : ℕ) (piece bytes : List ℕ) (before after : List Due) (step : HeadStep) (one : One) → (count < 24 → bytes ≡ take count preface ++ piece) → IsStep [] bytes step
    → AnswersHead setup step bytes before after (Some one) → ReadsOther setup count piece before after (Http1 one)
other_led setup count piece bytes before after step one bytes_is is answers other ts few =
    let led : LedTo setup ts [] bytes before after one = answers ts [] is in
    let P : List ℕ → Type 0 = λ xs. OtherBrings setup Part [] xs led.events OverHttp1 in
    record {
      events = led.events;
      text = [];
      front = OverHttp1;
      acts = led.acts;
      others = led.others;
      brings = other_brings setup count piece few other led.events OverHttp1 (subst P (bytes_is few) led.brings);
      asks = led.asks;
      may = led.may;
      after_is = led.after_is;
      stands = led.stands;
    }

pub other_waits : (setup : Setup) (count : ℕ) (piece bytes : List ℕ) (before after : List Due) (step : HeadStep) (reader : HeadReader) → (count < 24 → bytes ≡ take count preface ++ piece) → IsStep [] bytes step
    → AnswersHead setup step bytes before after None → (step ≡ More → IsHeadOf reader bytes) → ReadsOther setup count piece before after (Head reader)
other_waits setup count piece bytes before after step reader bytes_is is answers stands other ts few =
    let S : HeadStep → Type 0 = λ step. IsStep [] bytes step in
    let known : List ℕ = take count preface in
    let P : List ℕ → Type 0 = λ xs. OtherBrings setup Part [] xs [] (machine.Head xs) in
    let R : List ℕ → Type 0 = λ xs. IsHeadOf reader xs in
    record {
      events = [];
      text = [];
      front = machine.Head (known ++ piece);
      acts = [];
      others = [];
      brings = other_brings setup count piece few other [] (machine.Head (known ++ piece)) (subst P (bytes_is few) (More, subst S answers.0 is, (refl, refl)));
      asks = (refl, refl);
      may = tt;
      after_is = answers.1 ∙ sym (append-nil before);
      stands = (subst R (bytes_is few) (stands answers.0), other, refl, refl);
    }

-- ---- more of a head

head_brings : (setup : Setup) (known piece : List ℕ) → opening_of known ≡ Other → (events : List _) (front : machine.Front) → OtherBrings setup Other known piece events front
    → OpeningBrings setup (opening_of (known ++ piece)) known piece events [] front
head_brings setup known piece other events front brings =
    let P : Opening → Type 0 = λ o. OpeningBrings setup o known piece events [] front in
    let Q : Opening → Type 0 = λ o. OtherBrings setup o known piece events front in
    subst P (sym (other_stays preface known piece other)) (subst Q (sym other) brings, refl)

pub head_led : (setup : Setup) (ts : List Tunnel) (piece : List ℕ) (before after : List Due) (step : HeadStep) (reader : HeadReader) (one : One) → ((known : List ℕ) → IsHeadOf reader known → IsStep known piece step)
    → AnswersHead setup step piece before after (Some one) → Reads setup ts piece before after (Head reader) (Http1 one)
head_led setup ts piece before after step reader one steps answers OverHttp1 streams owes is = absurd is
head_led setup ts piece before after step reader one steps answers (OverHttp2 h) streams owes is = absurd is
head_led setup ts piece before after step reader one steps answers (machine.Head known) streams owes (begun, other, none, owed_none) =
    let led : LedTo setup ts known piece before after one = answers ts known (steps known begun) in
    let P : List Stream → Type 0 = λ ss. ReadsTo setup ts (machine.Head known) ss owes piece before after (Http1 one) in
    let Q : List ℕ → Type 0 = λ xs. ReadsTo setup ts (machine.Head known) [] xs piece before after (Http1 one) in
    subst P (sym none) (subst Q (sym owed_none) (record {
      events = led.events;
      text = [];
      front = OverHttp1;
      acts = led.acts;
      others = led.others;
      brings = head_brings setup known piece other led.events OverHttp1 led.brings;
      asks = led.asks;
      may = led.may;
      after_is = led.after_is;
      stands = led.stands;
    }))

pub head_waits : (setup : Setup) (ts : List Tunnel) (piece : List ℕ) (before after : List Due) (step : HeadStep) (reader new : HeadReader) → ((known : List ℕ) → IsHeadOf reader known → IsStep known piece step)
    → AnswersHead setup step piece before after None → ((known : List ℕ) → IsHeadOf reader known → step ≡ More → IsHeadOf new (known ++ piece)) → Reads setup ts piece before after (Head reader) (Head new)
head_waits setup ts piece before after step reader new steps answers stands OverHttp1 streams owes is = absurd is
head_waits setup ts piece before after step reader new steps answers stands (OverHttp2 h) streams owes is = absurd is
head_waits setup ts piece before after step reader new steps answers stands (machine.Head known) streams owes (begun, other, none, owed_none) =
    let S : HeadStep → Type 0 = λ step. IsStep known piece step in
    let P : List Stream → Type 0 = λ ss. ReadsTo setup ts (machine.Head known) ss owes piece before after (Head new) in
    let Q : List ℕ → Type 0 = λ xs. ReadsTo setup ts (machine.Head known) [] xs piece before after (Head new) in
    subst P (sym none) (subst Q (sym owed_none) (record {
      events = [];
      text = [];
      front = machine.Head (known ++ piece);
      acts = [];
      others = [];
      brings = head_brings setup known piece other [] (machine.Head (known ++ piece)) (More, subst S answers.0 (steps known begun), (refl, refl));
      asks = (refl, refl);
      may = tt;
      after_is = answers.1 ∙ sym (append-nil before);
      stands = (stands known begun answers.0, other_stays preface known piece other, refl, refl);
    }))

-- ---- behind it

pub reads_more : (setup : Setup) (ts : List Tunnel) (piece : List ℕ) (before after : List Due) (old new : One) → ReadsData setup.mtu old piece before after new → Reads setup ts piece before after (Http1 old) (Http1 new)
reads_more setup ts piece before after old new reads (machine.Head known) streams owes is = absurd is
reads_more setup ts piece before after old new reads (OverHttp2 h) streams owes is = absurd is
reads_more setup ts piece before after old new reads OverHttp1 streams owes is =
    let r = reads ts streams owes is in
    record {
      events = _;
      text = [];
      front = OverHttp1;
      acts = r.acts;
      others = r.others;
      brings = (refl, refl, refl);
      asks = r.asks;
      may = r.may;
      after_is = r.after_is;
      stands = nothing (Http1 new) OverHttp1 r.others owes r.stands;
    }

-- ---- the end of the link

none_inside : (bytes : List ℕ) (streams : List Stream) (finish : Finish) → streams ≡ [] → finish ≡ finish_of (machine.Head bytes) false → Finishes (machine.Head bytes) streams finish
none_inside bytes streams finish none same = (false, (let P : List Stream → Type 0 = λ ss. EndsIn (stream_of ss 0) false in subst P (sym none) refl), same)

came : (count : ℕ) (bytes : List ℕ) → count < 24 → bytes ≡ take count preface → Ends (cond (count == 0) end.Done end.Truncated) ≡ finish_of (machine.Head bytes) false
came count [] few is =
    let len : 0 ≡ count = ap (λ (xs : List ℕ). length xs) is ∙ length-take-le count preface (omega (arith, few)) in
    ap (λ (b : Bool). Ends (cond b end.Done end.Truncated)) (eq-eqb count 0 (sym len))
came count (b ∷ bytes) few is =
    let len : length (b ∷ bytes) ≡ count = ap (λ (xs : List ℕ). length xs) is ∙ length-take-le count preface (omega (arith, few)) in
    ap (λ (b : Bool). Ends (cond b end.Done end.Truncated)) (ne_eqb count 0 (λ e. omega (arith, len, e)))

pub finishes_preface : (v : Front) (count : ℕ) (e : End) → v ≡ Preface count → e ≡ cond (count == 0) end.Done end.Truncated → (f : machine.Front) (streams : List Stream) (owes : List ℕ) → IsFront v f streams owes
    → Finishes f streams (Ends e)
finishes_preface v count e v_is e_is f streams owes is =
    by_preface count streams owes (λ g. Finishes g streams (Ends e))
    (λ bytes (few, bytes_is, none, owed_none). none_inside bytes streams (Ends e) none (ap (λ (x : End). Ends x) e_is ∙ came count bytes few bytes_is)) f (as_is v (Preface count) v_is f streams owes is)

pub finishes_one : (v : Front) (one : One) (reason : Why) → v ≡ Http1 one → EndsData one reason → (f : machine.Front) (streams : List Stream) (owes : List ℕ) → IsFront v f streams owes → Finishes f streams (Closes reason)
finishes_one v one reason v_is ended f streams owes is =
    by_one one streams owes (λ g. Finishes g streams (Closes reason)) (λ one_is. (let e = ended streams owes one_is in (e.0, e.1, ap (λ (w : Why). Closes w) e.2))) f (as_is v (Http1 one) v_is f streams owes is)

-- ---- the other calls, over HTTP/2

pub closed_many : (v : Front) (old new : Many) (id : ℕ) (begun : Bool) (reason : Why) → v ≡ Http2 old
    → ((h : h2.State) (streams : List Stream) (owes : List ℕ) → OverFrames old h streams owes → HasPutFrames new (closes id begun reason h) streams owes)
    → (f : machine.Front) (streams : List Stream) (owes : List ℕ) → IsFront v f streams owes → Closed (Http2 new) f id begun reason None streams owes
closed_many v old new id begun reason v_is closed f streams owes is =
    by_many old streams owes (λ g. Closed (Http2 new) g id begun reason None streams owes)
    (λ h was t at framed.
    (let P : ℕ → Bool → Type 0 = λ i b. HasPutFrames new (closes i b reason h) streams owes in
    (subst (λ (i : ℕ). P i (is_begun t.waiting)) (sym at) (subst (λ (b : Bool). P id b) (sym framed) (closed h streams owes was)), refl)))
    f (as_is v (Http2 old) v_is f streams owes is)

pub updated_many : (v : Front) (old new : Many) → v ≡ Http2 old → new.streams ≡ old.streams → ((s : h2.State) → IsH2 old.h2 s → IsH2 new.h2 (ends_act s))
    → (f : machine.Front) (streams : List Stream) (owes : List ℕ) → IsFront v f streams owes → HasPut (Http2 new) (updating f owes) streams owes
updated_many v old new v_is same acts f streams owes is =
    by_many old streams owes (λ g. HasPut (Http2 new) (updating g owes) streams owes) (λ h was. updated_by old new h streams owes same acts was) f (as_is v (Http2 old) v_is f streams owes is)

pub framed_many : (v : Front) (old new : Many) (id : ℕ) (bytes : List ℕ) (count : ℕ) → v ≡ Http2 old → new.streams ≡ old.streams
    → ((s : h2.State) → IsH2 old.h2 s → (count ≡ acts.data_room id (length bytes) s) × IsH2 new.h2 (where_live id (sends id (take count bytes)) s))
    → (f : machine.Front) (streams : List Stream) (owes : List ℕ) → IsFront v f streams owes → Framed (Http2 new) f id count bytes streams owes
framed_many v old new id bytes count v_is same sent f streams owes is =
    by_many old streams owes (λ g. Framed (Http2 new) g id count bytes streams owes) (λ h was. framed_by id bytes old new h streams owes count same sent was) f (as_is v (Http2 old) v_is f streams owes is)

forgot_by : (old new : Many) (id : ℕ) → ((h : h2.State) (streams : List Stream) → IsHttp2 old h streams → IsHttp2 new h (filter (λ (s : Stream). not (s.id == id)) streams))
    → (h : h2.State) (streams : List Stream) (owes : List ℕ) → OverFrames old h streams owes → OverFrames new h (filter (λ (s : Stream). not (s.id == id)) streams) owes
forgot_by old new id forgets h streams owes was = record { core = was.core; stands = forgets was.core streams was.stands; is = was.is; owed_is = was.owed_is }

pub forgot_many : (v : Front) (old new : Many) (id : ℕ) → v ≡ Http2 old → ((h : h2.State) (streams : List Stream) → IsHttp2 old h streams → IsHttp2 new h (filter (λ (s : Stream). not (s.id == id)) streams))
    → (f : machine.Front) (streams : List Stream) (owes : List ℕ) → IsFront v f streams owes → IsFront (Http2 new) f (filter (λ (s : Stream). not (s.id == id)) streams) owes
forgot_many v old new id v_is forgets f streams owes is =
    by_many old streams owes (λ g. IsFront (Http2 new) g (filter (λ (s : Stream). not (s.id == id)) streams) owes) (λ h was. forgot_by old new id forgets h streams owes was) f
    (as_is v (Http2 old) v_is f streams owes is)

pub forgot_one : (v : Front) (old new : One) (id : ℕ) → v ≡ Http1 old → ((streams : List Stream) (owes : List ℕ) → IsHttp1 old streams owes → IsHttp1 new (filter (λ (s : Stream). not (s.id == id)) streams) owes)
    → (f : machine.Front) (streams : List Stream) (owes : List ℕ) → IsFront v f streams owes → IsFront (Http1 new) f (filter (λ (s : Stream). not (s.id == id)) streams) owes
forgot_one v old new id v_is forgets f streams owes is =
    by_one old streams owes (λ g. IsFront (Http1 new) g (filter (λ (s : Stream). not (s.id == id)) streams) owes) (λ was. forgets streams owes was) f (as_is v (Http1 old) v_is f streams owes is)

-- ---- the calls that read

pub other_all : (setup : Setup) (ts : List Tunnel) (count : ℕ) (piece : List ℕ) (before after : List Due) (result : Result Front NoMemory) → IfOk result (λ new. ReadsOther setup count piece before after new)
    → (count < 24 → opening_of (take count preface ++ piece) ≡ Other) → IfOk result (λ new. ReadsBehind setup ts count piece before after new)
other_all setup ts count piece before after (Err refused) h other = tt
other_all setup ts count piece before after (Ok new) h other = λ few. h (other few) ts few

pub reads_as : (setup : Setup) (ts : List Tunnel) (piece : List ℕ) (before after : List Due) (v w new : Front) → v ≡ w → Reads setup ts piece before after w new → Reads setup ts piece before after v new
reads_as setup ts piece before after v w new v_is reads f streams owes is = reads f streams owes (as_is v w v_is f streams owes is)

pub more_all : (setup : Setup) (ts : List Tunnel) (piece : List ℕ) (before after : List Due) (v : Front) (old new : One) (result : Result (Unit {0}) NoMemory) → v ≡ Http1 old → OnOk result (ReadsData setup.mtu old piece before after new)
    → OnOk result (Reads setup ts piece before after v (Http1 new))
more_all setup ts piece before after v old new (Err refused) v_is h = tt
more_all setup ts piece before after v old new (Ok done) v_is h = reads_as setup ts piece before after v (Http1 old) (Http1 new) v_is (reads_more setup ts piece before after old new h)

pub frames_all : ReadsApart → (setup : Setup) (ts : List Tunnel) (piece : List ℕ) (before after : List Due) (v : Front) (old new : Many) (result : Result (Unit {0}) NoMemory) → v ≡ Http2 old
    → OnOk result (ReadsFrames setup ts piece before after old new) → OnOk result (Reads setup ts piece before after v (Http2 new))
frames_all apart setup ts piece before after v old new (Err refused) v_is h = tt
frames_all apart setup ts piece before after v old new (Ok done) v_is h = reads_as setup ts piece before after v (Http2 old) (Http2 new) v_is (reads_on apart setup ts piece before after old new h)
