-- A read brings one thing.
use Rattle.std.proofs.Common.{◌≡◌, ℕ, Bool, true, false, inl, inr, List, [], ◌∷◌, ◌++◌, drop, Option, Some, None, sym, ap, subst, ◌∙◌}
use Rattle.mq_addr.specs.declared.kind.Kind.{Kind}
use Rattle.mq_addr.specs.declared.kind.Kind.TheVariants as kind
use Rattle.mq_capsule.specs.declared.item.Item.{Item}
use Rattle.mq_capsule.specs.Laws.{IsReadOnce}
use Rattle.mq_h2.specs.declared.event.StreamEvent as http2
use Rattle.mq_h2.specs.declared.event.StreamEvent.TheVariants as frame_event
use Rattle.mq_h2.specs.Laws.{IsOneRead}
use Rattle.mq_h2.specs.State as h2
use Rattle.mq_head.specs.declared.step.HeadStep.{HeadStep}
use Rattle.mq_head.specs.declared.step.HeadStep.TheVariants.{More, Upgrade, Refuse}
use Rattle.mq_head.specs.Laws.{OneAnswer}
use Rattle.mq_policy.specs.Decisions.{HasOneDecision}
use Rattle.mq_talk.specs.declared.goal.Goal.{Goal}
use Rattle.mq_target.specs.declared.target.Matched.{Matched}
use Rattle.mq_target.specs.declared.target.Matched.TheVariants.{No, Bad, Yes}
use Rattle.mq_target.specs.Laws.{HasOneReading}
use Rattle.mq_machine.specs.declared.act.StreamAct.{StreamAct}
use Rattle.mq_machine.specs.declared.act.Due.{Due}
use Rattle.mq_machine.specs.declared.setup.Setup.{Setup}
use Rattle.mq_machine.specs.Http2 as request
use Rattle.mq_machine.specs.Settle.{settle}
use Rattle.mq_machine.specs.State.{Conn, Stream, Tunnel, Front, Head, OverHttp1, OverHttp2, kind_of}
use Rattle.mq_machine.specs.Reading.{Meaning, Leads, Refused, decided, MatchedMeans, template_of, PathMeans, StreamEvent, Request, Malformed, Content, Reset, ConnectionError, EndsWith, BytesAsk, has_values, payload_count, acts_of, then_acts, on_stream, mark_of, stream_of, ContentAsks, EventAsks, EventsAsk, content_of, StepBrings, HeadBrings, KindMeans, EventBrings, EventsBring, FramesBring, Opening, Part, Whole, Other, opening_of, OtherBrings, OpeningBrings, Brings, TookNext}

-- what is known of the readers
pub record Known : Type 0 where
  pub answer : OneAnswer
  pub capsules : IsReadOnce
  pub reading : HasOneReading
  pub decision : HasOneDecision
  pub frames : IsOneRead

-- ---- what events ask for

one_end : (goal : Goal) (bytes : List ℕ) (ends : Bool) (a b : List StreamAct) → EndsWith goal bytes ends a → EndsWith goal bytes ends b → a ≡ b
one_end goal bytes false a b x y = x ∙ sym y
one_end goal bytes true a b (inl x) (inl y) = x.1 ∙ sym y.1
one_end goal bytes true a b (inl x) (inr y) = absurd (y.0 x.0)
one_end goal bytes true a b (inr x) (inl y) = absurd (x.0 y.0)
one_end goal bytes true a b (inr x) (inr y) = x.1 ∙ sym y.1

-- what stands behind the same is the same
behind : {A : Type 0} (xs ys zs : List A) → xs ++ ys ≡ xs ++ zs → ys ≡ zs
behind [] ys zs h = h
behind (x ∷ xs) ys zs h = let rest : xs ++ ys ≡ xs ++ zs = cc in behind xs ys zs rest

one_asked : Known → (mtu : ℕ) (s : Stream) (bytes : List ℕ) (ends : Bool) (a b : List StreamAct) → BytesAsk mtu s bytes ends a → BytesAsk mtu s bytes ends b → a ≡ b
one_asked known mtu s bytes ends a b x y =
    let before = known.capsules (has_values s.goal) s.bytes x.before y.before x.was y.was in
    let all = known.capsules (has_values s.goal) (s.bytes ++ bytes) (x.before ++ x.items) (y.before ++ y.items) x.is y.is in
    let items = behind x.before x.items y.items (all ∙ ap (λ (b : List Item). b ++ y.items) (sym before)) in
    let last = one_end s.goal (s.bytes ++ bytes) ends x.last y.last x.ends_in y.ends_in in
    x.acts_are ∙ ap (λ (b : List Item). then_acts (acts_of (kind_of s.goal) mtu (payload_count b) x.items) x.last) before
    ∙ ap (λ (i : List Item). then_acts (acts_of (kind_of s.goal) mtu (payload_count y.before) i) x.last) items
    ∙ ap (λ (l : List StreamAct). then_acts (acts_of (kind_of s.goal) mtu (payload_count y.before) y.items) l) last ∙ sym y.acts_are

one_content : Known → (mtu id : ℕ) (bytes : List ℕ) (size : Option ℕ) (ends : Bool) (o : Option Stream) (a b : List Due)
    → ContentAsks mtu id bytes size ends o a → ContentAsks mtu id bytes size ends o b → a ≡ b
one_content known mtu id bytes size ends None a b x y = x ∙ sym y
one_content known mtu id bytes size ends (Some s) a b x y =
    x.2 ∙ ap (λ (acts : List StreamAct). on_stream id acts ++ mark_of id size) (one_asked known mtu s bytes ends x.0 y.0 x.1 y.1) ∙ sym y.2

one_event : Known → (mtu : ℕ) (ts : List Tunnel) (old : List Stream) (e : StreamEvent) (a b : List Due) (s t : List Stream)
    → EventAsks mtu ts old e a s → EventAsks mtu ts old e b t → (a ≡ b) × (s ≡ t)
one_event known mtu ts old (Request id (Refused status rule) ends) a b s t x y = (x.0 ∙ sym y.0, x.1 ∙ sym y.1)
one_event known mtu ts old (Request id (Leads goal) ends) a b s t x y = (x.0 ∙ sym y.0, x.1 ∙ sym y.1)
one_event known mtu ts old (ConnectionError code) a b s t x y = (x.0 ∙ sym y.0, x.1 ∙ sym y.1)
one_event known mtu ts old (Malformed id code) a b s t x y = (x.0 ∙ sym y.0, x.1 ∙ sym y.1)
one_event known mtu ts old (Content id bytes size ends) a b s t x y = (one_content known mtu id bytes size ends (stream_of old id) a b x.0 y.0, x.1 ∙ sym y.1)
one_event known mtu ts old (Reset id) a b s t x y = (x.0 ∙ sym y.0, x.1 ∙ sym y.1)

one_events : Known → (mtu : ℕ) (ts : List Tunnel) (events : List StreamEvent) (old : List Stream) (a b : List Due) (s t : List Stream)
    → EventsAsk mtu ts old events a s → EventsAsk mtu ts old events b t → (a ≡ b) × (s ≡ t)
one_events known mtu ts [] old a b s t x y = (x.0 ∙ sym y.0, x.1 ∙ sym y.1)
one_events known mtu ts (e ∷ events) old a b s t x y =
    let here = one_event known mtu ts old e x.0 y.0 x.1 y.1 x.3 y.3 in
    let P : List Stream → Type 0 = λ mid. EventsAsk mtu ts mid events y.2 t in
    let later = one_events known mtu ts events x.1 x.2 y.2 s t x.4 (subst P (sym here.1) y.4) in
    (x.5 ∙ ap (λ (ds : List Due). ds ++ x.2) here.0 ∙ ap (λ (ds : List Due). y.0 ++ ds) later.0 ∙ sym y.5, later.1)

-- ---- what bytes bring

one_matched : Known → (setup : Setup) (matched : Matched) (a b : Meaning) → MatchedMeans setup matched a → MatchedMeans setup matched b → a ≡ b
one_matched known setup No a b x y = x ∙ sym y
one_matched known setup Bad a b x y = x ∙ sym y
one_matched known setup (Yes target) a b x y = x.2 ∙ ap decided (known.decision setup.policy target x.0 y.0 x.1 y.1) ∙ sym y.2

one_meaning : Known → (setup : Setup) → (kind : Kind) (path : List ℕ) (a b : Meaning) → PathMeans setup kind path a → PathMeans setup kind path b → a ≡ b
one_meaning known setup kind path a b x y =
    let P : Matched → Type 0 = λ m. MatchedMeans setup m b in
    let same = known.reading (template_of setup kind) path x.0 y.0 x.1 y.1 in
    one_matched known setup x.0 a b x.2 (subst P (sym same) y.2)

one_head : Known → (setup : Setup) → (before bytes : List ℕ) (step : HeadStep) (e f : List StreamEvent) (a b : Front)
    → StepBrings setup before bytes step e a → StepBrings setup before bytes step f b → (e ≡ f) × (a ≡ b)
one_head known setup before bytes More e f a b x y = (x.0 ∙ sym y.0, x.1 ∙ sym y.1)
one_head known setup before bytes (Refuse status) e f a b x y = (x.0 ∙ sym y.0, x.1 ∙ sym y.1)
one_head known setup before bytes (Upgrade kind path used) e f a b x y =
    (x.2 ∙ ap (λ m. Request 0 m false ∷ content_of (drop used bytes)) (one_meaning known setup kind path x.0 y.0 x.1 y.1) ∙ sym y.2, x.3 ∙ sym y.3)

one_of_kind : Known → (setup : Setup) → (kind : Option Kind) (path : List ℕ) (a b : Meaning) → KindMeans setup kind path a → KindMeans setup kind path b → a ≡ b
one_of_kind known setup None path a b x y = x ∙ sym y
one_of_kind known setup (Some kind) path a b x y = one_meaning known setup kind path a b x y

one_told : Known → (setup : Setup) → (f : http2.StreamEvent) (a b : StreamEvent) → EventBrings setup f a → EventBrings setup f b → a ≡ b
one_told known setup (frame_event.Request id fields ends) a b x y =
    x.2 ∙ ap (λ m. Request id m ends) (one_of_kind known setup (request.kind_of fields) (request.path_of fields) x.0 y.0 x.1 y.1) ∙ sym y.2
one_told known setup (frame_event.Malformed id code) a b x y = x ∙ sym y
one_told known setup (frame_event.Content id bytes size ends) a b x y = x ∙ sym y
one_told known setup (frame_event.Reset id code) a b x y = x ∙ sym y
one_told known setup (frame_event.ConnectionError code) a b x y = x ∙ sym y

all_told : Known → (setup : Setup) → (fs : List http2.StreamEvent) (a b : List StreamEvent) → EventsBring setup fs a → EventsBring setup fs b → a ≡ b
all_told known setup [] a b x y = x ∙ sym y
all_told known setup (f ∷ fs) a b x y =
    x.4 ∙ ap (λ e. e ∷ x.1) (one_told known setup f x.0 y.0 x.2 y.2) ∙ ap (λ (es : List StreamEvent). y.0 ∷ es) (all_told known setup fs x.1 y.1 x.3 y.3) ∙ sym y.4

one_frames : Known → (setup : Setup) → (old : h2.State) (bytes : List ℕ) (e f : List StreamEvent) (s t : List ℕ) (a b : Front)
    → FramesBring setup old bytes e s a → FramesBring setup old bytes f t b → (e ≡ f) × (s ≡ t) × (a ≡ b)
one_frames known setup old bytes e f s t a b x y =
    let read = known.frames old bytes x.told y.told x.next y.next x.reads y.reads in
    let P : List http2.StreamEvent → Type 0 = λ fs. EventsBring setup fs f in (
      all_told known setup x.told e f x.brings (subst P (sym read.0) y.brings),
      x.text_is ∙ ap (λ (h : h2.State). h.out) read.1 ∙ sym y.text_is,
      x.new_is ∙ ap (λ (h : h2.State). OverHttp2 (record h { out = [] })) read.1 ∙ sym y.new_is,
    )

-- a head is answered in one way
one_answered : Known → (setup : Setup) → (before bytes : List ℕ) (e f : List StreamEvent) (a b : Front)
    → HeadBrings setup before bytes e a → HeadBrings setup before bytes f b → (e ≡ f) × (a ≡ b)
one_answered known setup before bytes e f a b x y =
    let P : HeadStep → Type 0 = λ step. StepBrings setup before bytes step f b in
    one_head known setup before bytes x.0 e f a b x.2 (subst P (sym (known.answer before bytes x.0 y.0 x.1 y.1)) y.2)

one_other : Known → (setup : Setup) → (earlier : Opening) (before bytes : List ℕ) (e f : List StreamEvent) (a b : Front)
    → OtherBrings setup earlier before bytes e a → OtherBrings setup earlier before bytes f b → (e ≡ f) × (a ≡ b)
one_other known setup Part before bytes e f a b x y = one_answered known setup [] (before ++ bytes) e f a b x y
one_other known setup (Whole frames) before bytes e f a b x y = one_answered known setup before bytes e f a b x y
one_other known setup Other before bytes e f a b x y = one_answered known setup before bytes e f a b x y

one_opening : Known → (setup : Setup) → (opening : Opening) (before bytes : List ℕ) (e f : List StreamEvent) (s t : List ℕ) (a b : Front)
    → OpeningBrings setup opening before bytes e s a → OpeningBrings setup opening before bytes f t b → (e ≡ f) × (s ≡ t) × (a ≡ b)
one_opening known setup Part before bytes e f s t a b x y = (x.0 ∙ sym y.0, x.1 ∙ sym y.1, x.2 ∙ sym y.2)
one_opening known setup (Whole frames) before bytes e f s t a b x y = one_frames known setup h2.new_state frames e f s t a b x y
one_opening known setup Other before bytes e f s t a b x y =
    let same = one_other known setup (opening_of before) before bytes e f a b x.0 y.0 in
    (same.0, x.1 ∙ sym y.1, same.1)

one_read : Known → (setup : Setup) → (old : Front) (bytes : List ℕ) (e f : List StreamEvent) (s t : List ℕ) (a b : Front)
    → Brings setup old bytes e s a → Brings setup old bytes f t b → (e ≡ f) × (s ≡ t) × (a ≡ b)
one_read known setup OverHttp1 bytes e f s t a b x y = (x.0 ∙ sym y.0, x.1 ∙ sym y.1, x.2 ∙ sym y.2)
one_read known setup (OverHttp2 h) bytes e f s t a b x y = one_frames known setup h bytes e f s t a b x y
one_read known setup (Head before) bytes e f s t a b x y = one_opening known setup (opening_of (before ++ bytes)) before bytes e f s t a b x y

pub one_took : Known → (setup : Setup) → (old a b : Conn) (bytes : List ℕ) → TookNext setup old bytes a → TookNext setup old bytes b → a ≡ b
one_took known setup old a b bytes x y =
    let read = one_read known setup old.front bytes x.events y.events x.text y.text x.front y.front x.brings y.brings in
    let P : List StreamEvent → Type 0 = λ es. EventsAsk setup.mtu old.tunnels old.streams es y.acts y.streams in
    let asked = one_events known setup.mtu old.tunnels x.events old.streams x.acts y.acts x.streams y.streams x.asks (subst P (sym read.0) y.asks) in
    let make : Front → List Stream → List Due → List ℕ → Conn = λ front streams acts text. settle (record old { front = front; streams = streams; due = acts; out = old.out ++ text }) in
    x.new_is ∙ ap (λ f. make f x.streams x.acts x.text) read.2 ∙ ap (λ (ss : List Stream). make y.front ss x.acts x.text) asked.1
    ∙ ap (λ (ds : List Due). make y.front y.streams ds x.text) asked.0 ∙ ap (λ (t : List ℕ). make y.front y.streams y.acts t) read.1 ∙ sym y.new_is
