use Rattle.std.proofs.Common.{◌≡◌, ◌≢◌, ℕ, Bool, List, [], ◌∷◌, refl, sym, subst, ◌∙◌, append-nil}
use Rattle.mq_streams.specs.Stand.{StandFor}
use Rattle.mq_streams.specs.Answers.{begun, after_begin}
use Rattle.mq_streams.specs.declared.answers.Began.{Began}
use Rattle.mq_streams.specs.declared.answers.Began.TheVariants.{Live, Refused, Old, BadId}
use Rattle.mq_h2.specs.State.{State, with_history}
use Rattle.mq_h2.specs.Frames.{OnBlock, OnHeaders, breaks}
use Rattle.mq_h2.specs.declared.event.StreamEvent.{StreamEvent}
use Rattle.mq_h2.specs.declared.event.StreamEvent.TheVariants.{ConnectionError}
use Rattle.mq_h2.proofs.Cores.{serves_on, goes_on}
use Rattle.mq_h2.proofs.Coming.{comes_as}
use Rattle.mq_h2.proofs.parts.Core.on_headers.Goals as goal

module _ (id : ℕ) (block : List ℕ) (end whole : Bool) (s : State) (events : List StreamEvent) (t : State) where
  headers_of : (k : Began) → k ≢ BadId → OnBlock whole (record { stream = id; began = k; end = end; bytes = block }) (with_history (after_begin k id s.history) s) events t →
      OnHeaders k id block end whole s events t
  headers_of Live ne on = on
  headers_of Refused ne on = on
  headers_of Old ne on = on
  headers_of BadId ne on = absurd (ne refl)

pub returns-in-BadId : goal.returns-in-BadId
returns-in-BadId c = λ s goes.
    let a = c.args in
    let came = c.begin.ensures s.history goes.decodes.serves.streams in
    let bad : begun a.stream s.history ≡ BadId = sym came.0 ∙ c.in-BadId.is in
    let stand : StandFor c.begin.new.self s.history = subst (λ (k : Began). StandFor c.begin.new.self (after_begin k a.stream s.history)) c.in-BadId.is came.1 in
    record {
      given = [];
      mid = s;
      so = subst (λ (k : Began). OnHeaders k a.stream a.bytes a.end a.whole s (ConnectionError 1 ∷ []) (breaks 1 s).after) (sym bad) (refl, refl);
      added = sym (append-nil a.events.now.items);
      serves = serves_on a.self.now s goes.decodes.serves c.begin.new.self s.history stand;
    }

pub returns-in_default : goal.returns-in_default
returns-in_default c = λ s goes.
    let a = c.args in
    let came = c.begin.ensures s.history goes.decodes.serves.streams in
    let k : Began = c.begin.result in
    let t : State = with_history (after_begin k a.stream s.history) s in
    let done = c.on_part.ensures t (goes_on a.self.now s goes c.begin.new.self _ came.1).decodes in
    comes_as (OnBlock a.whole (record { stream = a.stream; began = k; end = a.end; bytes = a.bytes }) t) (OnHeaders (begun a.stream s.history) a.stream a.bytes a.end a.whole s)
    a.events.now.items c.on_part.result c.on_part.new.events.items c.on_part.new.self
    (λ events u on. subst (λ (b : Began). OnHeaders b a.stream a.bytes a.end a.whole s events u) came.0
    (headers_of a.stream a.bytes a.end a.whole s events u k c.in_default.not-BadId on)) done
