use Rattle.std.proofs.Common.{◌≡◌, ℕ, List, [], ◌∷◌, IfOk, refl, sym, subst, ◌∙◌}
use Rattle.mq_streams.specs.Stand.{StandFor}
use Rattle.mq_streams.specs.Answers.{count_of, after_count}
use Rattle.mq_streams.specs.declared.answers.Counted.{Counted}
use Rattle.mq_streams.specs.declared.answers.Counted.TheVariants as counted
use Rattle.mq_client.specs.declared.event.ClientEvent.TheVariants.{BadPeer}
use Rattle.mq_client.specs.Session.{Session, with_history}
use Rattle.mq_client.specs.Frames.{OnData, takes, OnTaken}
use Rattle.mq_client.specs.Talking.{Gave}
use Rattle.mq_client.proofs.Goings.{goes_on, serves_on, broke_all}
use Rattle.mq_client.proofs.parts.Parts.on_data.Goals as goal

pub returns-in-Yes : goal.returns-in-Yes
returns-in-Yes c = λ s goes.
    let a = c.args in
    let h = s.history in
    let came = c.on_data.ensures h goes.decodes.serves.streams in
    let yes : count_of a.stream a.length h ≡ counted.Yes = sym came.0 ∙ c.in-Yes.is in
    let stand : StandFor c.on_data.new.self (after_count counted.Yes a.stream a.length h) =
    subst (λ (k : Counted). StandFor c.on_data.new.self (after_count k a.stream a.length h)) c.in-Yes.is came.1 in
    let mid : Session = with_history (after_count counted.Yes a.stream a.length h) s in
    let goes_mid = goes_on a.self.now s goes c.on_data.new.self _ stand goes.decodes.serves.live in
    let taken = c.in_ok-take_data-in-Yes.ensures mid goes_mid (c.consumed_within_what_came.ensures.at_once a.self.now.streams a.stream a.length h goes.decodes.serves.streams) in
    let read = subst (λ (b : List ℕ). IfOk c.on_bytes.result (λ over. Gave (OnTaken b a.end (takes a.stream a.length s)) a.events.now.items c.on_bytes.new.events.items over c.on_bytes.new.self))
    c.as_slice.ensures (c.on_bytes.ensures (takes a.stream a.length s) taken) in
    subst (λ (k : Counted). IfOk c.on_bytes.result (λ over. Gave (OnData k a.stream a.bytes a.length a.end s) a.events.now.items c.on_bytes.new.events.items over c.on_bytes.new.self))
    (sym yes) read

pub returns-in-Ignored : goal.returns-in-Ignored
returns-in-Ignored c = λ s goes.
    let a = c.args in
    let h = s.history in
    let came = c.on_data.ensures h goes.decodes.serves.streams in
    let is : count_of a.stream a.length h ≡ counted.Ignored = sym came.0 ∙ c.in-Ignored.is in
    let after = after_count counted.Ignored a.stream a.length h in
    let stand : StandFor c.on_data.new.self after =
    subst (λ (k : Counted). StandFor c.on_data.new.self (after_count k a.stream a.length h)) c.in-Ignored.is came.1 in
    broke_all 1 _ a.events.now.items c.bad.new.events.items _ (with_history after s) c.bad.result
    (subst (λ (k : Counted). OnData k a.stream a.bytes a.length a.end s (BadPeer 1 ∷ []) (with_history after s)) (sym is) (refl, refl))
    (serves_on a.self.now s goes.decodes.serves c.on_data.new.self after stand goes.decodes.serves.live) c.bad.ensures

pub returns-in-Idle : goal.returns-in-Idle
returns-in-Idle c = λ s goes.
    let a = c.args in
    let h = s.history in
    let came = c.on_data.ensures h goes.decodes.serves.streams in
    let is : count_of a.stream a.length h ≡ counted.Idle = sym came.0 ∙ c.in-Idle.is in
    let stand : StandFor c.on_data.new.self h =
    subst (λ (k : Counted). StandFor c.on_data.new.self (after_count k a.stream a.length h)) c.in-Idle.is came.1 in
    broke_all 1 _ a.events.now.items c.bad-in-Idle.new.events.items _ s c.bad-in-Idle.result
    (subst (λ (k : Counted). OnData k a.stream a.bytes a.length a.end s (BadPeer 1 ∷ []) s) (sym is) (refl, refl))
    (serves_on a.self.now s goes.decodes.serves c.on_data.new.self h stand goes.decodes.serves.live) c.bad-in-Idle.ensures

pub returns-in-OverConnection : goal.returns-in-OverConnection
returns-in-OverConnection c = λ s goes.
    let a = c.args in
    let h = s.history in
    let came = c.on_data.ensures h goes.decodes.serves.streams in
    let is : count_of a.stream a.length h ≡ counted.OverConnection = sym came.0 ∙ c.in-OverConnection.is in
    let stand : StandFor c.on_data.new.self h =
    subst (λ (k : Counted). StandFor c.on_data.new.self (after_count k a.stream a.length h)) c.in-OverConnection.is came.1 in
    broke_all 3 _ a.events.now.items c.bad-in-OverConnection.new.events.items _ s c.bad-in-OverConnection.result
    (subst (λ (k : Counted). OnData k a.stream a.bytes a.length a.end s (BadPeer 3 ∷ []) s) (sym is) (refl, refl))
    (serves_on a.self.now s goes.decodes.serves c.on_data.new.self h stand goes.decodes.serves.live) c.bad-in-OverConnection.ensures

pub returns : goal.returns
returns c = λ s goes.
    let a = c.args in
    let h = s.history in
    let came = c.on_data.ensures h goes.decodes.serves.streams in
    let is : count_of a.stream a.length h ≡ counted.OverStream = sym came.0 ∙ c.in-OverStream.is in
    let after = after_count counted.OverStream a.stream a.length h in
    let stand : StandFor c.on_data.new.self after =
    subst (λ (k : Counted). StandFor c.on_data.new.self (after_count k a.stream a.length h)) c.in-OverStream.is came.1 in
    broke_all 3 _ a.events.now.items c.bad-in-OverStream.new.events.items _ (with_history after s) c.bad-in-OverStream.result
    (subst (λ (k : Counted). OnData k a.stream a.bytes a.length a.end s (BadPeer 3 ∷ []) (with_history after s)) (sym is) (refl, refl))
    (serves_on a.self.now s goes.decodes.serves c.on_data.new.self after stand goes.decodes.serves.live) c.bad-in-OverStream.ensures
