use Rattle.std.proofs.Common.{◌≡◌, ◌++◌, sym, subst, ◌∙◌}
use Rattle.mq_streams.specs.Stand.{StandFor}
use Rattle.mq_streams.specs.Answers.{count_of, after_count}
use Rattle.mq_streams.specs.declared.answers.Counted.{Counted}
use Rattle.mq_streams.specs.declared.answers.Counted.TheVariants as counted
use Rattle.mq_h2.specs.State.{State, with_history}
use Rattle.mq_h2.specs.Frames.{on_data}
use Rattle.mq_h2.specs.Stand.{Goes}
use Rattle.mq_h2.specs.Doing.{Comes}
use Rattle.mq_h2.proofs.Cores.{goes_on}
use Rattle.mq_h2.proofs.Lives.{taken_on_live, over_on_live}
use Rattle.mq_h2.proofs.parts.Core.on_data.Goals as goal

pub returns-in_ok-push-in-Yes : goal.returns-in_ok-push-in-Yes
returns-in_ok-push-in-Yes c = λ s goes.
    let a = c.args in
    let came = c.on_data.ensures s.history goes.decodes.serves.streams in
    let yes : count_of a.stream a.length s.history ≡ counted.Yes = sym came.0 ∙ c.in-Yes.is in
    let stand : StandFor c.on_data.new.self (after_count counted.Yes a.stream a.length s.history) =
    subst (λ (k : Counted). StandFor c.on_data.new.self (after_count k a.stream a.length s.history)) c.in-Yes.is came.1 in
    let mid : State = with_history (after_count counted.Yes a.stream a.length s.history) s in
    let done = c.finish.ensures mid (goes_on a.self.now s goes c.on_data.new.self _ stand) (taken_on_live s.history a.stream a.length yes) in
    let P : Counted → Type 0 = λ k.
    (c.push.new.self.items ≡ a.events.now.items ++ (on_data k a.stream a.bytes a.length a.end s).events) × Goes c.finish.new.self (on_data k a.stream a.bytes a.length a.end s).after in
    subst P (sym yes) (c.in_ok-push-in-Yes.ensures.items, done)

pub returns-in-OverStream : goal.returns-in-OverStream
returns-in-OverStream c = λ s goes.
    let a = c.args in
    let came = c.on_data.ensures s.history goes.decodes.serves.streams in
    let over : count_of a.stream a.length s.history ≡ counted.OverStream = sym came.0 ∙ c.in-OverStream.is in
    let stand : StandFor c.on_data.new.self (after_count counted.OverStream a.stream a.length s.history) =
    subst (λ (k : Counted). StandFor c.on_data.new.self (after_count k a.stream a.length s.history)) c.in-OverStream.is came.1 in
    let mid : State = with_history (after_count counted.OverStream a.stream a.length s.history) s in
    let done = c.fail.ensures mid (goes_on a.self.now s goes c.on_data.new.self _ stand) (over_on_live s.history a.stream a.length over) in
    let P : Counted → Type 0 = λ k.
    Comes (on_data k a.stream a.bytes a.length a.end s) a.events.now.items c.fail.result c.fail.new.events.items c.fail.new.self in
    subst P (sym over) done
