use Rattle.std.proofs.Common.{◌≡◌, List, [], ◌∷◌, ◌++◌, Err, sym, ap, subst, ◌∙◌, append_assoc, append-nil}
use Rattle.std.specs.Vec.Iter.{into_iter_items}
use Rattle.mq_frame.specs.declared.frame.Frame.{Frame}
use Rattle.mq_h2.specs.Frames.{DoAll}
use Rattle.mq_h2.specs.Doing.{Gave, ComesBy}
use Rattle.mq_h2.proofs.Doings.{gave_more, stop_at}
use Rattle.mq_h2.proofs.Given.{taken_front, none_left}
use Rattle.mq_h2.proofs.parts.Core.on_frames.Goals as goal

pub loop-frame-preserved : goal.loop-frame-preserved
loop-frame-preserved c = λ s goes.
    let gave = c.loop-frame.invariant s goes in
    gave_more c.loop-frame.yielded c.in-Some.frame s c.args.events.now.items c.loop-frame.events.items c.on_frame.new.events.items c.loop-frame.self c.on_frame.new.self gave (c.in_default.ensures gave.state gave.goes)

pub returns-in-Err : goal.returns-in-Err
returns-in-Err c = λ s goes.
    let gave = c.loop-frame.invariant s goes in
    let before = c.loop-frame.yielded in
    let f : Frame = c.in-Some.frame in
    let rest = into_iter_items c.next.new.self in
    let taken = taken_front c.into_iter-frame-iterator.result before c.loop-frame.frame-iterator c.loop-frame.yielded_by in
    let all : c.args.frames.items ≡ (before ++ f ∷ []) ++ rest =
    sym c.into_iter-frame-iterator.ensures.into_iter_gives.0 ∙ taken ∙ ap (λ (xs : List Frame). before ++ xs) c.in-Some.ensures.steps.0 ∙ sym (append_assoc before (f ∷ []) rest) in
    let stop = stop_at before rest f s c.args.events.now.items c.loop-frame.events.items c.on_frame.new.events.items c.loop-frame.self c.on_frame.new.self gave c.in-Err.stop
    (c.in-Err.ensures gave.state gave.goes) in
    subst (λ (fs : List Frame). ComesBy (DoAll fs s) c.args.events.now.items (Err c.in-Err.stop) c.on_frame.new.events.items c.on_frame.new.self) (sym all) stop

pub returns : goal.returns
returns c = λ s goes.
    let before = c.loop-frame.yielded in
    let taken = taken_front c.into_iter-frame-iterator.result before c.loop-frame.frame-iterator c.loop-frame.yielded_by in
    let all : c.args.frames.items ≡ before =
    sym c.into_iter-frame-iterator.ensures.into_iter_gives.0 ∙ taken ∙ ap (λ (xs : List Frame). before ++ xs) (none_left c.loop-frame.frame-iterator c.in-None.ensures.steps.0) ∙ append-nil before in
    subst (λ (fs : List Frame). Gave (DoAll fs s) c.args.events.now.items c.loop-frame.events.items c.loop-frame.self) (sym all) (c.loop-frame.invariant s goes)
