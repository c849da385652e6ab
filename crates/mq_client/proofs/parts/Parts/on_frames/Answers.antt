use Rattle.std.proofs.Common.{◌≡◌, Bool, true, false, List, [], ◌∷◌, ◌++◌, sym, ap, subst, ◌∙◌, append_assoc, append-nil}
use Rattle.std.specs.Vec.Iter.{into_iter_items}
use Rattle.mq_frame.specs.declared.frame.Frame.{Frame}
use Rattle.mq_client.specs.Frames.{Does, DoAll}
use Rattle.mq_client.specs.Talking.{Gave}
use Rattle.mq_client.proofs.Doings.{gave_more, gave_rest}
use Rattle.mq_client.proofs.Told.{taken_front, none_left}
use Rattle.mq_client.proofs.parts.Parts.on_frames.Goals as goal

pub loop-frame-preserved : goal.loop-frame-preserved
loop-frame-preserved c = λ s goes.
    let gave = c.loop-frame.invariant s goes in
    let more = subst (λ (b : Bool). Gave (Does c.in-Some.frame gave.state) c.loop-frame.events.items c.on_frame.new.events.items b c.on_frame.new.self) c.if-branch.false
    (c.in_ok-on_frame.ensures gave.state gave.leads) in
    gave_more c.loop-frame.yielded c.in-Some.frame s c.args.events.now.items c.loop-frame.events.items c.on_frame.new.events.items false c.loop-frame.self c.on_frame.new.self gave more

pub returns-then-branch : goal.returns-then-branch
returns-then-branch c = λ s goes.
    let gave = c.loop-frame.invariant s goes in
    let before = c.loop-frame.yielded in
    let f : Frame = c.in-Some.frame in
    let rest = into_iter_items c.next.new.self in
    let taken = taken_front c.into_iter-frame-iterator.result before c.loop-frame.frame-iterator c.loop-frame.yielded_by in
    let all : c.args.frames.items ≡ (before ++ f ∷ []) ++ rest =
    sym c.into_iter-frame-iterator.ensures.into_iter_gives.0 ∙ taken ∙ ap (λ (xs : List Frame). before ++ xs) c.in-Some.ensures.steps.0 ∙ sym (append_assoc before (f ∷ []) rest) in
    let more = subst (λ (b : Bool). Gave (Does f gave.state) c.loop-frame.events.items c.on_frame.new.events.items b c.on_frame.new.self) c.if-branch.true
    (c.in_ok-on_frame.ensures gave.state gave.leads) in
    let last = gave_more before f s c.args.events.now.items c.loop-frame.events.items c.on_frame.new.events.items true c.loop-frame.self c.on_frame.new.self gave more in
    subst (λ (fs : List Frame). Gave (DoAll false fs s) c.args.events.now.items c.on_frame.new.events.items true c.on_frame.new.self) (sym all)
    (gave_rest (before ++ f ∷ []) rest s c.args.events.now.items c.on_frame.new.events.items c.on_frame.new.self last)

pub returns : goal.returns
returns c = λ s goes.
    let before = c.loop-frame.yielded in
    let taken = taken_front c.into_iter-frame-iterator.result before c.loop-frame.frame-iterator c.loop-frame.yielded_by in
    let all : c.args.frames.items ≡ before =
    sym c.into_iter-frame-iterator.ensures.into_iter_gives.0 ∙ taken ∙ ap (λ (xs : List Frame). before ++ xs) (none_left c.loop-frame.frame-iterator c.in-None.ensures.steps.0) ∙ append-nil before in
    subst (λ (fs : List Frame). Gave (DoAll false fs s) c.args.events.now.items c.loop-frame.events.items false c.loop-frame.self) (sym all) (c.loop-frame.invariant s goes)
