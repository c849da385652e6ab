use Rattle.std.proofs.Common.{◌≡◌, ◌++◌, List, ◌∙◌, sym, ap, subst}
use Rattle.mq_frame.specs.declared.frame.Frame.{Frame}
use Rattle.mq_frame.specs.declared.place.Place.TheVariants.{First}
use Rattle.mq_frame.specs.Stream.{AreFrames}
use Rattle.std.specs.List.{AllByRecursion}
use Rattle.mq_frame.specs.Told.{IsBounded}
use Rattle.mq_frame.proofs.Streams.{frames_one}
use Rattle.mq_frame.proofs.Told.{all_bounded, later_bounded}
use Rattle.mq_frame.proofs.Readers.{keeps_only}
use Rattle.mq_frame.proofs.reader.FrameReader.feed.Goals as goal

pub returns-in-Ok-clause-frames : goal.returns-in-Ok-clause-frames
returns-in-Ok-clause-frames c = λ bytes frames stands of.
    let piece = c.args.piece.now in
    let step = c.in-Ok.ensures in
    let read = stands.1 in
    let new = step.2 bytes stands.0 read in
    let one = frames_one First bytes stands.0 frames _ _ _ _ read.are of.2 in
    let items = c.new-frames.ensures.items in
    let given : step.0 ≡ c.from_vec.result = sym (c.from_vec.ensures ∙ step.1 ∙ ap (λ (f : List Frame). f ++ step.0) items) in
    let P : List Frame → List Frame → Type 0 = λ f g. AreFrames First (bytes ++ piece) (f ++ g) c.read.new.self.place new.rest in
    (c.read.new.self.place, new.rest, subst (λ (f : List Frame). P f c.from_vec.result) one.frames_are (subst (P stands.0) given new.are))

pub returns-in-Ok-clause-stands : goal.returns-in-Ok-clause-stands
returns-in-Ok-clause-stands c = λ bytes stands. (stands.0 ++ c.in-Ok.ensures.0, c.in-Ok.ensures.2 bytes stands.0 stands.1)

pub returns-in-Ok-clause-bounded : goal.returns-in-Ok-clause-bounded
returns-in-Ok-clause-bounded c = λ bytes stands. (c.in-Ok.ensures.2 bytes stands.0 stands.1).bounded

pub returns-in-Ok-clause-told : goal.returns-in-Ok-clause-told
returns-in-Ok-clause-told c = λ bytes stands.
    let piece = c.args.piece.now in
    let step = c.in-Ok.ensures in
    let new = step.2 bytes stands.0 stands.1 in
    let given : step.0 ≡ c.from_vec.result = sym (c.from_vec.ensures ∙ step.1 ∙ ap (λ (f : List Frame). f ++ step.0) c.new-frames.ensures.items) in
    let P : List Frame → Type 0 = λ f. AllByRecursion IsBounded f in
    subst P given (later_bounded stands.0 step.0 (all_bounded First (bytes ++ piece) (stands.0 ++ step.0) c.read.new.self.place new.rest new.are))

pub returns-in-Ok-clause-keeps : goal.returns-in-Ok-clause-keeps
returns-in-Ok-clause-keeps c = λ bytes stands.
    keeps_only c.read.new.self (bytes ++ c.args.piece.now) (stands.0 ++ c.in-Ok.ensures.0, c.in-Ok.ensures.2 bytes stands.0 stands.1)
