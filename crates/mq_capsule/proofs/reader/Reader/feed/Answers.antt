use Rattle.std.proofs.Common.{◌≡◌, ◌++◌, List, ◌∙◌, sym, ap, subst}
use Rattle.mq_capsule.specs.declared.item.Item.{Item}
use Rattle.std.specs.List.{AllByRecursion}
use Rattle.mq_capsule.specs.Items.{IsSized}
use Rattle.mq_capsule.specs.Readers.{Went}
use Rattle.mq_capsule.proofs.Limits.{items_sized, later_sized}
use Rattle.mq_capsule.proofs.Readers.{gives, at_items, at_few, at_keeps}
use Rattle.mq_capsule.proofs.reader.Reader.feed.Goals as goal

pub returns-in-Ok-clause-items : goal.returns-in-Ok-clause-items
returns-in-Ok-clause-items c =
    let piece = c.args.piece.now in
    let step = c.in-Ok.ensures in
    let given : step.0 ≡ c.from_vec.result = sym (c.from_vec.ensures ∙ step.1 ∙ ap (λ (i : List Item). i ++ step.0) c.new-items.ensures.items) in
    let P : List Item → Type 0 = λ i. Went c.args.self.now c.read.new.self piece i in
    gives c.args.self.now c.read.new.self piece c.from_vec.result (subst P given step.2)

pub returns-in-Ok-clause-sized : goal.returns-in-Ok-clause-sized
returns-in-Ok-clause-sized c = λ control bytes stands.
    let step = c.in-Ok.ensures in
    let read = step.2 control bytes stands.0 stands.1 in
    let all = items_sized control (bytes ++ c.args.piece.now) (stands.0 ++ step.0) (at_items control c.read.new.self.state _ _ read.at) in
    let given : step.0 ≡ c.from_vec.result = sym (c.from_vec.ensures ∙ step.1 ∙ ap (λ (i : List Item). i ++ step.0) c.new-items.ensures.items) in
    let P : List Item → Type 0 = λ i. AllByRecursion IsSized i in
    subst P given (later_sized stands.0 step.0 all)

pub returns-in-Ok-clause-stands : goal.returns-in-Ok-clause-stands
returns-in-Ok-clause-stands c = λ control bytes stands. (stands.0 ++ c.in-Ok.ensures.0, c.in-Ok.ensures.2 control bytes stands.0 stands.1)

pub returns-in-Ok-clause-bounded : goal.returns-in-Ok-clause-bounded
returns-in-Ok-clause-bounded c = λ control bytes stands.
    let read = c.in-Ok.ensures.2 control bytes stands.0 stands.1 in
    at_few control c.read.new.self.state _ _ read.at

pub returns-in-Ok-clause-skips : goal.returns-in-Ok-clause-skips
returns-in-Ok-clause-skips c = λ control bytes capsules rest stands are.
    let read = c.in-Ok.ensures.2 control bytes stands.0 stands.1 in
    at_keeps control c.read.new.self.state _ _ read.at capsules rest are
