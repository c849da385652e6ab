use Rattle.std.proofs.Common.{◌++◌, take, option_to_list}
use Rattle.mq_capsule.proofs.Limits.{items_sized, later_sized}
use Rattle.mq_capsule.proofs.Readers.{gives, at_items, at_few, at_keeps}
use Rattle.mq_capsule.proofs.reader.Reader.next.Goals as goal

pub returns-in-Ok-clause-items : goal.returns-in-Ok-clause-items
returns-in-Ok-clause-items c =
    gives c.args.self.now c.advance.new.self (take c.in-Ok.taken.used c.args.piece.now) (option_to_list c.in-Ok.taken.item) c.in-Ok.ensures.went

pub returns-in-Ok-clause-sized : goal.returns-in-Ok-clause-sized
returns-in-Ok-clause-sized c = λ control bytes stands.
    let told = option_to_list c.in-Ok.taken.item in
    let read = c.in-Ok.ensures.went control bytes stands.0 stands.1 in
    let all = items_sized control (bytes ++ take c.in-Ok.taken.used c.args.piece.now) (stands.0 ++ told) (at_items control c.advance.new.self.state _ _ read.at) in
    later_sized stands.0 told all

pub returns-in-Ok-clause-bounded : goal.returns-in-Ok-clause-bounded
returns-in-Ok-clause-bounded c = λ control bytes stands.
    let read = c.in-Ok.ensures.went control bytes stands.0 stands.1 in
    at_few control c.advance.new.self.state _ _ read.at

pub returns-in-Ok-clause-skips : goal.returns-in-Ok-clause-skips
returns-in-Ok-clause-skips c = λ control bytes capsules rest stands are.
    let read = c.in-Ok.ensures.went control bytes stands.0 stands.1 in
    at_keeps control c.advance.new.self.state _ _ read.at capsules rest are
