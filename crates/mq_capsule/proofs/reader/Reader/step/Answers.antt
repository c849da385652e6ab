use Rattle.std.proofs.Common.{Option, [], ◌∷◌, take, option_to_list, subst, sym, append-nil}
use Rattle.mq_capsule.specs.declared.item.Item.{Item}
use Rattle.mq_capsule.specs.Readers.{Went}
use Rattle.mq_capsule.proofs.reader.Reader.step.Goals as goal

pub returns-in-None-clause-went : goal.returns-in-None-clause-went
returns-in-None-clause-went c =
    let P : Option Item → Type 0 = λ told. Went c.args.self.now c.advance.new.self (take c.in_ok-item.field-0.used c.args.piece.now) (option_to_list told) in
    ([], sym (append-nil c.args.items.now.items), subst P c.in-None.is c.in_ok-item.ensures.went)

pub returns-in_ok-push-in-Some-clause-went : goal.returns-in_ok-push-in-Some-clause-went
returns-in_ok-push-in-Some-clause-went c =
    let P : Option Item → Type 0 = λ told. Went c.args.self.now c.advance.new.self (take c.in_ok-item.field-0.used c.args.piece.now) (option_to_list told) in
    (c.in-Some.item ∷ [], c.in_ok-push-in-Some.ensures.items, subst P c.in-Some.is c.in_ok-item.ensures.went)
