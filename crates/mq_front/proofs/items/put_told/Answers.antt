use Rattle.std.proofs.Common.{◌++◌, Option, List, option_to_list, subst, sym, append-nil}
use Rattle.mq_capsule.specs.declared.item.Item.{Item}
use Rattle.mq_front.specs.Items.{PutsItems}
use Rattle.mq_front.proofs.Pieces.{puts_told}
use Rattle.mq_front.proofs.items.put_told.Goals as goal

pub returns-in-None : goal.returns-in-None
returns-in-None c = λ n items old puts.
    let P : List Item → Type 0 = λ all. PutsItems c.args.carrier n all old c.args.due.now c.args.asked.n c.args.asked.closes in
    subst (λ (told : Option Item). P (items ++ option_to_list told)) (sym c.in-None.is) (subst P (sym (append-nil items)) puts)

pub returns-in-Some : goal.returns-in-Some
returns-in-Some c = puts_told c.args.carrier c.args.asked c.args.told c.in-Some.item c.args.due.now c.put_next.new.due c.put_next.result c.in-Some.is c.put_next.ensures
