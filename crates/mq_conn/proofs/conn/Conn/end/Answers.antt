use Rattle.std.proofs.Common.{List, ℕ, refl, subst}
use Rattle.mq_front.specs.declared.finish.Finish.{Finish}
use Rattle.mq_front.specs.declared.finish.Finish.TheVariants.{Closes, Ends}
use Rattle.mq_front.specs.Fronts.{IsFront, Finishes}
use Rattle.mq_machine.specs.State as machine
use Rattle.mq_machine.specs.State.{Stream}
use Rattle.mq_conn.proofs.Feeding.{ends_so, none_ended}
use Rattle.mq_conn.proofs.conn.Conn.end.Goals as goal

pub returns-in-Closes : goal.returns-in-Closes
returns-in-Closes c =
    let P : Finish → Type 0 = λ r. (f : machine.Front) (streams : List Stream) (owed : List ℕ) → IsFront c.in-Some.front f streams owed → Finishes f streams r in
    ends_so c.args.self.now _ c.in-Some.front (Closes c.in-Closes.why) c.in-Some.is (subst P c.in-Closes.is c.finish.ensures) refl

pub returns-in-Ends : goal.returns-in-Ends
returns-in-Ends c =
    let P : Finish → Type 0 = λ r. (f : machine.Front) (streams : List Stream) (owed : List ℕ) → IsFront c.in-Some.front f streams owed → Finishes f streams r in
    ends_so c.args.self.now _ c.in-Some.front (Ends c.in-Ends.end) c.in-Some.is (subst P c.in-Ends.is c.finish.ensures) refl

pub returns-in_default : goal.returns-in_default
returns-in_default c = none_ended c.args.self.now _ c.in_default.is
