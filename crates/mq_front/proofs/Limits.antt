-- What is due, one list behind another, keeps to the limits of the book.
use Rattle.std.proofs.Common.{ℕ, Bool, true, false, cond, List, [], ◌∷◌, ◌++◌, Option, Some, None}
use Rattle.std.specs.List.{AllByRecursion, list_any}
use Rattle.mq_talk.specs.declared.goal.Goal.{Goal}
use Rattle.mq_talk.specs.declared.goal.Goal.TheVariants as goal
use Rattle.mq_talk.specs.declared.note.Why.{Why}
use Rattle.mq_machine.specs.declared.act.Due.TheVariants as due
use Rattle.mq_machine.specs.declared.act.StreamAct.{StreamAct}
use Rattle.mq_machine.specs.declared.act.StreamAct.TheVariants as stream
use Rattle.mq_machine.specs.Reading.{ended_acts, error_acts, goal_act, is_close, on_stream, reset_acts, then_acts}
use Rattle.mq_machine.specs.State.{Tunnel}
use Rattle.mq_front.specs.Limits.{MayBeDue, AllMayAct, AllMayBeDue}

pub all_both : {A : Type 0} (P : A → Type 0) (xs ys : List A) → AllByRecursion P xs → AllByRecursion P ys → AllByRecursion P (xs ++ ys)
all_both P [] ys p q = q
all_both P (x ∷ xs) ys p q = (p.0, all_both P xs ys p.1 q)

unless : (b : Bool) (acts : List StreamAct) → AllMayAct acts → AllMayAct (cond b [] acts)
unless true acts may = tt
unless false acts may = may

pub may_then : (acts more : List StreamAct) → AllMayAct acts → AllMayAct more → AllMayAct (then_acts acts more)
may_then acts more p q = all_both _ acts (cond (list_any is_close acts) [] more) p (unless (list_any is_close acts) more q)

pub may_end : (ends : Bool) (why : Why) → AllMayAct (cond ends (stream.Close why ∷ []) [])
may_end true why = (tt, tt)
may_end false why = tt

pub may_on : (id : ℕ) (acts : List StreamAct) → AllMayAct acts → AllMayBeDue (on_stream id acts)
may_on id [] may = tt
may_on id (a ∷ acts) may = (may.0, may_on id acts may.1)

pub may_lead : (id : ℕ) (g : Goal) → MayBeDue (due.Do (goal_act id g))
may_lead id (goal.Udp addr port) = tt
may_lead id (goal.Ip area protocol) = tt

pub may_ended : (id : ℕ) (ends : Bool) → AllMayBeDue (ended_acts id ends)
may_ended id true = (tt, tt)
may_ended id false = tt

pub may_error : (id code : ℕ) (o : Option Tunnel) → AllMayBeDue (error_acts id code o)
may_error id code None = (tt, tt)
may_error id code (Some t) = (tt, tt)

pub may_reset : (id : ℕ) (o : Option Tunnel) → AllMayBeDue (reset_acts id o)
may_reset id None = tt
may_reset id (Some t) = (tt, tt)
