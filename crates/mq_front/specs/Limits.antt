-- What is due keeps to the limits that a call of the book has by itself: how many entries, their order, and their Request IDs.
-- Whether the tunnel is live is said elsewhere.
use Rattle.std.specs.Prelude.{List}
use Rattle.std.specs.List.{AllByRecursion}
use Rattle.mq_iptun.specs.Acts.{MayAct}
use Rattle.mq_machine.specs.declared.act.Act.TheVariants as act
use Rattle.mq_machine.specs.declared.act.Due.{Due}
use Rattle.mq_machine.specs.declared.act.Due.TheVariants as due
use Rattle.mq_machine.specs.declared.act.StreamAct.{StreamAct}

-- where it asks the book for addresses or ways, these keep to the limits
abbrev pub MayBeDue : Due → Type 0
MayBeDue (due.Do (act.Bind id goal)) = Unit {0}
MayBeDue (due.Do (act.Open id goal)) = Unit {0}
MayBeDue (due.Do (act.Refuse id status rule)) = Unit {0}
MayBeDue (due.Do (act.Reset id code)) = Unit {0}
MayBeDue (due.Do (act.OfStream id a)) = MayAct a
MayBeDue (due.Spend id size) = Unit {0}
MayBeDue (due.Fault code) = Unit {0}

abbrev pub AllMayBeDue : List Due → Type 0
AllMayBeDue dues = AllByRecursion MayBeDue dues

abbrev pub AllMayAct : List StreamAct → Type 0
AllMayAct acts = AllByRecursion MayAct acts
