-- What the code's word for a mark stands for, and what passing marks promises.
use Rattle.std.specs.Prelude.{◌≡◌, ℕ, List, ◌∷◌, None}
use Rattle.mq_front.specs.Fronts.{CanSpend}
use Rattle.mq_machine.specs.declared.act.Due.{Due}
use Rattle.mq_machine.specs.declared.act.Due.TheVariants as due
use Rattle.mq_machine.specs.Settle.{spending}
use Rattle.mq_machine.specs.State as machine
use Rattle.mq_conn.specs.declared.conn.Conn.{Conn}
use Rattle.mq_conn.specs.declared.settle.Mark.{Mark}
use Rattle.mq_conn.specs.declared.settle.Mark.TheVariants.{Spend, Fault}
use Rattle.mq_conn.specs.Conns.{Stands}

abbrev pub mark_due : Mark → Due
mark_due (Spend stream size) = due.Spend stream size
mark_due (Fault code) = due.Fault code

-- the mark in front was passed, which says that all of a DATA frame is done
abbrev pub Spends : Conn → Conn → ℕ → ℕ → Type 0
Spends old new stream size =
    (s : machine.Conn) (rest : List Due) → Stands old s → old.first ≡ None → old.due ≡ due.Spend stream size ∷ rest → CanSpend s.front stream size
    → Stands new (record s { front = spending s.front stream size; due = rest })
