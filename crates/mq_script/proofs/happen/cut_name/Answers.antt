use Rattle.mq_script.proofs.Parts.{other_name, uncut_name}
use Rattle.mq_script.proofs.happen.cut_name.Goals as goal

pub returns-in_err-number : goal.returns-in_err-number
returns-in_err-number c = rw c.from_residual.ensures (uncut_name c.args.rest.now c.in_err-number.ensures)

pub returns-in_err-name : goal.returns-in_err-name
returns-in_err-name c = rw c.from_residual-in_err-name.ensures (other_name c.cut_once.ensures c.args.rest.now c.in_ok-number.number.now c.in_ok-number.behind.now c.in_ok-number.ensures c.in_err-name.ensures)
