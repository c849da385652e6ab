use Rattle.std.proofs.Common.{arith}
use Rattle.std.proofs.lemmas.Bool.Decides.{nat_tests}
use Rattle.mq_text.proofs.Decimals.{number_begins}
use Rattle.mq_text.proofs.number.begins_number.Goals as goal

pub returns-in-empty-clause-other : goal.returns-in-empty-clause-other
returns-in-empty-clause-other c = λ n small is. let b = number_begins c.args.text.now n small is in absurd (omega (arith, b.some))

pub returns-then-only-ge48-clause-other : goal.returns-then-only-ge48-clause-other
returns-then-only-ge48-clause-other c = λ n small is. let b = number_begins c.args.text.now n small is in grind (arith, nat_tests, b.high)

pub returns-else-only-ge48-clause-other : goal.returns-else-only-ge48-clause-other
returns-else-only-ge48-clause-other c = λ n small is. let b = number_begins c.args.text.now n small is in absurd (omega (arith, b.low))

pub returns-then-first-gt48-clause-other : goal.returns-then-first-gt48-clause-other
returns-then-first-gt48-clause-other c = λ n small is. let b = number_begins c.args.text.now n small is in grind (arith, nat_tests, b.high)

pub returns-else-first-gt48-clause-other : goal.returns-else-first-gt48-clause-other
returns-else-first-gt48-clause-other c = λ n small is. let b = number_begins c.args.text.now n small is in absurd (omega (arith, b.long (omega arith)))
