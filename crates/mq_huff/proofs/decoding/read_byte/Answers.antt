use Rattle.std.proofs.Common.{◌/◌, ◌%◌, List, Bool, ◌++◌, Err, sym, subst}
use Rattle.mq_huff.specs.Code.{bits_of}
use Rattle.mq_huff.specs.State.{read_at, Steps}
use Rattle.mq_huff.proofs.Reading.{fails_still, then_steps, by_halves}
use Rattle.mq_huff.proofs.decoding.read_byte.Goals as goal

pub returns-in-Err-clause-steps : goal.returns-in-Err-clause-steps
returns-in-Err-clause-steps c =
    subst (λ (x : List Bool). Steps c.args.out.now.items c.step.new.out.items x (Err c.in-Err.fault)) (sym (by_halves (read_at c.args.state) c.args.byte))
    (fails_still c.args.out.now.items c.step.new.out.items (read_at c.args.state ++ bits_of 4 (c.args.byte / 16)) (bits_of 4 (c.args.byte % 16)) c.in-Err.fault c.in-Err.ensures)

pub returns-in-Ok-clause-steps : goal.returns-in-Ok-clause-steps
returns-in-Ok-clause-steps c =
    subst (λ (x : List Bool). Steps c.args.out.now.items c.step-in-Ok.new.out.items x c.step-in-Ok.result) (sym (by_halves (read_at c.args.state) c.args.byte))
    (then_steps c.args.out.now.items c.step.new.out.items c.step-in-Ok.new.out.items (read_at c.args.state ++ bits_of 4 (c.args.byte / 16)) (bits_of 4 (c.args.byte % 16))
    c.in-Ok.middle c.step-in-Ok.result c.in-Ok.ensures c.step-in-Ok.ensures)
