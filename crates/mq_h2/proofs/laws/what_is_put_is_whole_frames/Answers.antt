use Rattle.mq_h2.proofs.Whole.{read_puts, respond_puts, send_puts, end_puts, resets_put, act_puts}
use Rattle.mq_h2.proofs.laws.what_is_put_is_whole_frames.Goals as goal

pub returns : goal.returns
returns c = record { reads = read_puts; responds = respond_puts; sends = send_puts; ends = end_puts; resets = resets_put; act = act_puts }
