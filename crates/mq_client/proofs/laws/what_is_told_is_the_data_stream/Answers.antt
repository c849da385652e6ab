use Rattle.std.proofs.Common.{false, List, [], subst}
use Rattle.mq_frame.specs.declared.frame.Frame.{Frame}
use Rattle.mq_frame.specs.Stream.{FramesOf}
use Rattle.mq_client.proofs.Tellings.{always_told}
use Rattle.mq_client.proofs.laws.what_is_told_is_the_data_stream.Goals as goal

pub returns : goal.returns
returns c =
    let frames = c.is_readable.ensures [] in
    always_told c.is_read_once.ensures (c.says_nothing.ensures.1 false) (subst (λ (fs : List Frame). FramesOf [] fs) (c.nothing_is_read.ensures frames.0 frames.1) frames.1)
    c.is_read_once-2.ensures
