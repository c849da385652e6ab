use Rattle.mq_huff.proofs.Unique.{gives_text, gives_eos, gives_padding}
use Rattle.mq_huff.proofs.decoding.decode.Goals as goal

pub returns-clause-text : goal.returns-clause-text
returns-clause-text c = λ plain h. gives_text plain c.args.text.now c.walk.result h c.walk.ensures

pub returns-clause-eos : goal.returns-clause-eos
returns-clause-eos c = λ h. gives_eos c.args.text.now c.walk.result h c.walk.ensures

pub returns-clause-padding : goal.returns-clause-padding
returns-clause-padding c = λ h. gives_padding c.args.text.now c.walk.result h c.walk.ensures
