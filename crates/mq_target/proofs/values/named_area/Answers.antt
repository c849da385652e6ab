use Rattle.mq_target.proofs.Areas.{no_addr}
use Rattle.mq_target.proofs.values.named_area.Goals as goal

pub name_of-requires : goal.name_of-requires
name_of-requires c = no_addr c.args.text.now c.requires.no_prefix
