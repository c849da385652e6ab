use Rattle.std.proofs.Common.{arith}
use Rattle.mq_hpack.proofs.Statics.{static_at}
use Rattle.mq_hpack.proofs.static_table.static_field.Goals as goal

pub slice_bounds-result-count : goal.slice_bounds-result-count
slice_bounds-result-count c = (static_at c.args.at c.requires).starts

pub slice_bounds-result-start : goal.slice_bounds-result-start
slice_bounds-result-start c = (static_at c.args.at c.requires).starts

pub slice_bounds-result-end : goal.slice_bounds-result-end
slice_bounds-result-end c = let p = static_at c.args.at c.requires in omega (arith, p.ends, p.within)

pub slice_bounds-result-end-2 : goal.slice_bounds-result-end-2
slice_bounds-result-end-2 c = (static_at c.args.at c.requires).within

pub returns : goal.returns
returns c = (static_at c.args.at c.requires).is
