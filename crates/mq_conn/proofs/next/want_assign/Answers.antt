use Rattle.std.proofs.Common.{◌∙◌}
use Rattle.mq_conn.specs.Conns.{tunnel_is}
use Rattle.mq_conn.proofs.Wanting.{assign_asks, assign_closes, assign_refused}
use Rattle.mq_conn.proofs.next.want_assign.Goals as goal

pub returns-then-values-ge-MOST_VALUES : goal.returns-then-values-ge-MOST_VALUES
returns-then-values-ge-MOST_VALUES c = λ pump may. assign_closes pump (tunnel_is c.args.tunnel.now) c.args.asked.now c.values.result c.values.ensures c.if-values-ge-MOST_VALUES.true

pub returns-in_err-list : goal.returns-in_err-list
returns-in_err-list c = λ pump may. assign_refused pump (tunnel_is c.args.tunnel.now) c.args.asked.now c.values.result c.from_residual.result c.values.ensures c.if-values-ge-MOST_VALUES.false c.from_residual.ensures.0

pub returns : goal.returns
returns c = λ pump may.
    assign_asks pump (tunnel_is c.args.tunnel.now) c.args.asked.now c.from_vec.result c.values.result c.values.ensures c.if-values-ge-MOST_VALUES.false (c.from_vec.ensures ∙ c.in_ok-list.ensures.items) may
