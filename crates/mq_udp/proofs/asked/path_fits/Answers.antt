use Rattle.std.proofs.Common.{◌<◌, ◌^◌, rules}
use Rattle.mq_udp.proofs.Visible.{path_short, path_visible}
use Rattle.mq_udp.proofs.asked.path_fits.Goals as goal

pub returns-in-Udp-clause-visible : goal.returns-in-Udp-clause-visible
returns-in-Udp-clause-visible c = path_visible c.values_are_escaped.ensures c.args.target.now

pub returns-in-Udp-clause-short : goal.returns-in-Udp-clause-short
returns-in-Udp-clause-short c = λ host port e.
    let t = c.args.target.now in
    let told = c.in-Udp in
    let small : told.port < 2 ^ 16 = search rules in
    path_short c.values_are_escaped.ensures t told.host told.port told.is small c.host_is_short.ensures

pub returns-in_default-clause-visible : goal.returns-in_default-clause-visible
returns-in_default-clause-visible c = path_visible c.values_are_escaped.ensures c.args.target.now
