use Rattle.std.proofs.Common.{rules, ◌≡◌, ◌<◌, ◌≤◌, length, sym, ◌∙◌, arith}
use Rattle.std.specs.Vec.{vec_len}
use Rattle.mq_actor.specs.Seen.{Words}
use Rattle.mq_actor.proofs.Able.{gives, some_here, some_behind, none_left, port_found, ports_size, gives_is}
use Rattle.mq_actor.proofs.OwnPorts.{at_index}
use Rattle.mq_actor.proofs.quiet.could_receive.Goals as goal

pub returns-then-would_give : goal.returns-then-would_give
returns-then-would_give g c = λ s held tells.
    let words : Words g.row.L.Denot g.row.P-P.Denot = record { most = g.P.P.Port.most; link = g.L.Link.holds; link_counts = g.L.Link.counts; port = g.P.P.Port.holds; port_counts = g.P.P.Port.counts } in
    let seats = c.args.held.now.ports in
    let seat = c.index.result.now in
    let less : c.loop-place.place < length seats.items = search rules in
    let at = at_index seats.items c.loop-place.place seat less c.index.ensures in
    let f = port_found words c.args.table.now.table seats.items s.ports c.loop-place.place seat held.ports tells.ports at in
    let is = gives_is (g.P.P.Port.holds f.port) f.p c.would_give.result f.tells (c.would_give.ensures f.port f.stands) in
    sym (c.loop-place.invariant.behind s held tells ∙ some_here gives s.ports c.loop-place.place f.p f.at (sym is ∙ c.if-would_give.true))

pub loop-place-preserved : goal.loop-place-preserved
loop-place-preserved g c = record {
  behind = λ s held tells.
      let words : Words g.row.L.Denot g.row.P-P.Denot = record { most = g.P.P.Port.most; link = g.L.Link.holds; link_counts = g.L.Link.counts; port = g.P.P.Port.holds; port_counts = g.P.P.Port.counts } in
      let seats = c.args.held.now.ports in
      let seat = c.index.result.now in
      let less : c.loop-place.place < length seats.items = search rules in
      let at = at_index seats.items c.loop-place.place seat less c.index.ensures in
      let f = port_found words c.args.table.now.table seats.items s.ports c.loop-place.place seat held.ports tells.ports at in
      let is = gives_is (g.P.P.Port.holds f.port) f.p c.would_give.result f.tells (c.would_give.ensures f.port f.stands) in
      c.loop-place.invariant.behind s held tells ∙ some_behind gives s.ports c.loop-place.place f.p f.at (sym is ∙ c.if-would_give.false);
}

pub returns : goal.returns
returns g c = λ s held tells.
    let seats = c.args.held.now.ports in
    let size = ports_size g.P.P.Port.most c.args.table.now.table seats.items s.ports held.ports in
    let len : vec_len seats ≡ length seats.items = search rules in
    let over = c.loop-place-test.false in
    let end = c.len-place-end.ensures in
    let past : length s.ports ≤ c.loop-place.place = omega (arith, size, len, over, end) in
    sym (c.loop-place.invariant.behind s held tells ∙ none_left gives s.ports c.loop-place.place past)
