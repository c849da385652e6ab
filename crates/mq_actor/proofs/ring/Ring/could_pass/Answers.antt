use Rattle.std.proofs.Common.{rules, ◌≡◌, ◌<◌, ◌≤◌, length, sym, ◌∙◌, arith}
use Rattle.std.specs.Vec.{vec_len}
use Rattle.mq_actor.specs.Seen.{Words}
use Rattle.mq_actor.proofs.Able.{could, some_here, some_behind, none_left, conn_found}
use Rattle.mq_actor.proofs.Helds.{held_length}
use Rattle.mq_actor.proofs.ring.Ring.could_pass.Goals as goal

pub returns-then-could_act : goal.returns-then-could_act
returns-then-could_act g c = λ ss are tell.
    let words : Words g.row.L.Denot g.row.P-P.Denot = record { most = g.P.P.Port.most; link = g.L.Link.holds; link_counts = g.L.Link.counts; port = g.P.P.Port.holds; port_counts = g.P.P.Port.counts } in
    let conns = c.args.self.now.conns in
    let held = c.at.result.now in
    let less : c.loop-place.place < length conns.items = search rules in
    let at = c.at.ensures in
    let f = conn_found words c.args.table.now.table conns.items ss c.loop-place.place held are tell at in
    let is = c.could_act.ensures f.0 f.2 f.3 in
    sym (c.loop-place.invariant.behind ss are tell ∙ some_here could ss c.loop-place.place f.0 f.1 (sym is ∙ c.if-could_act.true))

pub loop-place-preserved : goal.loop-place-preserved
loop-place-preserved g c = record {
  behind = λ ss are tell.
      let words : Words g.row.L.Denot g.row.P-P.Denot = record { most = g.P.P.Port.most; link = g.L.Link.holds; link_counts = g.L.Link.counts; port = g.P.P.Port.holds; port_counts = g.P.P.Port.counts } in
      let conns = c.args.self.now.conns in
      let held = c.at.result.now in
      let less : c.loop-place.place < length conns.items = search rules in
      let at = c.at.ensures in
      let f = conn_found words c.args.table.now.table conns.items ss c.loop-place.place held are tell at in
      let is = c.could_act.ensures f.0 f.2 f.3 in
      c.loop-place.invariant.behind ss are tell ∙ some_behind could ss c.loop-place.place f.0 f.1 (sym is ∙ c.if-could_act.false);
}

pub returns : goal.returns
returns g c = λ ss are tell.
    let conns = c.args.self.now.conns in
    let size = held_length g.P.P.Port.most c.args.table.now.table conns.items ss are in
    let len : vec_len conns ≡ length conns.items = search rules in
    let over = c.loop-place-test.false in
    let end = c.len-place-end.ensures in
    let past : length ss ≤ c.loop-place.place = omega (arith, size, len, over, end) in
    sym (c.loop-place.invariant.behind ss are tell ∙ none_left could ss c.loop-place.place past)
