use Rattle.std.proofs.Common.{◌≡◌, Bool, cond, [], ◌∷◌, ◌++◌, refl, subst}
use Rattle.std.specs.Prelude.{OnOk}
use Rattle.mq_machine.specs.declared.act.StreamAct.TheVariants as stream
use Rattle.mq_machine.specs.Reading.{on_stream}
use Rattle.mq_front.proofs.Values.{took_all}
use Rattle.mq_front.proofs.data.DataStream.take.Goals as goal

pub returns : goal.returns
returns c =
    let old = c.args.self.now in
    let asked = c.in_ok-asked.asked in
    let read = c.in_ok-asked.ensures in
    let Q : Bool → Type 0 = λ b. OnOk c.close_if.result (c.close_if.new.due ≡ c.read_items.new.due ++ on_stream old.id (cond b (stream.Close c.end.result ∷ []) [])) in
    took_all old (record { id = old.id; kind = old.kind; reader = c.read_items.new.reader; n = asked.n }) c.args.bytes.now c.args.ends asked.closes read.given c.end.result c.args.due.now c.read_items.new.due c.close_if.new.due c.args.mtu c.close_if.result
    refl refl read.gives read.stands read.puts c.end.ensures (subst Q c.is_last.ensures c.close_if.ensures)
