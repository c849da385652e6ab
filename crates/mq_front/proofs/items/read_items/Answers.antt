use Rattle.std.proofs.Common.{◌<◌, ◌++◌, List, [], length, take, option_to_list, refl, sym, ap, ◌∙◌, arith, append_assoc}
use Rattle.std.proofs.lemmas.Bool.{eqb-true, eqb-false}
use Rattle.std.proofs.lemmas.List.{length-append, length-take-le, take-append-drop}
use Rattle.mq_front.proofs.Pieces.{reads_nothing, reads_on, reads_all, reads_round}
use Rattle.mq_front.proofs.items.read_items.Goals as goal

pub loop-init : goal.loop-init
loop-init c = record {
  done = [];
  all = refl;
  read = reads_nothing c.args.carrier c.args.first c.args.reader.now c.args.due.now;
  goes = λ control bytes stands. omega arith;
}

pub loop-preserved : goal.loop-preserved
loop-preserved c =
    let far = c.loop.invariant in
    let left = c.loop.left.now in
    let used = c.in_ok-item.field-0.used in
    let told = option_to_list c.in_ok-item.field-0.item in
    let taken = c.in_ok-item.ensures in
    record {
      done = far.done ++ take used left;
      all = append_assoc far.done (take used left) c.split_at.result.1.now
          ∙ ap (λ (rest : List _). far.done ++ (take used left ++ rest)) c.split_at.ensures.back
          ∙ ap (λ (rest : List _). far.done ++ rest) (take-append-drop used left) ∙ far.all;
      read = reads_on c.args.carrier c.args.first c.args.reader.now c.loop.reader c.next.new.self far.done (take used left) told c.args.due.now c.loop.due c.put_told.new.due
          c.loop.asked.n c.in_ok-asked.asked.n c.loop.asked.closes c.in_ok-asked.asked.closes far.read taken.items taken.stands
          (c.in_ok-asked.ensures c.args.first far.read.given c.args.due.now far.read.puts);
      goes = λ control bytes stands.
          let now = far.read.stands control bytes stands in
          let ne = eqb-false (length left) 0 (sym c.is_empty.ensures ∙ c.if-is_empty.false) in
          let some : 0 < used = taken.some control (bytes ++ far.done) now (omega (arith, ne)) in
          omega (arith, far.goes control bytes stands, some, length-append far.done (take used left), length-take-le used left taken.within);
    }

pub returns-then-is_empty : goal.returns-then-is_empty
returns-then-is_empty c =
    reads_all c.args.carrier c.args.first c.args.reader.now c.loop.reader c.args.piece.now c.loop.left.now c.args.due.now c.loop.due c.loop.asked.n c.loop.asked.closes c.loop.counter
    c.loop.invariant (eqb-true _ _ (sym c.is_empty.ensures ∙ c.if-is_empty.true))

pub returns : goal.returns
returns c =
    reads_round c.args.carrier c.args.first c.args.reader.now c.loop.reader c.args.piece.now c.loop.left.now c.args.due.now c.loop.due c.loop.asked.n c.loop.asked.closes c.loop.counter
    c.loop.invariant (omega arith)
