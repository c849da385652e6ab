use Rattle.std.proofs.Common.{ℕ, ◌<◌, ◌++◌, List, [], length, take, ◌∙◌, sym, ap, refl, arith, append-nil, append_assoc}
use Rattle.std.proofs.lemmas.List.{length-append, length-take-le, take-append-drop}
use Rattle.std.proofs.lemmas.Bool.{eqb-true, eqb-false}
use Rattle.mq_capsule.specs.declared.item.Item.{Item}
use Rattle.mq_capsule.specs.Readers.{Stands}
use Rattle.mq_capsule.proofs.Readers.{went_nothing, went_on, went_all, went_round}
use Rattle.mq_capsule.proofs.reader.Reader.read.Goals as goal

pub loop-init : goal.loop-init
loop-init c = record {
  done = [];
  more = [];
  all = refl;
  given = sym (append-nil c.args.items.now.items);
  went = went_nothing c.args.self.now;
  goes = λ control bytes stands. omega arith;
}

pub returns-then-is_empty : goal.returns-then-is_empty
returns-then-is_empty c =
    let far = c.loop.invariant in (
      far.more,
      far.given,
      went_all c.args.self.now c.loop.self far.done c.loop.left.now c.args.piece.now far.more far.went far.all
          (eqb-true _ _ (sym c.is_empty.ensures ∙ c.if-is_empty.true)),
    )

pub loop-preserved : goal.loop-preserved
loop-preserved c =
    let far = c.loop.invariant in
    let left = c.loop.left.now in
    let used = c.in_ok-used.used in
    let step = c.in_ok-used.ensures.went in
    record {
      done = far.done ++ take used left;
      more = far.more ++ step.0;
      all = append_assoc far.done (take used left) c.split_at.result.1.now
          ∙ ap (λ (rest : List ℕ). far.done ++ (take used left ++ rest)) c.split_at.ensures.back
          ∙ ap (λ (rest : List ℕ). far.done ++ rest) (take-append-drop used left) ∙ far.all;
      given = step.1 ∙ ap (λ (i : List Item). i ++ step.0) far.given ∙ append_assoc c.args.items.now.items far.more step.0;
      went = went_on c.args.self.now c.loop.self c.step.new.self far.done (take used left) far.more step.0 far.went step.2;
      goes = λ control bytes stands.
          let now : Stands c.loop.self control (bytes ++ far.done) = (stands.0 ++ far.more, far.went control bytes stands.0 stands.1) in
          let ne = eqb-false (length left) 0 (sym c.is_empty.ensures ∙ c.if-is_empty.false) in
          let some : 0 < used = c.in_ok-used.ensures.some control (bytes ++ far.done) now (omega (arith, ne)) in
          omega (arith, far.goes control bytes stands, length-append far.done (take used left), length-take-le used left c.in_ok-used.ensures.within);
    }

pub returns : goal.returns
returns c =
    let far = c.loop.invariant in (
      far.more,
      far.given,
      went_round c.args.self.now c.loop.self far.done c.loop.left.now c.args.piece.now far.more c.loop.counter far.went far.all far.goes
          (omega arith),
    )
