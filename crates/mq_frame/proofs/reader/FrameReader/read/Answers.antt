use Rattle.std.proofs.Common.{ℕ, ◌<◌, ◌++◌, List, [], length, take, ◌∙◌, sym, ap, refl, arith, append-nil, append_assoc}
use Rattle.std.proofs.lemmas.List.{length-append, length-take-le, take-append-drop}
use Rattle.std.proofs.lemmas.Bool.{eqb-true, eqb-false}
use Rattle.mq_frame.specs.declared.frame.Frame.{Frame}
use Rattle.mq_frame.specs.Readers.{Stands}
use Rattle.mq_frame.proofs.Readers.{went_nothing, went_on, went_all, went_to_end, went_round}
use Rattle.mq_frame.proofs.reader.FrameReader.read.Goals.{then-is_empty-via-then-is_empty, then-is_empty-via-else-is_empty+then-is_ended}
use Rattle.mq_frame.proofs.reader.FrameReader.read.Goals as goal

pub loop-init : goal.loop-init
loop-init c = record {
  done = [];
  more = [];
  all = refl;
  given = sym (append-nil c.args.frames.now.items);
  went = went_nothing c.args.self.now;
  goes = λ bytes stands. omega arith;
}

pub returns-then-is_empty : goal.returns-then-is_empty
returns-then-is_empty c =
    let far = c.loop.invariant in
    elim c.then-is_empty.branch [
      | then-is_empty-via-then-is_empty w ↦ (
        far.more,
        far.given,
        went_all c.args.self.now c.loop.self far.done c.loop.left.now c.args.piece.now far.more far.went far.all
            (eqb-true _ _ (sym c.is_empty.ensures ∙ w.if-is_empty.true)),
      )
      | then-is_empty-via-else-is_empty+then-is_ended w ↦ (
        far.more,
        far.given,
        went_to_end c.args.self.now c.loop.self far.done c.loop.left.now c.args.piece.now far.more far.went far.all
            (sym w.is_ended.ensures ∙ w.if-is_ended.true),
      )
    ]

pub loop-preserved : goal.loop-preserved
loop-preserved c =
    let far = c.loop.invariant in
    let left = c.loop.left.now in
    let used = c.in_ok-used.used in
    let step = c.in_ok-used.ensures.went in
    record {
      done = far.done ++ take used left;
      more = far.more ++ step.0;
      all = append_assoc far.done (take used left) c.split_at.result.1.now
          ∙ ap (λ (rest : List ℕ). far.done ++ (take used left ++ rest)) c.split_at.ensures.back
          ∙ ap (λ (rest : List ℕ). far.done ++ rest) (take-append-drop used left) ∙ far.all;
      given = step.1 ∙ ap (λ (f : List Frame). f ++ step.0) far.given ∙ append_assoc c.args.frames.now.items far.more step.0;
      went = went_on c.args.self.now c.loop.self c.step.new.self far.done (take used left) far.more step.0 far.went step.2;
      goes = λ bytes stands.
          let now : Stands c.loop.self (bytes ++ far.done) = (stands.0 ++ far.more, far.went bytes stands.0 stands.1) in
          let ne = eqb-false (length left) 0 (sym c.is_empty.ensures ∙ c.if-is_empty.false) in
          let some : 0 < used = c.in_ok-used.ensures.some (bytes ++ far.done) now (omega (arith, ne)) in
          omega (arith, far.goes bytes stands, length-append far.done (take used left), length-take-le used left c.in_ok-used.ensures.within);
    }

pub returns : goal.returns
returns c =
    let far = c.loop.invariant in (
      far.more,
      far.given,
      went_round c.args.self.now c.loop.self far.done c.loop.left.now c.args.piece.now far.more c.loop.counter far.went far.all far.goes
          (omega arith),
    )
