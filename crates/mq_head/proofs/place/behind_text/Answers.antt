use Rattle.std.proofs.Common.{◌≡◌, ◌++◌, List, ℕ, subst, sym, ap, ◌∙◌}
use Rattle.mq_head.specs.declared.run.Run.{Run}
use Rattle.mq_head.specs.Alike.{IsOpen}
use Rattle.mq_head.specs.Short.{short, run_of}
use Rattle.mq_head.specs.Places.{IsBehind}
use Rattle.mq_head.proofs.ShortLemmas.{open_behind, stays_open}
use Rattle.mq_head.proofs.place.behind_text.Goals as goal

pub returns : goal.returns
returns c = λ bytes alike.
    let text = c.args.text.items in
    let piece = c.args.piece.now in
    let joined : c.extend_from_slice.new.self.items ≡ text ++ piece = c.in_ok-extend_from_slice.ensures.items in
    let is : IsOpen (text ++ piece) =
    subst IsOpen (c.as_slice.ensures.value ∙ joined) (c.in_ok-is_open.ensures c.if-not-branch.false) in
    let found = open_behind bytes text piece alike is in
    let now : c.as_slice-2.result.now ≡ text ++ piece = c.as_slice-2.ensures.value ∙ joined in
    let texts : c.in_ok-text.text.items ≡ short (text ++ piece) = c.in_ok-text.ensures.text ∙ ap short now in
    let runs : c.in_ok-text.run' ≡ run_of (text ++ piece) = c.in_ok-text.ensures.run ∙ ap run_of now in
    stays_open bytes piece c.in_ok-text.text c.in_ok-text.run'
    (subst (λ (r : Run). IsBehind c.in_ok-text.text.items r (bytes ++ piece)) (sym runs)
    (subst (λ (t : List ℕ). IsBehind t (run_of (text ++ piece)) (bytes ++ piece)) (sym texts) found))
