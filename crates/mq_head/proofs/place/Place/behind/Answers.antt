use Rattle.std.proofs.Common.{◌≡◌, true, subst, sym, ◌∙◌}
use Rattle.mq_head.specs.declared.place.Place.{Place}
use Rattle.mq_head.specs.Alike.{is_in_run}
use Rattle.mq_head.specs.Places.{IsPlace, IsBehind}
use Rattle.mq_head.proofs.ShortLemmas.{run_behind_stays, stays_open}
use Rattle.mq_head.proofs.place.Place.behind.Goals as goal

pub returns-in-Behind : goal.returns-in-Behind
returns-in-Behind c = λ bytes here.
    let text = c.in-Behind.text in
    let run = c.in-Behind.run' in
    let piece = c.args.piece.now in
    let is : IsBehind text.items run bytes = subst (λ (p : Place). IsPlace p bytes) c.in-Behind.is here in
    let on : is_in_run run piece ≡ true = sym c.goes_on.ensures ∙ c.if-goes_on.true in
    stays_open bytes piece text run (run_behind_stays bytes text.items piece run is on)
