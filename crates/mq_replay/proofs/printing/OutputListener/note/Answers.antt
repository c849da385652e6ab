use Rattle.std.proofs.Common.{refl}
use Rattle.std.proofs.lemmas.Result.{err_from_is_err_and}
use Rattle.mq_play.specs.Text.{printed, Says}
use Rattle.mq_output.proofs.Shown.{prints_unsaid, prints_shown}
use Rattle.mq_replay.proofs.Shown.{prints_spilled}
use Rattle.mq_replay.proofs.printing.OutputListener.note.Goals as goal

pub returns-in_err-print_note-clause-says : goal.returns-in_err-print_note-clause-says
returns-in_err-print_note-clause-says g c =
    let p = err_from_is_err_and c.from_residual.result c.from_residual.ensures.1 in
    rw (p.1, p.2) (prints_unsaid _ _ _ refl c.in_err-print_note.ensures.err)

pub returns-clause-says : goal.returns-clause-says
returns-clause-says g c =
    let shown = printed (Says c.args.note.now) in
    prints_spilled _ _ _ shown c.spill.result c.spill.ensures.fault (prints_shown _ _ _ _ shown c.spill.ensures.prints refl c.in_ok-print_note.ensures.ok)
