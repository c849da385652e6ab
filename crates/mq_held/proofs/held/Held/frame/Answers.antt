use Rattle.std.proofs.Common.{◌≡◌, ◌∙◌, true, sym}
use Rattle.std.specs.Prelude.{is_some}
use Rattle.mq_machine.specs.Steps.{framed}
use Rattle.mq_held.proofs.held.Held.frame.Goals as goal

pub returns-in-Ok-clause-gives : goal.returns-in-Ok-clause-gives
returns-in-Ok-clause-gives g c = λ s stands.
    let can : is_some (framed s) ≡ true = sym (c.can_frame.ensures s stands) ∙ c.if-not-can_frame.false in
    let f = c.in-Ok.ensures.frames s stands can in
    rw (c.put_note.ensures) (f.0, f.2, f.1)
