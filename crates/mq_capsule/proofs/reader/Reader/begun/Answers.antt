use Rattle.std.proofs.Common.{sym, ◌∙◌}
use Rattle.mq_capsule.proofs.Readers.{at_begun}
use Rattle.mq_capsule.proofs.reader.Reader.begun.Goals as goal

pub returns : goal.returns
returns c = λ control bytes stands.
    let both = at_begun control c.args.self.now.state bytes stands.0 stands.1.at in
    (λ yes. both.0 (sym c.is_begun.ensures ∙ yes), λ ends. c.is_begun.ensures ∙ both.1 ends)
