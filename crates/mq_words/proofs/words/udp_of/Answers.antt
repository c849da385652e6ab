use Rattle.std.proofs.Common.{subst, List, ℕ}
use Rattle.mq_words.specs.declared.command.Command.TheVariants.{Udp}
use Rattle.mq_words.specs.Reading.{IsHostWord}
use Rattle.mq_words.proofs.Asking.{as_many, ask_of, no_numbers, on_err_of}
use Rattle.mq_words.proofs.words.udp_of.Goals as goal

pub returns-in_default-clause-ok : goal.returns-in_default-clause-ok
returns-in_default-clause-ok g c = no_numbers _ (as_many _ c.args.words.now 7 c.requires) c.in_default.ensures

pub returns-in_err-host-clause-err : goal.returns-in_err-host-clause-err
returns-in_err-host-clause-err g c =
    let n = c.in-Some.numbers in
    let told = c.in_err-host.ensures.err in
    let host = subst (λ (t : List ℕ). IsHostWord t told.0) c.word.ensures told.1 in
    on_err_of c.from_residual.result _ (Udp (ask_of n told.0), (as_many _ c.args.words.now 7 c.requires, c.in-Some.ensures, host))

pub returns-clause-ok : goal.returns-clause-ok
returns-clause-ok g c =
    let found = rw c.in-Some-2.is at c.in_ok-host.ensures.ok in
    (as_many _ c.args.words.now 7 c.requires, c.in-Some.ensures, subst (λ (t : List ℕ). IsHostWord t c.in-Some-2.host) c.word.ensures found)
