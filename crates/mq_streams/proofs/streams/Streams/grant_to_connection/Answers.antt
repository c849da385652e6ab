use Rattle.std.proofs.Common.{◌≡◌, get_or, refl, sym, arith}
use Rattle.std.proofs.lemmas.Bool.Decides.{nat_tests}
use Rattle.mq_streams.specs.History.{Extended}
use Rattle.mq_streams.specs.Answers.{grant_of}
use Rattle.mq_streams.specs.declared.answers.Granted.TheVariants as granted
use Rattle.mq_streams.proofs.Events.{extended_connection}
use Rattle.mq_streams.proofs.Steps.{after_none, of_another, not_zero}
use Rattle.mq_streams.proofs.streams.Streams.grant_to_connection.Goals as goal

pub returns-in-Some : goal.returns-in-Some
returns-in-Some c = λ h is.
    let table = c.args.self.now.table in
    let room = is.connection_is.room in
    let done = c.in-Some.ensures in
    let small = c.in-Some.connection.within in
    let taken : granted.Taken ≡ grant_of 0 c.args.grow h = grind (arith, nat_tests, done.1) in (
      taken,
      after_none h _ _ _ _ (record { is = is; rise = table.rising; upto = table.begun }) (Extended 0 c.args.grow) refl refl
          (λ k d below. of_another (Extended 0 c.args.grow) _ (not_zero (get_or table.rows.items k d))) (λ id above. of_another (Extended 0 c.args.grow) id (λ e. omega arith))
          _ is.first_is _ (extended_connection h _ is.connection_is c.in-Some.connection c.args.grow done.0 done.1) is.came_first (sym taken),
    )

pub returns-in-None : goal.returns-in-None
returns-in-None c = λ h is.
    let room = is.connection_is.room in
    (grind (arith, nat_tests, c.in-None.ensures), is)
