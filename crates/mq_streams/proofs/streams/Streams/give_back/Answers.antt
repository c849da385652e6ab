use Rattle.std.proofs.Common.{◌≡◌, ◌≤◌, refl, ap, arith, get_or}
use Rattle.mq_streams.specs.History.{GivenBack}
use Rattle.mq_streams.specs.declared.stream.Stream.{Stream}
use Rattle.mq_streams.proofs.Events.{given_back_row, given_back_connection, given_back_elsewhere}
use Rattle.mq_streams.proofs.Steps.{after_put, after_none, found_row, of_another, not_zero}
use Rattle.mq_streams.proofs.Updates.{connection_next, none_next, stream_next}
use Rattle.mq_streams.proofs.streams.Streams.give_back.Goals as goal

pub returns-then-amount-ge-UPDATE_FROM-clause-answer : goal.returns-then-amount-ge-UPDATE_FROM-clause-answer
returns-then-amount-ge-UPDATE_FROM-clause-answer c = λ h is.
    let table = c.args.self.now.table in
    let back = c.after_giving_back-self.ensures in
    let amount = c.args.self.now.connection.receiving.consumed in (
      connection_next h _ _ _ _ is c.if-amount-ge-UPDATE_FROM.true,
      after_none h _ _ _ _ (record { is = is; rise = table.rising; upto = table.begun }) (GivenBack 0 amount) refl refl
          (λ k d below. of_another (GivenBack 0 amount) _ (not_zero (get_or table.rows.items k d))) (λ id above. of_another (GivenBack 0 amount) id (λ e. omega arith))
          _ is.first_is _ (given_back_connection h _ is.connection_is _ back.room back.consumed refl) is.came_first tt,
    )

pub returns-in_default-clause-answer : goal.returns-in_default-clause-answer
returns-in_default-clause-answer c = λ h is. (none_next h _ _ _ _ is c.if-amount-ge-UPDATE_FROM.false c.in_default.ensures, is)

pub returns-clause-answer : goal.returns-clause-answer
returns-clause-answer c = λ h is.
    let table = c.args.self.now.table in
    let here = c.in-Some.ensures in
    let old = c.row-stream.result in
    let same : (d : Stream) → (get_or table.rows.items c.in-Some.at d).id ≡ old.id = λ d. ap (λ (row : Stream). row.id) (c.row-stream.ensures d) in
    let row = found_row h _ _ _ table.rows.items is c.in-Some.at here.0 old c.row-stream.ensures old.id same in
    let done = c.with_receiving.ensures in
    let back = c.after_giving_back-receiving.ensures in
    let due : 16384 ≤ old.receiving.consumed = let e = ap (λ (row : Stream). row.receiving.consumed) (c.row-stream.ensures old) in let l = here.1 old in omega arith in (
      stream_next h _ _ _ _ is c.if-amount-ge-UPDATE_FROM.false c.in-Some.at old here.0 c.row-stream.ensures due here.2,
      after_put h _ _ _ _ (record { is = is; rise = table.rising; upto = table.begun }) (GivenBack old.id old.receiving.consumed) (record { highest_is = refl; initial_is = refl; live_is = refl })
          _ c.put.ensures.highest _ _ c.with_receiving.result
          (record {
            at = c.in-Some.at;
            id = old.id;
            within = here.0;
            here = same;
            new_id = done.id;
            rows_are = c.put.ensures.rows;
            of = refl;
            row = given_back_row h old.id old row c.with_receiving.result done.ended (rw done.receiving back.room) (rw done.receiving back.consumed) done.balance;
            connection = given_back_elsewhere h _ is.connection_is _ old.id old.receiving.consumed old.is_no_connection refl;
            came = is.came_first;
            keeps = tt;
          }),
    )
