use Rattle.std.proofs.Common.{true, false, refl, sym, ap, ◌∙◌, arith, inl, inr}
use Rattle.std.proofs.lemmas.Bool.{lt-ltb, le-ltb}
use Rattle.mq_streams.specs.declared.stream.Stream.{Stream}
use Rattle.mq_streams.proofs.Live.{is_live_at, is_not_live}
use Rattle.mq_streams.proofs.Grants.{dead_count, ended_count, open_count}
use Rattle.mq_streams.proofs.Events.{arrived_row}
use Rattle.mq_streams.proofs.Steps.{found_row}
use Rattle.mq_streams.proofs.Rooms.{stream_window_is}
use Rattle.mq_streams.proofs.streams.Streams.taker.Goals as goal

pub returns-in_default-clause-answer : goal.returns-in_default-clause-answer
returns-in_default-clause-answer c = λ h is. record {
  answer = dead_count h c.args.id c.args.size (is_not_live h c.args.self.now.table.rows.items is.live_are c.args.id c.in_default.ensures);
  cause = inl refl;
}

pub returns-then-stream-clause-answer : goal.returns-then-stream-clause-answer
returns-then-stream-clause-answer c = λ h is.
    let rows = c.args.self.now.table.rows.items in
    let here = c.in-Some.ensures in
    let old = c.row-stream.result in
    let row = found_row h _ _ _ rows is c.in-Some.at here.0 old c.row-stream.ensures c.args.id here.1 in
    record {
      answer = ended_count h c.args.id c.args.size (is_live_at h rows is.live_are c.args.id c.in-Some.at here.0 here.1) (sym row.ended ∙ c.if-stream.true);
      cause = inl refl;
    }

pub returns-in-Some-after_data-clause-answer : goal.returns-in-Some-after_data-clause-answer
returns-in-Some-after_data-clause-answer c = λ h is.
    let rows = c.args.self.now.table.rows.items in
    let here = c.in-Some.ensures in
    let old = c.row-stream.result in
    let new = c.with_receiving.result in
    let done = c.with_receiving.ensures in
    let window = c.in-Some-after_data.ensures in
    let row = found_row h _ _ _ rows is c.in-Some.at here.0 old c.row-stream.ensures c.args.id here.1 in
    let room = stream_window_is h _ _ _ _ is c.args.id old row in
    record {
      answer = open_count h c.args.id c.args.size (is_live_at h rows is.live_are c.args.id c.in-Some.at here.0 here.1) (sym row.ended ∙ c.if-stream.false) false (le-ltb _ _ (omega arith));
      within = here.0;
      here = here.1;
      id_is = done.id ∙ ap (λ (row : Stream). row.id) (sym (c.row-stream.ensures old)) ∙ here.1 old;
      row = arrived_row h c.args.id old row new c.args.size done.ended (rw done.receiving window.0) (rw done.receiving window.1) done.balance;
    }

pub returns-in-None-clause-answer : goal.returns-in-None-clause-answer
returns-in-None-clause-answer c = λ h is.
    let rows = c.args.self.now.table.rows.items in
    let here = c.in-Some.ensures in
    let old = c.row-stream.result in
    let row = found_row h _ _ _ rows is c.in-Some.at here.0 old c.row-stream.ensures c.args.id here.1 in
    let room = stream_window_is h _ _ _ _ is c.args.id old row in
    let over = c.in-None.ensures in
    record {
      answer = open_count h c.args.id c.args.size (is_live_at h rows is.live_are c.args.id c.in-Some.at here.0 here.1) (sym row.ended ∙ c.if-stream.false) true (lt-ltb _ _ (omega arith));
      cause = inr refl;
    }
