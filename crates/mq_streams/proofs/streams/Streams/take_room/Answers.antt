use Rattle.std.proofs.Common.{◌≡◌, ℕ, ◌≤◌, refl, sym, ap, ◌∙◌, arith, min}
use Rattle.mq_streams.specs.History.{History, Sent}
use Rattle.mq_streams.specs.Answers.{send_window, connection_send_window, room_of}
use Rattle.mq_streams.specs.declared.stream.Stream.{Stream}
use Rattle.mq_streams.proofs.Live.{live_is_found}
use Rattle.mq_streams.proofs.Events.{sent_row, sent_connection}
use Rattle.mq_streams.proofs.Steps.{after_put, found_row}
use Rattle.mq_streams.proofs.Rooms.{room_is}
use Rattle.mq_streams.proofs.streams.Streams.take_room.Goals as goal

min_swap : (a b : ℕ) → min a b ≡ min b a
min_swap a b = omega arith

-- what is taken of the room is within both windows
sends_within : (h : History) (id want room length : ℕ) → length ≡ min room want → room ≡ room_of id h → (length ≤ send_window id h) × (length ≤ connection_send_window h)
sends_within h id want room length is room_is = (omega (arith, is, room_is), omega (arith, is, room_is))

pub returns-in_default : goal.returns-in_default
returns-in_default c = λ h is lives. absurd (live_is_found h _ _ _ _ is c.args.id c.in_default.ensures lives)

pub after_sending-self-requires : goal.after_sending-self-requires
after_sending-self-requires c = let low = c.room.ensures.limited in let m = c.min-length.ensures in omega arith

pub returns : goal.returns
returns c = λ h is lives.
    let table = c.args.self.now.table in
    let here = c.in-Some.ensures in
    let old = c.row-stream.result in
    let new = c.after_sending.result in
    let row = found_row h _ _ _ table.rows.items is c.in-Some.at here.0 old c.row-stream.ensures c.args.id here.1 in
    let room = room_is h _ _ _ _ is c.args.id old row _ c.room.ensures.exact in
    let done = c.after_sending.ensures in
    let ends = c.after_sending-self.ensures in (
      c.min-length.ensures ∙ min_swap c.room.result c.args.want ∙ ap (λ (r : ℕ). min c.args.want r) room,
      after_put h _ _ _ _ (record { is = is; rise = table.rising; upto = table.begun }) (Sent c.args.id c.min-length.result) (record { highest_is = refl; initial_is = refl; live_is = refl })
          _ c.put.ensures.highest _ _ new
          (record {
            at = c.in-Some.at;
            id = c.args.id;
            within = here.0;
            here = here.1;
            new_id = done.id ∙ ap (λ (row : Stream). row.id) (sym (c.row-stream.ensures old)) ∙ here.1 old;
            rows_are = c.put.ensures.rows;
            of = refl;
            row = sent_row h c.args.id old row new c.min-length.result done.ended done.receiving done.balance;
            connection = sent_connection h _ is.connection_is _ c.args.id c.min-length.result ends.receiving ends.room;
            came = is.came_first;
            keeps = sends_within h c.args.id c.args.want c.room.result c.min-length.result c.min-length.ensures room;
          }),
    )
