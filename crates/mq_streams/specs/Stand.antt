-- What the streams stand for: each kept number is the sum over what happened.
use Rattle.std.specs.Prelude.{◌≡◌, ℕ, ◌+◌, ◌≤◌, ◌<◌, false, List, [], ◌∷◌, All, map}
use Rattle.mq_streams.specs.History.{History, first_window, Consumed, total, arrived_on, arrived, consumed_on, consumed, given_back_on, extended_on, sent_on, sent, initial, highest, live, has_finished}
use Rattle.mq_streams.specs.Balance.{IsBalance}
use Rattle.mq_streams.specs.Windows.{PassesNoWindow}
use Rattle.mq_streams.specs.declared.receiving.Receiving.{Receiving}
use Rattle.mq_streams.specs.declared.stream.Stream.{Stream}
use Rattle.mq_streams.specs.declared.connection.Connection.{Connection}
use Rattle.mq_streams.specs.declared.streams.Streams.{Streams}

-- on each stream, no more was consumed than had come
abbrev pub ConsumesWhatCame : History → Type 0
ConsumesWhatCame [] = Unit {0}
ConsumesWhatCame (Consumed s n ∷ earlier) = (total (consumed_on s) earlier + n ≤ total (arrived_on s) earlier) × ConsumesWhatCame earlier
ConsumesWhatCame (_ ∷ earlier) = ConsumesWhatCame earlier

-- a receive window, by what arrived, was consumed and was given back
pub record IsReceiving (window : Receiving) (arrived consumed given_back : ℕ) : Type 0 where
  pub room : window.room + arrived ≡ first_window + given_back
  pub consumed_is : window.consumed + given_back ≡ consumed

-- a live stream's row, by what happened
pub record IsRow (h : History) (id : ℕ) (row : Stream) : Type 0 where
  pub ended : row.has_ended ≡ has_finished id h
  pub receiving : IsReceiving row.receiving (total (arrived_on id) h) (total (consumed_on id) h) (total (given_back_on id) h)
  pub balance : IsBalance row.balance (total (extended_on id) h) (total (sent_on id) h)

-- nothing was said of this stream yet
pub record IsFresh (h : History) (id : ℕ) : Type 0 where
  pub open_yet : has_finished id h ≡ false
  pub no_arrived : total (arrived_on id) h ≡ 0
  pub no_consumed : total (consumed_on id) h ≡ 0
  pub no_given_back : total (given_back_on id) h ≡ 0
  pub no_extended : total (extended_on id) h ≡ 0
  pub no_sent : total (sent_on id) h ≡ 0

-- the connection's windows, by what happened
pub record IsConnection (h : History) (c : Connection) : Type 0 where
  pub receiving : IsReceiving c.receiving (total arrived h) (total consumed h) (total (given_back_on 0) h)
  pub room : c.room + total sent h ≡ first_window + total (extended_on 0) h

-- these parts are what the history says
pub record AreOf (h : History) (begun first : ℕ) (connection : Connection) (rows : List Stream) : Type 0 where
  pub begun_is : begun ≡ highest h
  pub first_is : first ≡ initial h
  pub live_are : map (λ (row : Stream). row.id) rows ≡ live h
  pub each : All (λ row. IsRow h row.id row) rows
  pub connection_is : IsConnection h connection
  pub later_are_fresh : (id : ℕ) → begun < id → IsFresh h id
  pub came_first : ConsumesWhatCame h
  pub kept : PassesNoWindow h

-- the streams stand for this history
abbrev pub StandFor : Streams → History → Type 0
StandFor streams h = AreOf h streams.table.highest streams.initial streams.connection streams.table.rows.items

-- in each history that they stand for
abbrev pub InEach : Streams → (History → Type 0) → Type 0
InEach streams P = (h : History) → StandFor streams h → P h
