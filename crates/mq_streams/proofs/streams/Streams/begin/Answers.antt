use Rattle.std.proofs.Common.{refl, arith}
use Rattle.std.proofs.lemmas.Bool.Decides.{nat_tests}
use Rattle.mq_streams.specs.History.{Opened, TurnedAway}
use Rattle.mq_streams.proofs.Live.{live_count}
use Rattle.mq_streams.proofs.Events.{quiet_connection, fresh_row}
use Rattle.mq_streams.proofs.Begins.{after_open, after_turning_away}
use Rattle.mq_streams.proofs.streams.Streams.begin.Goals as goal

pub returns-then-is_full : goal.returns-then-is_full
returns-then-is_full c = λ h is.
    let table = c.args.self.now.table in
    let many = live_count h table.rows.items is.live_are in
    let highest_is = is.begun_is in
    let full = c.if-is_full.true in
    let full_is = c.is_full.ensures in (
      grind (arith, nat_tests),
      after_turning_away h _ _ _ _ (record { is = is; rise = table.rising; upto = table.begun }) c.args.id (omega arith) _ c.turn_away.ensures.highest _ c.turn_away.ensures.rows
          (quiet_connection h _ is.connection_is _ (TurnedAway c.args.id) refl refl refl refl refl refl),
    )

pub returns : goal.returns
returns c = λ h is.
    let table = c.args.self.now.table in
    let many = live_count h table.rows.items is.live_are in
    let highest_is = is.begun_is in
    let full = c.if-is_full.false in
    let full_is = c.is_full.ensures in
    let opened = c.open.ensures.row in (
      grind (arith, nat_tests),
      after_open h _ _ _ _ (record { is = is; rise = table.rising; upto = table.begun }) c.args.id (omega arith) _ c.open.ensures.highest _ opened.row opened.added opened.id_is
          (λ fresh. fresh_row h c.args.id fresh opened.row opened.ended opened.room opened.consumed opened.balance)
          (quiet_connection h _ is.connection_is _ (Opened c.args.id) refl refl refl refl refl refl),
    )
