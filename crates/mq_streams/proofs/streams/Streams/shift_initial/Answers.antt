use Rattle.std.proofs.Common.{refl}
use Rattle.mq_streams.specs.History.{Shifted}
use Rattle.mq_streams.proofs.Events.{quiet_connection}
use Rattle.mq_streams.proofs.Steps.{after_none, has_no_part}
use Rattle.mq_streams.proofs.Rooms.{can_shift_is, can_not_shift_is}
use Rattle.mq_streams.proofs.streams.Streams.shift_initial.Goals as goal

pub returns-then-not-can_shift : goal.returns-then-not-can_shift
returns-then-not-can_shift c = λ h is. (can_not_shift_is h _ _ _ _ is c.args.value c.if-not-can_shift.ensures, is)

pub returns : goal.returns
returns c = λ h is.
    let table = c.args.self.now.table in
    let can = can_shift_is h _ _ _ _ is c.args.value c.if-not-can_shift.ensures in (
      can,
      after_none h _ _ _ _ (record { is = is; rise = table.rising; upto = table.begun }) (Shifted c.args.value) refl refl
          (λ k d below. has_no_part _ _ (λ earlier. refl) refl refl refl refl refl) (λ id above. has_no_part _ _ (λ earlier. refl) refl refl refl refl refl)
          _ refl _ (quiet_connection h _ is.connection_is _ (Shifted c.args.value) refl refl refl refl refl refl) is.came_first can,
    )
