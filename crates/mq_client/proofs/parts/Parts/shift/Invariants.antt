use Rattle.std.proofs.Common.{◌≡◌, drop}
use Rattle.mq_streams.specs.History.{History}
use Rattle.mq_client.specs.Session.{Session, with_history}
use Rattle.mq_client.specs.Settling.{shifts}
use Rattle.mq_client.specs.Talking.{Goes}
use Rattle.mq_client.proofs.parts.Parts.shift.Given as goal

-- the settings so far were applied
abbrev pub invariant-loop-pair : goal.invariant-loop-pair
invariant-loop-pair l = (s : Session) → Goes l.initial.self s →
    (h : History) × (shifts l.pairs s.history ≡ shifts (drop l.pair-index l.pairs) h) × Goes l.self (with_history h s)
