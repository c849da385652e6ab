use Rattle.std.proofs.Common.{◌≡◌}
use Rattle.mq_talk.specs.Mails.{Boxes}
use Rattle.mq_talk.specs.Offices.{Seen}
use Rattle.mq_world.specs.Worlds.{AreUntouched, IsUnused}
use Rattle.mq_world.proofs.workers.workers_of.Given as goal

-- so many workers were made
abbrev pub invariant-loop-number : goal.invariant-loop-number
invariant-loop-number l =
    (seen : Seen) (boxes : Boxes) → IsUnused seen boxes l.fn.setup → l.fn.count ≡ seen.config.workers → AreUntouched seen boxes l.fn.setup l.workers.items l.number
