use Rattle.std.proofs.Common.{◌≡◌, find, drop}
use Rattle.mq_client.specs.Statuses.{is_status}
use Rattle.mq_client.proofs.status.first.Given as goal

-- none of the fields so far is a status
abbrev pub invariant-loop-field : goal.invariant-loop-field
invariant-loop-field l = find is_status l.fields ≡ find is_status (drop l.field-index l.fields)
