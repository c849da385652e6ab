-- The front of a capsule: its type, its length and, in a DATAGRAM, the Context ID. It decides what comes of the bytes
-- behind it.
use Rattle.std.specs.Prelude.{ℕ, ◌+◌, ◌-◌, List, length, take, drop, Option, Some, None, Bool, ◌==◌, ◌&&◌, nat_lt, if◌then◌else◌}
use Rattle.mq_wire.specs.Integer.{int_of}
use Rattle.mq_capsule.specs.declared.head.Head.{Head}
use Rattle.mq_capsule.specs.declared.front.Front.{Front}
use Rattle.mq_capsule.specs.declared.front.Plan.{Plan}
use Rattle.mq_capsule.specs.declared.front.Plan.TheVariants.{Keep, Skip, Stop}
use Rattle.mq_capsule.specs.declared.front.Kept.TheVariants as kept
use Rattle.mq_capsule.specs.declared.front.Skipped.TheVariants as skipped
use Rattle.mq_capsule.specs.declared.item.CapsuleFault.TheVariants.{TooLong, NoContext}
use Rattle.mq_capsule.specs.Capsule.{head_of, ◌>>=◌}
use Rattle.mq_capsule.specs.Items.{is_control, max_payload, max_control}

-- a payload of so many bytes
abbrev pub payload_plan : ℕ → ℕ → Plan
payload_plan context size =
    if nat_lt max_payload size then Skip (skipped.Payload context size) size else Keep (kept.Payload context) size

-- by the Context ID at the front of a value of this size, or of what there is of it
abbrev pub context_front : Option (ℕ × ℕ) → ℕ → List ℕ → Option Front
context_front None size value =
    if nat_lt (length value) size then None else Some (record { plan = Stop NoContext; used = length value })
context_front (Some context) size value = Some (record { plan = payload_plan context.0 (size - context.1); used = context.1 })

abbrev pub payload_front : ℕ → List ℕ → Option Front
payload_front size value = context_front (int_of value) size value

-- a capsule that is no DATAGRAM
abbrev pub other_plan : Bool → Head → Plan
other_plan control head =
    if control && is_control head.kind then
    (if nat_lt max_control head.length then Stop TooLong else Keep (kept.Control head.kind) head.length)
    else Skip skipped.Other head.length

-- what belongs to the front behind a head, where it is whole
abbrev pub front_by : Bool → Head → List ℕ → Option Front
front_by control head behind =
    if head.kind == 0 then payload_front head.length (take head.length behind)
    else Some (record { plan = other_plan control head; used = 0 })

-- the front, where it is whole
unfoldable pub front_of : Bool → List ℕ → Option Front
front_of control bytes = do
  head ← head_of bytes
  front ← front_by control head (drop head.used bytes)
  Some (record { plan = front.plan; used = head.used + front.used })
