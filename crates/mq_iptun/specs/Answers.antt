-- The control capsule that tells what the book answered (RFC 9484, section 4.7).
use Rattle.std.specs.Prelude.{ℕ, ◌^◌, ◌<◌, ◌≤◌, List, length, Option, Some, None, option_map}
use Rattle.std.specs.List.{All}
use Rattle.std.specs.Option.{IfSome}
use Rattle.mq_addr.specs.declared.entry.Given.{Given}
use Rattle.mq_capsule.specs.Capsule.{Capsule}
use Rattle.mq_capsule.specs.Writing.{capsule_text}
use Rattle.mq_ipcaps.specs.Lists.{IsAssignment, AreRoutes}
use Rattle.mq_talk.specs.declared.book.Call.{Call}
use Rattle.mq_talk.specs.declared.book.Config.{Config}
use Rattle.mq_talk.specs.declared.book.Reply.{Reply}
use Rattle.mq_talk.specs.declared.book.Reply.TheVariants.{Opened, HistoryFull, Assigned, Accepted, Closed}
use Rattle.mq_talk.specs.Answers.{IsAnswer, IsLegal, MayCall}
use Rattle.mq_talk.specs.Book.{History}
use Rattle.mq_talk.specs.Config.{IsConfig}
use Rattle.mq_machine.specs.Words.{assign_value, routes_value}

-- at most 32 entries, whose Request IDs are integers that have a spelling
pub record AreTold (list : List Given) : Type 0 where
  pub few : IsAssignment list
  pub ids : All (λ entry. entry.id < 2 ^ 62) list

-- a reply whose lists are within what a control capsule may hold, where it has any
abbrev pub CanTell : Reply → Type 0
CanTell (Opened tunnel routes) = AreRoutes routes
CanTell (HistoryFull entries live) = Unit {0}
CanTell (Assigned list at) = AreTold list
CanTell (Accepted accepts at) = Unit {0}
CanTell Closed = Unit {0}

-- ROUTE_ADVERTISEMENT for the routes that a tunnel is offered, ADDRESS_ASSIGN for what it holds and is denied
abbrev pub capsule_for : Reply → Option Capsule
capsule_for (Opened tunnel routes) = Some (record { kind = 3; value = routes_value routes })
capsule_for (HistoryFull entries live) = None
capsule_for (Assigned list at) = Some (record { kind = 1; value = assign_value list })
capsule_for (Accepted accepts at) = None
capsule_for Closed = None

-- its bytes
abbrev pub told : Reply → Option (List ℕ)
told reply = option_map capsule_text (capsule_for reply)

-- whatever a book answers to a call that may be made after a legal history has a capsule, or needs none
abbrev pub AnswersCanBeTold : Type 0
AnswersCanBeTold =
    (config : Config) (h : History) (actor : ℕ) (call : Call) (reply : Reply)
    → IsConfig config → IsLegal config h → MayCall config h actor call → IsAnswer config h call reply → CanTell reply

-- and the capsule has at most 4,096 bytes
abbrev pub IsToldShort : Type 0
IsToldShort = (reply : Reply) → CanTell reply → IfSome (told reply) (λ text. length text ≤ 4096)
