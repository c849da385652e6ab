-- In a lawful state the book says one thing. Settings and lines lead to lawful states.
use Rattle.std.proofs.Common.{ℕ, zero, suc, length, List, [], ◌∷◌}
use Rattle.std.specs.List.{AllByRecursion}
use Rattle.mq_book.specs.Laws.{HasOneAnswer}
use Rattle.mq_talk.specs.declared.book.Config.{Config}
use Rattle.mq_talk.specs.declared.book.Entry.{Entry}
use Rattle.mq_machine.specs.declared.setup.Setup.{Setup}
use Rattle.mq_machine.specs.State.{State, new_worker}
use Rattle.mq_machine.specs.Laws.{SaysOne}
use Rattle.mq_play.specs.declared.line.SettingLine.{SettingLine}
use Rattle.mq_play.specs.Settings.{plan_of}
use Rattle.mq_play.specs.Events.{new_workers}
use Rattle.mq_play.specs.Play.{Stage, Settings, Running, opened}
use Rattle.mq_play.proofs.Plans.{IsKept, none_kept, kept_plan}
use Rattle.mq_play.proofs.Lists.{each_append, each_at}
use Rattle.mq_play.proofs.Lawful.{GivenWorker, Lawful}
use Rattle.mq_play.proofs.Owned.{Good, none_apart, verdicts}

pub book_says_one : HasOneAnswer → (config : Config) (h : List Entry) → Good config h → SaysOne config h
book_says_one one config h g = record { answers = one config h; judges = λ from flow a b x y. verdicts config h from flow a b g x y }

-- ---- stages

abbrev pub LawfulStage : Stage → Type 0
LawfulStage (Settings lines) = IsKept lines
LawfulStage (Running s) = Lawful s

pub lawful_opening : LawfulStage (Settings [])
lawful_opening = none_kept

given_new : (setup : Setup) (n : ℕ) → AllByRecursion (GivenWorker 0) (new_workers setup n)
given_new setup zero = tt
given_new setup (suc n) = each_append (GivenWorker 0) (new_workers setup n) (new_worker n setup ∷ []) (given_new setup n) (record { conns = tt }, tt)

pub lawful_opened : (s : Stage) → LawfulStage s → Lawful (opened s)
lawful_opened (Settings lines) p = record {
  workers = given_new (plan_of lines).setup (plan_of lines).workers;
  book = record { config_is = (kept_plan lines p).book.config; apart = none_apart (plan_of lines).book };
}
lawful_opened (Running state) p = p
