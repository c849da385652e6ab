-- A packet that may go on from the network goes to an inbox that there is.
use Rattle.std.proofs.Common.{◌≡◌, ℕ, ◌≤◌, List, length, MatchOption, subst}
use Rattle.std.specs.Bool.{⊤}
use Rattle.std.specs.Option.{IsSome}
use Rattle.mq_addr.specs.declared.range.Flow.{Flow}
use Rattle.mq_talk.specs.declared.book.Config.{Config}
use Rattle.mq_talk.specs.declared.place.Judged.{Judged}
use Rattle.mq_talk.specs.declared.place.Origin.TheVariants as origin
use Rattle.mq_talk.specs.declared.place.Verdict.{Verdict}
use Rattle.mq_talk.specs.declared.place.Verdict.TheVariants as verdict
use Rattle.mq_talk.specs.Answers.{IsLegal}
use Rattle.mq_talk.specs.Judging.{IsJudged}
use Rattle.mq_talk.specs.Mails.{HasInbox}
use Rattle.mq_talk.specs.Offices.{Seen, IsSound, JudgeGives}
use Rattle.mq_talk.specs.Packets.{flow_of}
use Rattle.mq_book.specs.Laws.{JudgedHasInbox}
use Rattle.mq_pump.specs.Holds.{CanGo}
use Rattle.mq_pump.specs.Receives.{judged_parcel}

-- a packet that came from the network, where it may go on, has an inbox
pub judged_goes : (old new : Seen) (workers n : ℕ) (packet : List ℕ) (flow : Flow) (judged : Judged) → JudgedHasInbox → old.config.workers ≡ workers → length packet ≤ 65535 → IsSome (flow_of packet)
    → IsSound new → JudgeGives old origin.Net flow judged new → MatchOption (judged_parcel n packet judged.verdict) ⊤ (CanGo workers)
judged_goes old new workers n packet flow judged has_inbox same size flows sound gives = by_verdict judged.verdict gives.verdict where
  by_verdict : (v : Verdict) → IsJudged old.config new.entries origin.Net flow v → MatchOption (judged_parcel n packet v) ⊤ (CanGo workers)
  by_verdict verdict.Source is = tt
  by_verdict verdict.NoRoute is = tt
  by_verdict (verdict.Pass to) is =
      let legal : IsLegal old.config new.entries = subst (λ (c : Config). IsLegal c new.entries) gives.same.config sound.legal in
      record {
        is = record { size = size; packet = flows };
        inbox = subst (λ (w : ℕ). HasInbox w to) same (has_inbox old.config new.entries origin.Net flow to legal is);
      }
