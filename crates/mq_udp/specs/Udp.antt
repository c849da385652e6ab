-- What the client of a proxy does as a whole, by its outcome.
use Rattle.std.specs.Prelude.{◌≡◌, ℕ, ◌⊎◌, true, List, [], Option}
use Rattle.mq_outside.specs.Counts.{LinkCounts, risen}
use Rattle.mq_outside.specs.Links.{LinkPast}
use Rattle.mq_outside.specs.Outside.{Rose}
use Rattle.mq_outside.specs.Outsides.{OutsidePast, OutsideFaults, after_back, past_back}
use Rattle.mq_play.specs.Script.{IsFrontOf}
use Rattle.mq_play.specs.Text.{printed, Bad}
use Rattle.mq_udp.specs.declared.outcome.Outcome.{Outcome}
use Rattle.mq_udp.specs.declared.outcome.Outcome.TheVariants as outcome
use Rattle.mq_udp.specs.declared.reading.Unread.{Unread}
use Rattle.mq_udp.specs.declared.reading.Unread.TheVariants as unread
use Rattle.mq_udp.specs.declared.asked.Asked.{Asked}
use Rattle.mq_udp.specs.Input.{IsInput}
use Rattle.mq_udp.specs.Inputs.{IsAtEnd, IsBadAt}
use Rattle.mq_udp.specs.Talks.{Asking, Ends}

-- what is asked, with nothing to send
abbrev pub asking : Asked → Asking
asking asked = record { h2 = asked.h2; path = asked.path; host = asked.host; payloads = []; count = asked.count }

-- what the outside tells of what was handed back, and its faults
pub record Seen : Type 0 where
  pub past : Option OutsidePast
  pub faults : OutsideFaults

abbrev pub seen_of : Option OutsidePast → OutsideFaults → Seen
seen_of past faults = record { past = past; faults = faults }

-- The input has no payloads, and the proxy wasn't dialled.
abbrev pub IsUnread : List ℕ → Option (List ℕ) → List ℕ → Outcome → Type 0
IsUnread text left out outcome.ReadFault = out ≡ []
IsUnread text left out outcome.BadInput = (number : ℕ) × IsBadAt text left number × (out ≡ printed (Bad number))
IsUnread text left out outcome.WriteFault = (number : ℕ) × IsBadAt text left number × IsFrontOf out (printed (Bad number))
IsUnread text left out outcome.NoMemory = out ≡ []
IsUnread text left out why = ⊥

-- the input was read, and the proxy couldn't be dialled
pub record IsUndialled (text : List ℕ) (left : Option (List ℕ)) (out : List ℕ) (why : Outcome) (before after : Seen) : Type 0 where
  pub payloads : List (List ℕ)
  pub ended : IsAtEnd left
  pub input : IsInput text payloads
  pub none : out ≡ []
  pub is : why ≡ outcome.OutsideFault
  pub past : after.past ≡ before.past
  pub faults : after.faults ≡ record before.faults { dialling = risen before.faults.dialling }

-- The proxy was dialled, and the talk with it ended so. The link was handed back, with what it gave and took, and its faults.
pub record IsTalked (ask : Asking) (text : List ℕ) (left : Option (List ℕ)) (out : List ℕ) (why : Outcome) (before after : Seen) : Type 0 where
  pub payloads : List (List ℕ)
  pub ended : IsAtEnd left
  pub input : IsInput text payloads
  pub link : LinkPast
  pub counts : LinkCounts
  pub ends : Ends (record ask { payloads = payloads }) link counts.faults out why
  pub past : after.past ≡ past_back before.past (record { dialled = true; number = 0; past = link; counts = counts })
  pub faults : after.faults ≡ after_back before.faults counts

abbrev pub UdpTo : Asking → List ℕ → Option (List ℕ) → List ℕ → Seen → Seen → Outcome → Type 0
UdpTo ask text left out before after why =
    (IsUnread text left out why × (after ≡ before)) ⊎ (IsUndialled text left out why before after ⊎ IsTalked ask text left out why before after)

-- ---- counts

-- the source's faults rose exactly at a read fault
abbrev pub SourceCounts : ℕ → ℕ → Outcome → Type 0
SourceCounts before after outcome.ReadFault = Rose before after
SourceCounts before after why = after ≡ before

-- the sink's faults rose exactly at a write fault
abbrev pub OutcomeCounts : ℕ → ℕ → Outcome → Type 0
OutcomeCounts before after outcome.WriteFault = Rose before after
OutcomeCounts before after why = after ≡ before

-- what is said where an input has no payloads; only the crate's own functions cite this
abbrev pub Refuses : Unread → List ℕ → Outcome → Type 0
Refuses unread.Failed out why = (why ≡ outcome.ReadFault) × (out ≡ [])
Refuses unread.NoMemory out why = (why ≡ outcome.NoMemory) × (out ≡ [])
Refuses (unread.BadLine number) out outcome.BadInput = out ≡ printed (Bad number)
Refuses (unread.BadLine number) out outcome.WriteFault = IsFrontOf out (printed (Bad number))
Refuses (unread.BadLine number) out outcome.NoMemory = out ≡ []
Refuses (unread.BadLine number) out why = ⊥
