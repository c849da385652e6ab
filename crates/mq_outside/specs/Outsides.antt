-- What an acceptor or the outside as a whole holds, where it tells it; what was handed back to it; and its counts.
use Rattle.std.specs.Prelude.{◌≡◌, ℕ, ◌+◌, ◌<◌, Bool, List, [], ◌∷◌, ◌++◌, Option, Some, None, Result, Ok, Err}
use Rattle.mq_outside.specs.declared.acceptor.Arrival.{Arrival}
use Rattle.mq_outside.specs.declared.acceptor.Arrival.TheVariants as came
use Rattle.mq_outside.specs.Counts.{risen, risen_by, LinkCounts}
use Rattle.mq_outside.specs.Links.{LinkHolds, LinkPast}
use Rattle.mq_outside.specs.Ports.{PortPast, PortsPast}

-- ---- links that are accepted or dialled

-- what the coming links hold, each where it tells it
abbrev pub Coming : Type 0
Coming = Option (List (Option LinkHolds))

-- a link was the next of those that were to come
abbrev pub Comes : Coming → Coming → Option LinkHolds → Type 0
Comes None after link = after ≡ None
Comes (Some links) after link = (others : List (Option LinkHolds)) × (links ≡ link ∷ others) × (after ≡ Some others)

-- the calls of an acceptor that answered NotNow, and those that answered Failed
pub record AcceptorCounts : Type 0 where
  pub waits : ℕ
  pub faults : ℕ

-- what was handed out is of those that were to come
abbrev pub Accepts : {L : Type 0} → (L → Option LinkHolds) → Coming → Coming → Arrival L → Type 0
Accepts holds before after (came.Link link) = Comes before after (holds link)
Accepts holds before after came.NotNow = after ≡ before
Accepts holds before after came.Done = after ≡ before
Accepts holds before after came.Failed = after ≡ before

-- it is done exactly where it has handed out all the links that it was made for
abbrev pub AcceptsLeft : {L : Type 0} → ℕ → ℕ → Arrival L → Type 0
AcceptsLeft before after (came.Link link) = before ≡ after + 1
AcceptsLeft before after came.NotNow = (0 < before) × (after ≡ before)
AcceptsLeft before after came.Done = (before ≡ 0) × (after ≡ 0)
AcceptsLeft before after came.Failed = (0 < before) × (after ≡ before)

-- a count rises exactly where a call answered so
abbrev pub after_accept : {L : Type 0} → AcceptorCounts → Arrival L → AcceptorCounts
after_accept counts (came.Link link) = counts
after_accept counts came.NotNow = record counts { waits = risen counts.waits }
after_accept counts came.Done = counts
after_accept counts came.Failed = record counts { faults = risen counts.faults }

-- a link that is handed out waited and failed never, and gave and took nothing
abbrev pub IsNoBytes : Option (List ℕ) → Type 0
IsNoBytes None = Unit {0}
IsNoBytes (Some bytes) = bytes ≡ []

pub record IsFresh (past : LinkPast) (counts : LinkCounts) : Type 0 where
  pub gave : IsNoBytes past.gave
  pub took : IsNoBytes past.took
  pub counts_are : counts ≡ record { read_waits = 0; write_waits = 0; faults = 0 }

abbrev pub ArrivesFresh : {L : Type 0} → (L → LinkPast) → (L → LinkCounts) → Arrival L → Type 0
ArrivesFresh past counts (came.Link link) = IsFresh (past link) (counts link)
ArrivesFresh past counts came.NotNow = Unit {0}
ArrivesFresh past counts came.Done = Unit {0}
ArrivesFresh past counts came.Failed = Unit {0}

-- ---- the outside as a whole

-- its faults: of accepting, of dialling, and of links that were handed back
pub record OutsideFaults : Type 0 where
  pub accepting : ℕ
  pub dialling : ℕ
  pub links : ℕ

-- the rest of a link that was handed back
pub record Back : Type 0 where
  pub dialled : Bool
  pub number : ℕ
  pub past : LinkPast
  pub counts : LinkCounts

-- what binds ports that was handed back, with its worker
pub record PortsBack : Type 0 where
  pub worker : ℕ
  pub past : Option PortsPast

-- what it holds: the links that are to be accepted and dialled, in order
pub record OutsideHolds : Type 0 where
  pub accepted : Coming
  pub dialled : Coming

-- what was handed back, in order
pub record OutsidePast : Type 0 where
  pub links : List Back
  pub ports : List PortsBack
  pub nets : List PortPast

-- nothing changed
pub record IsSame (holds holds_after : OutsideHolds) (past past_after : Option OutsidePast) (faults faults_after : OutsideFaults) : Type 0 where
  pub holds_are : holds_after ≡ holds
  pub past_is : past_after ≡ past
  pub faults_are : faults_after ≡ faults

-- nothing was bound yet
abbrev pub IsUnbound : Option PortsPast → Type 0
IsUnbound None = Unit {0}
IsUnbound (Some past) = past ≡ record { bound = []; retired = [] }

abbrev pub past_back : Option OutsidePast → Back → Option OutsidePast
past_back None link = None
past_back (Some past) link = Some (record past { links = past.links ++ link ∷ [] })

abbrev pub past_back_ports : Option OutsidePast → PortsBack → Option OutsidePast
past_back_ports None ports = None
past_back_ports (Some past) ports = Some (record past { ports = past.ports ++ ports ∷ [] })

abbrev pub past_back_net : Option OutsidePast → PortPast → Option OutsidePast
past_back_net None net = None
past_back_net (Some past) net = Some (record past { nets = past.nets ++ net ∷ [] })

-- an acceptor has the links that are to be accepted; one that can't be made uses none up
abbrev pub Opens : {A F : Type 0} → (A → Coming) → Coming → Coming → Result A F → Type 0
Opens coming before after (Ok acceptor) = coming acceptor ≡ before
Opens coming before after (Err fault) = after ≡ before

-- a dialled link is the next of those that are to be dialled
abbrev pub Dials : {L F : Type 0} → (L → Option LinkHolds) → Coming → Coming → Result L F → Type 0
Dials holds before after (Ok link) = Comes before after (holds link)
Dials holds before after (Err fault) = after ≡ before

abbrev pub after_acceptor : {A F : Type 0} → OutsideFaults → Result A F → OutsideFaults
after_acceptor faults (Ok acceptor) = faults
after_acceptor faults (Err fault) = record faults { accepting = risen faults.accepting }

abbrev pub after_dial : {L F : Type 0} → OutsideFaults → Result L F → OutsideFaults
after_dial faults (Ok link) = faults
after_dial faults (Err fault) = record faults { dialling = risen faults.dialling }

abbrev pub after_back : OutsideFaults → LinkCounts → OutsideFaults
after_back faults counts = record faults { links = risen_by counts.faults faults.links }

abbrev pub after_back_acceptor : OutsideFaults → AcceptorCounts → OutsideFaults
after_back_acceptor faults counts = record faults { accepting = risen_by counts.faults faults.accepting }
