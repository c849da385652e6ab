-- What came from the network is judged.
use Rattle.std.proofs.Common.{◌≡◌, ℕ, ◌≤◌, Bool, false, List, length, nat_lt, Option, Some, is_some, Result, Ok, sym, ap, ◌∙◌, subst}
use Rattle.std.specs.Bool.{MatchBool}
use Rattle.std.specs.Option.{IsSome}
use Rattle.std.proofs.lemmas.Bool.{le-ltb}
use Rattle.mq_addr.specs.declared.packet.HeaderFault.{HeaderFault}
use Rattle.mq_addr.specs.declared.packet.IpView.{IpView}
use Rattle.mq_addr.specs.declared.range.Flow.{Flow}
use Rattle.mq_addr.specs.Packet.{header_of}
use Rattle.mq_talk.specs.declared.note.Note.{Note}
use Rattle.mq_talk.specs.declared.place.Cause.TheVariants as cause
use Rattle.mq_talk.specs.declared.place.Parcel.{Parcel}
use Rattle.mq_talk.specs.Offices.{Seen}
use Rattle.mq_talk.specs.Packets.{flow_in, flow_of}
use Rattle.mq_pump.specs.Receives.{IsJudgedSo, IsDropped, Comes}

-- a packet whose header was read has a flow
pub flow_is : (packet read : List ℕ) (view : IpView) → read ≡ packet → Ok view ≡ header_of read → flow_of packet ≡ Some view.flow
flow_is packet read view same header = ap (λ (r : Result IpView HeaderFault). flow_in r) (sym (header ∙ ap (λ (b : List ℕ). header_of b) same))

pub has_flow : (packet read : List ℕ) (view : IpView) → read ≡ packet → Ok view ≡ header_of read → IsSome (flow_of packet)
has_flow packet read view same header = ap (λ (o : Option Flow). is_some o) (flow_is packet read view same header)

-- it is judged where it is short enough
pub comes_judged : (old new : Seen) (mtu n : ℕ) (packet : List ℕ) (flow : Flow) (said : Note) (pushes : Option Parcel) → flow_of packet ≡ Some flow → length packet ≤ mtu
    → IsJudgedSo old new n packet flow said pushes → Comes old new mtu n packet (flow_of packet) said pushes
comes_judged old new mtu n packet flow said pushes flows short judged =
    let within : nat_lt mtu (length packet) ≡ false = le-ltb _ _ short in
    subst (λ (o : Option Flow). Comes old new mtu n packet o said pushes) (sym flows)
    (subst (λ (b : Bool). MatchBool b (IsDropped old new n cause.TooLong said pushes) (IsJudgedSo old new n packet flow said pushes)) (sym within) judged)
