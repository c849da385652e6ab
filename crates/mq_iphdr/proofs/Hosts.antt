-- Without hosts nothing is answered.
use Rattle.std.proofs.Common.{◌≡◌, ℕ, List, [], None, Result, Ok, Err, refl}
use Rattle.mq_addr.specs.declared.packet.HeaderFault.{HeaderFault}
use Rattle.mq_addr.specs.declared.packet.IpView.{IpView}
use Rattle.mq_addr.specs.Packet.{header_of}
use Rattle.mq_iphdr.specs.Echo.{answer_to, answer_of}

none_to : (p : List ℕ) (header : Result IpView HeaderFault) → answer_to [] p header ≡ None
none_to p (Ok view) = refl
none_to p (Err fault) = refl

pub no_answer : (p : List ℕ) → answer_of [] p ≡ None
unfolding answer_of
no_answer p = none_to p (header_of p)
