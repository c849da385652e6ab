-- Without hosts nothing is answered; and when a network tells what it holds.
use Rattle.std.proofs.Common.{◌≡◌, ℕ, List, [], ◌∷◌, Option, Some, None, is_some, Result, Ok, Err, refl}
use Rattle.mq_addr.specs.declared.packet.HeaderFault.{HeaderFault}
use Rattle.mq_addr.specs.declared.packet.IpView.{IpView}
use Rattle.mq_addr.specs.Packet.{header_of}
use Rattle.mq_iphdr.specs.Echo.{answer_to, answer_of}
use Rattle.mq_mem.specs.Links.{tells}
use Rattle.mq_mem.specs.Nets.{net_holds, told_net}
use Rattle.mq_mem.specs.Ports.{Queue, holds_of, told}

none_to : (p : List ℕ) (header : Result IpView HeaderFault) → answer_to [] p header ≡ None
none_to p (Ok view) = refl
none_to p (Err fault) = refl

pub no_answer : (p : List ℕ) → answer_of [] p ≡ None
unfolding answer_of
no_answer p = none_to p (header_of p)

-- a network tells what it holds where its queue does
pub same_telling : (q : Queue) → is_some (told q) ≡ is_some (told_net q)
same_telling q = by_room q.calls.fails q.room where
  by_room : (fails : List ℕ) (room : Option ℕ) → is_some (tells fails room (holds_of q)) ≡ is_some (tells fails room (net_holds q))
  by_room [] None = refl
  by_room [] (Some left) = refl
  by_room (n ∷ ns) room = refl
