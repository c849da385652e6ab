-- An answer that stands at the front of a place.
use Rattle.std.specs.Prelude.{◌≡◌, ℕ, Bool, true, false, List, length, take, Some, None}
use Rattle.mq_addr.specs.declared.addr.Addr.{Addr}
use Rattle.mq_iphdr.specs.Echo.{answer_of}

abbrev pub Answers : List Addr → List ℕ → List ℕ → Bool → Type 0
Answers hosts packet place true = answer_of hosts packet ≡ Some (take (length packet) place)
Answers hosts packet place false = answer_of hosts packet ≡ None
