-- What a network in memory says of its next receive.
use Rattle.std.proofs.Common.{◌≡◌, ℕ, ◌==◌, ◌||◌, not, List, [], ◌∷◌, length, map, nat_lt, Option, Some, None, is_some, refl, sym, ◌∙◌, arith}
use Rattle.std.specs.List.{list_any}
use Rattle.std.proofs.lemmas.Bool.{lt-ltb}
use Rattle.mq_outside.specs.Nets.{by_itself}
use Rattle.mq_mem.specs.Links.{tells}
use Rattle.mq_mem.specs.Nets.{net_holds, told_net}
use Rattle.mq_mem.specs.Ports.{Queue, would_receive}
use Rattle.mq_pump.specs.Ready.{WouldGive}

as_many : (packets : List (List ℕ)) → nat_lt 0 (length packets) ≡ nat_lt 0 (length (map by_itself packets))
as_many [] = refl
as_many (packet ∷ packets) = lt-ltb 0 (length (packet ∷ packets)) (omega arith) ∙ sym (lt-ltb 0 (length (map by_itself (packet ∷ packets))) (omega arith))

-- it may give a packet, where it tells nothing or would now receive
pub would_give : (q : Queue) → WouldGive (told_net q) (not (is_some (told_net q)) || would_receive q)
would_give q = by_room q.calls.fails q.room where
  by_room : (fails : List ℕ) (room : Option ℕ) → WouldGive (tells fails room (net_holds q)) (not (is_some (tells fails room (net_holds q))) || (list_any (λ n. n == q.calls.made) fails || nat_lt 0 (length q.arrived)))
  by_room [] None = as_many q.arrived
  by_room [] (Some left) = refl
  by_room (n ∷ ns) room = refl
