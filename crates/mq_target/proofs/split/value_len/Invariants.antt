use Rattle.std.proofs.Common.{◌≡◌, true, take}
use Rattle.std.specs.List.{list_all}
use Rattle.mq_target.specs.Classes.{is_value_byte}
use Rattle.mq_target.proofs.split.value_len.Given as goal

abbrev pub invariant-loop-byte : goal.invariant-loop-byte
invariant-loop-byte l = record { count : l.len ≡ l.byte-index; all : list_all is_value_byte (take l.len l.text) ≡ true }
