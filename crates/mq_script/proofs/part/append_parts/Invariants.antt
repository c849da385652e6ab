use Rattle.std.proofs.Common.{◌≡◌, ◌++◌, take, map}
use Rattle.mq_script.specs.Words.{behind_spaces, part_text}
use Rattle.mq_script.proofs.part.append_parts.Given as goal

abbrev pub invariant-loop-part : goal.invariant-loop-part
invariant-loop-part l = l.out.items ≡ l.fn.out.items ++ behind_spaces (map part_text (take l.part-index l.parts))
