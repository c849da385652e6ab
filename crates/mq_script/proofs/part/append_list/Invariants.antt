use Rattle.std.proofs.Common.{◌≡◌, ◌++◌, take, map}
use Rattle.mq_play.specs.Text.{given_text}
use Rattle.mq_script.specs.Words.{behind_spaces}
use Rattle.mq_script.proofs.part.append_list.Given as goal

abbrev pub invariant-loop-given : goal.invariant-loop-given
invariant-loop-given l = l.out.items ≡ l.fn.out.items ++ behind_spaces (map given_text (take l.given-index l.list))
