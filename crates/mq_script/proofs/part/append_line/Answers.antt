use Rattle.std.proofs.Common.{map, [], ◌∷◌, ◌++◌}
use Rattle.mq_play.specs.Text.{given_text, newline}
use Rattle.mq_script.specs.Words.{behind_spaces, part_text}
use Rattle.mq_script.proofs.Printed.{appends_more, line_is}
use Rattle.mq_script.proofs.part.append_line.Goals as goal

pub returns : goal.returns
returns c =
    let end = newline ∷ [] in
    let list = behind_spaces (map given_text c.args.list.now) in
    let parts = behind_spaces (map part_text c.args.parts.now) in
    let last = appends_more c.append_parts.new.out.items list c.append_list.new.out.items end _ _ c.in_ok-append_list.ensures c.append_byte.ensures in
    let behind = appends_more c.append.new.out.items parts c.append_parts.new.out.items (list ++ end) _ _ c.in_ok-append_parts.ensures last in
    let all = appends_more c.args.out.now.items c.args.word.now c.append.new.out.items (parts ++ (list ++ end)) _ _ c.in_ok-append.ensures behind in
    rw (← line_is c.args.word.now c.args.parts.now c.args.list.now) all
