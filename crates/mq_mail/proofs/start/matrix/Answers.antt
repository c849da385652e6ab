use Rattle.std.proofs.Common.{List, length, map, refl, sym, ap, ◌∙◌, subst, arith}
use lib.ListN.{length-map}
use Rattle.atomic_table.specs.Seated.{TableId}
use Rattle.mq_mail.specs.Keys.{InboxPass}
use Rattle.mq_mail.specs.Made.{AreLast}
use Rattle.mq_mail.specs.PostParts.{inbox_id}
use Rattle.mq_mail.proofs.MatrixMoves.{half_length, all_last}
use Rattle.mq_mail.proofs.start.matrix.Goals as goal

pub make_keys-requires-clause-firsts : goal.make_keys-requires-clause-firsts
make_keys-requires-clause-firsts c =
    let ids : List TableId = map inbox_id c.as_slice-all.result.now in
    let firsts = c.in_ok-rows.ensures.firsts in
    let P : List InboxPass → Type 0 = AreLast c.args.actors 0 ids in
    let same = c.from_vec.ensures.items in (
      subst P (sym same) (all_last _ _ _ firsts),
      omega (arith, ap length same, half_length c.args.actors 0 ids _ firsts, length-map c.as_slice-all.result.now inbox_id, ap length c.as_slice-all.ensures.value, c.in_ok-inboxes.ensures.size),
    )

pub returns-clause-post : goal.returns-clause-post
returns-clause-post c = (length-map c.in_ok-inboxes.inboxes.items inbox_id ∙ c.in_ok-inboxes.ensures.size, refl)
