use Rattle.std.proofs.Common.{refl, arith}
use Rattle.mq_mail.proofs.MatrixMoves.{is_key, is_new_key, zeros}
use Rattle.mq_mail.proofs.key.MailKey.new.Goals as goal

pub invariant_of-result : goal.invariant_of-result
invariant_of-result c =
    is_key c.args.actor _ _ c.requires.inbox.0 _ _ _ c.requires.ways c.requires.inbox.1 c.requires.inbox.2 refl
    (zeros _ c.args.ways.items _ (c.in_ok-counts.ensures.items_if_clones_equal (λ y e. cc)) (omega (arith, c.args.ways.ok)))

pub returns : goal.returns
returns c = is_new_key c.args.actor _ _ c.requires.inbox.0 c.args.ways.items c.args.inbox c.requires.ways c.requires.inbox.2
