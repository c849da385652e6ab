use Rattle.std.proofs.Common.{◌-◌, ◌++◌, ◌∙◌, ap, arith}
use Rattle.std.proofs.lemmas.Nat.{one_shl}
use Rattle.mq_huff.proofs.Writing.{word_put, split_fits}
use Rattle.mq_huff.proofs.encoding.put_word.Goals as goal

pub overflow_cast-word : goal.overflow_cast-word
overflow_cast-word c =
    let f = split_fits c.args.word c.args.waiting c.requires.many c.requires.fits in
    omega arith

pub returns-clause-ok : goal.returns-clause-ok
returns-clause-ok c =
    let e = one_shl (c.args.waiting - 32) 64 (omega arith) in
    rw e (word_put c.args.out.now.items c.extend_from_slice.new.self.items c.args.word (c.args.waiting - 32) c.args.waiting (omega arith)
    (c.in_ok-extend_from_slice.ensures.items ∙ ap (λ x. c.args.out.now.items ++ x) c.to_be_bytes.ensures))
