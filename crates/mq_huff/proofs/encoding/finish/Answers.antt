use Rattle.std.proofs.Common.{◌≡◌, ℕ, ◌+◌, ◌-◌, ◌%◌, ◌<◌, ◌≤◌, ◌++◌, ◌∙◌, ap, subst, arith}
use Rattle.std.proofs.lemmas.Nat.{one_shl}
use Rattle.mq_huff.specs.Code.{bits_of}
use Rattle.mq_huff.specs.Encoded.{AppendsBits}
use Rattle.mq_huff.proofs.Writing.{byte_put, all_put}
use Rattle.mq_huff.proofs.encoding.finish.Goals as goal

pub loop-left-preserved : goal.loop-left-preserved
loop-left-preserved c =
    let whole : c.loop-left.left % 8 ≡ 0 = c.loop-left.invariant.whole in
    let few : c.loop-left.left ≤ 39 = c.loop-left.invariant.few in
    let test : 0 < c.loop-left.left = c.loop-left-test.true in
    let le : 8 ≤ c.loop-left.left = omega arith in
    record {
      whole = omega arith;
      few = omega arith;
      written = byte_put c.args.out.now.items c.loop-left.out.items c.push.new.self.items
          (bits_of (c.args.waiting + (32 - c.args.waiting) % 8) c.with_bits-padded.result) c.with_bits-padded.result c.loop-left.left le
          c.loop-left.invariant.written c.in_ok-push.ensures.items;
    }

pub returns-clause-ok : goal.returns-clause-ok
returns-clause-ok c =
    let padding : ℕ = (32 - c.args.waiting) % 8 in
    let few : padding < 8 = omega arith in
    let one = one_shl padding 64 (omega arith) in
    let none : c.loop-left.left ≡ 0 = omega arith in
    all_put c.args.out.now.items c.loop-left.out.items (bits_of c.args.waiting c.args.word) (bits_of (c.args.waiting + padding) c.with_bits-padded.result)
    c.with_bits-padded.result padding few
    (c.with_bits-padded.ensures.joined ∙ ap (λ n. bits_of c.args.waiting c.args.word ++ bits_of padding (n - 1)) one)
    (subst (λ (k : ℕ). AppendsBits c.args.out.now.items c.loop-left.out.items (bits_of k c.with_bits-padded.result) (bits_of (c.args.waiting + padding) c.with_bits-padded.result)) none c.loop-left.invariant.written)
