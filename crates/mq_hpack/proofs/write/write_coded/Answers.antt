use Rattle.std.proofs.Common.{ℕ, ◌<◌, length, ◌++◌, ◌∙◌, ap, subst, inr}
use Rattle.std.proofs.lemmas.List.{append_assoc}
use Rattle.mq_hpack.specs.Encoder.{spelled}
use Rattle.mq_hpack.proofs.write.write_coded.Goals as goal

pub returns : goal.returns
returns c =
    let raw = c.in_ok-encode.ensures.ok.coded in
    let len = c.requires.exact raw c.in_ok-encode.ensures.ok.is_coded in
    let first = spelled 128 7 c.args.coded in
    record {
      written = first ++ raw;
      appended = c.in_ok-encode.ensures.ok.appended ∙ ap (λ xs. xs ++ raw) c.in_ok-write_integer.ensures ∙ append_assoc c.args.out.now.items first raw;
      are = inr (
        raw,
        c.in_ok-encode.ensures.ok.is_coded,
        subst (λ (n : ℕ). n < length c.args.text.now) len c.requires.shorter,
        ap (λ (n : ℕ). spelled 128 7 n ++ raw) len,
      );
    }
