use Rattle.std.proofs.Common.{ℕ, List, ◌++◌, subst, refl}
use Rattle.mq_hpack.specs.Encoder.{spelled, IsText}
use Rattle.mq_hpack.proofs.Written.{three_more}
use Rattle.mq_hpack.proofs.encoder.write_new.Goals as goal

pub returns : goal.returns
returns c =
    let name = c.in_ok-write_string.ensures in
    let value = c.in_ok-write_string-2.ensures in
    record {
      written = spelled 0 4 0 ++ (name.written ++ value.written);
      appended = three_more c.args.out.now.items (spelled 0 4 0) name.written value.written _ _ _
          c.in_ok-write_integer.ensures name.appended value.appended;
      are = (
        name.written,
        value.written,
        subst (λ (text : List ℕ). IsText text name.written) c.as_slice.ensures name.are,
        subst (λ (text : List ℕ). IsText text value.written) c.as_slice-2.ensures value.are,
        refl,
      );
    }
