-- What `encode` writes.
use Rattle.std.specs.Prelude.{◌≡◌, ℕ, ◌<◌, Bool, true, List, ◌++◌, replicate}
use Rattle.mq_huff.specs.Coded.{IsCoded, bits}

-- new is old with the text's code behind it
pub record AppendsCoded (old new text : List ℕ) : Type 0 where
  pub coded : List ℕ
  pub appended : new ≡ old ++ coded
  pub is_coded : IsCoded text coded

-- new is old with whole bytes behind it
pub record Appends (old new : List ℕ) : Type 0 where
  pub written : List ℕ
  pub appended : new ≡ old ++ written

-- new is old with bytes behind it that are these bits, up to the ones that wait
pub record AppendsBits (old new : List ℕ) (waiting all : List Bool) : Type 0 where
  pub written : List ℕ
  pub appended : new ≡ old ++ written
  pub spelled : bits written ++ waiting ≡ all

-- new is old with bytes behind it that are these bits, and then fewer than eight ones
pub record AppendsPadded (old new : List ℕ) (all : List Bool) : Type 0 where
  pub written : List ℕ
  pub padding : ℕ
  pub short : padding < 8
  pub appended : new ≡ old ++ written
  pub spelled : bits written ≡ all ++ replicate padding true
