-- What `decode` answers, and when.
use Rattle.std.specs.Prelude.{◌≡◌, ℕ, ◌⊎◌, List, Result, Ok, Err}
use Rattle.std.specs.Global.{Vec}
use Rattle.mq_huff.specs.declared.fault.HuffFault.{HuffFault}
use Rattle.mq_huff.specs.declared.fault.HuffFault.TheVariants.{Padding, Eos, NoMemory}
use Rattle.mq_huff.specs.Coded.{IsCoded, MeetsEos, IsBadlyPadded}

-- the answer tells what the bytes are
abbrev pub Tells : List ℕ → Result (Vec ℕ) HuffFault → Type 0
Tells bytes (Ok text) = IsCoded text.items bytes
Tells bytes (Err Eos) = MeetsEos bytes
Tells bytes (Err Padding) = IsBadlyPadded bytes
Tells bytes (Err NoMemory) = Unit {0}

-- the answer is this text, unless memory ran out
abbrev pub GivesText : List ℕ → Result (Vec ℕ) HuffFault → Type 0
GivesText text (Ok found) = found.items ≡ text
GivesText text (Err fault) = fault ≡ NoMemory

-- the answer is this fault, unless memory ran out
abbrev pub GivesFault : HuffFault → Result (Vec ℕ) HuffFault → Type 0
GivesFault expected (Ok found) = ⊥
GivesFault expected (Err fault) = (fault ≡ expected) ⊎ (fault ≡ NoMemory)
