-- What a sink takes of what is printed.
use Rattle.std.specs.Prelude.{◌≡◌, ℕ, ◌<◌, List, [], ◌++◌, Option, Some, None, Result, Ok, Err}
use Rattle.mq_outside.specs.Outside.{Rose}
use Rattle.mq_output.specs.declared.output.Output.{Output}
use Rattle.mq_output.specs.declared.stop.Stop.{Stop}
use Rattle.mq_output.specs.declared.stop.Stop.TheVariants.{BadLine, WriteFault, NoMemory}

-- the sink, where it tells, took these bytes more
abbrev pub Adds : Option (List ℕ) → Option (List ℕ) → List ℕ → Type 0
Adds None after text = after ≡ None
Adds (Some taken) after text = after ≡ Some (taken ++ text)

module _ {K : Type 0} where
  -- the sink is the same, and took these bytes more
  pub record Takes (taken : K → Option (List ℕ)) (old new : Output K) (bytes : List ℕ) : Type 0 where
    pub same_sink : new.sink.ghost_name ≡ old.sink.ghost_name
    pub adds : Adds (taken old.sink.now) (taken new.sink.now) bytes

  -- What was owed, and then what was shown, was written to the sink or is owed.
  pub record Prints (taken : K → Option (List ℕ)) (old new : Output K) (shown : List ℕ) : Type 0 where
    pub written : List ℕ
    pub takes : Takes taken old new written
    pub is : old.owed.now.items ++ shown ≡ written ++ new.owed.now.items

-- a sink's faults rose exactly where it took less than all
pub record FrontCounts (before after taken all : ℕ) : Type 0 where
  pub whole : taken ≡ all → after ≡ before
  pub part : taken < all → Rose before after

-- a sink's faults rose at a write fault, and only there
abbrev pub StopCounts : {A : Type 0} → ℕ → ℕ → Result A Stop → Type 0
StopCounts before after (Ok done) = after ≡ before
StopCounts before after (Err WriteFault) = Rose before after
StopCounts before after (Err BadLine) = after ≡ before
StopCounts before after (Err NoMemory) = after ≡ before

-- all was written, where the answer isn't a fault
abbrev pub Flushes : List ℕ → Result (Unit {0}) Stop → Type 0
Flushes owes (Ok done) = owes ≡ []
Flushes owes (Err WriteFault) = Unit {0}
Flushes owes (Err BadLine) = ⊥
Flushes owes (Err NoMemory) = ⊥

-- the answer is a fault of the sink alone
abbrev pub Spills : Result (Unit {0}) Stop → Type 0
Spills (Ok done) = Unit {0}
Spills (Err WriteFault) = Unit {0}
Spills (Err BadLine) = ⊥
Spills (Err NoMemory) = ⊥

-- the answer is no fault of the sink
abbrev pub IsSilent : {A : Type 0} → Result A Stop → Type 0
IsSilent (Ok done) = Unit {0}
IsSilent (Err BadLine) = Unit {0}
IsSilent (Err NoMemory) = Unit {0}
IsSilent (Err WriteFault) = ⊥
