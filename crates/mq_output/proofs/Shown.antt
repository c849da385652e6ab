-- What was shown, written and owed.
use Rattle.std.proofs.Common.{◌≡◌, ℕ, List, [], ◌++◌, take, Option, Some, None, Result, Ok, Err, refl, sym, ap, subst, ◌∙◌, MutBor, append_assoc, append-nil}
use Rattle.mq_outside.specs.Outside.{Writes}
use Rattle.mq_outside.specs.declared.Put.TheVariants.{Took}
use Rattle.mq_output.specs.Joined.{adds_none, adds_more, takes_none, takes_more, prints_none, prints_more}
use Rattle.mq_output.specs.Printing.{Adds, Takes, Prints, StopCounts, IsSilent}
use Rattle.mq_output.specs.declared.output.Output.{Output}
use Rattle.mq_output.specs.declared.stop.Stop.{Stop}
use Rattle.mq_output.specs.declared.stop.Stop.TheVariants.{BadLine, WriteFault, NoMemory}

pub adds_took : (a b : Option (List ℕ)) (bytes : List ℕ) (count : ℕ) → Writes a b bytes (Took count) → Adds a b (take count bytes)
adds_took None b bytes count w = w
adds_took (Some taken) b bytes count w = w

module _ {K : Type 0} where
  -- what was shown is owed
  pub prints_said : (taken : K → Option (List ℕ)) (o p : Output K) (shown : List ℕ) → p.sink ≡ o.sink → p.owed.now.items ≡ o.owed.now.items ++ shown → Prints taken o p shown
  prints_said taken o p shown same e = record { written = []; takes = takes_none taken o p same; is = sym e }

  -- nothing more is owed
  pub prints_unsaid : (taken : K → Option (List ℕ)) (o p : Output K) → p.sink ≡ o.sink → p.owed.now.items ≡ o.owed.now.items → Prints taken o p []
  prints_unsaid taken o p same e = prints_said taken o p [] same (e ∙ sym (append-nil o.owed.now.items))

  -- what was shown was then written in part
  pub prints_flushed : (taken : K → Option (List ℕ)) (o p q : Output K) (x : List ℕ) → Prints taken o p x → Prints taken p q [] → Prints taken o q x
  prints_flushed taken o p q x first next =
      let P : List ℕ → Type 0 = λ shown. Prints taken o q shown in
      subst P (append-nil x) (prints_more taken o p q x [] first next)

  -- what was shown is owed, and was then written in part
  pub prints_shown : (taken : K → Option (List ℕ)) (o p q : Output K) (shown : List ℕ) → Prints taken p q [] → p.sink ≡ o.sink → p.owed.now.items ≡ o.owed.now.items ++ shown → Prints taken o q shown
  prints_shown taken o p q shown next same e = prints_flushed taken o p q shown (prints_said taken o p shown same e) next

-- a sink that wasn't called
pub silent_counts : {A : Type 0} (before after : ℕ) (answer : Result A Stop) → after ≡ before → IsSilent answer → StopCounts before after answer
silent_counts before after (Ok done) e s = e
silent_counts before after (Err BadLine) e s = e
silent_counts before after (Err NoMemory) e s = e
silent_counts before after (Err WriteFault) e s = absurd s

-- whatever the answer would have been
pub silent_why : (A B : Type 0) (why : Stop) → IsSilent {A = A} (Err why) → IsSilent {A = B} (Err why)
silent_why A B BadLine s = s
silent_why A B NoMemory s = s
silent_why A B WriteFault s = s
