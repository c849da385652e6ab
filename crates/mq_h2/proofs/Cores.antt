-- What a core stands for after its parts changed.
use Rattle.std.proofs.Common.{◌≡◌, ◌≤◌, ℕ, ◌++◌, List, length, drop, sym, ap, subst, ◌∙◌, arith}
use Rattle.std.proofs.lemmas.List.{length-append, drop-append-le}
use Rattle.mq_streams.specs.History.{History}
use Rattle.mq_streams.specs.Stand.{StandFor}
use Rattle.mq_streams.specs.declared.streams.Streams.{Streams}
use Rattle.mq_h2.specs.declared.parts.Core.{Core}
use Rattle.mq_h2.specs.State.{State, with_history}
use Rattle.mq_h2.specs.Stand.{Serves, Goes}
use Rattle.mq_h2.specs.Left.{left}

-- the parts that serve are the same
pub serves_same : (c d : Core) (s : State) → Serves c s → d.encoder ≡ c.encoder → d.streams ≡ c.streams → left d.owed ≡ left c.owed → Serves d s
serves_same c d s is encoder streams owed = record {
  encoder = encoder ∙ is.encoder;
  streams = subst (λ (x : Streams). StandFor x s.history) (sym streams) is.streams;
  given = is.given;
  owed_is = owed ∙ is.owed_is;
}

-- something happened to the streams
pub serves_on : (c : Core) (s : State) → Serves c s → (streams : Streams) (h : History) → StandFor streams h → Serves (record c { streams = streams }) (with_history h s)
serves_on c s is streams h stand = record { encoder = is.encoder; streams = stand; given = is.given; owed_is = is.owed_is }

pub goes_on : (c : Core) (s : State) → Goes c s → (streams : Streams) (h : History) → StandFor streams h → Goes (record c { streams = streams }) (with_history h s)
goes_on c s is streams h stand = record {
  decodes = record { serves = serves_on c s is.decodes.serves streams h stand; decoder = is.decodes.decoder; on = is.decodes.on };
  block = is.block;
}

-- what is owed after bytes were put
pub put_owed : (given : ℕ) (out bytes wanted before after : List ℕ) → given ≤ length out → before ≡ drop given out → after ≡ before ++ bytes → bytes ≡ wanted
    → after ≡ drop given (out ++ wanted)
put_owed given out bytes wanted before after within was is same =
    is ∙ ap (λ (x : List ℕ). x ++ bytes) was ∙ ap (λ (x : List ℕ). drop given out ++ x) same ∙ sym (drop-append-le given out wanted within)

pub put_given : (given : ℕ) (out wanted : List ℕ) → given ≤ length out → given ≤ length (out ++ wanted)
put_given given out wanted within = omega (arith, length-append out wanted)
