-- The phase of a core.
use Rattle.std.proofs.Common.{◌≡◌, ℕ, Bool, true, false, List, refl}
use Rattle.mq_frame.specs.Readers.{Stands}
use Rattle.mq_h2.specs.declared.parts.Core.{Core}
use Rattle.mq_h2.specs.declared.h2.H2.{H2}
use Rattle.mq_h2.specs.declared.h2.Phase.{Phase}
use Rattle.mq_h2.specs.declared.h2.Phase.TheVariants.{Reading, Ended, Spent}
use Rattle.mq_h2.specs.State.{State}
use Rattle.mq_h2.specs.Stand.{Serves, Goes, IsPhase}
use Rattle.mq_h2.specs.Doing.{phase_behind}

-- what reads, where no error of the connection was met
pub record Reads (v : H2) (s : State) : Type 0 where
  pub stands : Stands v.frames s.read
  pub goes : Goes v.core s

pub reading : (p : Phase) (v : H2) (s : State) → IsPhase p v s → s.ended ≡ false → Reads v s
reading Reading v s is on = record { stands = is.0; goes = is.1 }
reading Ended v s is on = absurd (let e = is.0 in cc)
reading Spent v s is on = absurd is

pub phase_is : (ended : Bool) (v : H2) (s : State) → Stands v.frames s.read → Serves v.core s → (ended ≡ false → Goes v.core s) → (ended ≡ true → s.ended ≡ true)
    → IsPhase (phase_behind ended) v s
phase_is true v s stands serves goes over = (over refl, serves)
phase_is false v s stands serves goes over = (stands, goes refl)

pub serves_of : (p : Phase) (v : H2) (s : State) → IsPhase p v s → Serves v.core s
serves_of Reading v s is = is.1.decodes.serves
serves_of Ended v s is = is.1
serves_of Spent v s is = absurd is

-- the same core, with other bytes read
pub serves_read : (c : Core) (s : State) (bytes : List ℕ) → Serves c s → Serves c (record s { read = bytes })
serves_read c s bytes is = record { encoder = is.encoder; streams = is.streams; given = is.given; owed_is = is.owed_is }

pub goes_read : (c : Core) (s : State) (bytes : List ℕ) → Goes c s → Goes c (record s { read = bytes })
goes_read c s bytes is = record {
  decodes = record { serves = serves_read c s bytes is.decodes.serves; decoder = is.decodes.decoder; on = is.decodes.on };
  block = is.block;
}
