-- What a response leads to is stood for.
use Rattle.std.proofs.Common.{◌≡◌, ℕ, Bool, true, false, cond, List, ◌++◌, None, Result, Ok, Err, refl, sym, ap, subst, ◌∙◌}
use Rattle.std.specs.Prelude.{MatchResult}
use Rattle.mq_wire.specs.declared.NoMemory as wire
use Rattle.mq_frame.specs.Readers.{Stands}
use Rattle.mq_frame.specs.declared.frame.Frame.TheVariants as frame
use Rattle.mq_frame.specs.Writing.{spelling_of}
use Rattle.mq_hpack.specs.declared.field.Field.{Field}
use Rattle.mq_hpack.specs.Table.{Table}
use Rattle.mq_hpack.specs.Writing.{block_text}
use Rattle.mq_streams.specs.History.{is_live}
use Rattle.mq_h2.specs.declared.parts.Core.{Core}
use Rattle.mq_h2.specs.declared.h2.H2.{H2}
use Rattle.mq_h2.specs.declared.h2.Phase.{Phase}
use Rattle.mq_h2.specs.declared.h2.Phase.TheVariants.{Reading, Ended, Spent}
use Rattle.mq_h2.specs.Acts.{ends_if, responds, where_live, FitsFrame}
use Rattle.mq_h2.specs.Doing.{Keeps, IsReady, Responded}
use Rattle.mq_h2.specs.Reached.{IsReached, by_responding}
use Rattle.mq_h2.specs.Stand.{Serves, IsPhase, IsH2}
use Rattle.mq_h2.specs.State.{State}
use Rattle.mq_h2.proofs.Phases.{serves_of}

pub ready : (v : H2) (s : State) → IsH2 v s → IsReady v.core s
ready v s is = record { serves = serves_of v.phase v s is.phase; room = is.room }

-- what reading needs isn't changed
record ReadsAlike (s t : State) : Type 0 where
  read : t.read ≡ s.read
  table : t.table ≡ s.table
  block : t.block ≡ s.block
  ended : t.ended ≡ s.ended

phase_kept : (p : Phase) (v : H2) (core : Core) (s t : State) → IsPhase p v s → Keeps v.core core → Serves core t → ReadsAlike s t → IsPhase p (record v { core = core }) t
phase_kept Reading v core s t is keeps serves alike = (
  subst (λ (bytes : List ℕ). Stands v.frames bytes) (sym alike.read) is.0,
  record {
    decodes = record {
      serves = serves;
      decoder = keeps.decoder ∙ is.1.decodes.decoder ∙ ap (λ (table : Table). record { table = table; spent = None }) (sym alike.table);
      on = alike.ended ∙ is.1.decodes.on;
    };
    block = keeps.block ∙ is.1.block ∙ sym alike.block;
  },
)
phase_kept Ended v core s t is keeps serves alike = (alike.ended ∙ is.0, serves)
phase_kept Spent v core s t is keeps serves alike = absurd is

h2_kept : (v : H2) (core : Core) (s : State) → IsH2 v s → Keeps v.core core → IsReady core s → IsH2 (record v { core = core }) s
h2_kept v core s is keeps now = record {
  phase = phase_kept v.phase v core s s is.phase keeps now.serves (record { read = refl; table = refl; block = refl; ended = refl });
  room = now.room;
  reached = is.reached;
}

ends_alike : (end : Bool) (id : ℕ) (s : State) → ReadsAlike s (ends_if end id s)
ends_alike true id s = record { read = refl; table = refl; block = refl; ended = refl }
ends_alike false id s = record { read = refl; table = refl; block = refl; ended = refl }

live_alike : (lives : Bool) (s t : State) → ReadsAlike s t → ReadsAlike s (cond lives t s)
live_alike true s t alike = alike
live_alike false s t alike = record { read = refl; table = refl; block = refl; ended = refl }

live_reached : (lives : Bool) (id : ℕ) (fields : List Field) (end : Bool) (s : State) → is_live id s.history ≡ lives → IsReached s → FitsFrame fields s → IsReached (cond lives (responds id fields end s) s)
live_reached true id fields end s lives is few = by_responding id fields end s is lives few
live_reached false id fields end s lives is few = is

pub responded : (v : H2) (core : Core) (id : ℕ) (fields : List Field) (end : Bool) (s : State) (r : Result (Unit {0}) wire.NoMemory)
    → IsH2 v s → FitsFrame fields s → Keeps v.core core → Responded id fields end s r core
    → MatchResult r (λ _. IsH2 (record v { core = core }) (where_live id (responds id fields end) s)) (λ _. IsH2 (record v { core = core }) s)
responded v core id fields end s (Ok done) is few keeps now =
    let block : List ℕ = block_text s.owes_limit fields in
    let t : State = where_live id (responds id fields end) s in
    let m : State = record s { out = s.out ++ spelling_of (frame.Headers id block end true); owes_limit = false } in
    let same = ends_alike end id m in
    let alike : ReadsAlike s t = live_alike (is_live id s.history) s (responds id fields end s) (record { read = same.read; table = same.table; block = same.block; ended = same.ended }) in
    record {
      phase = phase_kept v.phase v core s t is.phase keeps now.serves alike;
      room = now.room;
      reached = live_reached (is_live id s.history) id fields end s refl is.reached few;
    }
responded v core id fields end s (Err refused) is few keeps now = h2_kept v core s is keeps now
