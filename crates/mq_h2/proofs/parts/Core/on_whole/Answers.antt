use Rattle.std.proofs.Common.{◌≡◌, ℕ, List, [], Option, None, Result, Ok, Err, refl, sym, ap, subst, inl, inr, append-nil}
use Rattle.mq_hpack.specs.Block as hpack
use Rattle.mq_hpack.specs.Table.{Table}
use Rattle.mq_hpack.specs.Decoder as decoders
use Rattle.mq_hpack.specs.Text.{Told}
use Rattle.mq_hpack.specs.declared.field.Field.{Field}
use Rattle.mq_hpack.specs.declared.fault.HpackFault.{HpackFault}
use Rattle.mq_hpack.specs.declared.fault.HpackFault.TheVariants.{Index, Integer, Text, Update, TooLarge, NoMemory}
use Rattle.mq_h2.specs.State.{State}
use Rattle.mq_h2.specs.Frames.{on_block, OnWhole}
use Rattle.mq_h2.specs.Stand.{Serves, Goes}
use Rattle.mq_h2.specs.Codes.{fault_code}
use Rattle.mq_h2.specs.Doing.{stop_of, Broke, ComesBy}
use Rattle.mq_h2.specs.declared.parts.Core.{Core}
use Rattle.mq_h2.specs.declared.block.OpenBlock.{OpenBlock}
use Rattle.mq_h2.specs.declared.event.StreamEvent.{StreamEvent}
use Rattle.mq_h2.specs.declared.stop.Stop.{Stop}
use Rattle.mq_h2.proofs.Coming.{comes_by}
use Rattle.mq_h2.proofs.Cores.{serves_same}
use Rattle.mq_h2.proofs.parts.Core.on_whole.Goals as goal

-- a decoder that isn't spent reads
reading : (old new : decoders.State) (t : Table) (bytes : List ℕ) (r : Result (List Field) HpackFault) → old ≡ record { table = t; spent = None } →
    decoders.Answers old new bytes r → decoders.Reading t new bytes r
reading old new t bytes r e answers =
    elim answers [
      | inl x ↦ subst (λ (table : Table). decoders.Reading table new bytes r) (ap (λ (d : decoders.State). d.table) e) x.1
      | inr x ↦ absurd (let none : old.spent ≡ None = ap (λ (d : decoders.State). d.spent) e in let some = x.1 in cc)
    ]

module _ (b : OpenBlock) (s : State) (before : List StreamEvent) (c : Core) (serves : Serves c s) where
  broke : (fault : HpackFault) → hpack.Reads s.table b.bytes (Err fault) → Broke (OnWhole b s) (fault_code fault) before before c
  broke fault reads = record { given = []; mid = s; so = (Err fault, reads, (refl, refl)); added = sym (append-nil before); serves = serves }

  faulted : (fault : HpackFault) → Told (hpack.Reads s.table b.bytes) (Err fault) → ComesBy (OnWhole b s) before (Err (stop_of fault)) before c
  faulted Index told = broke Index told
  faulted Integer told = broke Integer told
  faulted Text told = broke Text told
  faulted Update told = broke Update told
  faulted TooLarge told = broke TooLarge told
  faulted NoMemory told = tt

pub returns-in-Ok : goal.returns-in-Ok
returns-in-Ok c = λ s is.
    let a = c.args in
    let read = reading a.self.now.decoder c.block.new.self s.table c.as_slice.result.now (Ok c.in-Ok.fields) is.decoder c.in-Ok.ensures.answers in
    let t : Table = c.block.new.self.table in
    let reads : hpack.Reads s.table a.block.bytes (Ok (c.in-Ok.fields, t)) = subst (λ (bytes : List ℕ). hpack.Reads s.table bytes (Ok (c.in-Ok.fields, t))) c.as_slice.ensures read.1 in
    let next : State = record s { table = t; block = None } in
    let d : Core = record { decoder = c.block.new.self; encoder = a.self.now.encoder; streams = a.self.now.streams; block = None; owed = a.self.now.owed } in
    let serves = is.serves in
    let goes : Goes d next = record {
      decodes = record {
        serves = record { encoder = serves.encoder; streams = serves.streams; given = serves.given; owed_is = serves.owed_is };
        decoder = ap (λ (x : Option HpackFault). record { table = t; spent = x }) read.0;
        on = is.on;
      };
      block = refl;
    } in
    comes_by (on_block (Ok (c.in-Ok.fields, t)) a.block s) (OnWhole a.block s) a.events.now.items c.on_fields.result c.on_fields.new.events.items c.on_fields.new.self
    (λ events u done. (Ok (c.in-Ok.fields, t), reads, done)) (c.on_fields.ensures next a.block goes refl refl)

pub returns : goal.returns
returns c = λ s is.
    let a = c.args in
    let fault = c.in-Err.fault in
    let read = reading a.self.now.decoder c.block.new.self s.table c.as_slice.result.now (Err fault) is.decoder c.in-Err.ensures.answers in
    let told : Told (hpack.Reads s.table a.block.bytes) (Err fault) = subst (λ (bytes : List ℕ). Told (hpack.Reads s.table bytes) (Err fault)) c.as_slice.ensures read.1 in
    let d : Core = record { decoder = c.block.new.self; encoder = a.self.now.encoder; streams = a.self.now.streams; block = None; owed = a.self.now.owed } in
    let serves : Serves d s = serves_same a.self.now d s is.serves refl refl refl in
    let P : Stop → Type 0 = λ stop. ComesBy (OnWhole a.block s) a.events.now.items (Err stop) a.events.now.items d in
    subst P (sym c.stop_of.ensures) (faulted a.block s a.events.now.items d serves fault told)
