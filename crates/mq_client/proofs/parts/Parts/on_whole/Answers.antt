use Rattle.std.proofs.Common.{◌≡◌, ℕ, Bool, List, Option, None, Result, Ok, Err, IfOk, IsErr, refl, ap, subst, inl, inr}
use Rattle.mq_hpack.specs.Block as hpack
use Rattle.mq_hpack.specs.Table.{Table}
use Rattle.mq_hpack.specs.Decoder as decoders
use Rattle.mq_hpack.specs.Text.{Told}
use Rattle.mq_hpack.specs.declared.field.Field.{Field}
use Rattle.mq_hpack.specs.declared.fault.HpackFault.{HpackFault}
use Rattle.mq_hpack.specs.declared.fault.HpackFault.TheVariants.{Index, Integer, Text, Update, TooLarge, NoMemory}
use Rattle.mq_wire.specs.declared.NoMemory as wire
use Rattle.mq_client.specs.declared.block.OpenBlock.{OpenBlock}
use Rattle.mq_client.specs.declared.event.ClientEvent.{ClientEvent}
use Rattle.mq_client.specs.declared.parts.Parts.{Parts}
use Rattle.mq_client.specs.Session.{Session}
use Rattle.mq_client.specs.Frames.{on_fields, on_read, fault_code, OnWhole}
use Rattle.mq_client.specs.Talking.{Serves, Goes, Comes, Gave}
use Rattle.mq_client.proofs.Goings.{IsBroken, broke_all, gave_by_all}
use Rattle.mq_client.proofs.parts.Parts.on_whole.Goals as goal

-- a decoder that isn't spent reads
reading : (old new : decoders.State) (t : Table) (bytes : List ℕ) (r : Result (List Field) HpackFault) → old ≡ record { table = t; spent = None } →
    decoders.Answers old new bytes r → decoders.Reading t new bytes r
reading old new t bytes r e answers =
    elim answers [
      | inl x ↦ subst (λ (table : Table). decoders.Reading table new bytes r) (ap (λ (d : decoders.State). d.table) e) x.1
      | inr x ↦ absurd (let none : old.spent ≡ None = ap (λ (d : decoders.State). d.spent) e in let some = x.1 in cc)
    ]

module _ (b : OpenBlock) (s : Session) (before after : List ClientEvent) (c : Parts) (r : Result Bool wire.NoMemory) (serves : Serves c s) where
  broke : (fault : HpackFault) → hpack.Reads s.table b.bytes (Err fault) → IfOk r (IsBroken (fault_code fault) before after)
      → IfOk r (λ over. Gave (OnWhole b s) before after over c)
  broke fault reads broken = broke_all (fault_code fault) (OnWhole b s) before after c s r (Err fault, reads, (refl, refl)) serves broken

  faulted : (fault : HpackFault) → Told (hpack.Reads s.table b.bytes) (Err fault) → IfOk r (IsBroken (fault_code fault) before after)
      → (fault ≡ NoMemory → IsErr r) → IfOk r (λ over. Gave (OnWhole b s) before after over c)
  faulted Index told broken memory = broke Index told broken
  faulted Integer told broken memory = broke Integer told broken
  faulted Text told broken memory = broke Text told broken
  faulted Update told broken memory = broke Update told broken
  faulted TooLarge told broken memory = broke TooLarge told broken
  faulted NoMemory told broken memory = refused r (memory refl)
    where
      refused : (q : Result Bool wire.NoMemory) → IsErr q → IfOk q (λ over. Gave (OnWhole b s) before after over c)
      refused (Ok over) is = absurd cc
      refused (Err e) is = tt

pub returns-in-Ok : goal.returns-in-Ok
returns-in-Ok c = λ s is.
    let a = c.args in
    let read = reading a.self.now.decoder c.block.new.self s.table c.as_slice.result.now (Ok c.in-Ok.fields) is.decoder c.in-Ok.ensures.answers in
    let t : Table = c.block.new.self.table in
    let reads : hpack.Reads s.table a.block.bytes (Ok (c.in-Ok.fields, t)) = subst (λ (bytes : List ℕ). hpack.Reads s.table bytes (Ok (c.in-Ok.fields, t))) c.as_slice.ensures read.1 in
    let next : Session = record s { table = t; block = None } in
    let d : Parts = record a.self.now { decoder = c.block.new.self; block = None } in
    let serves = is.serves in
    let goes : Goes d next = record {
      decodes = record {
        serves = record { streams = serves.streams; live = serves.live; waits_are = serves.waits_are; owed_is = serves.owed_is; within = serves.within };
        decoder = ap (λ (x : Option HpackFault). record { table = t; spent = x }) read.0;
        stage_is = is.stage_is;
      };
      block = refl;
    } in
    let comes = subst (λ (fs : List Field). IfOk c.on_fields.result (λ over. Comes (on_fields s.stage fs a.block.end next) a.events.now.items c.on_fields.new.events.items over c.on_fields.new.self))
    c.as_slice-in-Ok.ensures (c.on_fields.ensures next goes) in
    gave_by_all (on_read (Ok (c.in-Ok.fields, t)) a.block.end s) (OnWhole a.block s) a.events.now.items c.on_fields.new.events.items c.on_fields.new.self c.on_fields.result
    (λ events u done. (Ok (c.in-Ok.fields, t), reads, done)) comes

pub returns : goal.returns
returns c = λ s is.
    let a = c.args in
    let fault = c.in-Err.fault in
    let read = reading a.self.now.decoder c.block.new.self s.table c.as_slice.result.now (Err fault) is.decoder c.in-Err.ensures.answers in
    let told : Told (hpack.Reads s.table a.block.bytes) (Err fault) = subst (λ (bytes : List ℕ). Told (hpack.Reads s.table bytes) (Err fault)) c.as_slice.ensures read.1 in
    let d : Parts = record a.self.now { decoder = c.block.new.self; block = None } in
    let x = is.serves in
    let serves : Serves d s = record { streams = x.streams; live = x.live; waits_are = x.waits_are; owed_is = x.owed_is; within = x.within } in
    faulted a.block s a.events.now.items c.on_fault.new.events.items d c.on_fault.result serves fault told c.on_fault.ensures.told c.on_fault.ensures.memory
