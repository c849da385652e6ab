use Rattle.std.proofs.Common.{◌≡◌, ℕ, Bool, List, [], ◌∷◌, ◌++◌, Result, Ok, Err, IfOk, refl, sym, subst}
use Rattle.mq_capsule.specs.declared.reader.Reader.{Reader}
use Rattle.mq_wire.specs.declared.NoMemory.{NoMemory}
use Rattle.mq_client.specs.declared.event.ClientEvent.{ClientEvent}
use Rattle.mq_client.specs.declared.event.ClientEvent.TheVariants.{BadPeer}
use Rattle.mq_client.specs.declared.parts.Parts.{Parts}
use Rattle.mq_client.specs.declared.stage.Stage.TheVariants as stage
use Rattle.mq_client.specs.Frames.{OnBytes, told_of}
use Rattle.mq_client.specs.Session.{Session, Stage, Greeting, Asked, Open, with_stage}
use Rattle.mq_client.specs.Talking.{Goes, Gave, ReadsBytes}
use Rattle.mq_client.proofs.Goings.{open_stage, asked_stage, greeting_stage, leads_goes, broke_all}
use Rattle.mq_client.proofs.parts.Parts.on_bytes.Goals as goal

reads : (c : Parts) (s : Session) (earlier bytes : List ℕ) (end : Bool) (before after : List ClientEvent) (reader : Reader) (r : Result Bool NoMemory) → Goes c s
    → IfOk r (λ over. ReadsBytes earlier bytes end before after over reader)
    → IfOk r (λ over. Gave (OnBytes (Open earlier) bytes end s) before after over (record c { stage = stage.Open reader }))
reads c s earlier bytes end before after reader (Ok over) goes read = record {
  given = told_of read.later end;
  state = with_stage (Open (earlier ++ bytes)) s;
  so = (read.later, read.says, (refl, refl));
  added = read.added;
  over_is = read.over_is;
  leads = leads_goes over _ _ (record {
    decodes = record {
      serves = record {
        streams = goes.decodes.serves.streams;
        live = goes.decodes.serves.live;
        waits_are = goes.decodes.serves.waits_are;
        owed_is = goes.decodes.serves.owed_is;
        within = goes.decodes.serves.within;
      };
      decoder = goes.decodes.decoder;
      stage_is = read.stands;
    };
    block = goes.block;
  });
}
reads c s earlier bytes end before after reader (Err refused) goes read = tt

pub returns-in-Open : goal.returns-in-Open
returns-in-Open c = λ s goes.
    let a = c.args in
    let at = open_stage a.self.now.stage s.stage c.in-Open.reader c.in-Open.is goes.decodes.stage_is in
    let read = reads a.self.now s at.0 a.bytes.now a.end a.events.now.items c.read_bytes.new.events.items c.read_bytes.new.reader c.read_bytes.result goes
    (c.read_bytes.ensures at.0 at.2) in
    subst (λ (st : Stage). IfOk c.read_bytes.result (λ over. Gave (OnBytes st a.bytes.now a.end s) a.events.now.items c.read_bytes.new.events.items over
    (record a.self.now { stage = stage.Open c.read_bytes.new.reader }))) (sym at.1) read

pub returns-in-Greeting : goal.returns-in-Greeting
returns-in-Greeting c = λ s goes.
    let a = c.args in
    let at : s.stage ≡ Greeting c.in-Greeting.field-0 = greeting_stage a.self.now.stage s.stage c.in-Greeting.field-0 c.in-Greeting.is goes.decodes.stage_is in
    broke_all 1 _ a.events.now.items c.bad.new.events.items _ s c.bad.result
    (subst (λ (st : Stage). OnBytes st a.bytes.now a.end s (BadPeer 1 ∷ []) s) (sym at) (refl, refl)) goes.decodes.serves c.bad.ensures

pub returns-in-Asked : goal.returns-in-Asked
returns-in-Asked c = λ s goes.
    let a = c.args in
    let at : s.stage ≡ Asked = asked_stage a.self.now.stage s.stage c.in-Asked.is goes.decodes.stage_is in
    broke_all 1 _ a.events.now.items c.bad-in-Asked.new.events.items _ s c.bad-in-Asked.result
    (subst (λ (st : Stage). OnBytes st a.bytes.now a.end s (BadPeer 1 ∷ []) s) (sym at) (refl, refl)) goes.decodes.serves c.bad-in-Asked.ensures
