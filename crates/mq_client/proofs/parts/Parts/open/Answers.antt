use Rattle.std.proofs.Common.{[], ◌∷◌, refl}
use Rattle.mq_client.specs.declared.event.ClientEvent.TheVariants.{Opened}
use Rattle.mq_client.specs.Sending.{sends_open}
use Rattle.mq_client.specs.Session.{Session, Open, with_stage}
use Rattle.mq_client.proofs.Goings.{closes_all}
use Rattle.mq_client.proofs.parts.Parts.open.Goals as goal

pub returns : goal.returns
returns c = λ s goes.
    let a = c.args in
    let opened : Session = with_stage (Open []) s in
    let x = goes.decodes.serves in
    let sent = c.in_ok-send_waiting.ensures.ok opened (record {
      decodes = record {
        serves = record { streams = x.streams; live = x.live; waits_are = x.waits_are; owed_is = x.owed_is; within = x.within };
        decoder = goes.decodes.decoder;
        stage_is = c.new.ensures;
      };
      block = goes.block;
    }) in
    closes_all (Opened ∷ []) a.end a.events.now.items c.push.new.self.items c.close.new.events.items c.send_waiting.new.self (sends_open opened) c.close.result refl sent
    c.in_ok-push.ensures.items c.close.ensures
