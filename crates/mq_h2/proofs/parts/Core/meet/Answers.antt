use Rattle.std.proofs.Common.{◌≡◌, ℕ, List, [], ◌∷◌, ◌++◌, Err, refl, sym, ap, subst, ◌∙◌}
use Rattle.mq_frame.specs.declared.frame.Frame.TheVariants as frame
use Rattle.mq_frame.specs.Writing.{spelling_of}
use Rattle.mq_streams.specs.History.{highest}
use Rattle.mq_streams.specs.Stand.{StandFor}
use Rattle.mq_streams.specs.declared.streams.Streams.{Streams}
use Rattle.mq_h2.specs.State.{State}
use Rattle.mq_h2.specs.Frames.{DoAll, breaks}
use Rattle.mq_h2.specs.Doing.{ComesBy}
use Rattle.mq_h2.specs.declared.stop.Stop.{Stop}
use Rattle.mq_h2.specs.declared.event.StreamEvent.{StreamEvent}
use Rattle.mq_h2.specs.declared.event.StreamEvent.TheVariants.{ConnectionError}
use Rattle.mq_h2.proofs.Cores.{put_owed, put_given}
use Rattle.mq_h2.proofs.parts.Core.meet.Goals as goal

pub returns-in_ok-push-in-Err-Connection : goal.returns-in_ok-push-in-Err-Connection
returns-in_ok-push-in-Err-Connection c = λ s goes none.
    let code = c.in-Err-Connection.code in
    let P : Stop → Type 0 = λ stop. ComesBy (DoAll c.args.frames.items s) c.args.events.now.items (Err stop) c.on_frames.new.events.items c.on_frames.new.self in
    let broke = subst P c.in-Err-Connection.field-0-is (c.in-Err-Connection.ensures s goes) in
    let mid : State = broke.mid in
    let serves = broke.serves in
    let t : State = (breaks code mid).after in
    let puts = c.in_ok-put-in-Err-Connection.ensures in
    let text : c.goaway_text.result ≡ spelling_of (frame.GoAway (highest mid.history) code) =
    c.goaway_text.ensures ∙ ap (λ (last : ℕ). spelling_of (frame.GoAway last code)) (c.highest-last.ensures mid.history serves.streams) in
    let added : c.on_frames.new.events.items ≡ broke.given = broke.added ∙ ap (λ (x : List StreamEvent). x ++ broke.given) none in
    let told : c.push.new.self.items ≡ broke.given ++ ConnectionError code ∷ [] =
    c.in_ok-push-in-Err-Connection.ensures.items ∙ ap (λ (x : List StreamEvent). x ++ ConnectionError code ∷ []) added in (
      t,
      (
        subst (λ (x : List StreamEvent). DoAll c.args.frames.items s x t) (sym told) broke.so,
        refl,
        record {
          encoder = puts.encoder ∙ serves.encoder;
          streams = subst (λ (x : Streams). StandFor x mid.history) (sym puts.streams) serves.streams;
          given = put_given mid.given mid.out _ serves.given;
          owed_is = put_owed mid.given mid.out _ _ _ _ serves.given serves.owed_is puts.owed text;
        },
      ),
    )
