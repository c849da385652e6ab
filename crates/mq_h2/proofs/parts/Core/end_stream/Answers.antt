use Rattle.std.proofs.Common.{◌≡◌, [], List, ℕ, Bool, true, length, cond, sym, ap, subst, ◌∙◌, arith}
use Rattle.mq_frame.specs.declared.frame.Frame.TheVariants as frame
use Rattle.mq_frame.specs.Writing.{spelling_of}
use Rattle.mq_streams.specs.History.{is_live}
use Rattle.mq_h2.specs.State.{State, put}
use Rattle.mq_h2.specs.Acts.{ends_stream}
use Rattle.mq_h2.specs.Doing.{IsReady}
use Rattle.mq_h2.proofs.Rooms.{one_fewer, end_len, ready_put}
use Rattle.mq_h2.proofs.parts.Core.end_stream.Goals as goal

pub returns-clause-acts : goal.returns-clause-acts
returns-clause-acts c = λ s is.
    let a = c.args in
    let id : ℕ = a.stream in
    let h = s.history in
    let lives : is_live id h ≡ true = sym (c.is_live.ensures h is.serves.streams) ∙ c.if-not-is_live.false in
    let one = one_fewer id h lives in
    let text : c.end_text.result ≡ spelling_of (frame.Content id [] 0 true) = c.end_text.ensures in
    let short : length c.end_text.result ≡ 9 = ap (λ (x : List ℕ). length x) text ∙ end_len id in
    let puts = c.put_reserved.ensures.puts (omega (arith, one, short, is.room.room)) in
    let mid : State = put (spelling_of (frame.Content id [] 0 true)) s in
    let done = c.close.ensures.acts mid (record {
      serves = ready_put a.self.now c.put_reserved.new.self s _ _ is puts text;
      room = omega (arith, one, short, is.room.room, puts.len, puts.capacity);
      least = omega (arith, is.room.least, puts.capacity);
    }) lives in
    subst (λ (b : Bool). IsReady c.close.new.self (cond b (ends_stream id s) s)) (sym lives) done
