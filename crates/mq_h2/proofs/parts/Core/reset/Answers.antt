use Rattle.std.proofs.Common.{◌≡◌, List, ℕ, Bool, true, length, cond, sym, ap, subst, ◌∙◌, arith}
use Rattle.mq_frame.specs.declared.frame.Frame.TheVariants as frame
use Rattle.mq_frame.specs.Writing.{spelling_of}
use Rattle.mq_streams.specs.History.{is_live}
use Rattle.mq_h2.specs.declared.parts.Core.{Core}
use Rattle.mq_h2.specs.Acts.{resets_stream}
use Rattle.mq_h2.specs.Doing.{IsReady}
use Rattle.mq_h2.proofs.Rooms.{one_fewer, reset_len, ready_closed, put_streams}
use Rattle.mq_h2.proofs.parts.Core.reset.Goals as goal

pub returns-clause-acts : goal.returns-clause-acts
returns-clause-acts c = λ s is.
    let a = c.args in
    let id : ℕ = a.stream in
    let h = s.history in
    let lives : is_live id h ≡ true = sym (c.is_live.ensures h is.serves.streams) ∙ c.if-not-is_live.false in
    let one = one_fewer id h lives in
    let text : c.reset_text.result ≡ spelling_of (frame.Reset id a.code) = c.reset_text.ensures in
    let short : length c.reset_text.result ≡ 13 = ap (λ (x : List ℕ). length x) text ∙ reset_len id a.code in
    let puts = c.put_reserved.ensures.puts (omega (arith, one, short, is.room.room)) in
    let stand = c.drop_stream.ensures h (put_streams a.self.now c.put_reserved.new.self s _ is puts) lives in
    let done = ready_closed a.self.now c.put_reserved.new.self s id _ _ is lives puts (omega (arith, short)) text c.drop_stream.new.self stand in
    let d : Core = record c.put_reserved.new.self { streams = c.drop_stream.new.self } in
    subst (λ (b : Bool). IsReady d (cond b (resets_stream id a.code s) s)) (sym lives) done
