use Rattle.std.proofs.Common.{◌≡◌, List, ℕ, Bool, true, false, length, sym, ap, subst, ◌∙◌, arith}
use Rattle.mq_frame.specs.declared.frame.Frame.TheVariants as frame
use Rattle.mq_frame.specs.Writing.{spelling_of}
use Rattle.mq_streams.specs.History.{has_finished}
use Rattle.mq_h2.specs.Acts.{ending_text}
use Rattle.mq_h2.specs.Doing.{PutsWithin}
use Rattle.mq_h2.proofs.Rooms.{reset_len, puts_nothing}
use Rattle.mq_h2.proofs.parts.Core.ask_no_more.Goals as goal

pub returns-then-has_ended-clause-puts : goal.returns-then-has_ended-clause-puts
returns-then-has_ended-clause-puts c = λ s is lives.
    let a = c.args in
    let ended : has_finished a.stream s.history ≡ true = sym (c.has_ended.ensures s.history is.serves.streams lives) ∙ c.if-has_ended.true in
    subst (λ (b : Bool). PutsWithin (ending_text b a.stream) a.self.now a.self.now) (sym ended) (puts_nothing a.self.now)

pub returns-clause-puts : goal.returns-clause-puts
returns-clause-puts c = λ s is lives.
    let a = c.args in
    let open_yet : has_finished a.stream s.history ≡ false = sym (c.has_ended.ensures s.history is.serves.streams lives) ∙ c.if-has_ended.false in
    let text : c.reset_text.result ≡ spelling_of (frame.Reset a.stream 0) = c.reset_text.ensures in
    let short : length c.reset_text.result ≡ 13 = ap (λ (x : List ℕ). length x) text ∙ reset_len a.stream 0 in
    let puts = c.put_reserved.ensures.puts (omega (arith, short, is.room)) in
    subst (λ (b : Bool). PutsWithin (ending_text b a.stream) a.self.now c.put_reserved.new.self) (sym open_yet)
    (subst (λ (x : List ℕ). PutsWithin x a.self.now c.put_reserved.new.self) text puts)
