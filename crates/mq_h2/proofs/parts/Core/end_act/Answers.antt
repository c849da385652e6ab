use Rattle.std.proofs.Common.{◌≡◌, ◌≤◌, ℕ, [], ◌∷◌, List, Option, Some, length, sym, ap, subst, ◌∙◌, arith, vec_len}
use Rattle.std.proofs.lemmas.Bool.{eqb-true}
use Rattle.std.proofs.lemmas.List.{nil_from_length}
use Rattle.mq_frame.specs.declared.frame.Frame.TheVariants as frame
use Rattle.mq_frame.specs.Writing.{spelling_of}
use Rattle.mq_streams.specs.History.{GivenBack, live}
use Rattle.mq_streams.specs.Answers.{next_update, after_update}
use Rattle.mq_streams.specs.Stand.{StandFor}
use Rattle.mq_streams.specs.declared.streams.Streams.{Streams}
use Rattle.mq_h2.specs.declared.parts.Core.{Core}
use Rattle.mq_h2.specs.State.{State, owed}
use Rattle.mq_h2.specs.Acts.{gives_back, updates, ends_act}
use Rattle.mq_h2.specs.Left.{left}
use Rattle.mq_h2.specs.Doing.{PutsWithin, IsReady}
use Rattle.mq_h2.proofs.Cores.{put_owed, put_given}
use Rattle.mq_h2.proofs.Rooms.{window_len}
use Rattle.mq_h2.proofs.parts.Core.end_act.Goals as goal

-- where nothing is owed, the next WINDOW_UPDATE was put
updated : (c d : Core) (s : State) (streams : Streams) (r : Option (ℕ × ℕ)) (x : ℕ × ℕ) (id amount : ℕ) → r ≡ Some x → id ≡ x.0 → amount ≡ x.1 → IsReady c s → owed s ≡ []
    → vec_len c.owed.bytes ≡ 0 → length (live s.history) ≤ 100 → r ≡ next_update s.history → StandFor streams (after_update r s.history)
    → PutsWithin (spelling_of (frame.Window id amount)) (record c { streams = streams }) d → IsReady d (ends_act s)
updated c d s streams r x id amount some e0 e1 is none zero few next stand puts =
    let h = s.history in
    let p = puts.puts in
    let serves = is.serves in
    let text : List ℕ = spelling_of (frame.Window x.0 x.1) in
    let same : spelling_of (frame.Window id amount) ≡ text =
    ap (λ (n : ℕ). spelling_of (frame.Window n amount)) e0 ∙ ap (λ (n : ℕ). spelling_of (frame.Window x.0 n)) e1 in
    let after : StandFor streams (GivenBack x.0 x.1 ∷ h) = subst (λ (o : Option (ℕ × ℕ)). StandFor streams (after_update o h)) some stand in
    let wide = window_len id amount in
    let done : IsReady d (gives_back (Some x) s) = record {
      serves = record {
        encoder = p.encoder ∙ serves.encoder;
        streams = subst (λ (y : Streams). StandFor y (GivenBack x.0 x.1 ∷ h)) (sym p.streams) after;
        given = put_given s.given s.out text serves.given;
        owed_is = put_owed s.given s.out (spelling_of (frame.Window id amount)) text _ _ serves.given serves.owed_is p.owed same;
      };
      room = record { room = omega (arith, few, zero, wide, puts.len, puts.capacity, is.room.least); least = omega (arith, is.room.least, puts.capacity) };
    } in
    subst (λ (o : List ℕ). IsReady d (updates o s)) (sym none) (subst (λ (u : Option (ℕ × ℕ)). IsReady d (gives_back u s)) (sym some ∙ next) done)

pub returns-in-Some-clause-acts : goal.returns-in-Some-clause-acts
returns-in-Some-clause-acts c = λ s is.
    let a = c.args.self.now in
    let none : owed s ≡ [] = sym is.serves.owed_is ∙ nil_from_length (left a.owed) (eqb-true _ _ (sym c.is_empty.ensures.left ∙ c.if-not-is_empty.false)) in
    let next = c.give_back.ensures.answer s.history is.serves.streams in
    let zero = c.is_empty.ensures.all c.if-not-is_empty.false in
    let few = c.few_are_live.ensures a.streams s.history is.serves.streams in
    let text : List ℕ = spelling_of (frame.Window c.in-Some.stream c.in-Some.amount) in
    let wide = ap (λ (x : List ℕ). length x) c.window_text.ensures ∙ window_len c.in-Some.stream c.in-Some.amount in
    let b : Core = record a { streams = c.give_back.new.self } in
    let puts : PutsWithin text b c.put_reserved.new.self =
    subst (λ (x : List ℕ). PutsWithin x b c.put_reserved.new.self) c.window_text.ensures (c.put_reserved.ensures.puts (omega (arith, zero, wide, is.room.least))) in
    updated a c.put_reserved.new.self s c.give_back.new.self c.give_back.result _ c.in-Some.stream c.in-Some.amount c.in-Some.is c.in-Some.stream-is c.in-Some.amount-is is none zero few next.0 next.1 puts
