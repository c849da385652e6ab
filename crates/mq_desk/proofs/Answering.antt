-- What an ask in its turn is to the office of an actor.
use Rattle.std.proofs.Common.{◌≡◌, ◌≢◌, ℕ, ◌++◌, ap, sym, refl, ◌∙◌, subst, length}
use Rattle.std.specs.Prelude.{IsOk, Result, Ok, Err}
use Rattle.std.specs.List.{All}
use Rattle.mq_wire.specs.declared.NoMemory.{NoMemory}
use Rattle.mq_addr.specs.declared.range.Flow.{Flow}
use Rattle.mq_talk.specs.declared.book.Call.{Call}
use Rattle.mq_talk.specs.declared.book.Call.TheVariants.{Close}
use Rattle.mq_talk.specs.declared.book.Config.{Config}
use Rattle.mq_talk.specs.declared.book.Reply.{Reply}
use Rattle.mq_talk.specs.declared.place.Judged.{Judged}
use Rattle.mq_talk.specs.declared.place.Origin.{Origin}
use Rattle.mq_talk.specs.Book.{History}
use Rattle.mq_talk.specs.Answers.{IsLegal, recorded}
use Rattle.mq_talk.specs.Judging.{IsJudged}
use Rattle.mq_talk.specs.Offices.{CallGives, JudgeGives, Sees}
use Rattle.mq_turn.specs.History.{by}
use Rattle.mq_turn.specs.Passes.{Turned}
use Rattle.mq_desk.specs.declared.ask.Answer.{Answer}
use Rattle.mq_desk.specs.declared.ask.Answer.TheVariants as answer
use Rattle.mq_desk.specs.declared.ask.Ask.{Ask}
use Rattle.mq_desk.specs.declared.ask.Ask.TheVariants as ask
use Rattle.mq_desk.specs.Asks.{actor_of, Serves}
use Rattle.mq_desk.specs.Keys.{AddsOwn, KeyOf, own_entries, seen_by}
use Rattle.mq_desk.proofs.Others.{are_of_others, recorded_own, same_own}

-- an ask was answered in its turn
abbrev pub Did : Config → KeyOf → Ask → Answer → KeyOf → Type 0
Did = Turned actor_of IsLegal Serves

sees : (config : Config) (old : KeyOf) (between book : History) → book ≡ old.seen ++ between → IsLegal config book → All (λ e. actor_of e ≢ old.number) between → Sees (seen_by config old) book
sees config old between book is legal others = record {
  more = between;
  goes_on = is;
  others = are_of_others (seen_by config old) between (subst (IsLegal config) is legal) others;
  whole = λ no. cc;
}

pub number_stays : (config : Config) (old new : KeyOf) (a : Ask) (b : Answer) → Did config old a b new → new.number ≡ old.number
number_stays config old new a b t = ap (λ k. k.number) t.same

called : (config : Config) (old new : KeyOf) (c : Call) (result : Result Reply NoMemory) → Did config old (ask.Call old.number c) (answer.Called result) new
    → CallGives old.number (seen_by config old) c result (seen_by config new) × AddsOwn old c result new × ((tunnel : ℕ) → c ≡ Close tunnel → IsOk result)
called config old new c (Ok reply) t =
    let book : History = old.seen ++ t.between in
    let n : ℕ = old.number in (
      record {
        book = book;
        sees = sees config old t.between book refl t.sound_before t.others;
        reply_is = t.serves_it.0;
        seen = t.serves_it.1;
        same = record { config = refl; whole = refl };
      },
      ap (λ k. by actor_of k new.seen) (ap (λ k. k.number) t.same) ∙ ap (by actor_of n) t.serves_it.1 ∙ recorded_own n book c reply
          ∙ ap (λ l. recorded l n c reply) (same_own n old.seen t.between t.others),
      λ _ _. refl,
    )
called config old new c (Err refused) t =
    let book : History = old.seen ++ t.between in
    let n : ℕ = old.number in (
      (
        sees config old t.between new.seen t.serves_it.0 t.sound t.others,
        record { config = refl; whole = refl },
      ),
      ap (λ k. by actor_of k new.seen) (ap (λ k. k.number) t.same) ∙ ap (by actor_of n) t.serves_it.0 ∙ same_own n old.seen t.between t.others,
      λ tunnel is. absurd (t.serves_it.1 tunnel is),
    )

pub calls : (config : Config) (old new : KeyOf) (actor : ℕ) (c : Call) (b : Answer) (result : Result Reply NoMemory) → actor ≡ old.number → b ≡ answer.Called result → Did config old (ask.Call actor c) b new
    → CallGives old.number (seen_by config old) c result (seen_by config new) × AddsOwn old c result new × ((tunnel : ℕ) → c ≡ Close tunnel → IsOk result)
calls config old new actor c b result actor_is is t =
    called config old new c result (subst (λ (p : ℕ × Answer). Did config old (ask.Call p.0 c) p.1 new) (λ i. (actor_is i, is i)) t)

judged : (config : Config) (old new : KeyOf) (actor : ℕ) (from : Origin) (flow : Flow) (j : Judged) → Did config old (ask.Judge actor from flow) (answer.Judged j) new
    → JudgeGives (seen_by config old) from flow j (seen_by config new) × (own_entries new ≡ own_entries old)
judged config old new actor from flow j t =
    let book : History = old.seen ++ t.between in
    let n : ℕ = old.number in
    let same = t.serves_it.0 in (
      record {
        sees = sees config old t.between new.seen same t.sound t.others;
        at = t.serves_it.1 ∙ ap length (sym same);
        verdict = subst (λ h. IsJudged config h from flow j.verdict) (sym same) t.serves_it.2;
        same = record { config = refl; whole = refl };
      },
      ap (λ k. by actor_of k new.seen) (ap (λ k. k.number) t.same) ∙ ap (by actor_of n) same ∙ same_own n old.seen t.between t.others,
    )

pub judges : (config : Config) (old new : KeyOf) (actor : ℕ) (from : Origin) (flow : Flow) (b : Answer) (j : Judged) → b ≡ answer.Judged j → Did config old (ask.Judge actor from flow) b new
    → JudgeGives (seen_by config old) from flow j (seen_by config new) × (own_entries new ≡ own_entries old)
judges config old new actor from flow b j is t = judged config old new actor from flow j (subst (λ z. Did config old (ask.Judge actor from flow) z new) is t)

-- a call isn't answered by a judgement, nor the other way round
pub not_judged : (config : Config) (old new : KeyOf) (actor : ℕ) (c : Call) (b : Answer) (j : Judged) → b ≡ answer.Judged j → Did config old (ask.Call actor c) b new → ⊥
not_judged config old new actor c b j is t = (subst (λ z. Did config old (ask.Call actor c) z new) is t).serves_it

pub not_called : (config : Config) (old new : KeyOf) (actor : ℕ) (from : Origin) (flow : Flow) (b : Answer) (result : Result Reply NoMemory) → b ≡ answer.Called result
    → Did config old (ask.Judge actor from flow) b new → ⊥
not_called config old new actor from flow b result is t = (subst (λ z. Did config old (ask.Judge actor from flow) z new) is t).serves_it
