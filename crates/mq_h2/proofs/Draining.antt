-- DATA of withdrawn requests is consumed, event by event.
use Rattle.std.proofs.Common.{◌≡◌, ◌≤◌, ◌<◌, ℕ, ◌+◌, suc, Bool, true, false, cond, eqb, List, [], ◌∷◌, ◌++◌, length, take, drop, get_or, refl, sym, ap, subst, ◌∙◌, arith, add-one}
use Rattle.std.proofs.Math.Seq.{drop-cons, take-suc}
use Rattle.mq_streams.specs.History.{History, Consumed, total, consumed_on, arrived_on}
use Rattle.mq_h2.specs.declared.event.StreamEvent.{StreamEvent}
use Rattle.mq_h2.specs.declared.event.StreamEvent.TheVariants.{Request, Malformed, Content, Reset, ConnectionError}
use Rattle.mq_h2.specs.Reading.{is_withdrawn, drained_by, drained, told_on, told_in}
use Rattle.mq_h2.specs.Doing.{IsHeld, AreHeld}

drained_more : (all es : List StreamEvent) (e : StreamEvent) (h : History) → drained all (es ++ e ∷ []) h ≡ drained_by all e (drained all es h)
drained_more all [] e h = refl
drained_more all (x ∷ es) e h = drained_more all es e (drained_by all x h)

-- up to one event more
pub drained_next : (all : List StreamEvent) (at : ℕ) (e : StreamEvent) (h : History) → at < length all → e ≡ get_or all at e
    → drained all (take (at + 1) all) h ≡ drained_by all e (drained all (take at all) h)
drained_next all at e h within is =
    ap (λ (es : List StreamEvent). drained all es h)
    (ap (λ (n : ℕ). take n all) (add-one at) ∙ take-suc all at e within ∙ ap (λ (x : StreamEvent). take at all ++ x ∷ []) (sym is))
    ∙ drained_more all (take at all) e h

pub held_first : (e : StreamEvent) (es : List StreamEvent) (h : History) → AreHeld (e ∷ es) h → IsHeld e h
held_first e es h held id =
    let all : total (consumed_on id) h + (told_on id e + told_in id es) ≤ total (arrived_on id) h = held.each id in
    omega arith

drained_held : (w : Bool) (s len : ℕ) (es : List StreamEvent) (h : History)
    → ((id : ℕ) → total (consumed_on id) h + (cond (eqb s id) len 0 + told_in id es) ≤ total (arrived_on id) h)
    → AreHeld es (cond w (Consumed s len ∷ h) h)
drained_held true s len es h held = record {
  each = λ id.
      let all = held id in
      omega arith;
}
drained_held false s len es h held = record {
  each = λ id.
      let all = held id in
      omega arith;
}

-- the rest are held behind it
pub held_next : (all : List StreamEvent) (e : StreamEvent) (es : List StreamEvent) (h : History) → AreHeld (e ∷ es) h → AreHeld es (drained_by all e h)
held_next all (Request s fields end) es h held = record { each = λ id. let x : total (consumed_on id) h + (0 + told_in id es) ≤ total (arrived_on id) h = held.each id in omega arith }
held_next all (Malformed s code) es h held = record { each = λ id. let x : total (consumed_on id) h + (0 + told_in id es) ≤ total (arrived_on id) h = held.each id in omega arith }
held_next all (Content s bytes len end) es h held = drained_held (is_withdrawn all s) s len es h (λ id. held.each id)
held_next all (Reset s code) es h held = record { each = λ id. let x : total (consumed_on id) h + (0 + told_in id es) ≤ total (arrived_on id) h = held.each id in omega arith }
held_next all (ConnectionError code) es h held = record { each = λ id. let x : total (consumed_on id) h + (0 + told_in id es) ≤ total (arrived_on id) h = held.each id in omega arith }

pub held_at : (all : List StreamEvent) (at : ℕ) (e : StreamEvent) (h : History) → at < length all → e ≡ get_or all at e → AreHeld (drop at all) h → AreHeld (e ∷ drop (at + 1) all) h
held_at all at e h within is held =
    let same : drop at all ≡ e ∷ drop (at + 1) all =
    drop-cons all at e within ∙ ap (λ (x : StreamEvent). x ∷ drop (suc at) all) (sym is) ∙ ap (λ (n : ℕ). e ∷ drop n all) (sym (add-one at)) in
    subst (λ (es : List StreamEvent). AreHeld es h) same held
