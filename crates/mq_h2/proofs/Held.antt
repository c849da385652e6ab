-- What a read tells is what arrived in it and isn't consumed.
use Rattle.std.proofs.Common.{◌≡◌, ℕ, ◌+◌, Bool, true, false, cond, not, eqb, List, [], ◌∷◌, refl, ap, ◌∙◌, arith, filter}
use Rattle.std.proofs.lemmas.Bool.{eqb-true}
use Rattle.mq_streams.specs.History.{History, Consumed, total, consumed_on, arrived_on}
use Rattle.mq_h2.specs.declared.event.StreamEvent.{StreamEvent}
use Rattle.mq_h2.specs.declared.event.StreamEvent.TheVariants.{Request, Malformed, Content, Reset, ConnectionError}
use Rattle.mq_h2.specs.State.{State}
use Rattle.mq_h2.specs.Reading.{is_withdrawn, lasts, drained_by, drained, told_on, told_in, ReadsWhile}
use Rattle.mq_h2.specs.Laws.{IsTold}
use Rattle.mq_h2.proofs.Telling.{all_tell}

-- a frame of withdrawn DATA on this stream or another, by whether it is this stream
consumed_by : (same w v : Bool) (len c : ℕ) → (same ≡ true → w ≡ v) → cond w (cond same len 0 + c) c ≡ c + cond v (cond same len 0) 0
consumed_by true true true len c e = omega arith
consumed_by true false false len c e = omega arith
consumed_by true true false len c e = absurd (let x = e refl in cc)
consumed_by true false true len c e = absurd (let x = e refl in cc)
consumed_by false true true len c e = omega arith
consumed_by false true false len c e = omega arith
consumed_by false false true len c e = omega arith
consumed_by false false false len c e = omega arith

module _ (all : List StreamEvent) (id : ℕ) where
  same_withdrawn : (s : ℕ) → eqb s id ≡ true → is_withdrawn all s ≡ is_withdrawn all id
  same_withdrawn s e = ap (λ (n : ℕ). is_withdrawn all n) (eqb-true s id e)

  pull : (w : Bool) (s len : ℕ) (h : History) → total (consumed_on id) (cond w (Consumed s len ∷ h) h) ≡ cond w (cond (eqb s id) len 0 + total (consumed_on id) h) (total (consumed_on id) h)
  pull true s len h = refl
  pull false s len h = refl

  pull_arrived : (w : Bool) (s len : ℕ) (h : History) → total (arrived_on id) (cond w (Consumed s len ∷ h) h) ≡ total (arrived_on id) h
  pull_arrived true s len h = omega arith
  pull_arrived false s len h = refl

  by_arrived : (e : StreamEvent) (h : History) → total (arrived_on id) (drained_by all e h) ≡ total (arrived_on id) h
  by_arrived (Request s fields end) h = refl
  by_arrived (Malformed s code) h = refl
  by_arrived (Content s bytes len end) h = pull_arrived (is_withdrawn all s) s len h
  by_arrived (Reset s code) h = refl
  by_arrived (ConnectionError code) h = refl

  zero_if : (w : Bool) → let z : ℕ = 0 in cond w z z ≡ z
  zero_if true = refl
  zero_if false = refl

  by_consumed : (e : StreamEvent) (h : History) → total (consumed_on id) (drained_by all e h) ≡ total (consumed_on id) h + cond (is_withdrawn all id) (told_on id e) 0
  by_consumed (Request s fields end) h = let z = zero_if (is_withdrawn all id) in omega arith
  by_consumed (Malformed s code) h = let z = zero_if (is_withdrawn all id) in omega arith
  by_consumed (Content s bytes len end) h =
      pull (is_withdrawn all s) s len h ∙ consumed_by (eqb s id) (is_withdrawn all s) (is_withdrawn all id) len (total (consumed_on id) h) (same_withdrawn s)
  by_consumed (Reset s code) h = let z = zero_if (is_withdrawn all id) in omega arith
  by_consumed (ConnectionError code) h = let z = zero_if (is_withdrawn all id) in omega arith

  drained_arrived : (es : List StreamEvent) (h : History) → total (arrived_on id) (drained all es h) ≡ total (arrived_on id) h
  drained_arrived [] h = refl
  drained_arrived (e ∷ es) h = drained_arrived es (drained_by all e h) ∙ by_arrived e h

  split : (w : Bool) (a b : ℕ) → cond w (a + b) 0 ≡ cond w a 0 + cond w b 0
  split true a b = refl
  split false a b = refl

  drained_consumed : (es : List StreamEvent) (h : History) → total (consumed_on id) (drained all es h) ≡ total (consumed_on id) h + cond (is_withdrawn all id) (told_in id es) 0
  drained_consumed [] h = let z = zero_if (is_withdrawn all id) in omega arith
  drained_consumed (e ∷ es) h =
      let rest = drained_consumed es (drained_by all e h) in
      let here = by_consumed e h in
      let both = split (is_withdrawn all id) (told_on id e) (told_in id es) in
      omega arith

  -- an event that doesn't last tells what is consumed
  kept : (l : Bool) (e : StreamEvent) (es : List StreamEvent) → told_in id (cond l (e ∷ es) es) ≡ cond l (told_on id e) 0 + told_in id es
  kept true e es = refl
  kept false e es = omega arith

  lasts_by : (same w v : Bool) (len : ℕ) → (same ≡ true → w ≡ v) → cond (not w) (cond same len 0) 0 + cond v (cond same len 0) 0 ≡ cond same len 0
  lasts_by true true true len e = omega arith
  lasts_by true false false len e = omega arith
  lasts_by true true false len e = absurd (let x = e refl in cc)
  lasts_by true false true len e = absurd (let x = e refl in cc)
  lasts_by false true true len e = refl
  lasts_by false true false len e = refl
  lasts_by false false true len e = refl
  lasts_by false false false len e = refl

  one_lasts : (e : StreamEvent) → cond (lasts all e) (told_on id e) 0 + cond (is_withdrawn all id) (told_on id e) 0 ≡ told_on id e
  one_lasts (Request s fields end) = let z = zero_if (is_withdrawn all id) in let y = zero_if (not (is_withdrawn all s)) in omega arith
  one_lasts (Malformed s code) = let z = zero_if (is_withdrawn all id) in omega arith
  one_lasts (Content s bytes len end) = lasts_by (eqb s id) (is_withdrawn all s) (is_withdrawn all id) len (same_withdrawn s)
  one_lasts (Reset s code) = let z = zero_if (is_withdrawn all id) in let y = zero_if (not (is_withdrawn all s)) in omega arith
  one_lasts (ConnectionError code) = let z = zero_if (is_withdrawn all id) in omega arith

  all_last : (es : List StreamEvent) → told_in id (filter (lasts all) es) + cond (is_withdrawn all id) (told_in id es) 0 ≡ told_in id es
  all_last [] = let z = zero_if (is_withdrawn all id) in omega arith
  all_last (e ∷ es) =
      let rest = all_last es in
      let here = one_lasts e in
      let k = kept (lasts all e) e (filter (lasts all) es) in
      let both = split (is_withdrawn all id) (told_on id e) (told_in id es) in
      omega arith

told_while : (ended : Bool) (s : State) (piece : List ℕ) (events : List StreamEvent) (t : State) (id : ℕ) → ReadsWhile ended s piece events t
    → total (arrived_on id) t.history + total (consumed_on id) s.history ≡ total (arrived_on id) s.history + told_in id events + total (consumed_on id) t.history
told_while true s piece events t id is =
    let a = ap (λ (u : State). total (arrived_on id) u.history) is.1 in
    let b = ap (λ (u : State). total (consumed_on id) u.history) is.1 in
    let n = ap (λ (es : List StreamEvent). told_in id es) is.0 in
    omega arith
told_while false s piece events t id is =
    let tells = all_tell is.frames s is.told is.met is.did in
    let a = tells.arrived id in
    let b = tells.consumed id in
    let x = ap (λ (u : State). total (arrived_on id) u.history) is.state_is in
    let y = ap (λ (u : State). total (consumed_on id) u.history) is.state_is in
    let d = drained_arrived is.told id is.told is.met.history in
    let e = drained_consumed is.told id is.told is.met.history in
    let l = all_last is.told id is.told in
    let n = ap (λ (es : List StreamEvent). told_in id es) is.events_are in
    omega arith

pub told_is_held : IsTold
told_is_held s piece events t id is = told_while s.ended s piece events t id is
