use Rattle.std.proofs.Common.{ℕ, ◌≡◌, ◌+◌, ◌-◌, ◌≤◌, ◌++◌, List, length, deque_capacity, sym, ap, ◌∙◌, arith}
use Rattle.std.proofs.lemmas.List.{take_all}
use Rattle.circular_buffer.specs.Buffer.{Buffer}
use Rattle.mq_net.proofs.Stores.{answer_keeps, placed, none_more, too_long}
use Rattle.mq_net.proofs.store.Store.push_answer.Goals.{else-self-gt0-via-then-self-gt0+else-answer-capacity, else-self-gt0-via-else-self-gt0}
use Rattle.mq_net.proofs.store.Store.push_answer.Goals as goal

pub invariant_of-self : goal.invariant_of-self
invariant_of-self c =
    let old = c.self.inside in
    let answer = c.args.answer.now in
    let fits : length answer ≤ c.fill_from_slice.result =
    grind (arith, c.fill_from_slice.ensures.count, c.if-answer-capacity.true, c.capacity.ensures.capacity, c.len.ensures.len) in
    let ring : c.fill_from_slice.new.self.items ≡ old.bytes.items ++ answer =
    ap (λ (b : Buffer ℕ). b.items) c.fill_from_slice.ensures.items ∙ ap (λ (l : List ℕ). old.bytes.items ++ l) (take_all c.fill_from_slice.result answer fits) in
    answer_keeps old.waiting.items c.push_back_reserved.new.self.items old.bytes.items answer c.fill_from_slice.new.self.items old.room (deque_capacity old.waiting)
    (deque_capacity c.push_back_reserved.new.self) c.push_back_reserved.ensures.items ring c.self.invariant (omega (arith, c.if-self-gt0.true)) c.requires
    (sym c.push_back_reserved.ensures.capacity)

pub returns-then-answer-capacity : goal.returns-then-answer-capacity
returns-then-answer-capacity c =
    let old = c.self.inside in
    let answer = c.args.answer.now in
    let fits : length answer ≤ c.fill_from_slice.result =
    grind (arith, c.fill_from_slice.ensures.count, c.if-answer-capacity.true, c.capacity.ensures.capacity, c.len.ensures.len) in
    let ring : c.fill_from_slice.new.self.items ≡ old.bytes.items ++ answer =
    ap (λ (b : Buffer ℕ). b.items) c.fill_from_slice.ensures.items ∙ ap (λ (l : List ℕ). old.bytes.items ++ l) (take_all c.fill_from_slice.result answer fits) in
    let within : length old.bytes.items + length answer ≤ old.bytes.capacity =
    omega (arith, c.if-answer-capacity.true, c.capacity.ensures.capacity, c.len.ensures.len, c.len.ensures.within) in
    rw (← c.self.view_is)
    (placed old.waiting.items c.push_back_reserved.new.self.items old.bytes.items answer c.fill_from_slice.new.self.items old.room old.bytes.capacity c.fill_from_slice.new.self.capacity
    c.self.invariant.0 (omega (arith, c.if-self-gt0.true)) within c.push_back_reserved.ensures.items ring (ap (λ (b : Buffer ℕ). b.capacity) c.fill_from_slice.ensures.items))

pub returns-else-self-gt0 : goal.returns-else-self-gt0
returns-else-self-gt0 c =
    let old = c.self.inside in
    let answer = c.args.answer.now in
    rw (← c.self.view_is)
    (elim c.else-self-gt0.branch [
      | else-self-gt0-via-then-self-gt0+else-answer-capacity w ↦
          too_long old.waiting.items old.bytes.items answer old.room old.bytes.capacity c.self.invariant.0
          (omega (arith, w.if-answer-capacity.false, w.capacity.ensures.capacity, w.len.ensures.len, w.len.ensures.within))
      | else-self-gt0-via-else-self-gt0 w ↦ none_more old.waiting.items old.bytes.items answer old.room old.bytes.capacity c.self.invariant.0 (omega (arith, w.if-self-gt0.false))
    ])
