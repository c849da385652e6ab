use Rattle.std.proofs.Common.{rules, ℕ, ◌≡◌, ◌+◌, ◌-◌, ◌≤◌, ◌∷◌, List, length, take, refl, subst, ap, arith}
use Rattle.std.specs.List.{All}
use Rattle.std.proofs.lemmas.List.Elements.{All-head}
use Rattle.circular_buffer.specs.Buffer.{Buffer}
use Rattle.mq_net.specs.declared.store.Waiting.{Waiting}
use Rattle.mq_net.specs.declared.store.Waiting.TheVariants.{Arrived, Answer}
use Rattle.mq_net.specs.Stores.{IsShort, count_of}
use Rattle.mq_net.proofs.Stores.{takes_copy, more_copies, last_copy, takes_answer}
use Rattle.mq_net.proofs.store.Store.pop.Goals as goal

pub returns-in-Some : goal.returns-in-Some
returns-in-Some c =
    let old = c.self.inside in
    let packet = c.in-Arrived.packet in
    let rest = c.pop_front.new.self.items in
    let after = c.push_front_reserved.new.self.items in
    let items : old.waiting.items ≡ Arrived packet c.in-Arrived.more ∷ rest = search rules in
    let short : length packet ≤ 65535 = All-head IsShort (Arrived packet c.in-Arrived.more) rest (subst (λ (l : List Waiting). All IsShort l) items c.self.invariant.3) in
    let size : c.put_in-size.result ≡ length packet = search rules in
    let front : take c.put_in-size.result c.put_in-size.new.into ≡ packet = search rules in
    let one : c.in-Some.more + 1 ≡ c.in-Arrived.more = omega (arith, c.in-Some.ensures) in (
      omega (arith, size, short),
      omega (arith, size, short, c.put_in-size.ensures.len, c.requires),
      rw (← c.self.view_is)
          (takes_copy old.waiting.items rest after old.bytes.items packet (take c.put_in-size.result c.put_in-size.new.into) c.in-Arrived.more old.room old.bytes.capacity items
          (more_copies rest after old.bytes.items packet c.in-Arrived.more c.in-Some.more c.push_front_reserved.ensures.items one)
          (ap (λ (l : List Waiting). count_of l) c.push_front_reserved.ensures.items) front),
    )

pub returns-in_default : goal.returns-in_default
returns-in_default c =
    let old = c.self.inside in
    let packet = c.in-Arrived.packet in
    let rest = c.pop_front.new.self.items in
    let items : old.waiting.items ≡ Arrived packet c.in-Arrived.more ∷ rest = search rules in
    let short : length packet ≤ 65535 = All-head IsShort (Arrived packet c.in-Arrived.more) rest (subst (λ (l : List Waiting). All IsShort l) items c.self.invariant.3) in
    let size : c.put_in-size.result ≡ length packet = search rules in
    let front : take c.put_in-size.result c.put_in-size.new.into ≡ packet = search rules in
    let none : c.in-Arrived.more ≡ 0 = grind (arith, c.in_default.ensures) in (
      omega (arith, size, short),
      omega (arith, size, short, c.put_in-size.ensures.len, c.requires),
      rw (← c.self.view_is)
          (takes_copy old.waiting.items rest rest old.bytes.items packet (take c.put_in-size.result c.put_in-size.new.into) c.in-Arrived.more old.room old.bytes.capacity items
          (last_copy rest old.bytes.items packet c.in-Arrived.more none) refl front),
    )

pub returns-in-Answer : goal.returns-in-Answer
returns-in-Answer c =
    let old = c.self.inside in
    let size = c.in-Answer.size in
    let rest = c.pop_front.new.self.items in
    let items : old.waiting.items ≡ Answer size ∷ rest = search rules in
    let short : size ≤ 65535 = All-head IsShort (Answer size) rest (subst (λ (l : List Waiting). All IsShort l) items c.self.invariant.3) in (
      short,
      omega (arith, short, c.take_bytes.ensures.len, c.requires),
      rw (← c.self.view_is)
          (takes_answer old.waiting.items rest old.bytes.items c.take_bytes.new.bytes.items (take size c.take_bytes.new.into) size old.room old.bytes.capacity c.take_bytes.new.bytes.capacity items
          (ap (λ (b : Buffer ℕ). b.items) c.take_bytes.ensures.left) c.take_bytes.ensures.copied (ap (λ (b : Buffer ℕ). b.capacity) c.take_bytes.ensures.left)),
    )
