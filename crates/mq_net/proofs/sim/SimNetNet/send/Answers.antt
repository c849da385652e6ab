use Rattle.std.proofs.Common.{rules, ℕ, ◌≡◌, ◌≤◌, ◌⊎◌, inl, inr, List, [], length, take, false, refl, sym, ap, ◌∙◌, arith}
use Rattle.std.specs.Prelude.{Some}
use Rattle.std.proofs.lemmas.List.{with_items_is}
use Rattle.mq_addr.specs.declared.addr.Addr.{Addr}
use Rattle.mq_iphdr.specs.Echo.{answer_of}
use Rattle.mq_net.specs.Stores.{after_answer}
use Rattle.mq_net.proofs.Sims.{has_hosts, send_shows, send_tells}
use Rattle.mq_net.proofs.sim.SimNetNet.send.Goals as goal

pub split_at-requires : goal.split_at-requires
split_at-requires c =
    let packet = c.args.packet.now in
    let is : answer_of c.self.inside.hosts.items packet ≡ Some (take (length packet) c.answer.new.place) =
    ap (λ (l : List Addr). answer_of l packet) (sym c.as_slice.ensures.value) ∙ c.if-answer.ensures.answers in
    let same : length c.as_slice-then-answer.result.now ≡ length c.self.inside.place.items = search rules in
    elim c.self.invariant [
      | inl none ↦ absurd (has_hosts c.self.inside.hosts.items packet (take (length packet) c.answer.new.place) is none)
      | inr room ↦ omega (arith, room.2, same, c.requires)
    ]

pub returns-then-answer-clause-after : goal.returns-then-answer-clause-after
returns-then-answer-clause-after c =
    let packet = c.args.packet.now in
    let is : answer_of c.self.inside.hosts.items packet ≡ Some (take (length packet) c.answer.new.place) =
    ap (λ (l : List Addr). answer_of l packet) (sym c.as_slice.ensures.value) ∙ c.if-answer.ensures.answers in
    let len : length c.answer.new.place ≡ c.self.inside.place.len = omega (arith, c.answer.ensures.len, c.as_mut_slice.ensures.len) in
    let same : c.as_slice-then-answer.result.now ≡ c.answer.new.place = c.as_slice-then-answer.ensures.value ∙ with_items_is c.self.inside.place c.answer.new.place len in
    let back : c.split_at.result.0.now ≡ take (length packet) c.answer.new.place = c.split_at.ensures.front ∙ ap (λ (l : List ℕ). take (length packet) l) same in
    let put = c.push_answer.ensures ∙ ap (λ (l : List ℕ). after_answer c.self.inside.store l) back in
    rw (← c.self.view_is)
    (elim c.self.invariant [
      | inl none ↦ absurd (has_hosts c.self.inside.hosts.items packet (take (length packet) c.answer.new.place) is none)
      | inr room ↦ send_shows _ c.self.inside.store c.push_answer.new.self packet (take (length packet) c.answer.new.place) c.if-self.false refl room.0 room.1 is put
    ])

pub returns-then-answer-clause-sends : goal.returns-then-answer-clause-sends
returns-then-answer-clause-sends c =
    let fails : c.args.self.now.send_fails ≡ false = search rules in
    send_tells c.args.self.now _ c.args.packet.now fails (returns-then-answer-clause-after c)
