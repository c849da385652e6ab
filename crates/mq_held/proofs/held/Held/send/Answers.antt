use Rattle.std.proofs.Common.{◌≡◌, ◌∙◌, ℕ, List, Some, sym, ap, subst, arith}
use Rattle.std.specs.Prelude.{is_some}
use Rattle.mq_outside.specs.Ports.{past_sent}
use Rattle.mq_machine.specs.Want.{Put}
use Rattle.mq_machine.specs.Done.{done}
use Rattle.mq_held.specs.Ports.{PortCalls, PutGives}
use Rattle.mq_held.proofs.held.Held.send.Goals as goal
use Rattle.mq_held.proofs.Sending.{some_same, front_send, put_some, sends_put, sends_past}

pub returns-clause-gives : goal.returns-clause-gives
returns-clause-gives g c = λ s stands tunnel n payload want was at most.
    let f = front_send s tunnel n payload want in
    let answer = c.in_ok-put.put in
    let l = c.in_ok-limit.ensures in
    let limit_is : c.in_ok-limit.limit ≡ g.P.P.Port.most was = l.2 ∙ ap g.P.P.Port.most (some_same l.0 was (sym l.1 ∙ at)) in
    let gives = c.in_ok-put.ensures.gives (omega (arith, most, limit_is)) was at in
    let calls : PortCalls = record { holds = g.P.P.Port.holds was; after = g.P.P.Port.holds gives.0; counts = g.P.P.Port.counts was; counts_after = g.P.P.Port.counts gives.0 } in (
      gives.0,
      gives.1,
      λ p limit.
          let e : c.in_ok-limit.limit ≡ p.limit = limit_is ∙ sym limit in
          let Q : List ℕ → Type 0 = λ xs. PutGives calls c.in_ok-limit.limit xs (Some answer) in
          let R : ℕ → Type 0 = λ k. PutGives calls k payload (Some answer) in
          let puts : PutGives calls p.limit payload (Some answer) = subst R e (subst Q (c.payload.ensures s stands tunnel n payload want) gives.2) in
          let d = c.sent.ensures s stands (ap (λ (k : ℕ). is_some (done s (Put answer k))) e ∙ put_some calls s n payload f p.limit answer puts) in (
            d.0,
            sends_put calls.holds calls.after calls.counts calls.counts_after p s n payload c.sent.result d.0 f answer puts (ap (λ (k : ℕ). done s (Put answer k)) (sym e) ∙ d.2),
            d.1,
          ),
    )

pub returns-clause-past : goal.returns-clause-past
returns-clause-past g c = λ s stands tunnel n payload want was at most.
    let f = front_send s tunnel n payload want in
    let answer = c.in_ok-put.put in
    let l = c.in_ok-limit.ensures in
    let limit_is : c.in_ok-limit.limit ≡ g.P.P.Port.most was = l.2 ∙ ap g.P.P.Port.most (some_same l.0 was (sym l.1 ∙ at)) in
    let gives = c.in_ok-put.ensures.gives (omega (arith, most, limit_is)) was at in
    let calls : PortCalls = record { holds = g.P.P.Port.holds was; after = g.P.P.Port.holds gives.0; counts = g.P.P.Port.counts was; counts_after = g.P.P.Port.counts gives.0 } in
    let told = c.payload.ensures s stands tunnel n payload want in
    let Q : List ℕ → Type 0 = λ xs. PutGives calls c.in_ok-limit.limit xs (Some answer) in
    let puts : PutGives calls c.in_ok-limit.limit payload (Some answer) = subst Q told gives.2 in
    let past = c.in_ok-put.ensures.past was at in
    let d = c.sent.ensures s stands (put_some calls s n payload f c.in_ok-limit.limit answer puts) in (
      past.0,
      past.1,
      sends_past calls (g.P.P.Port.past was) (g.P.P.Port.past past.0) s n payload c.sent.result d.0 f c.in_ok-limit.limit answer puts
          (past.2 ∙ ap (λ (xs : List ℕ). past_sent (g.P.P.Port.past was) xs answer) told) d.2,
    )
