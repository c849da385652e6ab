-- What is framed, and the windows.
use Rattle.std.proofs.Common.{◌≡◌, ℕ, length, drop, inl, inr, ap, ◌∙◌, arith}
use Rattle.std.proofs.lemmas.Bool.{cases_lt}
use Rattle.std.proofs.lemmas.List.{drop_all}
use Rattle.mq_streams.specs.Answers.{room_of}
use Rattle.mq_client.specs.Asking.{stream}
use Rattle.mq_client.specs.Sending.{sendable}
use Rattle.mq_client.specs.Laws.{SendsWithin, SendsAll}

pub sends_within : SendsWithin
sends_within s = (omega arith, omega arith, omega arith)

pub sends_all : SendsAll
sends_all s =
    elim (cases_lt (room_of stream s.history) (length s.waits)) [
      | inl more ↦ inr (omega (arith, more))
      | inr fits ↦ inl (
          let n : sendable s ≡ length s.waits = omega (arith, fits) in
          ap (λ (k : ℕ). drop k s.waits) n ∙ drop_all (length s.waits) s.waits (omega arith))
    ]
