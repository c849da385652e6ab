use Rattle.std.proofs.Common.{ℕ, ◌-◌, ◌<◌, ◌++◌, ◌∷◌, List, [], refl, subst, arith}
use Rattle.std.proofs.lemmas.Result.{err_from_is_err_and}
use Rattle.mq_output.proofs.Shown.{prints_unsaid, prints_shown}
use Rattle.mq_play.specs.Text.{bytes_text}
use Rattle.mq_udp.proofs.Shows.{print_one}
use Rattle.mq_udp.specs.Exchanges.{PrintsOne}
use Rattle.mq_udp.proofs.exchange.print_payload.Goals as goal

pub returns-in_err-print_bytes-clause-prints : goal.returns-in_err-print_bytes-clause-prints
returns-in_err-print_bytes-clause-prints g c =
    let p = err_from_is_err_and c.from_residual.result c.from_residual.ensures.1 in
    rw (p.1, p.2) ([], prints_unsaid _ _ _ refl c.in_err-print_bytes.ensures.err, (_, refl))

pub returns-clause-prints : goal.returns-clause-prints
returns-clause-prints g c =
    let bytes = c.as_slice.result.now in
    let shown = bytes_text bytes ++ 10 ∷ [] in
    let some : 0 < c.args.left.now = omega arith in
    let P : List ℕ → Type 0 = λ payload. PrintsOne payload c.args.left.now shown c.spill.result (c.args.left.now - 1) in
    (shown, prints_shown _ _ _ _ shown c.spill.ensures.prints refl c.in_ok-print_bytes.ensures.ok, subst P c.as_slice.ensures (print_one bytes c.args.left.now c.spill.result c.spill.ensures.fault some))
