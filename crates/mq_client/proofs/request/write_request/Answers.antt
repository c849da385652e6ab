use Rattle.std.proofs.Common.{ℕ, List, ◌++◌, codes, ap, ◌∙◌}
use Rattle.mq_client.proofs.Asked.{requests}
use Rattle.mq_client.proofs.request.write_request.Goals as goal

pub returns : goal.returns
returns c =
    let path = c.args.path.now in
    let host = c.args.host.now in
    let first = c.in_ok-extend_from_slice.ensures.items in
    let second = c.in_ok-extend_from_slice-2.ensures.items ∙ ap (λ (l : List ℕ). l ++ path) first in
    let third = c.in_ok-extend_from_slice-3.ensures.items ∙ ap (λ (l : List ℕ). l ++ codes " HTTP/1.1\r\nHost: ") second in
    let fourth = c.in_ok-extend_from_slice-4.ensures.items ∙ ap (λ (l : List ℕ). l ++ host) third in
    c.in_ok-extend_from_slice-5.ensures.items
    ∙ ap (λ (l : List ℕ). l ++ codes "\r\nConnection: Upgrade\r\nUpgrade: connect-udp\r\nCapsule-Protocol: ?1\r\n\r\n") fourth
    ∙ requests c.args.out.now.items path host
