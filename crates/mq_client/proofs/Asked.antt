-- The request, put together from its parts.
use Rattle.std.proofs.Common.{◌≡◌, ℕ, List, ◌++◌, codes, ◌∙◌, append_assoc}
use Rattle.mq_client.specs.Requests.{request_text}

parts : (out a path b host c : List ℕ) → ((((out ++ a) ++ path) ++ b) ++ host) ++ c ≡ out ++ (a ++ (path ++ (b ++ (host ++ c))))
parts out a path b host c =
    append_assoc (((out ++ a) ++ path) ++ b) host c ∙ append_assoc ((out ++ a) ++ path) b (host ++ c)
    ∙ append_assoc (out ++ a) path (b ++ (host ++ c)) ∙ append_assoc out a (path ++ (b ++ (host ++ c)))

pub requests : (out path host : List ℕ)
    → ((((out ++ codes "GET ") ++ path) ++ codes " HTTP/1.1\r\nHost: ") ++ host)
    ++ codes "\r\nConnection: Upgrade\r\nUpgrade: connect-udp\r\nCapsule-Protocol: ?1\r\n\r\n" ≡ out ++ request_text path host
unfolding request_text
requests out path host =
    parts out (codes "GET ") path (codes " HTTP/1.1\r\nHost: ") host
    (codes "\r\nConnection: Upgrade\r\nUpgrade: connect-udp\r\nCapsule-Protocol: ?1\r\n\r\n")
