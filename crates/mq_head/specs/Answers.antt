-- The answers on HTTP/1.1 (RFC 9110, section 15; RFC 9298, section 3.3; RFC 9484, section 4.2).
use Rattle.std.specs.Prelude.{ℕ, List, ◌++◌, codes, if◌then◌else◌, ◌==◌}
use Rattle.mq_addr.specs.declared.kind.Kind.{Kind}
use Rattle.mq_addr.specs.declared.kind.Kind.TheVariants.{Udp, Ip}

abbrev pub token_of : Kind → List ℕ
token_of Udp = codes "connect-udp"
token_of Ip = codes "connect-ip"

-- the tunnel is open
unfoldable pub success_text : Kind → List ℕ
success_text kind =
    codes "HTTP/1.1 101 Switching Protocols\r\nConnection: Upgrade\r\nUpgrade: " ++ token_of kind
    ++ codes "\r\nCapsule-Protocol: ?1\r\n\r\n"

-- the number and the reason of a status line (RFC 9112, section 4)
abbrev pub status_text : ℕ → List ℕ
status_text status =
    if status == 400 then codes "400 Bad Request"
    else (if status == 403 then codes "403 Forbidden"
    else (if status == 404 then codes "404 Not Found"
    else (if status == 501 then codes "501 Not Implemented"
    else (if status == 502 then codes "502 Bad Gateway" else codes "503 Service Unavailable"))))

-- the request is refused
unfoldable pub refusal_text : ℕ → List ℕ
refusal_text status =
    codes "HTTP/1.1 " ++ status_text status ++ codes "\r\nConnection: close\r\nContent-Length: 0\r\n\r\n"
