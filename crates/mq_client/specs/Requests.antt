-- The request for a tunnel over HTTP/1.1 (RFC 9298, section 3.2), and what a path and a host may be.
use Rattle.std.specs.Prelude.{ℕ, Bool, ◌&&◌, nat_le, IsTrue, List, ◌++◌, codes}
use Rattle.std.specs.List.{list_all}

-- the most bytes that a path with its query, and a host, have together
abbrev pub target_limit : ℕ
target_limit = 8192

-- a byte from 0x21 to 0x7e
abbrev pub is_visible : ℕ → Bool
is_visible b = nat_le 33 b && nat_le b 126

abbrev pub AreVisible : List ℕ → Type 0
AreVisible bytes = IsTrue (list_all is_visible bytes)

unfoldable pub request_text : List ℕ → List ℕ → List ℕ
request_text path host =
    codes "GET " ++ (path ++ (codes " HTTP/1.1\r\nHost: " ++ (host
    ++ codes "\r\nConnection: Upgrade\r\nUpgrade: connect-udp\r\nCapsule-Protocol: ?1\r\n\r\n")))
