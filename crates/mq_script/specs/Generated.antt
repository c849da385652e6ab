-- The generated script: its lines, by a seed and by how many packets arrive.
use Rattle.std.specs.Prelude.{ℕ, zero, suc, ◌+◌, ◌*◌, ◌/◌, ◌%◌, ◌^◌, ◌==◌, List, [], ◌∷◌, ◌++◌, length, codes, decimal, replicate, slice_get, if◌then◌else◌, Option, None}
use Rattle.std.specs.Int.{w16, to_be_bytes}
use Rattle.hex.specs.Hex.{encode_lower}
use Rattle.mq_capsule.specs.Writing.{capsule_text, datagram}
use Rattle.mq_iphdr.specs.Onward.{summed}
use Rattle.mq_play.specs.Text.{spaced}

-- ---- draws

-- the state behind another one: a linear congruential generator
unfoldable pub next_state : ℕ → ℕ
next_state x = (x * 6364136223846793005 + 1442695040888963407) % 2 ^ 64

-- what is drawn where the state becomes this: the upper half of its 64 bits
abbrev pub drawn : ℕ → ℕ
drawn x = x / 2 ^ 32

-- ---- a packet

-- the header of an IPv4 packet (RFC 791, section 3.1) from 10.0.0.`client`, with so many bytes behind it: no options,
-- hop limit 64, protocol 17, and its checksum
unfoldable pub header : ℕ → ℕ → List ℕ → List ℕ
header size client target =
    summed 20 (69 ∷ 0 ∷ to_be_bytes w16 (20 + size) ++ 0 ∷ 0 ∷ 0 ∷ 0 ∷ 64 ∷ 17 ∷ 0 ∷ 0 ∷ 10 ∷ 0 ∷ 0 ∷ client ∷ target)

-- a UDP datagram (RFC 768) from port 4000 to port 7, without a checksum
abbrev pub udp : List ℕ → List ℕ
udp payload =
    to_be_bytes w16 4000 ++ to_be_bytes w16 7 ++ to_be_bytes w16 (8 + length payload) ++ to_be_bytes w16 0 ++ payload

abbrev pub packet : ℕ → List ℕ → List ℕ → List ℕ
packet client target payload = header (8 + length payload) client target ++ udp payload

-- ---- what a drawn number decides

abbrev pub client_of : ℕ → ℕ
client_of r = r % 4

-- the address of a client, or of the host
abbrev pub target_of : ℕ → List ℕ
target_of r = if r / 4 % 5 == 4 then 203 ∷ 0 ∷ 113 ∷ 5 ∷ [] else 10 ∷ 0 ∷ 0 ∷ r / 4 % 5 ∷ []

-- how many bytes of payload
abbrev pub payload_len : ℕ → ℕ
payload_len r = r / 20 % 8

-- who takes steps: a worker, or the network
abbrev pub actor_word : ℕ → List ℕ
actor_word r = if r / 160 % 3 == 2 then codes "net" else decimal (r / 160 % 3)

-- the packet of this number, counted from 0
abbrev pub packet_of : ℕ → ℕ → List ℕ
packet_of r number = packet (client_of r) (target_of r) (replicate (payload_len r) (number % 256))

-- ---- lines

-- a client's packet arrives, in a capsule
unfoldable pub piece_line : ℕ → ℕ → List ℕ
piece_line r number =
    spaced (codes "bytes" ∷ decimal (client_of r) ∷ encode_lower (capsule_text (datagram (packet_of r number))) ∷ [])

-- someone takes two steps
unfoldable pub step_line : ℕ → List ℕ
step_line r = spaced (codes "step" ∷ actor_word r ∷ codes "2" ∷ [])

-- A client asks for a tunnel for IP packets; `\r` and `\n` are escapes of the script.
abbrev pub request : List ℕ
request =
    codes " GET /.well-known/masque/ip/*/*/ HTTP/1.1\\r\\nHost: p\\r\\n"
    ++ codes "Connection: Upgrade\\r\\nUpgrade: connect-ip\\r\\n\\r\\n"

-- Two workers, a pool, a route and a host; and four clients, each of which asks for a tunnel and, by an ADDRESS_REQUEST
-- (RFC 9484, section 4.7.2), for the address 10.0.0.0, 10.0.0.1, 10.0.0.2 or 10.0.0.3.
unfoldable pub opening_lines : List (List ℕ)
opening_lines =
    codes "workers 2"
    ∷ codes "pool 10.0.0.0/16"
    ∷ codes "route 0.0.0.0 255.255.255.255 0"
    ∷ codes "host 203.0.113.5"
    ∷ codes "conn 0"
    ∷ codes "conn 1"
    ∷ codes "conn 0"
    ∷ codes "conn 1"
    ∷ (codes "text 0" ++ request)
    ∷ codes "bytes 0 020701040a00000020"
    ∷ (codes "text 1" ++ request)
    ∷ codes "bytes 1 020701040a00000120"
    ∷ (codes "text 2" ++ request)
    ∷ codes "bytes 2 020701040a00000220"
    ∷ (codes "text 3" ++ request)
    ∷ codes "bytes 3 020701040a00000320"
    ∷ codes "run 1000"
    ∷ []

-- two lines for each packet that is left, from this number on, by the state before its draw; and the last line
unfoldable pub lines_from : ℕ → ℕ → ℕ → List (List ℕ)
lines_from x number zero = codes "run 1000000" ∷ []
lines_from x number (suc left) =
    piece_line (drawn (next_state x)) number
    ∷ step_line (drawn (next_state x))
    ∷ lines_from (next_state x) (number + 1) left

-- the lines of the script
unfoldable pub generated : ℕ → ℕ → List (List ℕ)
generated seed count = opening_lines ++ lines_from seed 0 count

-- the line of this number, counted from 1
abbrev pub line_at : List (List ℕ) → ℕ → Option (List ℕ)
line_at lines zero = None
line_at lines (suc number) = slice_get lines number
