-- What a host answers to a packet that is sent to its address: a UDP payload comes back (RFC 862), and a request for an echo is
-- answered (RFC 792, Echo; RFC 4443, sections 4.1 and 4.2). Options and extension headers are answered by no one.
use Rattle.std.specs.Prelude.{ℕ, ◌+◌, ◌-◌, ◌/◌, ◌%◌, ◌==◌, ◌&&◌, List, [], ◌∷◌, ◌++◌, length, take, drop, set, slice_index, nat_le, if◌then◌else◌, Bool, true, false, Option, Some, None, option_map, Result, Ok, Err}
use Rattle.std.specs.Int.{w32, to_be_bytes}
use Rattle.std.specs.List.{list_any}
use Rattle.mq_addr.specs.declared.addr.Addr.{Addr}
use Rattle.mq_addr.specs.declared.addr.Addr.TheVariants.{V4, V6}
use Rattle.mq_addr.specs.declared.packet.HeaderFault.{HeaderFault}
use Rattle.mq_addr.specs.declared.packet.IpView.{IpView}
use Rattle.mq_addr.specs.Packet.{header_of, ones_sum, word_at}
use Rattle.mq_iphdr.specs.Onward.{summed}

-- ---- payloads

-- a UDP datagram of the length that it says (RFC 768)
abbrev pub is_datagram : List ℕ → Bool
is_datagram bytes = nat_le 8 (length bytes) && word_at bytes 4 == length bytes

-- its ports are exchanged
unfoldable pub datagram_back : List ℕ → List ℕ
datagram_back bytes = take 2 (drop 2 bytes) ++ take 2 bytes ++ drop 4 bytes

-- a message of ICMP of this type, with code 0
abbrev pub is_request : ℕ → List ℕ → Bool
is_request type bytes = nat_le 8 (length bytes) && (slice_index bytes 0 == type && slice_index bytes 1 == 0)

-- this word at a place
abbrev pub with_word : ℕ → ℕ → List ℕ → List ℕ
with_word at word bytes = set (set bytes at (word / 256)) (at + 1) (word % 256)

-- it has this type, and no checksum
abbrev pub unsummed : ℕ → List ℕ → List ℕ
unsummed type bytes = with_word 2 0 (set bytes 0 type)

-- It has this type, and its checksum is computed anew, behind bytes that are summed with it (RFC 1071, section 1).
unfoldable pub reply_of : ℕ → List ℕ → List ℕ → List ℕ
reply_of type before bytes = with_word 2 (65535 - ones_sum (before ++ unsummed type bytes)) (unsummed type bytes)

-- ---- headers

-- the two addresses of so many bytes that end a header, from a place on, are exchanged
abbrev pub exchanged : ℕ → ℕ → List ℕ → List ℕ
exchanged at size p = take at p ++ take size (drop (at + size) p) ++ take size (drop at p)

-- the hop limit of an answer
abbrev pub answer_hops : ℕ
answer_hops = 64

-- the header of an answer: its addresses are exchanged, and its hop limit and its checksum are new
unfoldable pub header4_back : List ℕ → List ℕ
header4_back p = summed 20 (set (exchanged 12 4 p) 8 answer_hops)

unfoldable pub header6_back : List ℕ → List ℕ
header6_back p = set (exchanged 8 16 p) 7 answer_hops

-- what is summed with a message of so many bytes of ICMPv6 that answers a packet: the pseudo-header of the answer (RFC 8200,
-- section 8.1)
abbrev pub pseudo_header : List ℕ → ℕ → List ℕ
pseudo_header p size = take 16 (drop 24 p) ++ take 16 (drop 8 p) ++ to_be_bytes w32 size ++ 0 ∷ 0 ∷ 0 ∷ 58 ∷ []

-- ---- packets

-- the payload that comes back, of this protocol
unfoldable pub payload4_back : ℕ → List ℕ → Option (List ℕ)
payload4_back protocol bytes =
    if protocol == 17 && is_datagram bytes then Some (datagram_back bytes)
    else (if protocol == 1 && is_request 8 bytes then Some (reply_of 0 [] bytes) else None)

unfoldable pub payload6_back : List ℕ → ℕ → List ℕ → Option (List ℕ)
payload6_back p protocol bytes =
    if protocol == 17 && is_datagram bytes then Some (datagram_back bytes)
    else (if protocol == 58 && is_request 128 bytes then Some (reply_of 129 (pseudo_header p (length bytes)) bytes) else None)

-- where its header is the fixed one alone
unfoldable pub answer4_of : List ℕ → IpView → Option (List ℕ)
answer4_of p view =
    if view.header == 20 then option_map (λ payload. header4_back p ++ payload) (payload4_back view.flow.protocol (drop 20 p)) else None

unfoldable pub answer6_of : List ℕ → IpView → Option (List ℕ)
answer6_of p view =
    if view.header == 40 then option_map (λ payload. header6_back p ++ payload) (payload6_back p view.flow.protocol (drop 40 p)) else None

abbrev pub echo_of : List ℕ → IpView → Option (List ℕ)
echo_of p view = if view.version == 4 then answer4_of p view else answer6_of p view

-- ---- hosts

abbrev pub is_same : Addr → Addr → Bool
is_same (V4 a) (V4 b) = a == b
is_same (V4 a) (V6 b) = false
is_same (V6 a) (V4 b) = false
is_same (V6 a) (V6 b) = a == b

abbrev pub is_host : List Addr → Addr → Bool
is_host hosts addr = list_any (λ host. is_same host addr) hosts

abbrev pub answer_to : List Addr → List ℕ → Result IpView HeaderFault → Option (List ℕ)
answer_to hosts p (Ok view) = if is_host hosts view.flow.target then echo_of p view else None
answer_to hosts p (Err fault) = None

-- what these hosts answer to a packet
unfoldable pub answer_of : List Addr → List ℕ → Option (List ℕ)
answer_of hosts p = answer_to hosts p (header_of p)
