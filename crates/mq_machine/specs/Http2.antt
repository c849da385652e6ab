-- What the acts of the machine are to a connection of HTTP/2, in the words of its core, and what its requests ask for.
use Rattle.std.specs.Prelude.{ℕ, Bool, true, false, List, [], ◌∷◌, codes, decimal, Option, Some, None, if◌then◌else◌}
use Rattle.mq_addr.specs.declared.kind.Kind.{Kind}
use Rattle.mq_addr.specs.declared.kind.Kind.TheVariants as kind
use Rattle.mq_h2.specs.Acts.{where_live, with_headers, sends, ends_stream, resets_stream}
use Rattle.mq_h2.specs.Codes.{protocol_error, cancel, connect_error, enhance_your_calm}
use Rattle.mq_h2.specs.Fields.{is_connect, is_value, value_of}
use Rattle.mq_h2.specs.State.{State}
use Rattle.mq_head.specs.Answers.{token_of}
use Rattle.mq_hpack.specs.declared.field.Field.{Field}
use Rattle.mq_hpack.specs.Writing.{block_text}
use Rattle.mq_talk.specs.declared.note.Why.{Why}
use Rattle.mq_talk.specs.declared.note.Why.TheVariants as why

-- ---- answers

-- the status of a response (RFC 9113, section 8.3.2)
abbrev pub status_field : ℕ → Field
status_field status = record { name = codes ":status"; value = decimal status }

-- it says that the data stream is one of capsules (RFC 9297, section 3.4)
abbrev pub capsule_field : Field
capsule_field = record { name = codes "capsule-protocol"; value = codes "?1" }

-- a request is granted (RFC 9298, section 3.5)
abbrev pub grants : ℕ → State → State
grants id h = where_live id (with_headers id (block_text h.owes_limit (status_field 200 ∷ capsule_field ∷ [])) false) h

-- a request is refused, by a response that ends its stream
abbrev pub refuses : ℕ → ℕ → State → State
refuses id status h = where_live id (with_headers id (block_text h.owes_limit (status_field status ∷ [])) true) h

-- ---- what the stream of a closed tunnel gets

abbrev pub resets : ℕ → ℕ → State → State
resets id code h = where_live id (resets_stream id code) h

-- The client's data has ended: so does the server's, unless a capsule was framed in part.
abbrev pub ends_data : ℕ → Bool → State → State
ends_data id true h = resets id cancel h
ends_data id false h = where_live id (ends_stream id) h

abbrev pub closes : ℕ → Bool → Why → State → State
closes id is_begun why.End h = ends_data id is_begun h
closes id is_begun why.Malformed h = resets id protocol_error h
closes id is_begun why.Truncated h = resets id protocol_error h
closes id is_begun why.Port h = resets id connect_error h
closes id is_begun why.Full h = resets id enhance_your_calm h
closes id is_begun why.Reset h = h
closes id is_begun why.Conn h = h

-- ---- DATA

-- one DATA frame with these bytes
abbrev pub puts_data : ℕ → List ℕ → State → State
puts_data id bytes h = where_live id (sends id bytes) h

-- ---- requests

-- the tunnel that a request asks for, if it is one: an extended CONNECT to one of the two protocols (RFC 8441, section 4)
abbrev pub kind_by : Option (List ℕ) → Option Kind
kind_by protocol =
    if is_value protocol (token_of kind.Udp) then Some kind.Udp
    else (if is_value protocol (token_of kind.Ip) then Some kind.Ip else None)

abbrev pub kind_of : List Field → Option Kind
kind_of fields = if is_connect fields then kind_by (value_of (codes ":protocol") fields) else None

abbrev pub or_none : Option (List ℕ) → List ℕ
or_none None = []
or_none (Some text) = text

abbrev pub path_of : List Field → List ℕ
path_of fields = or_none (value_of (codes ":path") fields)
