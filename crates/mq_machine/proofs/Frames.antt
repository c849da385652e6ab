-- Some acts of a connection of HTTP/2, worked by hand: the bytes that they put.
use Rattle.std.proofs.Common.{◌≡◌, ℕ, true, false, List, [], ◌∷◌, ◌++◌, decimal, Some, refl, ap, ◌∙◌, arith}
use Rattle.std.proofs.lemmas.Fmt.{decimal_digit, decimal_step}
use Rattle.mq_addr.specs.declared.addr.Addr.TheVariants.{V4}
use Rattle.mq_frame.specs.Writing.{spelling_of}
use Rattle.mq_h2.specs.Acts.{where_live, with_headers}
use Rattle.mq_h2.specs.State as http2
use Rattle.mq_h2.specs.State.{new_state}
use Rattle.mq_hpack.specs.Encoder.{spelled}
use Rattle.mq_hpack.specs.Static.{static_fields}
use Rattle.mq_hpack.specs.Writing.{block_text, field_text}
use Rattle.mq_hpack.specs.declared.field.Field.{Field}
use Rattle.mq_huff.specs.Code.{bits_of, codes, code_of, rows}
use Rattle.mq_huff.specs.Coded.{coded_of}
use Rattle.mq_streams.specs.History.{Opened, Finished, Arrived, Consumed, GivenBack, Sent}
use Rattle.mq_talk.specs.declared.goal.Goal.TheVariants as goal
use Rattle.mq_talk.specs.declared.note.End.TheVariants as end
use Rattle.mq_talk.specs.declared.note.From.TheVariants as source
use Rattle.mq_talk.specs.declared.note.Note.TheVariants as note
use Rattle.mq_talk.specs.declared.note.Why.TheVariants as why
use Rattle.mq_machine.specs.declared.act.Due.TheVariants as due
use Rattle.mq_machine.specs.Http2.{grants, refuses, closes, status_field, capsule_field}
use Rattle.mq_machine.specs.Settle.{settle}
use Rattle.mq_machine.specs.State.{Conn, new_conn, Packet, OverHttp2}
use Rattle.mq_machine.specs.Steps.{framed}

-- stream 1 was asked for
abbrev asked : http2.State
asked = record new_state { out = []; history = Opened 1 ∷ [] }

-- the digits of a status
d200 : decimal 200 ≡ 50 ∷ 48 ∷ 48 ∷ []
d200 = decimal_step 200 (omega arith) (omega arith) ∙ ap (λ (ds : List ℕ). ds ++ 48 ∷ []) (decimal_step 20 (omega arith) (omega arith) ∙ ap (λ (ds : List ℕ). ds ++ 48 ∷ []) (decimal_digit 2 (omega arith)))

d403 : decimal 403 ≡ 52 ∷ 48 ∷ 51 ∷ []
d403 = decimal_step 403 (omega arith) (omega arith) ∙ ap (λ (ds : List ℕ). ds ++ 51 ∷ []) (decimal_step 40 (omega arith) (omega arith) ∙ ap (λ (ds : List ℕ). ds ++ 48 ∷ []) (decimal_digit 4 (omega arith)))

-- the status with these digits
abbrev status : List ℕ → Field
status digits = record (status_field 0) { value = digits }

-- HEADERS with 200 and capsule-protocol, behind the size update that the first block owes
granted : (grants 1 asked).out
    ≡ 0 ∷ 0 ∷ 18 ∷ 1 ∷ 4 ∷ 0 ∷ 0 ∷ 0 ∷ 1 ∷ 32 ∷ 136 ∷ 0 ∷ 139 ∷ 32 ∷ 235 ∷ 69 ∷ 180 ∷ 21 ∷ 106 ∷ 236 ∷ 58 ∷ 78 ∷ 67 ∷ 209 ∷ 2 ∷ 63 ∷ 49 ∷ []
unfolding spelling_of field_text static_fields spelled coded_of code_of codes rows bits_of
granted = ap (λ (ds : List ℕ). (where_live 1 (with_headers 1 (block_text true (status ds ∷ capsule_field ∷ [])) false) asked).out) d200

-- HEADERS with 403 and END_STREAM, and RST_STREAM with code 0
refused : (refuses 1 403 asked).out
    ≡ 0 ∷ 0 ∷ 6 ∷ 1 ∷ 5 ∷ 0 ∷ 0 ∷ 0 ∷ 1 ∷ 32 ∷ 8 ∷ 3 ∷ 52 ∷ 48 ∷ 51 ∷ 0 ∷ 0 ∷ 4 ∷ 3 ∷ 0 ∷ 0 ∷ 0 ∷ 0 ∷ 1 ∷ 0 ∷ 0 ∷ 0 ∷ 0 ∷ []
unfolding spelling_of field_text static_fields spelled coded_of code_of codes rows bits_of
refused = ap (λ (ds : List ℕ). (where_live 1 (with_headers 1 (block_text true (status ds ∷ [])) true) asked).out) d403

-- the client's side has ended: empty DATA with END_STREAM, or RST_STREAM with code 8 where a capsule was framed in part
ended : (closes 1 false why.End (record asked { history = Finished 1 ∷ Opened 1 ∷ [] })).out ≡ 0 ∷ 0 ∷ 0 ∷ 0 ∷ 1 ∷ 0 ∷ 0 ∷ 0 ∷ 1 ∷ []
unfolding spelling_of
ended = refl

cut_off : (closes 1 true why.End (record asked { history = Finished 1 ∷ Opened 1 ∷ [] })).out ≡ 0 ∷ 0 ∷ 4 ∷ 3 ∷ 0 ∷ 0 ∷ 0 ∷ 0 ∷ 1 ∷ 0 ∷ 0 ∷ 0 ∷ 8 ∷ []
unfolding spelling_of
cut_off = refl

-- 16,384 bytes of DATA whose acts are done are given back, those of the connection first
gives_back : settle (record (new_conn 0 0) { front = OverHttp2 (record asked { history = Arrived 1 16384 ∷ Opened 1 ∷ [] }); due = due.Spend 1 16384 ∷ [] })
    ≡ record (new_conn 0 0) {
      front = OverHttp2 (record asked { history = GivenBack 0 16384 ∷ Consumed 1 16384 ∷ Arrived 1 16384 ∷ Opened 1 ∷ [] });
      out = 0 ∷ 0 ∷ 4 ∷ 8 ∷ 0 ∷ 0 ∷ 0 ∷ 0 ∷ 0 ∷ 0 ∷ 0 ∷ 64 ∷ 0 ∷ [];
    }
unfolding spelling_of
gives_back = refl

-- an error of the connection ends it once what stands before it is done, and is no act
faults : settle (record (new_conn 0 0) { front = OverHttp2 asked; due = due.Fault 6 ∷ [] })
    ≡ record (new_conn 0 0) { front = OverHttp2 asked; ending = Some (end.Protocol 6) }
faults = refl

-- a capsule of five bytes waits in the tunnel of stream 1
abbrev waiting : List ℕ → http2.State → Conn
waiting out h = record (new_conn 0 0) {
  front = OverHttp2 h;
  out = out;
  tunnels = record {
    id = 7;
    stream = 1;
    goal = goal.Udp (V4 3221225985) 443;
    waiting = record { what = Packet (source.Port 7) 0 (104 ∷ 105 ∷ []); capsule = 0 ∷ 3 ∷ 0 ∷ 104 ∷ 105 ∷ []; framed = 0 } ∷ [];
  } ∷ [];
}

-- it is framed whole, in one DATA frame
whole : framed (waiting [] asked) ≡ Some (
  note.Delivered (source.Port 7) 0 7 (104 ∷ 105 ∷ []),
  record (new_conn 0 0) {
    front = OverHttp2 (record asked { history = Sent 1 5 ∷ Opened 1 ∷ [] });
    out = 0 ∷ 0 ∷ 5 ∷ 0 ∷ 0 ∷ 0 ∷ 0 ∷ 0 ∷ 1 ∷ 0 ∷ 3 ∷ 0 ∷ 104 ∷ 105 ∷ [];
    tunnels = record { id = 7; stream = 1; goal = goal.Udp (V4 3221225985) 443; waiting = [] } ∷ [];
    next_tunnel = 8;
  },
)
unfolding spelling_of
whole = refl
