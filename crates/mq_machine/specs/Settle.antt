-- The end of each act: marks that are in front are passed, and in HTTP/2, where nothing is owed, the next WINDOW_UPDATE is put.
use Rattle.std.specs.Prelude.{ℕ, List, [], ◌∷◌, Option, Some, None, Bool, true, false, if◌then◌else◌}
use Rattle.mq_h2.specs.Acts.{consumes, gives_back}
use Rattle.mq_h2.specs.State as http2
use Rattle.mq_streams.specs.Answers.{next_update}
use Rattle.mq_talk.specs.declared.note.End.{End}
use Rattle.mq_talk.specs.declared.note.End.TheVariants as end
use Rattle.mq_machine.specs.declared.act.Due.{Due}
use Rattle.mq_machine.specs.declared.act.Due.TheVariants as due
use Rattle.mq_machine.specs.Putting.{Putting, nothing_put, over_http2, putting}
use Rattle.mq_machine.specs.State.{Conn, Front, Head, OverHttp1, OverHttp2, owed}

-- DATA was consumed (RFC 9113, section 6.9). In HTTP/1.1 nothing counts it.
abbrev pub spending : Front → ℕ → ℕ → Front
spending (Head bytes) stream size = Head bytes
spending OverHttp1 stream size = OverHttp1
spending (OverHttp2 h) stream size = OverHttp2 (consumes stream size h)

-- Marks in front are passed. Behind a fault the connection is ending.
abbrev pub passing : List Due → Conn → Conn
passing [] c = record c { due = [] }
passing (due.Do act ∷ rest) c = record c { due = due.Do act ∷ rest }
passing (due.Spend stream size ∷ rest) c = passing rest (record c { front = spending c.front stream size })
passing (due.Fault code ∷ rest) c = record c { due = []; ending = Some (end.Protocol code) }

-- what is owed is given up where the link failed or memory was refused
abbrev pub gives_up : End → Bool
gives_up end.Link = true
gives_up end.NoMemory = true
gives_up end.Done = false
gives_up end.Truncated = false
gives_up (end.Protocol code) = false
gives_up end.Refused = false
gives_up end.Tunnel = false

abbrev pub is_given_up : Option End → Bool
is_given_up None = false
is_given_up (Some why) = gives_up why

-- the next WINDOW_UPDATE, if one is due
abbrev pub update_put : Option (ℕ × ℕ) → http2.State → Putting
update_put None h = nothing_put (OverHttp2 h)
update_put (Some update) h = over_http2 (gives_back (Some update) h)

-- in HTTP/2 it is put where nothing is owed
abbrev pub updates : List ℕ → http2.State → Putting
updates [] h = update_put (next_update h.history) h
updates (b ∷ bytes) h = nothing_put (OverHttp2 h)

abbrev pub updating : Front → List ℕ → Putting
updating (Head bytes) owed = nothing_put (Head bytes)
updating OverHttp1 owed = nothing_put OverHttp1
updating (OverHttp2 h) owed = updates owed h

abbrev pub settled : Conn → Conn
settled c = if is_given_up c.ending then c else putting c (updating c.front (owed c))

abbrev pub settle : Conn → Conn
settle c = settled (passing c.due c)
