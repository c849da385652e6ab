-- What an act puts for writing, by how far the bytes were read.
use Rattle.std.specs.Prelude.{ℕ, List, [], ◌++◌, Option, Some, None}
use Rattle.mq_h2.specs.State as http2
use Rattle.mq_talk.specs.declared.note.End.{End}
use Rattle.mq_machine.specs.State.{Conn, Front, OverHttp2}

-- bytes to be written, the front behind it, and why the connection is ending then
pub record Putting : Type 0 where
  pub text : List ℕ
  pub front : Front
  pub ending : Option End

abbrev pub nothing_put : Front → Putting
nothing_put front = record { text = []; front = front; ending = None }

-- what an act put in HTTP/2, and the state behind it, of which nothing is left to be put
abbrev pub over_http2 : http2.State → Putting
over_http2 h = record { text = h.out; front = OverHttp2 (record h { out = [] }); ending = None }

-- the first reason to end stands
abbrev pub first_of : Option End → Option End → Option End
first_of earlier None = earlier
first_of None (Some later) = Some later
first_of (Some earlier) (Some later) = Some earlier

abbrev pub putting : Conn → Putting → Conn
putting c put = record c { front = put.front; out = c.out ++ put.text; ending = first_of c.ending put.ending }
