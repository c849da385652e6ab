-- What is kept of a connection of HTTP/2, as its client sees it.
use Rattle.std.specs.Prelude.{ℕ, List, [], ◌∷◌, ◌++◌, Option, None, Bool}
use Rattle.std.specs.List.{list_any}
use Rattle.mq_frame.specs.declared.frame.Frame.{Frame}
use Rattle.mq_frame.specs.Writing.{spelling_of}
use Rattle.mq_hpack.specs.Table.{Table, new_table}
use Rattle.mq_streams.specs.History.{History, Opened}
use Rattle.mq_client.specs.declared.block.OpenBlock.{OpenBlock}
use Rattle.mq_client.specs.declared.event.ClientEvent.{ClientEvent}
use Rattle.mq_client.specs.Events.{is_last}
use Rattle.mq_client.specs.Asking.{stream, preface, request_frame}

-- how far the tunnel has come
pub data Stage : Type 0 where
  -- the proxy's SETTINGS didn't come yet: this request is put once they did
  Greeting : (request : List ℕ) → Stage
  -- the request was put, and isn't answered
  Asked : Stage
  -- the proxy opened the tunnel, and these bytes of its data stream came
  Open : (bytes : List ℕ) → Stage

pub record Session : Type 0 where
  -- the dynamic table behind the header blocks that were read (RFC 7541, section 2.3.2)
  pub table : Table
  -- the header block whose last frame wasn't met (RFC 9113, section 4.3)
  pub block : Option OpenBlock
  -- what happened to the windows of the stream and of the connection (RFC 9113, section 5.2)
  pub history : History
  pub stage : Stage
  -- the bytes of capsules that were sent and aren't framed yet
  pub waits : List ℕ
  -- all bytes that were put for writing, and how many of them were written
  pub put : List ℕ
  pub written : ℕ

-- that of a client of this path and host that has read nothing
abbrev pub session_begun : List ℕ → List ℕ → Session
session_begun path host = record {
  table = new_table;
  block = None;
  history = Opened stream ∷ [];
  stage = Greeting (request_frame path host);
  waits = [];
  put = preface;
  written = 0;
}

-- whether the last event was told
abbrev pub ended : List ClientEvent → Bool
ended events = list_any is_last events

-- bytes are put for writing
abbrev pub puts : List ℕ → Session → Session
puts bytes s = record s { put = s.put ++ bytes }

abbrev pub puts_frame : Frame → Session → Session
puts_frame frame s = puts (spelling_of frame) s

-- this is what happened to the windows
abbrev pub with_history : History → Session → Session
with_history h s = record s { history = h }

abbrev pub with_stage : Stage → Session → Session
with_stage stage s = record s { stage = stage }
