-- The state of a connection of HTTP/2, as its server sees it.
use Rattle.std.specs.Prelude.{ℕ, List, [], ◌∷◌, ◌++◌, drop, Option, None, Bool, true, false}
use Rattle.mq_frame.specs.declared.frame.Frame.TheVariants.{Settings}
use Rattle.mq_frame.specs.Writing.{spelling_of}
use Rattle.mq_hpack.specs.Table.{Table, new_table}
use Rattle.mq_streams.specs.History.{History, Event}
use Rattle.mq_h2.specs.declared.block.OpenBlock.{OpenBlock}
use Rattle.mq_h2.specs.Codes.{own_settings}

pub record State : Type 0 where
  -- the bytes behind the client's preface that were read
  pub read : List ℕ
  -- the dynamic table behind the header blocks that were read (RFC 7541, section 2.3.2)
  pub table : Table
  -- the header block whose last frame wasn't met (RFC 9113, section 4.3)
  pub block : Option OpenBlock
  -- what happened to the streams and windows
  pub history : History
  -- an error of the connection was met: nothing is read any more (section 5.4.1)
  pub ended : Bool
  -- no header block was sent yet, so the new limit 0 of the client's table is owed (RFC 7541, section 4.2)
  pub owes_limit : Bool
  -- all bytes that were put for writing, and how many of them were written
  pub out : List ℕ
  pub given : ℕ

-- what is still to be written
abbrev pub owed : State → List ℕ
owed s = drop s.given s.out

-- the server's preface is its SETTINGS (section 3.4)
abbrev pub new_state : State
new_state = record {
  read = [];
  table = new_table;
  block = None;
  history = [];
  ended = false;
  owes_limit = true;
  out = spelling_of (Settings false own_settings);
  given = 0;
}

-- bytes are put for writing
abbrev pub put : List ℕ → State → State
put bytes s = record s { out = s.out ++ bytes }

-- this is what happened to the streams
abbrev pub with_history : History → State → State
with_history h s = record s { history = h }

abbrev pub happens : Event → State → State
happens event s = with_history (event ∷ s.history) s
