-- What the functions that read an answer's head do. Only the crate's own functions cite these words.
use Rattle.std.specs.Prelude.{◌≡◌, ◌≢◌, ℕ, ◌+◌, ◌-◌, ◌≤◌, List, ◌++◌, length}
use Rattle.httparse.specs.Grammar.{HasNoResponse, NeverHasResponse, MayBecomeResponse}
use Rattle.httparse.specs.Spans.{IsResponseWithin, IsResponseOf}
use Rattle.httparse.specs.declared.spans.HeaderSpan.{HeaderSpan}
use Rattle.mq_client.specs.declared.front.Parsed.{Parsed}
use Rattle.mq_client.specs.declared.front.Parsed.TheVariants.{Whole, Open, Never}
use Rattle.mq_client.specs.declared.answer.Answer.{Answer}
use Rattle.mq_client.specs.declared.answer.Answer.TheVariants.{More, Switched, Status, Bad}
use Rattle.mq_client.specs.declared.answer.AnswerReader.{AnswerReader}
use Rattle.mq_client.specs.Heads.{Waits, IsAnswered, IsMalformed}
use Rattle.mq_client.specs.Brings.{switching_protocols}

-- a head at the front, or that there is none, and whether there may be
abbrev pub IsParsed : List ℕ → List HeaderSpan → Parsed → Type 0
IsParsed bytes headers (Whole head) = IsResponseWithin bytes headers head × IsResponseOf bytes headers head
IsParsed bytes headers Open = HasNoResponse bytes × MayBecomeResponse bytes
IsParsed bytes headers Never = NeverHasResponse bytes

-- another status than that of an opened tunnel
abbrev pub HasStatus : List ℕ → ℕ → Type 0
HasStatus bytes status = (used : ℕ) × IsAnswered bytes status used × (status ≢ switching_protocols)

-- what these bytes answer, where so many of them came before
abbrev pub IsDecided : List ℕ → ℕ → Answer → Type 0
IsDecided bytes before More = Waits bytes
IsDecided bytes before (Switched used) = (whole : ℕ) × IsAnswered bytes switching_protocols whole × (used ≡ whole - before)
IsDecided bytes before (Status status) = HasStatus bytes status
IsDecided bytes before Bad = IsMalformed bytes

-- what a piece answers behind these bytes
abbrev pub IsAnswer : List ℕ → List ℕ → Answer → Type 0
IsAnswer bytes piece More = Waits (bytes ++ piece)
IsAnswer bytes piece (Switched used) = IsAnswered (bytes ++ piece) switching_protocols (length bytes + used) × (used ≤ length piece)
IsAnswer bytes piece (Status status) = HasStatus (bytes ++ piece) status
IsAnswer bytes piece Bad = IsMalformed (bytes ++ piece)

-- a reader was fed these bytes, and nothing is decided
abbrev pub IsWaiting : AnswerReader → List ℕ → Type 0
IsWaiting reader bytes = (reader.kept.items ≡ bytes) × Waits bytes
