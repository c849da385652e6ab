-- The lines of a script.
use Rattle.std.specs.Prelude.{◌≡◌, ℕ, ◌≤◌, ◌⊎◌, List, [], ◌∷◌, ◌++◌, length, codes, replicate}
use Rattle.mq_machine.specs.declared.event.Event.{Event}
use Rattle.mq_machine.specs.declared.event.Event.TheVariants as event
use Rattle.mq_play.specs.declared.line.Line.{Line}
use Rattle.mq_play.specs.declared.line.Line.TheVariants as line
use Rattle.mq_play.specs.declared.word.Word.{Word}
use Rattle.mq_play.specs.declared.word.Word.TheVariants as word
use Rattle.mq_play.specs.Parts.{Parted, Means, IsNumber, IsNumberOr, IsName, IsHex, IsByte, IsText}
use Rattle.mq_play.specs.Settings.{SaysSetting, setting_word}

-- the number by which a line names the network
abbrev pub net_number : ℕ
net_number = 4294967295

-- the most bytes that come behind the first ones where a piece is filled up, that a link is said to take, of a payload, and of
-- a packet
abbrev pub most_filled : ℕ
most_filled = 99999

abbrev pub most_room : ℕ
most_room = 2147483647

abbrev pub most_payload : ℕ
most_payload = 65527

abbrev pub most_packet : ℕ
most_packet = 65535

-- the most copies of a packet that arrive at once
abbrev pub most_copies : ℕ
most_copies = 1024

-- the most steps of a line
abbrev pub most_steps : ℕ
most_steps = 1000000

-- bytes in hex, of which there are some, and behind them so many of one value
abbrev pub IsFilled : List ℕ → List ℕ → Type 0
IsFilled = Parted IsHex (λ front. Parted (IsNumber 1 most_filled) (λ count. Means IsByte (λ byte. front ++ replicate count byte)))

-- bytes in hex, so many at most
abbrev pub IsHexUpTo : ℕ → List ℕ → List ℕ → Type 0
IsHexUpTo most text bytes = IsHex text bytes × (length bytes ≤ most)

abbrev pub IsPayload : List ℕ → List ℕ → Type 0
IsPayload = IsHexUpTo most_payload

abbrev pub IsPacket : List ℕ → List ℕ → Type 0
IsPacket = IsHexUpTo most_packet

-- a worker's number as it is written, or `net`
abbrev pub IsActor : List ℕ → ℕ → Type 0
IsActor text actor = IsNumber 0 3 text actor ⊎ ((text ≡ codes "net") × (actor ≡ net_number))

-- a piece, spelled so
abbrev pub SaysPiece : (List ℕ → List ℕ → Type 0) → List ℕ → Line → Type 0
SaysPiece IsSpelled = Parted IsName (λ conn. Means IsSpelled (λ bytes. line.Happens (event.Piece conn bytes)))

-- an actor, and a count, which may be left out where it is 1
abbrev pub SaysSteps : List ℕ → Line → Type 0
SaysSteps text said =
    Means IsActor (λ actor. line.Steps actor 1) text said
    ⊎ Parted IsActor (λ actor. Means (IsNumber 1 most_steps) (line.Steps actor)) text said

abbrev pub word_text : Word → List ℕ
word_text (word.Setting first) = setting_word first
word_text word.Conn = codes "conn"
word_text word.Bytes = codes "bytes"
word_text word.Text = codes "text"
word_text word.Fill = codes "fill"
word_text word.End = codes "end"
word_text word.Room = codes "room"
word_text word.FailRead = codes "failread"
word_text word.FailWrite = codes "failwrite"
word_text word.Dgram = codes "dgram"
word_text word.FailPort = codes "failport"
word_text word.Packet = codes "packet"
word_text word.Step = codes "step"
word_text word.Run = codes "run"

abbrev pub IsWord : List ℕ → Word → Type 0
IsWord text first = text ≡ word_text first

-- what stands behind the first word
abbrev pub SaysBehind : Word → List ℕ → Line → Type 0
SaysBehind (word.Setting first) = Means (SaysSetting first) line.Setting
SaysBehind word.Conn = Means (IsNumber 0 3) (λ actor. line.Happens (event.Conn actor))
SaysBehind word.Bytes = SaysPiece IsHex
SaysBehind word.Text = SaysPiece IsText
SaysBehind word.Fill = SaysPiece IsFilled
SaysBehind word.End = Means IsName (λ conn. line.Happens (event.End conn))
SaysBehind word.Room = Parted IsName (λ conn. Means (IsNumberOr (codes "all") most_room) (λ room. line.Happens (event.Room conn room)))
SaysBehind word.FailRead = Means IsName (λ conn. line.Happens (event.FailRead conn))
SaysBehind word.FailWrite = Means IsName (λ conn. line.Happens (event.FailWrite conn))
SaysBehind word.Dgram = Parted IsName (λ tunnel. Means IsPayload (λ bytes. line.Happens (event.Datagram tunnel bytes)))
SaysBehind word.FailPort = Means IsName (λ tunnel. line.Happens (event.FailPort tunnel))
SaysBehind word.Packet = Parted (IsNumber 1 most_copies) (λ count. Means IsPacket (λ bytes. line.Happens (event.Packet count bytes)))
SaysBehind word.Step = SaysSteps
SaysBehind word.Run = Means (IsNumber 1 most_steps) line.Run

-- empty, or a comment
abbrev pub IsBlank : List ℕ → Type 0
IsBlank [] = Unit {0}
IsBlank (b ∷ text) = b ≡ 35

-- a line that is one word
abbrev pub IsAlone : List ℕ → Event → Type 0
IsAlone text said = ((text ≡ codes "failbind") × (said ≡ event.FailBind)) ⊎ ((text ≡ codes "failnet") × (said ≡ event.FailNet))

-- what a line without its newline says
abbrev pub Says : List ℕ → Line → Type 0
Says text said =
    (IsBlank text × (said ≡ line.Blank))
    ⊎ (Means IsAlone line.Happens text said
    ⊎ Parted IsWord SaysBehind text said)

-- it is outside the grammar
abbrev pub SaysNothing : List ℕ → Type 0
SaysNothing text = (said : Line) → Says text said → ⊥
