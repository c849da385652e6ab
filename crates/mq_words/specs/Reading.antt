-- What the functions that read words tell. Only the crate's own functions cite what stands here.
use Rattle.std.specs.Prelude.{◌≡◌, ℕ, ◌<◌, ◌≤◌, ◌^◌, false, List, [], ◌∷◌, codes, decimal, get_or, length}
use Rattle.mq_addr.specs.Addr.{IsAddrText}
use Rattle.mq_target.specs.declared.target.Host.{Host}
use Rattle.mq_target.specs.Values.{IsHost}
use Rattle.mq_words.specs.declared.command.Command.{Command}
use Rattle.mq_words.specs.declared.command.Command.TheVariants.{Replay, Gen, Soak, Udp}
use Rattle.mq_words.specs.declared.command.UdpWords.{UdpWords}
use Rattle.mq_words.specs.declared.words.Numbers.{Numbers}
use Rattle.mq_words.specs.Words.{most_count, IsShort, version_text, begins_with_dash}

-- the word at a place
abbrev pub word : ℕ → List (List ℕ) → List ℕ
word at words = get_or words at []

abbrev pub IsSeed : List ℕ → ℕ → Type 0
IsSeed text n = (n < 2 ^ 64) × (text ≡ decimal n)

abbrev pub IsCount : List ℕ → ℕ → Type 0
IsCount text n = (1 ≤ n) × (n ≤ most_count) × (text ≡ decimal n)

abbrev pub IsShortText : List ℕ → ℕ → Type 0
IsShortText text n = IsShort n × (text ≡ decimal n)

abbrev pub IsHostWord : List ℕ → Host → Type 0
IsHostWord text host = (begins_with_dash text ≡ false) × IsHost text host

-- three words ask for this
abbrev pub IsScript : List (List ℕ) → Command → Type 0
IsScript words (Gen seed count) = (word 0 words ≡ codes "gen") × IsSeed (word 1 words) seed × IsCount (word 2 words) count
IsScript words (Soak seed count) = (word 0 words ≡ codes "soak") × IsSeed (word 1 words) seed × IsCount (word 2 words) count
IsScript words Replay = ⊥
IsScript words (Udp ask) = ⊥

-- seven words ask for a tunnel for UDP, and what they say beside the target's host
pub record AreNumbers (words : List (List ℕ)) (n : Numbers) : Type 0 where
  pub name : word 0 words ≡ codes "udp"
  pub addr : IsAddrText (word 1 words) n.addr
  pub port : IsShortText (word 2 words) n.port
  pub target_port : IsShortText (word 4 words) n.target_port
  pub version : word 5 words ≡ version_text n.h2
  pub count : IsShortText (word 6 words) n.count

-- what words say of a tunnel beside the target's host
abbrev pub numbers_in : UdpWords → Numbers
numbers_in ask = record { addr = ask.addr; port = ask.port; target_port = ask.target_port; h2 = ask.h2; count = ask.count }

-- words with these texts ask for this
abbrev pub IsAsked : List (List ℕ) → Command → Type 0
IsAsked words Replay = words ≡ codes "replay" ∷ []
IsAsked words (Gen seed count) = (length words ≡ 3) × IsScript words (Gen seed count)
IsAsked words (Soak seed count) = (length words ≡ 3) × IsScript words (Soak seed count)
IsAsked words (Udp ask) = (length words ≡ 7) × AreNumbers words (numbers_in ask) × IsHostWord (word 3 words) ask.host
