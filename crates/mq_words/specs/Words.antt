-- What the words of the command line ask for.
use Rattle.std.specs.Prelude.{◌≡◌, ℕ, ◌<◌, ◌≤◌, ◌^◌, ◌==◌, Bool, true, false, List, [], ◌∷◌, map, codes, decimal, string_bytes, String}
use Rattle.std.specs.Global.{Global}
use Rattle.mq_addr.specs.Addr.{IsAddrText}
use Rattle.mq_target.specs.Values.{IsHost}
use Rattle.mq_words.specs.declared.command.Command.{Command}
use Rattle.mq_words.specs.declared.command.Command.TheVariants.{Replay, Gen, Soak, Udp}
use Rattle.mq_words.specs.declared.command.UdpWords.{UdpWords}

-- the bytes of each word
abbrev pub texts : List (String Global) → List (List ℕ)
texts words = map string_bytes words

-- ---- generated scripts

-- the most packets of a generated script
abbrev pub most_count : ℕ
most_count = 50000

-- the words are this one, a seed of 64 bits and a count from 1 to the most, both in decimal without leading zeros
pub record AsksScript (word : List ℕ) (words : List (String Global)) (seed count : ℕ) : Type 0 where
  pub are : texts words ≡ word ∷ decimal seed ∷ decimal count ∷ []
  pub seed_most : seed < 2 ^ 64
  pub count_least : 1 ≤ count
  pub count_most : count ≤ most_count

-- ---- a tunnel for UDP

-- from 1 to 65,535
abbrev pub IsShort : ℕ → Type 0
IsShort n = (1 ≤ n) × (n ≤ 65535)

-- the version of HTTP in which a proxy is asked
abbrev pub version_text : Bool → List ℕ
version_text false = codes "h1"
version_text true = codes "h2"

abbrev pub begins_with_dash : List ℕ → Bool
begins_with_dash [] = false
begins_with_dash (b ∷ bs) = b == 45

-- The words are `udp`, the address and port of a proxy, the host and port of a target, the version of HTTP, and how many
-- payloads are waited for. All numbers are from 1 to 65,535, in decimal without leading zeros. A name may begin with a dash,
-- and a word may not.
pub record AsksUdp (words : List (String Global)) (ask : UdpWords) : Type 0 where
  pub addr_word : List ℕ
  pub host_word : List ℕ
  pub are : texts words ≡ codes "udp" ∷ addr_word ∷ decimal ask.port ∷ host_word ∷ decimal ask.target_port ∷ version_text ask.h2 ∷ decimal ask.count ∷ []
  pub addr : IsAddrText addr_word ask.addr
  pub host : IsHost host_word ask.host
  pub no_dash : begins_with_dash host_word ≡ false
  pub port : IsShort ask.port
  pub target_port : IsShort ask.target_port
  pub count : IsShort ask.count

-- ----

-- the words ask for this
abbrev pub AsksFor : List (String Global) → Command → Type 0
AsksFor words Replay = texts words ≡ codes "replay" ∷ []
AsksFor words (Gen seed count) = AsksScript (codes "gen") words seed count
AsksFor words (Soak seed count) = AsksScript (codes "soak") words seed count
AsksFor words (Udp ask) = AsksUdp words ask

-- words ask for one thing at most
abbrev pub AskOnce : Type 0
AskOnce = (words : List (String Global)) (a b : Command) → AsksFor words a → AsksFor words b → a ≡ b
