-- What words ask for is one thing; and what is so where nothing was done.
use Rattle.std.proofs.Common.{◌≡◌, ℕ, List, [], Option, Some, None, MatchOption, refl, subst, inl}
use Rattle.std.specs.Prelude.{String}
use Rattle.std.specs.Global.{Global}
use Rattle.mq_output.specs.Joined.{adds_none}
use Rattle.mq_replay.proofs.Ending.{gives_none}
use Rattle.mq_replay.proofs.Reading.{nothing_yet}
use Rattle.mq_top.specs.Asking.{Asks}
use Rattle.mq_top.specs.Generates.{Generates}
use Rattle.mq_replay.specs.Replay.{Replayed}
use Rattle.mq_top.specs.Soaking.{Soaks}
use Rattle.mq_replay.specs.declared.status.Status.TheVariants as status
use Rattle.mq_udp.specs.Udp.{Seen}
use Rattle.mq_udp.specs.declared.outcome.Outcome.TheVariants as outcome
use Rattle.mq_words.specs.Words.{AsksFor}
use Rattle.mq_words.specs.declared.command.Command.{Command}
use Rattle.mq_words.specs.declared.command.Command.TheVariants.{Gen, Soak, Udp}
use Rattle.mq_words.specs.declared.command.UdpWords.{UdpWords}

-- what was read of words is what they ask for, or that they ask for nothing
abbrev pub IsRead : List (String Global) → Option Command → Type 0
IsRead words o = MatchOption o ((x : Command) → ¬ (AsksFor words x)) (λ x. AsksFor words x)

pub read_some : (words : List (String Global)) (o : Option Command) (x y : Command) → o ≡ Some x → x ≡ y → IsRead words o → AsksFor words y
read_some words o x y is same read = subst (λ (c : Command). AsksFor words c) same (subst (λ (p : Option Command). IsRead words p) is read)

pub read_none : (words : List (String Global)) (o : Option Command) → o ≡ None → IsRead words o → (x : Command) → ¬ (AsksFor words x)
read_none words o is read = subst (λ (p : Option Command). IsRead words p) is read

pub gen_parts : (a m b n : ℕ) → Gen a m ≡ Gen b n → (a ≡ b) × (m ≡ n)
gen_parts a m b n e = (cc, cc)

pub soak_parts : (a m b n : ℕ) → Soak a m ≡ Soak b n → (a ≡ b) × (m ≡ n)
soak_parts a m b n e = (cc, cc)

pub udp_parts : (a b : UdpWords) → Udp a ≡ Udp b → a ≡ b
udp_parts a b e = cc

-- ---- nothing was read or printed, for want of memory

pub replays_none : (left took : Option (List ℕ)) → Replayed left left took took status.NoMemory
replays_none left took = record { script = []; out = []; gave = gives_none left left refl; took_more = adds_none took; replays = λ rest e. inl (λ more. nothing_yet more) }

pub generates_none : (seed count : ℕ) (took : Option (List ℕ)) → Generates seed count took took status.NoMemory
generates_none seed count took = record { out = []; took_more = adds_none took; writes = (_, refl) }

pub soaks_none : (seed count : ℕ) (took : Option (List ℕ)) → Soaks seed count took took status.NoMemory
soaks_none seed count took = record { out = []; took_more = adds_none took; soaks = refl }

pub asks_none : (ask : UdpWords) (left took : Option (List ℕ)) (seen : Seen) → Asks ask left left took took seen seen outcome.NoMemory
asks_none ask left took seen = record { text = []; out = []; gave = gives_none left left refl; took_more = adds_none took; talks = inl (refl, refl) }
