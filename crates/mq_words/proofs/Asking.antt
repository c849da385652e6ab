-- What words ask for, word by word.
use Rattle.std.proofs.Common.{◌≡◌, ℕ, ◌<◌, ◌≤◌, ◌^◌, Bool, true, false, List, [], ◌∷◌, length, map, get_or, codes, decimal, Option, Some, None, Result, Ok, Err, MatchOption, IfOk, OnErr, refl, sym, ap, subst, ◌∙◌, arith}
use Rattle.std.proofs.lemmas.Fmt.{decimal_injective}
use Rattle.std.proofs.lemmas.List.{length-map}
use Rattle.std.specs.Prelude.{String}
use Rattle.std.specs.Global.{Global}
use Rattle.mq_addr.specs.declared.addr.Addr.{Addr}
use Rattle.mq_addr.specs.Addr.{IsAddrText, HasOneAddr}
use Rattle.mq_target.specs.declared.target.Host.{Host}
use Rattle.mq_target.specs.Values.{IsHost}
use Rattle.mq_target.specs.Laws.{HasOneHost}
use Rattle.mq_words.specs.declared.command.Command.{Command}
use Rattle.mq_words.specs.declared.command.Command.TheVariants.{Replay, Gen, Soak, Udp}
use Rattle.mq_words.specs.declared.command.UdpWords.{UdpWords}
use Rattle.mq_words.specs.declared.words.Numbers.{Numbers}
use Rattle.mq_words.specs.Words.{texts, AsksScript, AsksUdp, AsksFor, AskOnce, IsShort, version_text}
use Rattle.mq_words.specs.Reading.{word, IsAsked, IsScript, IsHostWord, AreNumbers, numbers_in}

-- ---- answers

pub on_err : {A E : Type 0} (r : Result A E) (P Q : Type 0) → (P → Q) → OnErr r P → OnErr r Q
on_err (Ok a) P Q f h = tt
on_err (Err e) P Q f h = f h

pub on_err_of : {A E : Type 0} (r : Result A E) (P : Type 0) → P → OnErr r P
on_err_of (Ok a) P p = tt
on_err_of (Err e) P p = p

-- ---- lists of so many words

pub one_word : (ws : List (List ℕ)) → length ws ≡ 1 → ws ≡ word 0 ws ∷ []
one_word [] n = absurd (omega (arith, n))
one_word (a ∷ []) n = refl
one_word (a ∷ b ∷ ws) n = absurd (omega (arith, n))

three_words : (ws : List (List ℕ)) → length ws ≡ 3 → ws ≡ word 0 ws ∷ word 1 ws ∷ word 2 ws ∷ []
three_words [] n = absurd (omega (arith, n))
three_words (a ∷ []) n = absurd (omega (arith, n))
three_words (a ∷ b ∷ []) n = absurd (omega (arith, n))
three_words (a ∷ b ∷ c ∷ []) n = refl
three_words (a ∷ b ∷ c ∷ d ∷ ws) n = absurd (omega (arith, n))

four_more : (a b c : List ℕ) (ws : List (List ℕ)) → length ws ≡ 4 → a ∷ b ∷ c ∷ ws ≡ a ∷ b ∷ c ∷ word 0 ws ∷ word 1 ws ∷ word 2 ws ∷ word 3 ws ∷ []
four_more a b c [] n = absurd (omega (arith, n))
four_more a b c (d ∷ ws) n = ap (λ (xs : List (List ℕ)). a ∷ b ∷ c ∷ d ∷ xs) (three_words ws (omega (arith, n)))

seven_words : (ws : List (List ℕ)) → length ws ≡ 7 → ws ≡ word 0 ws ∷ word 1 ws ∷ word 2 ws ∷ word 3 ws ∷ word 4 ws ∷ word 5 ws ∷ word 6 ws ∷ []
seven_words [] n = absurd (omega (arith, n))
seven_words (a ∷ []) n = absurd (omega (arith, n))
seven_words (a ∷ b ∷ []) n = absurd (omega (arith, n))
seven_words (a ∷ b ∷ c ∷ ws) n = four_more a b c ws (omega (arith, n))

pub as_many : {A : Type 0} (f : A → List ℕ) (words : List A) (n : ℕ) → length words ≡ n → length (map f words) ≡ n
as_many f words n is = length-map words f ∙ is

as_long_as : (ws xs : List (List ℕ)) → ws ≡ xs → length ws ≡ length xs
as_long_as ws xs are = ap (λ (ys : List (List ℕ)). length ys) are

-- ---- texts of words, and words

script_in : (name : List ℕ) (words : List (String Global)) (seed count : ℕ) → AsksScript name words seed count
    → (length (texts words) ≡ 3) × ((word 0 (texts words) ≡ name) × ((seed < 2 ^ 64) × (word 1 (texts words) ≡ decimal seed)) × ((1 ≤ count) × (count ≤ 50000) × (word 2 (texts words) ≡ decimal count)))
script_in name words seed count asks =
    (as_long_as (texts words) _ asks.are, (ap (word 0) asks.are, (asks.seed_most, ap (word 1) asks.are), (asks.count_least, asks.count_most, ap (word 2) asks.are)))

-- what words ask for, their texts say
pub asked_texts : (words : List (String Global)) (c : Command) → AsksFor words c → IsAsked (texts words) c
asked_texts words Replay asks = asks
asked_texts words (Gen seed count) asks = script_in (codes "gen") words seed count asks
asked_texts words (Soak seed count) asks = script_in (codes "soak") words seed count asks
asked_texts words (Udp ask) asks = (
  as_long_as (texts words) _ asks.are,
  record {
    name = ap (word 0) asks.are;
    addr = subst (λ (t : List ℕ). IsAddrText t ask.addr) (sym (ap (word 1) asks.are)) asks.addr;
    port = (asks.port, ap (word 2) asks.are);
    target_port = (asks.target_port, ap (word 4) asks.are);
    version = ap (word 5) asks.are;
    count = (asks.count, ap (word 6) asks.are);
  },
  subst (λ (t : List ℕ). IsHostWord t ask.host) (sym (ap (word 3) asks.are)) (asks.no_dash, asks.host),
)

three_are : (a b c x y z : List ℕ) → a ≡ x → b ≡ y → c ≡ z → a ∷ b ∷ c ∷ [] ≡ x ∷ y ∷ z ∷ []
three_are a b c x y z e f g = cc

script_of : (name : List ℕ) (words : List (String Global)) (seed count : ℕ) → length (texts words) ≡ 3 → word 0 (texts words) ≡ name
    → (seed < 2 ^ 64) × (word 1 (texts words) ≡ decimal seed) → (1 ≤ count) × (count ≤ 50000) × (word 2 (texts words) ≡ decimal count) → AsksScript name words seed count
script_of name words seed count three first second third = record {
  are = three_words (texts words) three ∙ three_are _ _ _ name (decimal seed) (decimal count) first second.1 third.2;
  seed_most = second.0;
  count_least = third.0;
  count_most = third.1;
}

seven_are : (a b c d e f g x y z u v : List ℕ) → a ≡ x → c ≡ y → e ≡ z → f ≡ u → g ≡ v → a ∷ b ∷ c ∷ d ∷ e ∷ f ∷ g ∷ [] ≡ x ∷ b ∷ y ∷ d ∷ z ∷ u ∷ v ∷ []
seven_are a b c d e f g x y z u v p q r s t = cc

udp_asked : (words : List (String Global)) → length (texts words) ≡ 7 → (ask : UdpWords) → AreNumbers (texts words) (numbers_in ask) → IsHostWord (word 3 (texts words)) ask.host → AsksUdp words ask
udp_asked words seven ask are is = record {
  addr_word = word 1 (texts words);
  host_word = word 3 (texts words);
  are = seven_words (texts words) seven
      ∙ seven_are _ _ _ _ _ _ _ (codes "udp") (decimal ask.port) (decimal ask.target_port) (version_text ask.h2) (decimal ask.count) are.name are.port.1 are.target_port.1 are.version are.count.1;
  addr = are.addr;
  host = is.1;
  no_dash = is.0;
  port = are.port.0;
  target_port = are.target_port.0;
  count = are.count.0;
}

pub asked_words : (words : List (String Global)) (c : Command) → IsAsked (texts words) c → AsksFor words c
asked_words words Replay is = is
asked_words words (Gen seed count) is = script_of (codes "gen") words seed count is.0 is.1.0 is.1.1 is.1.2
asked_words words (Soak seed count) is = script_of (codes "soak") words seed count is.0 is.1.0 is.1.1 is.1.2
asked_words words (Udp ask) is = udp_asked words is.0 ask is.1 is.2

-- the same of words with these texts
pub asked_by : (words : List (String Global)) (ws : List (List ℕ)) → ws ≡ texts words → (found : Option Command)
    → MatchOption found ((c : Command) → ¬ (IsAsked ws c)) (λ c. IsAsked ws c) → MatchOption found ((c : Command) → ¬ (AsksFor words c)) (λ c. AsksFor words c)
asked_by words ws same None none = λ c asks. none c (subst (λ (xs : List (List ℕ)). IsAsked xs c) (sym same) (asked_texts words c asks))
asked_by words ws same (Some c) is = asked_words words c (subst (λ (xs : List (List ℕ)). IsAsked xs c) same is)

pub read_by : {E : Type 0} (words : List (String Global)) (ws : List (List ℕ)) → ws ≡ texts words → (r : Result (Option Command) E)
    → IfOk r (λ found. MatchOption found ((c : Command) → ¬ (IsAsked ws c)) (λ c. IsAsked ws c)) → IfOk r (λ found. MatchOption found ((c : Command) → ¬ (AsksFor words c)) (λ c. AsksFor words c))
read_by words ws same (Ok found) is = asked_by words ws same found is
read_by words ws same (Err e) is = tt

-- ---- three words

pub script_asks : (ws : List (List ℕ)) → length ws ≡ 3 → (r : Option Command)
    → MatchOption r ((c : Command) → ¬ (IsScript ws c)) (λ c. IsScript ws c)
    → MatchOption r ((c : Command) → ¬ (IsAsked ws c)) (λ c. IsAsked ws c)
script_asks ws three None none = λ c asks. none c (in_three c asks)
  where
    in_three : (c : Command) → IsAsked ws c → IsScript ws c
    in_three Replay asks = let n = as_long_as ws _ asks in absurd (omega (arith, n, three))
    in_three (Gen seed count) asks = asks.1
    in_three (Soak seed count) asks = asks.1
    in_three (Udp ask) asks = let n = asks.0 in absurd (omega (arith, n, three))
script_asks ws three (Some (Gen seed count)) is = (three, is)
script_asks ws three (Some (Soak seed count)) is = (three, is)
script_asks ws three (Some Replay) is = absurd is
script_asks ws three (Some (Udp ask)) is = absurd is

-- ---- seven words

abbrev pub ask_of : Numbers → Host → UdpWords
ask_of n host = record { addr = n.addr; port = n.port; host = host; target_port = n.target_port; h2 = n.h2; count = n.count }

-- where seven words ask for something, it is a tunnel
pub no_numbers : (ws : List (List ℕ)) → length ws ≡ 7 → ((n : Numbers) → ¬ (AreNumbers ws n)) → (c : Command) → ¬ (IsAsked ws c)
no_numbers ws seven none Replay asks = let n = as_long_as ws _ asks in absurd (omega (arith, n, seven))
no_numbers ws seven none (Gen seed count) asks = let n = asks.0 in absurd (omega (arith, n, seven))
no_numbers ws seven none (Soak seed count) asks = let n = asks.0 in absurd (omega (arith, n, seven))
no_numbers ws seven none (Udp ask) asks = none _ asks.1

pub no_host : (ws : List (List ℕ)) → length ws ≡ 7 → ((host : Host) → ¬ (IsHostWord (word 3 ws) host)) → (c : Command) → ¬ (IsAsked ws c)
no_host ws seven none Replay asks = let n = as_long_as ws _ asks in absurd (omega (arith, n, seven))
no_host ws seven none (Gen seed count) asks = let n = asks.0 in absurd (omega (arith, n, seven))
no_host ws seven none (Soak seed count) asks = let n = asks.0 in absurd (omega (arith, n, seven))
no_host ws seven none (Udp ask) asks = none ask.host asks.2

-- so many other words ask for nothing
pub none_asks : (ws : List (List ℕ)) → ¬ (length ws ≡ 1) → ¬ (length ws ≡ 3) → ¬ (length ws ≡ 7) → (c : Command) → ¬ (IsAsked ws c)
none_asks ws not_one not_three not_seven Replay asks = not_one (as_long_as ws _ asks)
none_asks ws not_one not_three not_seven (Gen seed count) asks = not_three asks.0
none_asks ws not_one not_three not_seven (Soak seed count) asks = not_three asks.0
none_asks ws not_one not_three not_seven (Udp ask) asks = not_seven asks.0

-- ---- one thing at most

same_number : (m n : ℕ) → m < 2 ^ 64 → n < 2 ^ 64 → (at : ℕ) (ws xs : List (List ℕ)) → ws ≡ xs → word at ws ≡ decimal m → word at xs ≡ decimal n → m ≡ n
same_number m n small_m small_n at ws xs same p q = decimal_injective m n small_m small_n (sym p ∙ ap (word at) same ∙ q)

same_gen : (a m b n : ℕ) → a ≡ b → m ≡ n → Gen a m ≡ Gen b n
same_gen a m b n e f = cc

same_soak : (a m b n : ℕ) → a ≡ b → m ≡ n → Soak a m ≡ Soak b n
same_soak a m b n e f = cc

same_script : (name other : List ℕ) (words : List (String Global)) (a m b n : ℕ) → AsksScript name words a m → AsksScript other words b n → (name ≡ other) × (a ≡ b) × (m ≡ n)
same_script name other words a m b n p q =
    let same = sym p.are ∙ q.are in
    let most_m : m ≤ 50000 = p.count_most in
    let most_n : n ≤ 50000 = q.count_most in (
      ap (word 0) same,
      same_number a b p.seed_most q.seed_most 1 _ _ same refl refl,
      same_number m n (omega (arith, most_m)) (omega (arith, most_n)) 2 _ _ same refl refl,
    )

same_version : (a b : Bool) → version_text a ≡ version_text b → a ≡ b
same_version false false e = refl
same_version true true e = refl
same_version false true e = let n : 49 ≡ 50 = ap (λ (text : List ℕ). get_or text 1 0) e in absurd (omega (arith, n))
same_version true false e = let n : 50 ≡ 49 = ap (λ (text : List ℕ). get_or text 1 0) e in absurd (omega (arith, n))

same_ask : (a b : UdpWords) → a.addr ≡ b.addr → a.port ≡ b.port → a.host ≡ b.host → a.target_port ≡ b.target_port → a.h2 ≡ b.h2 → a.count ≡ b.count → a ≡ b
same_ask a b addr port host target_port h2 count =
    let A : Addr → Type 0 = λ x. a ≡ record { addr = x; port = a.port; host = a.host; target_port = a.target_port; h2 = a.h2; count = a.count } in
    let P : ℕ → Type 0 = λ x. a ≡ record { addr = b.addr; port = x; host = a.host; target_port = a.target_port; h2 = a.h2; count = a.count } in
    let H : Host → Type 0 = λ x. a ≡ record { addr = b.addr; port = b.port; host = x; target_port = a.target_port; h2 = a.h2; count = a.count } in
    let T : ℕ → Type 0 = λ x. a ≡ record { addr = b.addr; port = b.port; host = b.host; target_port = x; h2 = a.h2; count = a.count } in
    let V : Bool → Type 0 = λ x. a ≡ record { addr = b.addr; port = b.port; host = b.host; target_port = b.target_port; h2 = x; count = a.count } in
    let C : ℕ → Type 0 = λ x. a ≡ record { addr = b.addr; port = b.port; host = b.host; target_port = b.target_port; h2 = b.h2; count = x } in
    subst C count (subst V h2 (subst T target_port (subst H host (subst P port (subst A addr refl)))))

same_udp : HasOneAddr → HasOneHost → (words : List (String Global)) (a b : UdpWords) → AsksUdp words a → AsksUdp words b → a ≡ b
same_udp addr host words a b p q =
    let same = sym p.are ∙ q.are in
    let short : (m n : ℕ) → IsShort m → IsShort n → (at : ℕ) → word at (texts words) ≡ decimal m → word at (texts words) ≡ decimal n → m ≡ n =
    λ m n s t at x y. same_number m n (let l = s.1 in omega (arith, l)) (let l = t.1 in omega (arith, l)) at (texts words) (texts words) refl x y in
    same_ask a b
    (addr p.addr_word a.addr b.addr p.addr (subst (λ (t : List ℕ). IsAddrText t b.addr) (sym (ap (word 1) same)) q.addr))
    (short a.port b.port p.port q.port 2 (ap (word 2) p.are) (ap (word 2) q.are))
    (host p.host_word a.host b.host p.host (subst (λ (t : List ℕ). IsHost t b.host) (sym (ap (word 3) same)) q.host))
    (short a.target_port b.target_port p.target_port q.target_port 4 (ap (word 4) p.are) (ap (word 4) q.are))
    (same_version a.h2 b.h2 (ap (word 5) same))
    (short a.count b.count p.count q.count 6 (ap (word 6) p.are) (ap (word 6) q.are))

gen_or_soak : codes "gen" ≡ codes "soak" → ⊥
gen_or_soak e = let size : 3 ≡ 4 = ap (λ (text : List ℕ). length text) e in absurd (omega (arith, size))

as_long : (words : List (String Global)) (a b : List (List ℕ)) → texts words ≡ a → texts words ≡ b → length a ≡ length b
as_long words a b p q = ap (λ (ws : List (List ℕ)). length ws) (sym p ∙ q)

pub ask_once : HasOneAddr → HasOneHost → AskOnce
ask_once addr host words Replay Replay p q = refl
ask_once addr host words Replay (Gen b n) p q = let l = as_long words _ _ p q.are in absurd (omega (arith, l))
ask_once addr host words Replay (Soak b n) p q = let l = as_long words _ _ p q.are in absurd (omega (arith, l))
ask_once addr host words Replay (Udp b) p q = let l = as_long words _ _ p q.are in absurd (omega (arith, l))
ask_once addr host words (Gen a m) Replay p q = let l = as_long words _ _ p.are q in absurd (omega (arith, l))
ask_once addr host words (Gen a m) (Gen b n) p q = let s = same_script _ _ words a m b n p q in same_gen a m b n s.1 s.2
ask_once addr host words (Gen a m) (Soak b n) p q = absurd (gen_or_soak (same_script _ _ words a m b n p q).0)
ask_once addr host words (Gen a m) (Udp b) p q = let l = as_long words _ _ p.are q.are in absurd (omega (arith, l))
ask_once addr host words (Soak a m) Replay p q = let l = as_long words _ _ p.are q in absurd (omega (arith, l))
ask_once addr host words (Soak a m) (Gen b n) p q = absurd (gen_or_soak (sym (same_script _ _ words a m b n p q).0))
ask_once addr host words (Soak a m) (Soak b n) p q = let s = same_script _ _ words a m b n p q in same_soak a m b n s.1 s.2
ask_once addr host words (Soak a m) (Udp b) p q = let l = as_long words _ _ p.are q.are in absurd (omega (arith, l))
ask_once addr host words (Udp a) Replay p q = let l = as_long words _ _ p.are q in absurd (omega (arith, l))
ask_once addr host words (Udp a) (Gen b n) p q = let l = as_long words _ _ p.are q.are in absurd (omega (arith, l))
ask_once addr host words (Udp a) (Soak b n) p q = let l = as_long words _ _ p.are q.are in absurd (omega (arith, l))
ask_once addr host words (Udp a) (Udp b) p q = ap Udp (same_udp addr host words a b p q)
