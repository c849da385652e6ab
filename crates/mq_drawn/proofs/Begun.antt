-- The first lines: settings, links, and what each client asks for.
use Rattle.std.proofs.Common.{◌≡◌, ℕ, ◌<◌, ◌≤◌, ◌^◌, true, false, ◌||◌, List, [], ◌∷◌, ◌++◌, length, codes, decimal, refl, ap, subst, ◌/◌, arith, length-append}
use Rattle.std.specs.Prelude.{nat_le, nat_lt}
use Rattle.std.specs.List.{list_all}
use Rattle.std.specs.Fmt.{digits}
use Rattle.std.proofs.lemmas.List.Elements.{All-nil}
use Rattle.hex.specs.Hex.{encode_lower, encode_with}
use Rattle.mq_addr.specs.declared.addr.Addr.{Addr}
use Rattle.mq_addr.specs.declared.addr.Addr.TheVariants.{V4, V6}
use Rattle.mq_addr.specs.declared.prefix.Prefix.{Prefix}
use Rattle.mq_addr.specs.declared.range.Range.{Range}
use Rattle.mq_addr.specs.Addr.{IsAddrText}
use Rattle.mq_addr.specs.Block.{IsIn}
use Rattle.mq_addr.specs.Prefixes.{IsPrefixText}
use Rattle.mq_addr.specs.Printed.{IsReadAgain, addr_text_of, prefix_text_of}
use Rattle.mq_machine.specs.declared.event.Event.TheVariants as event
use Rattle.mq_machine.specs.State.{Told}
use Rattle.mq_play.specs.declared.line.Line.TheVariants as line
use Rattle.mq_play.specs.declared.line.SettingLine.{SettingLine}
use Rattle.mq_play.specs.declared.line.SettingLine.TheVariants as setting
use Rattle.mq_play.specs.declared.word.SettingWord.TheVariants as setting_word
use Rattle.mq_play.specs.declared.word.Word.TheVariants as word
use Rattle.mq_play.specs.Events.{is_ended, most_links}
use Rattle.mq_play.specs.Lines.{Says}
use Rattle.mq_play.specs.Parts.{IsText}
use Rattle.mq_play.specs.Play.{Stage, Settings, Sets, IsUnset, opened, line_limit}
use Rattle.mq_play.specs.Settings.{MayFollow, IsShare, plain_plan}
use Rattle.mq_script.specs.Generated.{opening_lines}
use Rattle.mq_drawn.proofs.Bytes.{says_word, all_small, all_sayable}
use Rattle.mq_drawn.proofs.Chain.{Where, Set, Went, IsGood, AreGood}
use Rattle.mq_drawn.proofs.Moving.{Ran, link_of, conn_comes, conn_goes, piece_comes, piece_goes, run_goes}

-- ---- settings

setting_good : (told : List SettingLine) (said : SettingLine) (text : List ℕ) → Says text (line.Setting said) → length text ≤ line_limit → MayFollow told said → IsGood (Set told) text (Set (told ++ said ∷ []))
setting_good told said text says fits may = record {
  said = line.Setting said;
  says = says;
  fits = fits;
  comes = λ s at bad. let B : Stage → Type 0 = λ x. IsUnset x said in subst B at bad may;
  leads = λ s t fates shown at none plays. let B : Stage → Type 0 = λ x. Sets x said t in (subst B at plays.0).1;
}

abbrev workers : SettingLine
workers = setting.Workers 2

abbrev block : Prefix
block = record { addr = V4 167772160; length = 16 }

abbrev pool : SettingLine
pool = setting.Pool block

abbrev everywhere : Range
everywhere = record { first = V4 0; last = V4 4294967295; protocol = 0 }

abbrev route : SettingLine
route = setting.Route everywhere

abbrev host : SettingLine
host = setting.Host (V4 3405803781)

workers_good : IsGood (Set []) (codes "workers 2") (Set (workers ∷ []))
unfolding digits
workers_good = setting_good [] workers (codes "workers 2")
    (says_word (word.Setting setting_word.Workers) (codes "2") (line.Setting workers) (record { value = workers; says = record { value = 2; says = record { least = omega arith; most = omega arith; is = refl }; said_is = refl }; said_is = refl }))
    (omega arith) tt

addr : IsReadAgain → (n : ℕ) → n < 2 ^ 32 → (text : List ℕ) → addr_text_of (V4 n) ≡ text → IsAddrText text (V4 n)
addr again n fits text is = subst (λ (t : List ℕ). IsAddrText t (V4 n)) is (again.addr (V4 n) fits)

pool_text : prefix_text_of block ≡ codes "10.0.0.0/16"
unfolding prefix_text_of addr_text_of digits
pool_text = refl

no_share : (a : Addr) → IsIn block a → a ≡ V4 0 → ⊥
no_share (V4 bits) is e = let n : bits ≡ 0 = cc in let p : bits / 2 ^ 16 ≡ 2560 = is.agrees in absurd (omega (arith, n, p))
no_share (V6 bits) is e = absurd is.version

share : IsReadAgain → IsShare (codes "10.0.0.0/16") block
share again = (
  subst (λ (t : List ℕ). IsPrefixText t block) pool_text (again.prefix block (omega arith) (record { fits = omega arith; zeros = refl })),
  record { v4 = λ is. no_share (V4 0) is refl; v6 = λ is. absurd is.version },
)

pool_good : IsReadAgain → IsGood (Set (workers ∷ [])) (codes "pool 10.0.0.0/16") (Set (workers ∷ pool ∷ []))
pool_good again = setting_good (workers ∷ []) pool (codes "pool 10.0.0.0/16")
    (says_word (word.Setting setting_word.Pool) (codes "10.0.0.0/16") (line.Setting pool) (record { value = pool; says = record { value = block; says = share again; said_is = refl }; said_is = refl }))
    (omega arith) (omega arith, All-nil _)

first_text : addr_text_of (V4 0) ≡ codes "0.0.0.0"
unfolding addr_text_of digits
first_text = refl

last_text : addr_text_of (V4 4294967295) ≡ codes "255.255.255.255"
unfolding addr_text_of digits
last_text = refl

host_text : addr_text_of (V4 3405803781) ≡ codes "203.0.113.5"
unfolding addr_text_of digits
host_text = refl

route_good : IsReadAgain → IsGood (Set (workers ∷ pool ∷ [])) (codes "route 0.0.0.0 255.255.255.255 0") (Set (workers ∷ pool ∷ route ∷ []))
unfolding digits
route_good again = setting_good (workers ∷ pool ∷ []) route (codes "route 0.0.0.0 255.255.255.255 0")
    (says_word (word.Setting setting_word.Route) (codes "0.0.0.0 255.255.255.255 0") (line.Setting route) (record {
      value = route;
      says = record {
        value = everywhere;
        says = (
          record {
            part = codes "0.0.0.0";
            first = V4 0;
            rest = codes "255.255.255.255 0";
            is = refl;
            says = addr again 0 (omega arith) (codes "0.0.0.0") first_text;
            behind = record {
              part = codes "255.255.255.255";
              first = V4 4294967295;
              rest = codes "0";
              is = refl;
              says = addr again 4294967295 (omega arith) (codes "255.255.255.255") last_text;
              behind = record { value = 0; says = record { least = omega arith; most = omega arith; is = refl }; said_is = refl };
            };
          },
          record { version = tt; rising = omega arith },
        );
        said_is = refl;
      };
      said_is = refl;
    }))
    (omega arith) (omega arith, All-nil _)

host_good : IsReadAgain → IsGood (Set (workers ∷ pool ∷ route ∷ [])) (codes "host 203.0.113.5") (Set (workers ∷ pool ∷ route ∷ host ∷ []))
host_good again = setting_good (workers ∷ pool ∷ route ∷ []) host (codes "host 203.0.113.5")
    (says_word (word.Setting setting_word.Host) (codes "203.0.113.5") (line.Setting host) (record {
      value = host;
      says = record { value = V4 3405803781; says = addr again 3405803781 (omega arith) (codes "203.0.113.5") host_text; said_is = refl };
      said_is = refl;
    }))
    (omega arith) (omega arith)

-- the world of these settings has two workers and no link
begun : (t : Stage) → t ≡ Settings (workers ∷ pool ∷ route ∷ host ∷ []) → Ran [] t
unfolding plain_plan
begun t is = record { two = ap (λ (u : Stage). length (opened u).workers) is; links_are = ap (λ (u : Stage). (opened u).links) is }

last_good : IsReadAgain → IsGood (Set (workers ∷ pool ∷ route ∷ [])) (codes "host 203.0.113.5") (Went [])
last_good again = let good = host_good again in
    record { said = good.said; says = good.says; fits = good.fits; comes = good.comes; leads = λ s t fates shown at none plays. begun t (good.leads s t fates shown at none plays) }

-- ---- links

conn_good : (links : List Told) (actor : ℕ) (text : List ℕ) → Says text (line.Happens (event.Conn actor)) → length text ≤ line_limit → (nat_le 2 actor || nat_le most_links (length links)) ≡ false
    → IsGood (Went links) text (Went (links ++ link_of actor ∷ []))
conn_good links actor text says fits room = record {
  said = line.Happens (event.Conn actor);
  says = says;
  fits = fits;
  comes = conn_comes links actor room;
  leads = conn_goes links actor;
}

zero_good : (links : List Told) → nat_le most_links (length links) ≡ false → IsGood (Went links) (codes "conn 0") (Went (links ++ link_of 0 ∷ []))
unfolding digits
zero_good links room = conn_good links 0 (codes "conn 0")
    (says_word word.Conn (codes "0") (line.Happens (event.Conn 0)) (record { value = 0; says = record { least = omega arith; most = omega arith; is = refl }; said_is = refl })) (omega arith) room

one_good : (links : List Told) → nat_le most_links (length links) ≡ false → IsGood (Went links) (codes "conn 1") (Went (links ++ link_of 1 ∷ []))
unfolding digits
one_good links room = conn_good links 1 (codes "conn 1")
    (says_word word.Conn (codes "1") (line.Happens (event.Conn 1)) (record { value = 1; says = record { least = omega arith; most = omega arith; is = refl }; said_is = refl })) (omega arith) room

-- those of four clients
abbrev pub four : List Told
four = link_of 0 ∷ link_of 1 ∷ link_of 0 ∷ link_of 1 ∷ []

-- ---- what they send

pub piece_good : (links : List Told) (conn : ℕ) (bytes text : List ℕ) → Says text (line.Happens (event.Piece conn bytes)) → length text ≤ line_limit → is_ended links conn ≡ false → IsGood (Went links) text (Went links)
piece_good links conn bytes text says fits going = record {
  said = line.Happens (event.Piece conn bytes);
  says = says;
  fits = fits;
  comes = piece_comes links conn bytes going;
  leads = piece_goes links conn bytes;
}

abbrev asked : List ℕ
asked = codes "GET /.well-known/masque/ip/*/*/ HTTP/1.1\r\nHost: p\r\nConnection: Upgrade\r\nUpgrade: connect-ip\r\n\r\n"

-- the request as a text says it
abbrev spelled : List ℕ
spelled =
    codes "GET /.well-known/masque/ip/*/*/ HTTP/1.1\\r\\nHost: p\\r\\n"
    ++ codes "Connection: Upgrade\\r\\nUpgrade: connect-ip\\r\\n\\r\\n"

request_text : IsText spelled asked
request_text = record { some = λ e. cc; are = all_sayable asked refl; is = refl }

text_good : (conn : ℕ) (name : List ℕ) → conn ≤ 4294967295 → name ≡ decimal conn → length name ≤ 5 → is_ended four conn ≡ false → IsGood (Went four) (codes "text " ++ (name ++ 32 ∷ spelled)) (Went four)
text_good conn name fits is short going = piece_good four conn asked (codes "text " ++ (name ++ 32 ∷ spelled))
    (says_word word.Text (name ++ 32 ∷ spelled) (line.Happens (event.Piece conn asked)) (record {
      part = name;
      first = conn;
      rest = spelled;
      is = refl;
      says = record { least = omega arith; most = fits; is = is };
      behind = record { value = asked; says = request_text; said_is = refl };
    })) (omega (arith, short, length-append name (32 ∷ spelled))) going

abbrev wanted : ℕ → List ℕ
wanted client = 2 ∷ 7 ∷ 1 ∷ 4 ∷ 10 ∷ 0 ∷ 0 ∷ client ∷ 32 ∷ []

bytes_good : (conn : ℕ) (name text : List ℕ) → conn ≤ 4294967295 → name ≡ decimal conn → length name ≤ 5 → text ≡ encode_lower (wanted conn) → length text ≤ 100 → list_all (λ b. nat_lt b 256) (wanted conn) ≡ true
    → is_ended four conn ≡ false → IsGood (Went four) (codes "bytes " ++ (name ++ 32 ∷ text)) (Went four)
bytes_good conn name text fits is short hex few small going = piece_good four conn (wanted conn) (codes "bytes " ++ (name ++ 32 ∷ text))
    (says_word word.Bytes (name ++ 32 ∷ text) (line.Happens (event.Piece conn (wanted conn))) (record {
      part = name;
      first = conn;
      rest = text;
      is = refl;
      says = record { least = omega arith; most = fits; is = is };
      behind = record { value = wanted conn; says = record { some = λ e. cc; are = all_small (wanted conn) small; is = hex }; said_is = refl };
    })) (omega (arith, short, few, length-append name (32 ∷ text))) going

pub run_good : (count : ℕ) (name : List ℕ) → 1 ≤ count → count ≤ 1000000 → name ≡ decimal count → length name ≤ 10 → IsGood (Went four) (codes "run " ++ name) (Went four)
run_good count name least most is short = record {
  said = line.Run count;
  says = says_word word.Run name (line.Run count) (record { value = count; says = record { least = least; most = most; is = is }; said_is = refl });
  fits = omega (arith, short);
  comes = λ s at bad. bad;
  leads = run_goes four count;
}

-- ----

-- one more line
pub one_more : (w next : Where) (text : List ℕ) (lines : List (List ℕ)) → IsGood w text next → AreGood next lines → AreGood w (text ∷ lines)
one_more w next text lines good others = (next, good, others)

-- what a client asks for, and then lines that are good behind that
asks_good : (conn : ℕ) (name text : List ℕ) (lines : List (List ℕ)) → conn ≤ 4294967295 → name ≡ decimal conn → length name ≤ 5 → text ≡ encode_lower (wanted conn) → length text ≤ 100
    → list_all (λ b. nat_lt b 256) (wanted conn) ≡ true → is_ended four conn ≡ false → AreGood (Went four) lines
    → AreGood (Went four) ((codes "text " ++ (name ++ 32 ∷ spelled)) ∷ (codes "bytes " ++ (name ++ 32 ∷ text)) ∷ lines)
asks_good conn name text lines fits is short hex few small going good =
    one_more (Went four) (Went four) (codes "text " ++ (name ++ 32 ∷ spelled)) ((codes "bytes " ++ (name ++ 32 ∷ text)) ∷ lines) (text_good conn name fits is short going)
    (one_more (Went four) (Went four) (codes "bytes " ++ (name ++ 32 ∷ text)) lines (bytes_good conn name text fits is short hex few small going) good)

-- all of them, and then lines that are good behind them
pub opening_good : IsReadAgain → (rest : List (List ℕ)) → AreGood (Went four) rest → AreGood (Set []) (opening_lines ++ rest)
unfolding opening_lines digits encode_with
opening_good again rest good =
    let run = one_more (Went four) (Went four) (codes "run 1000") rest (run_good 1000 (codes "1000") (omega arith) (omega arith) refl (omega arith)) good in
    let after_three = codes "run 1000" ∷ rest in
    let third = asks_good 3 (codes "3") (codes "020701040a00000320") after_three (omega arith) refl (omega arith) refl (omega arith) refl refl run in
    let after_two = (codes "text " ++ (codes "3" ++ 32 ∷ spelled)) ∷ (codes "bytes " ++ (codes "3" ++ 32 ∷ codes "020701040a00000320")) ∷ after_three in
    let second = asks_good 2 (codes "2") (codes "020701040a00000220") after_two (omega arith) refl (omega arith) refl (omega arith) refl refl third in
    let after_one = (codes "text " ++ (codes "2" ++ 32 ∷ spelled)) ∷ (codes "bytes " ++ (codes "2" ++ 32 ∷ codes "020701040a00000220")) ∷ after_two in
    let first = asks_good 1 (codes "1") (codes "020701040a00000120") after_one (omega arith) refl (omega arith) refl (omega arith) refl refl second in
    let after_zero = (codes "text " ++ (codes "1" ++ 32 ∷ spelled)) ∷ (codes "bytes " ++ (codes "1" ++ 32 ∷ codes "020701040a00000120")) ∷ after_one in
    let zeroth = asks_good 0 (codes "0") (codes "020701040a00000020") after_zero (omega arith) refl (omega arith) refl (omega arith) refl refl first in
    let asks = (codes "text " ++ (codes "0" ++ 32 ∷ spelled)) ∷ (codes "bytes " ++ (codes "0" ++ 32 ∷ codes "020701040a00000020")) ∷ after_zero in
    let d = one_more (Went (link_of 0 ∷ link_of 1 ∷ link_of 0 ∷ [])) (Went four) (codes "conn 1") asks (one_good (link_of 0 ∷ link_of 1 ∷ link_of 0 ∷ []) refl) zeroth in
    let c = one_more (Went (link_of 0 ∷ link_of 1 ∷ [])) (Went (link_of 0 ∷ link_of 1 ∷ link_of 0 ∷ [])) (codes "conn 0") (codes "conn 1" ∷ asks) (zero_good (link_of 0 ∷ link_of 1 ∷ []) refl) d in
    let b = one_more (Went (link_of 0 ∷ [])) (Went (link_of 0 ∷ link_of 1 ∷ [])) (codes "conn 1") (codes "conn 0" ∷ codes "conn 1" ∷ asks) (one_good (link_of 0 ∷ []) refl) c in
    let a = one_more (Went []) (Went (link_of 0 ∷ [])) (codes "conn 0") (codes "conn 1" ∷ codes "conn 0" ∷ codes "conn 1" ∷ asks) (zero_good [] refl) b in
    let links = codes "conn 0" ∷ codes "conn 1" ∷ codes "conn 0" ∷ codes "conn 1" ∷ asks in
    let h = one_more (Set (workers ∷ pool ∷ route ∷ [])) (Went []) (codes "host 203.0.113.5") links (last_good again) a in
    let r = one_more (Set (workers ∷ pool ∷ [])) (Set (workers ∷ pool ∷ route ∷ [])) (codes "route 0.0.0.0 255.255.255.255 0") (codes "host 203.0.113.5" ∷ links) (route_good again) h in
    let p = one_more (Set (workers ∷ [])) (Set (workers ∷ pool ∷ [])) (codes "pool 10.0.0.0/16") (codes "route 0.0.0.0 255.255.255.255 0" ∷ codes "host 203.0.113.5" ∷ links) (pool_good again) r in
    one_more (Set []) (Set (workers ∷ [])) (codes "workers 2") (codes "pool 10.0.0.0/16" ∷ codes "route 0.0.0.0 255.255.255.255 0" ∷ codes "host 203.0.113.5" ∷ links) workers_good p
