-- clap takes words that ask for something, and tells them: none of them begins with a dash.
use Rattle.std.proofs.Common.{◌≡◌, ◌∙◌, ℕ, ◌<◌, ◌≤◌, ◌^◌, Bool, true, false, List, [], ◌∷◌, Some, codes, decimal, refl, sym, ap, subst, arith, ne_eqb}
use Rattle.std.proofs.lemmas.Fmt.{decimal_is_IsNumeral}
use Rattle.std.proofs.lemmas.Str.Parse.{digit_from_value}
use Rattle.std.specs.Prelude.{find}
use Rattle.std.specs.Str.Parse.{AllDigits}
use Rattle.clap.proofs.OnLiterals.{clap_on_literals}
use Rattle.clap.specs.Simple.{built_leaf, inherited, label_of, names_of}
use Rattle.clap.specs.Takes.{turn_passes}
use Rattle.clap.specs.Walk.{answers_to, finished, nothing_held, walk_from, walked}
use Rattle.clap.specs.Words.{App, Row, Shape, Text, built}
use Rattle.mq_addr.specs.Addr.{HasAddrBytes, is_addr_byte}
use Rattle.mq_text.specs.Cut.{Lacks}
use Rattle.mq_words.specs.declared.command.Command.TheVariants.{Replay, Gen, Soak, Udp}
use Rattle.mq_words.specs.CommandLine.{AskedIsTold, ClapTells, command_app, line_app, script_ids, udp_ids, values_found, values_in}
use Rattle.mq_words.specs.Words.{IsShort, begins_with_dash, version_text}
use Rattle.mq_words.proofs.Values.{EachFits, end_passes, held_after, level_taken, line_is, name_taken, no_dashes, rows_read, stopped_at}

-- ---- no dash

digits_dash : (ds : List ℕ) → AllDigits 10 ds → begins_with_dash ds ≡ false
digits_dash [] digits = refl
digits_dash (d ∷ ds) digits = let is = digit_from_value d digits.0 in ne_eqb d 45 (λ e. omega (arith, is, e))

decimal_dash : (n : ℕ) → n < 2 ^ 64 → begins_with_dash (decimal n) ≡ false
decimal_dash n small = digits_dash (decimal n) (decimal_is_IsNumeral n small).0.1

short_dash : (n : ℕ) → IsShort n → begins_with_dash (decimal n) ≡ false
short_dash n short = let most = short.1 in decimal_dash n (omega (arith, most))

lacking_dash : (text : List ℕ) → Lacks 45 text → begins_with_dash text ≡ false
lacking_dash [] lacks = refl
lacking_dash (b ∷ bs) lacks = ne_eqb b 45 lacks.0

version_dash : (h2 : Bool) → begins_with_dash (version_text h2) ≡ false
version_dash true = refl
version_dash false = refl

no_addr_dash : is_addr_byte 45 ≡ false
unfolding is_addr_byte
no_addr_dash = refl

-- ---- the subcommands

module _ (name : Text) (values : List Text) (leaf : Shape) (none : no_dashes values ≡ true) (fits : EachFits leaf 1 nothing_held values)
    (stops : walked (built command_app).top.rules (names_of (built command_app)) (walk_from nothing_held) name ≡ stopped_at name [])
    (turn : turn_passes (built command_app).top (names_of (built command_app)) (walk_from nothing_held) name ≡ true)
    (is : find (λ s. answers_to name (label_of s)) (built command_app).subs ≡ Some leaf)
    (end : end_passes leaf (held_after leaf 1 nothing_held values) ≡ true)
    (back : values_in (leaf.name, finished leaf.rules (held_after leaf 1 nothing_held values)) ≡ name ∷ values) where
  told : ClapTells (name ∷ values)
  told = record {
    takes = name_taken (built command_app) name values leaf stops turn is refl (level_taken leaf values none fits end);
    tells = ap values_found (line_is (built command_app) name values leaf stops turn is refl (level_taken leaf values none fits end))
        ∙ (ap (λ (rows : List Row). values_in (leaf.name, rows)) (rows_read leaf values none fits) ∙ back);
  }

abbrev leaf_of : App → Shape
leaf_of a = built_leaf (inherited command_app.top a.top)

replay_told : ClapTells (codes "replay" ∷ [])
unfolding clap_on_literals
replay_told = told (codes "replay") [] (leaf_of (line_app (codes "replay") [])) refl tt refl refl refl refl refl

gen_told : (a b : Text) → begins_with_dash a ≡ false → begins_with_dash b ≡ false → ClapTells (codes "gen" ∷ a ∷ b ∷ [])
unfolding clap_on_literals
gen_told a b p q = told (codes "gen") (a ∷ b ∷ []) (leaf_of (line_app (codes "gen") script_ids)) (rw (p, q) refl) (refl, refl, (refl, refl, tt)) refl refl refl refl refl

soak_told : (a b : Text) → begins_with_dash a ≡ false → begins_with_dash b ≡ false → ClapTells (codes "soak" ∷ a ∷ b ∷ [])
unfolding clap_on_literals
soak_told a b p q = told (codes "soak") (a ∷ b ∷ []) (leaf_of (line_app (codes "soak") script_ids)) (rw (p, q) refl) (refl, refl, (refl, refl, tt)) refl refl refl refl refl

udp_told : (a b c d e f : Text) → begins_with_dash a ≡ false → begins_with_dash b ≡ false → begins_with_dash c ≡ false → begins_with_dash d ≡ false
    → begins_with_dash e ≡ false → begins_with_dash f ≡ false → ClapTells (codes "udp" ∷ a ∷ b ∷ c ∷ d ∷ e ∷ f ∷ [])
unfolding clap_on_literals
udp_told a b c d e f p q r s t u =
    told (codes "udp") (a ∷ b ∷ c ∷ d ∷ e ∷ f ∷ []) (leaf_of (line_app (codes "udp") udp_ids)) (rw (p, q, r, s, t, u) refl)
    (refl, refl, (refl, refl, (refl, refl, (refl, refl, (refl, refl, (refl, refl, tt)))))) refl refl refl refl refl

-- ---- the table

pub asked_told : HasAddrBytes → AskedIsTold
asked_told bytes words Replay asks = subst ClapTells (sym asks) replay_told
asked_told bytes words (Gen seed count) asks =
    let most : count ≤ 50000 = asks.count_most in
    subst ClapTells (sym asks.are) (gen_told (decimal seed) (decimal count) (decimal_dash seed asks.seed_most) (decimal_dash count (omega (arith, most))))
asked_told bytes words (Soak seed count) asks =
    let most : count ≤ 50000 = asks.count_most in
    subst ClapTells (sym asks.are) (soak_told (decimal seed) (decimal count) (decimal_dash seed asks.seed_most) (decimal_dash count (omega (arith, most))))
asked_told bytes words (Udp ask) asks =
    subst ClapTells (sym asks.are) (udp_told asks.addr_word (decimal ask.port) asks.host_word (decimal ask.target_port) (version_text ask.h2) (decimal ask.count)
    (lacking_dash asks.addr_word (bytes asks.addr_word ask.addr 45 asks.addr no_addr_dash)) (short_dash ask.port asks.port) asks.no_dash
    (short_dash ask.target_port asks.target_port) (version_dash ask.h2) (short_dash ask.count asks.count))
