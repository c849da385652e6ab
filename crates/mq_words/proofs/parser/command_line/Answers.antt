use Rattle.std.proofs.Common.{◌≡◌, ◌∙◌, ◌&&◌, Bool, true, false, not, [], map, codes, ap, ap₂, refl, sym, rules, true≢false}
use Rattle.std.proofs.lemmas.Result.{IfOk-weaker}
use Rattle.clap.specs.Words.{App, Shape, app_of, with_subcommand}
use Rattle.clap.proofs.WalkLemmas.{both}
use Rattle.mq_words.specs.CommandLine.{line_app, script_ids, udp_ids}
use Rattle.mq_words.proofs.parser.command_line.Goals as goal

is_false : (b : Bool) → not b ≡ true → b ≡ false
is_false true e = absurd (true≢false (sym e))
is_false false e = refl

-- the third thing that makes a command plain: it has no global argument
no_globals : (a b c d : Bool) → (a && (b && (not c && d))) ≡ true → c ≡ false
no_globals a b c d e = is_false c (both (not c) d (both b (not c && d) (both a (b && (not c && d)) e).1).1).0

abbrev top : App → Shape
top a = a.top

abbrev plain : App → Bool
plain a = a.top.is_plain

pub returns : goal.returns
returns c =
    let gen_ids : map (λ s. s.now) c.as_slice.result.now ≡ script_ids = search rules in
    let soak_ids : map (λ s. s.now) c.as_slice-2.result.now ≡ script_ids = search rules in
    let ids_of_udp : map (λ s. s.now) c.as_slice-3.result.now ≡ udp_ids = search rules in
    let replay : app_of c.in_ok-replay.replay ≡ line_app (codes "replay") [] = c.in_ok-replay.ensures in
    let generate : app_of c.in_ok-generate.generate ≡ line_app (codes "gen") script_ids = c.in_ok-generate.ensures ∙ ap (line_app (codes "gen")) gen_ids in
    let soak : app_of c.in_ok-soak.soak ≡ line_app (codes "soak") script_ids = c.in_ok-soak.ensures ∙ ap (line_app (codes "soak")) soak_ids in
    let udp : app_of c.in_ok-udp.udp ≡ line_app (codes "udp") udp_ids = c.in_ok-udp.ensures ∙ ap (line_app (codes "udp")) ids_of_udp in
    let one = c.in_ok-subcommand.ensures.shape (no_globals _ _ _ _ (ap plain replay)) ∙ ap₂ with_subcommand c.bare_line.ensures (ap top replay) in
    let two = c.in_ok-subcommand-2.ensures.shape (no_globals _ _ _ _ (ap plain generate)) ∙ ap₂ with_subcommand one (ap top generate) in
    let three = c.in_ok-subcommand-3.ensures.shape (no_globals _ _ _ _ (ap plain soak)) ∙ ap₂ with_subcommand two (ap top soak) in
    IfOk-weaker c.subcommand-4.result _ _ (λ m h. h.shape (no_globals _ _ _ _ (ap plain udp)) ∙ ap₂ with_subcommand three (ap top udp)) c.subcommand-4.ensures
