use Rattle.std.proofs.Common.{◌∙◌, ap, ap₂, refl}
use Rattle.std.proofs.lemmas.Result.{IfErr-weaker, IfOk-weaker}
use Rattle.clap.specs.Words.{is_simple, subcommand_of, takes}
use Rattle.mq_words.proofs.parser.parse.Goals as goal

pub returns : goal.returns
returns c =
    let parse = c.try_get_matches_from in
    let line = c.in_ok-command_line.ensures in
    record {
      found = IfOk-weaker parse.result _ _ (λ m h. (h (ap is_simple line)).1 ∙ ap₂ subcommand_of line refl) parse.ensures.matches;
      refused = IfErr-weaker parse.result _ _ (λ e h. h (ap₂ takes line refl ∙ c.requires)) parse.ensures.passes;
    }
