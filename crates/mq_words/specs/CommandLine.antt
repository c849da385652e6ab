-- The command line as clap knows it. Only the crate's own functions cite what stands here.
use Rattle.std.specs.Prelude.{◌≡◌, ◌||◌, true, codes, List, [], ◌∷◌, Option, None, Some, String, filter_map, fold, if◌then◌else◌}
use Rattle.std.specs.Str.{bytes_eq}
use Rattle.std.specs.Global.{Global}
use Rattle.clap.specs.Simple.{on_top}
use Rattle.clap.specs.Words.{App, Row, Rule, Text, first_of, new_app, new_rule, subcommand_of, takes, with_rule, with_subcommand}
use Rattle.clap.specs.declared.builder.action.ArgAction.TheVariants.{Set}
use Rattle.mq_words.specs.declared.command.Command.{Command}
use Rattle.mq_words.specs.Words.{AsksFor, texts}

-- a word that has to be there
abbrev pub value_rule : Text → Rule
value_rule id = record (new_rule id) { required = true; action = Some Set }

abbrev pub with_value : App → Text → App
with_value line id = with_rule line (value_rule id)

-- a subcommand with these values
abbrev pub line_app : Text → List Text → App
line_app name ids = fold with_value (new_app name) ids

abbrev pub script_ids : List Text
script_ids = codes "SEED" ∷ codes "N" ∷ []

abbrev pub udp_ids : List Text
udp_ids = codes "ADDR" ∷ codes "PORT" ∷ codes "TARGET" ∷ codes "TPORT" ∷ codes "VERSION" ∷ codes "COUNT" ∷ []

-- the words begin with no program's name, and no word asks for help
abbrev pub bare_app : App
bare_app = on_top (λ s. record s { no_binary_name = true; disable_help_flag = true; disable_help_subcommand = true }) (new_app (codes "masque"))

abbrev pub command_app : App
command_app =
    with_subcommand (with_subcommand (with_subcommand (with_subcommand bare_app
    (line_app (codes "replay") []).top) (line_app (codes "gen") script_ids).top)
    (line_app (codes "soak") script_ids).top) (line_app (codes "udp") udp_ids).top

-- the ids of a subcommand's values
abbrev pub ids_of : Text → List Text
ids_of name =
    if bytes_eq name (codes "gen") || bytes_eq name (codes "soak") then script_ids
    else (if bytes_eq name (codes "udp") then udp_ids else [])

-- the name of a subcommand, and its values by their ids
abbrev pub values_in : Text × List Row → List Text
values_in line = line.0 ∷ filter_map (λ id. first_of id line.1) (ids_of line.0)

-- the same of what clap found, if it found a subcommand
abbrev pub values_found : Option (Text × List Row) → List Text
values_found None = []
values_found (Some line) = values_in line

-- clap takes words that ask for something, so it refuses them for want of memory alone, and finds in them the words themselves
pub record ClapTells (words : List Text) : Type 0 where
  pub takes : takes command_app words ≡ true
  pub tells : values_found (subcommand_of command_app words) ≡ words

abbrev pub AskedIsTold : Type 0
AskedIsTold = (words : List (String Global)) (command : Command) → AsksFor words command → ClapTells (texts words)
