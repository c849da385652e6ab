-- Settings: which line tells one, which may stand behind the others, and what they make.
use Rattle.std.specs.Prelude.{◌≡◌, ℕ, ◌≤◌, ◌<◌, ⊤, Bool, true, false, List, [], ◌∷◌, ◌++◌, length, map, codes, Option, Some, None}
use Rattle.std.specs.List.{filter, filter_map, All}
use Rattle.std.specs.Char.{to_ascii_lowercase}
use Rattle.std.specs.FinMap as finite
use Rattle.mq_addr.specs.declared.addr.Addr.{Addr}
use Rattle.mq_addr.specs.declared.kind.Kind.{Kind}
use Rattle.mq_addr.specs.declared.kind.Kind.TheVariants as kind
use Rattle.mq_addr.specs.declared.prefix.Prefix.{Prefix}
use Rattle.mq_addr.specs.declared.range.Range.{Range}
use Rattle.mq_addr.specs.Addr.{IsAddrText}
use Rattle.mq_addr.specs.Block.{Overlap}
use Rattle.mq_addr.specs.Prefixes.{IsPrefixText}
use Rattle.mq_addr.specs.Ranges.{IsRange, Precedes}
use Rattle.mq_policy.specs.declared.rule.Rule.TheVariants as rule
use Rattle.mq_machine.specs.declared.setup.Setup.{Setup}
use Rattle.mq_talk.specs.declared.book.Config.{Config}
use Rattle.mq_talk.specs.Config.{HasNoZero, IsConfig}
use Rattle.mq_target.specs.Template.{Shape, IsTemplate, well_known}
use Rattle.mq_target.specs.Names.{IsName as IsHostName}
use Rattle.mq_play.specs.declared.line.SettingLine.{SettingLine}
use Rattle.mq_play.specs.declared.line.SettingLine.TheVariants as setting
use Rattle.mq_play.specs.declared.plan.Plan.{Plan}
use Rattle.mq_play.specs.declared.word.SettingWord.{SettingWord}
use Rattle.mq_play.specs.declared.word.SettingWord.TheVariants as word
use Rattle.mq_play.specs.Parts.{Parted, Means, IsNumber, IsNumberOr}

-- ---- lines

abbrev pub kind_text : Kind → List ℕ
kind_text kind.Udp = codes "udp"
kind_text kind.Ip = codes "ip"

abbrev pub IsKind : List ℕ → Kind → Type 0
IsKind text kind = text ≡ kind_text kind

-- a template of this kind, to the end of the line
abbrev pub IsTemplateOf : Kind → List ℕ → Shape → Type 0
IsTemplateOf kind text shape = IsTemplate text shape × (shape.kind ≡ kind)

-- a name, taken in lower case
abbrev pub IsNamed : List ℕ → List ℕ → Type 0
IsNamed text name = IsHostName text × (name ≡ map to_ascii_lowercase text)

-- a prefix, or `*` for all addresses
abbrev pub IsBlock : List ℕ → Option Prefix → Type 0
IsBlock text None = text ≡ codes "*"
IsBlock text (Some block) = IsPrefixText text block

-- what stands behind the block of a rule: the first and the last port, or the number of a protocol, or `*` for all of them
abbrev pub SaysRule : Bool → Kind → Option Prefix → List ℕ → SettingLine → Type 0
SaysRule allow kind.Udp block = Parted (IsNumber 1 65535) (λ low. Means (IsNumber low 65535) (λ high. setting.Rule (rule.Udp allow block low high)))
SaysRule allow kind.Ip block = Means (IsNumberOr (codes "*") 255) (λ protocol. setting.Rule (rule.Ip allow block protocol))

-- a prefix without the all-zero address
abbrev pub IsShare : List ℕ → Prefix → Type 0
IsShare text block = IsPrefixText text block × HasNoZero block

-- the first and the last address of a range, and the number of its protocol, or 0 for all of them
abbrev pub IsRoute : List ℕ → Range → Type 0
IsRoute text range =
    Parted IsAddrText (λ first. Parted IsAddrText (λ last. Means (IsNumber 0 255) (λ protocol. record { first = first; last = last; protocol = protocol }))) text range
    × IsRange range

abbrev pub setting_word : SettingWord → List ℕ
setting_word word.Workers = codes "workers"
setting_word word.Template = codes "template"
setting_word word.Name = codes "name"
setting_word word.Allow = codes "allow"
setting_word word.Deny = codes "deny"
setting_word word.Pool = codes "pool"
setting_word word.Reach = codes "reach"
setting_word word.Route = codes "route"
setting_word word.Host = codes "host"
setting_word word.Mtu = codes "mtu"
setting_word word.History = codes "history"

-- what stands behind the word of a setting
abbrev pub SaysSetting : SettingWord → List ℕ → SettingLine → Type 0
SaysSetting word.Workers = Means (IsNumber 1 4) setting.Workers
SaysSetting word.Template = Parted IsKind (λ kind. Means (IsTemplateOf kind) (setting.Template kind))
SaysSetting word.Name = Parted IsNamed (λ name. Means IsAddrText (setting.Name name))
SaysSetting word.Allow = Parted IsKind (λ kind. Parted IsBlock (SaysRule true kind))
SaysSetting word.Deny = Parted IsKind (λ kind. Parted IsBlock (SaysRule false kind))
SaysSetting word.Pool = Means IsShare setting.Pool
SaysSetting word.Reach = Means IsShare setting.Reach
SaysSetting word.Route = Means IsRoute setting.Route
SaysSetting word.Host = Means IsAddrText setting.Host
SaysSetting word.Mtu = Means (IsNumber 1280 65535) setting.Mtu
SaysSetting word.History = Means (IsNumber 4 262144) setting.History

-- ---- which may stand behind the others

abbrev pub is_name : SettingLine → Bool
is_name (setting.Name name addr) = true
is_name said = false

abbrev pub is_rule : SettingLine → Bool
is_rule (setting.Rule said) = true
is_rule said = false

abbrev pub pool_of : SettingLine → Option Prefix
pool_of (setting.Pool block) = Some block
pool_of said = None

abbrev pub reach_of : SettingLine → Option Prefix
reach_of (setting.Reach block) = Some block
reach_of said = None

abbrev pub route_of : SettingLine → Option Range
route_of (setting.Route range) = Some range
route_of said = None

abbrev pub host_of : SettingLine → Option Addr
host_of (setting.Host addr) = Some addr
host_of said = None

abbrev pub pools : List SettingLine → List Prefix
pools lines = filter_map pool_of lines

abbrev pub reaches : List SettingLine → List Prefix
reaches lines = filter_map reach_of lines

abbrev pub routes : List SettingLine → List Range
routes lines = filter_map route_of lines

abbrev pub hosts : List SettingLine → List Addr
hosts lines = filter_map host_of lines

-- the most of each
abbrev pub most_names : ℕ
most_names = 64

abbrev pub most_rules : ℕ
most_rules = 256

abbrev pub most_shares : ℕ
most_shares = 16

abbrev pub most_routes : ℕ
most_routes = 32

abbrev pub most_hosts : ℕ
most_hosts = 64

-- the block has no address of an earlier one
abbrev pub IsApart : List SettingLine → Prefix → Type 0
IsApart before block = All (λ other. ¬ (Overlap other block)) (pools before ++ reaches before)

-- the setting may stand behind these
abbrev pub MayFollow : List SettingLine → SettingLine → Type 0
MayFollow before (setting.Name name addr) = length (filter is_name before) < most_names
MayFollow before (setting.Rule said) = length (filter is_rule before) < most_rules
MayFollow before (setting.Pool block) = (length (pools before) < most_shares) × IsApart before block
MayFollow before (setting.Reach block) = (length (reaches before) < most_shares) × IsApart before block
MayFollow before (setting.Route range) = (length (routes before) < most_routes) × All (λ other. Precedes 0 other range) (routes before)
MayFollow before (setting.Host addr) = length (hosts before) < most_hosts
MayFollow before said = ⊤

-- ---- what they make

-- one worker, the well-known templates, no names, rules, blocks, routes and hosts
unfoldable pub plain_plan : Plan
plain_plan = record {
  workers = 1;
  setup = record { udp = well_known kind.Udp; ip = well_known kind.Ip; policy = record { names = finite.empty; rules = [] }; mtu = 1500; pump = 1 };
  book = record { pool = []; reach = []; routes = []; history = 262144; workers = 1 };
  hosts = [];
}

abbrev pub with_template : Kind → Shape → Plan → Plan
with_template kind.Udp shape plan = record plan { setup = record plan.setup { udp = shape } }
with_template kind.Ip shape plan = record plan { setup = record plan.setup { ip = shape } }

-- the plan with one more setting
abbrev pub with_setting : Plan → SettingLine → Plan
with_setting plan (setting.Workers count) =
    record plan { workers = count; setup = record plan.setup { pump = count }; book = record plan.book { workers = count } }
with_setting plan (setting.Template kind shape) = with_template kind shape plan
with_setting plan (setting.Name name addr) =
    record plan { setup = record plan.setup { policy = record plan.setup.policy { names = finite.insert plan.setup.policy.names name addr } } }
with_setting plan (setting.Rule said) =
    record plan { setup = record plan.setup { policy = record plan.setup.policy { rules = plan.setup.policy.rules ++ said ∷ [] } } }
with_setting plan (setting.Pool block) = record plan { book = record plan.book { pool = plan.book.pool ++ block ∷ [] } }
with_setting plan (setting.Reach block) = record plan { book = record plan.book { reach = plan.book.reach ++ block ∷ [] } }
with_setting plan (setting.Route range) = record plan { book = record plan.book { routes = plan.book.routes ++ range ∷ [] } }
with_setting plan (setting.Host addr) = record plan { hosts = plan.hosts ++ addr ∷ [] }
with_setting plan (setting.Mtu size) = record plan { setup = record plan.setup { mtu = size } }
with_setting plan (setting.History size) = record plan { book = record plan.book { history = size } }

-- what these settings, in order, make of a plan
abbrev pub with_settings : Plan → List SettingLine → Plan
with_settings plan [] = plan
with_settings plan (line ∷ lines) = with_settings (with_setting plan line) lines

abbrev pub plan_of : List SettingLine → Plan
plan_of lines = with_settings plain_plan lines

-- ---- what such plans are

-- what each of so many workers is set up with
pub record IsSetup (workers : ℕ) (setup : Setup) : Type 0 where
  pub pump : setup.pump ≡ workers
  pub udp : (text : List ℕ) × IsTemplateOf kind.Udp text setup.udp
  pub ip : (text : List ℕ) × IsTemplateOf kind.Ip text setup.ip
  pub least_mtu : 1280 ≤ setup.mtu
  pub most_mtu : setup.mtu ≤ 65535
  pub rules : length setup.policy.rules ≤ most_rules

-- what their book may give
pub record IsBook (workers : ℕ) (book : Config) : Type 0 where
  pub workers_are : book.workers ≡ workers
  pub least_history : 4 ≤ book.history
  pub most_history : book.history ≤ 262144
  pub config : IsConfig book

pub record IsPlan (plan : Plan) : Type 0 where
  pub some : 1 ≤ plan.workers
  pub few : plan.workers ≤ 4
  pub setup : IsSetup plan.workers plan.setup
  pub book : IsBook plan.workers plan.book
  pub hosts : length plan.hosts ≤ most_hosts
