-- What settings stand for. Only the crate's own functions cite what stands behind Adds.
use Rattle.std.specs.Prelude.{◌≡◌, ℕ, ◌+◌, ◌<◌, ⊤, Bool, true, false, List, [], ◌∷◌, ◌++◌, length, Option, Some, None, Result, Ok, Err, refl, if◌then◌else◌}
use Rattle.std.specs.List.{All, Any, filter}
use Rattle.std.specs.Coded.{Coded, code_by, coded×, coded_ℕ}
use Rattle.mq_addr.specs.declared.kind.Kind.{Kind}
use Rattle.mq_addr.specs.declared.prefix.Prefix.{Prefix}
use Rattle.mq_addr.specs.declared.range.Range.{Range}
use Rattle.mq_addr.specs.Block.{Overlap}
use Rattle.mq_addr.specs.Ranges.{Precedes}
use Rattle.mq_target.specs.Template.{Shape, well_known}
use Rattle.mq_wire.specs.declared.NoMemory.{NoMemory}
use Rattle.mq_play.specs.contracts.plan.Plan as plan
use Rattle.mq_play.specs.declared.line.SettingLine.{SettingLine}
use Rattle.mq_play.specs.declared.line.SettingLine.TheVariants as told
use Rattle.mq_play.specs.declared.plan.Plan.{Plan}
use Rattle.mq_play.specs.Settings.{MayFollow, is_name, is_rule, most_hosts, most_names, most_routes, most_rules, most_shares, plan_of, with_setting}

-- the plan that was made, and how many names and rules were told
pub record Made : Type 0 where
  pub plan : Plan
  pub names : ℕ
  pub rules : ℕ

-- by which a proof tells two of them apart
abbrev pub made_code : Coded Made
made_code =
    code_by (Plan × (ℕ × ℕ)) (coded× plan.the_row.coded (coded× coded_ℕ coded_ℕ)) (λ m. (m.plan, (m.names, m.rules))) (λ p. record { plan = p.0; names = p.1.0; rules = p.1.1 }) (λ _. refl)

-- these lines were told, in this order
pub record IsSettings (made : Made) (lines : List SettingLine) : Type 0 where
  pub plan : made.plan ≡ plan_of lines
  pub names : made.names ≡ length (filter is_name lines)
  pub rules : made.rules ≡ length (filter is_rule lines)

-- The line stands behind the others; or it may not, and nothing changed; or memory ran out, and nothing changed.
abbrev pub Adds : Made → List SettingLine → SettingLine → Result Bool NoMemory → Made → Type 0
Adds old lines line (Ok true) new = MayFollow lines line × IsSettings new (lines ++ line ∷ [])
Adds old lines line (Ok false) new = ¬ (MayFollow lines line) × (new ≡ old)
Adds old lines line (Err e) new = new ≡ old

-- the template that was told, or the well-known one
abbrev pub known_or : Kind → Option Shape → Shape
known_or kind None = well_known kind
known_or kind (Some shape) = shape

-- the block has no address of one of these
pub record AreApart (blocks : List Prefix) (block : Prefix) : Type 0 where
  pub none : ¬ (Any (λ other. Overlap other block) blocks)

-- each of these comes before the range
abbrev pub MayEnd : List Range → Range → Type 0
MayEnd ranges range = All (λ other. Precedes 0 other range) ranges

-- there is room for one more line of this form
abbrev pub HasRoom : Made → SettingLine → Type 0
HasRoom made (told.Name name addr) = made.names < most_names
HasRoom made (told.Rule said) = made.rules < most_rules
HasRoom made (told.Pool block) = (length made.plan.book.pool < most_shares) × AreApart made.plan.book.pool block × AreApart made.plan.book.reach block
HasRoom made (told.Reach block) = (length made.plan.book.reach < most_shares) × AreApart made.plan.book.pool block × AreApart made.plan.book.reach block
HasRoom made (told.Route range) = (length made.plan.book.routes < most_routes) × MayEnd made.plan.book.routes range
HasRoom made (told.Host addr) = length made.plan.hosts < most_hosts
HasRoom made (told.Workers count) = ⊤
HasRoom made (told.Template kind shape) = ⊤
HasRoom made (told.Mtu size) = ⊤
HasRoom made (told.History size) = ⊤

abbrev pub one_if : Bool → ℕ
one_if test = if test then 1 else 0

-- what one more line makes
abbrev pub with_line : Made → SettingLine → Made
with_line made line =
    record { plan = with_setting made.plan line; names = made.names + one_if (is_name line); rules = made.rules + one_if (is_rule line) }

-- the same of the plan and the counts alone
abbrev pub Grows : Made → SettingLine → Result Bool NoMemory → Made → Type 0
Grows old line (Ok true) new = HasRoom old line × (new ≡ with_line old line)
Grows old line (Ok false) new = ¬ (HasRoom old line) × (new ≡ old)
Grows old line (Err e) new = new ≡ old
