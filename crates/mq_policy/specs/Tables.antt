-- What a policy holds.
use Rattle.std.specs.Prelude.{List, refl}
use Rattle.std.specs.Coded.{Coded, code_by, coded×, coded_list}
use Rattle.mq_policy.specs.declared.rule.Rule.{Rule}
use Rattle.mq_policy.specs.contracts.rule.Rule as rule
use Rattle.mq_policy.specs.Names.{NameTable, names_code}

-- the address of each name, and the rules in the order in which they were added
pub record Tables : Type 0 where
  pub names : NameTable
  pub rules : List Rule

-- by which a proof tells two of them apart
abbrev pub tables_code : Coded Tables
tables_code =
    code_by (NameTable × List Rule) (coded× names_code (coded_list rule.the_row.coded)) (λ t. (t.names, t.rules)) (λ p. record { names = p.0; rules = p.1 }) (λ _. refl)
