-- Which template a text is (RFC 9298, section 2; RFC 9484, section 3).
use Rattle.std.specs.Prelude.{◌≡◌, ℕ, true, ◌⊎◌, ◌==◌, List, [], ◌∷◌, ◌++◌, codes}
use Rattle.mq_addr.specs.declared.kind.Kind.{Kind}
use Rattle.mq_addr.specs.declared.kind.Kind.TheVariants.{Udp, Ip}
use Rattle.mq_target.specs.declared.shape.Order.{Order}
use Rattle.mq_target.specs.declared.shape.Order.TheVariants.{TargetFirst, TargetLast}
use Rattle.mq_target.specs.Classes.{is_delimiter, begins, ends_or_begins}
use Rattle.mq_target.specs.Form.{opening, closing, question, comma, AreLiterals}

-- a template: what stands before, between and after its two variables
pub record Shape : Type 0 where
  pub kind : Kind
  pub order : Order
  pub before : List ℕ
  pub between : List ℕ
  pub after : List ℕ

-- the two variables of a kind: where to, and the port or protocol
unfoldable pub target_name : Kind → List ℕ
target_name Udp = codes "target_host"
target_name Ip = codes "target"

unfoldable pub detail_name : Kind → List ℕ
detail_name Udp = codes "target_port"
detail_name Ip = codes "ipproto"

abbrev pub first_name : Kind → Order → List ℕ
first_name kind TargetFirst = target_name kind
first_name kind TargetLast = detail_name kind

abbrev pub second_name : Kind → Order → List ℕ
second_name kind TargetFirst = detail_name kind
second_name kind TargetLast = target_name kind

-- what a last `{?a,b}` behind literals means: `?a={a}&b={b}`
abbrev pub pair_shape : Kind → Order → List ℕ → Shape
pair_shape kind order front = record {
  kind = kind;
  order = order;
  before = front ++ question ∷ (first_name kind order ++ codes "=");
  between = codes "&" ++ second_name kind order ++ codes "=";
  after = [];
}

-- a template begins with `/`
abbrev pub IsStart : List ℕ → Type 0
IsStart text = (begins (λ b. b == 47) text ≡ true) × AreLiterals text

-- the literals behind the first variable and behind the second, each of which a value can be told from
pub record AreAround (between after : List ℕ) : Type 0 where
  pub delimited : begins is_delimiter between ≡ true
  pub between_literals : AreLiterals between
  pub ended : ends_or_begins is_delimiter after ≡ true
  pub after_literals : AreLiterals after

-- each variable stands once, with literals around it
pub record IsPlain (text : List ℕ) (shape : Shape) : Type 0 where
  pub is : text ≡ shape.before ++ opening ∷ (first_name shape.kind shape.order ++ closing ∷ (shape.between
      ++ opening ∷ (second_name shape.kind shape.order ++ closing ∷ shape.after)))
  pub start : IsStart shape.before
  pub around : AreAround shape.between shape.after

-- literals, and a last `{?first,second}`, which means `?first={first}&second={second}`
pub record IsPair (text : List ℕ) (shape : Shape) : Type 0 where
  pub front : List ℕ
  pub is : text ≡ front ++ opening ∷ question ∷ (first_name shape.kind shape.order ++ comma ∷ (second_name shape.kind shape.order ++ closing ∷ []))
  pub start : IsStart front
  pub means : shape ≡ pair_shape shape.kind shape.order front

-- the text is this template
abbrev pub IsTemplate : List ℕ → Shape → Type 0
IsTemplate text shape = IsPlain text shape ⊎ IsPair text shape

-- the template of a kind where none is set: `/.well-known/masque/udp/{target_host}/{target_port}/` (RFC 9298, section 3.4) and
-- `/.well-known/masque/ip/{target}/{ipproto}/` (RFC 9484, section 3)
abbrev pub before_well_known : Kind → List ℕ
before_well_known Udp = codes "/.well-known/masque/udp/"
before_well_known Ip = codes "/.well-known/masque/ip/"

abbrev pub well_known : Kind → Shape
well_known kind = record { kind = kind; order = TargetFirst; before = before_well_known kind; between = codes "/"; after = codes "/" }

-- no template of this kind is the text
abbrev pub NoTemplate : Kind → List ℕ → Type 0
NoTemplate kind text = (order : Order) (before between after : List ℕ)
    → ¬ (IsTemplate text (record { kind = kind; order = order; before = before; between = between; after = after }))
