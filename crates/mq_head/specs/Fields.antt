-- What the fields of a request's head say.
use Rattle.std.specs.Prelude.{ℕ, Bool, List, [], ◌∷◌, length, map, codes, if◌then◌else◌, nat_lt, ◌||◌, Option, Some, None, flat_map}
use Rattle.std.specs.List.{filter}
use Rattle.std.specs.Option.{option_or}
use Rattle.mq_addr.specs.declared.kind.Kind.{Kind}
use Rattle.mq_addr.specs.declared.kind.Kind.TheVariants.{Udp, Ip}
use Rattle.mq_head.specs.Lists.{same_text, members, has_member}

-- the values of the fields of this name, in order (names in any letter case: RFC 9110, section 5.1)
unfoldable pub values_of : List ℕ → List (List ℕ × List ℕ) → List (List ℕ)
values_of name fields = map (λ field. field.1) (filter (λ field. same_text field.0 name) fields)

-- the members of all fields of this name, in order (RFC 9110, section 5.3)
abbrev pub members_of : List ℕ → List (List ℕ × List ℕ) → List (List ℕ)
members_of name fields = flat_map members (values_of name fields)

-- how many Host fields there are
abbrev pub hosts : List (List ℕ × List ℕ) → ℕ
hosts fields = length (values_of (codes "host") fields)

-- the kind of tunnel that a protocol name stands for (RFC 9298, section 3.2, and RFC 9484, section 4.1)
unfoldable pub kind_of : List ℕ → Option Kind
kind_of token =
    if same_text token (codes "connect-udp") then Some Udp
    else (if same_text token (codes "connect-ip") then Some Ip else None)

-- the kind of the first of these that stands for one
abbrev pub first_kind : List (List ℕ) → Option Kind
first_kind [] = None
first_kind (member ∷ rest) = option_or (kind_of member) (first_kind rest)

-- the tunnel that Upgrade asks for (RFC 9110, section 7.8)
abbrev pub upgrade_kind : List (List ℕ × List ℕ) → Option Kind
upgrade_kind fields = first_kind (members_of (codes "upgrade") fields)

-- Connection names the upgrade (RFC 9110, sections 7.6.1 and 7.8)
abbrev pub connection_upgrades : List (List ℕ × List ℕ) → Bool
connection_upgrades fields = has_member (codes "upgrade") (members_of (codes "connection") fields)

abbrev pub is_there : List ℕ → List (List ℕ × List ℕ) → Bool
is_there name fields = nat_lt 0 (length (values_of name fields))

-- a field of a request that has content (RFC 9298, section 3.2; RFC 9484, section 4.1; RFC 9297, section 3.2)
abbrev pub has_content : List (List ℕ × List ℕ) → Bool
has_content fields =
    is_there (codes "content-length") fields
    || (is_there (codes "content-type") fields || is_there (codes "transfer-encoding") fields)
