-- Request targets (RFC 9112, section 3.2).
use Rattle.std.specs.Prelude.{ℕ, Bool, ◌||◌, ◌==◌, List, [], ◌∷◌, drop, codes, Option, Some, None, if◌then◌else◌, nat_eq}
use Rattle.std.specs.List.{starts_with}

-- `/`, `?` or `#`: what ends an authority (RFC 3986, section 3.2)
unfoldable pub ends_authority : ℕ → Bool
ends_authority b = b == 47 || (b == 63 || b == 35)

-- what follows an authority
abbrev pub skip_authority : List ℕ → List ℕ
skip_authority [] = []
skip_authority (b ∷ bs) = if ends_authority b then b ∷ bs else skip_authority bs

-- what follows an authority that isn't empty
abbrev pub behind_authority : List ℕ → Option (List ℕ)
behind_authority [] = None
behind_authority (b ∷ bs) = if ends_authority b then None else Some (skip_authority bs)

-- path and query of a target in origin form (section 3.2.1) or in absolute form (section 3.2.2)
unfoldable pub path_of : List ℕ → Option (List ℕ)
path_of target =
    if starts_with nat_eq target (codes "/") then Some target
    else (if starts_with nat_eq target (codes "http://") then behind_authority (drop 7 target)
    else (if starts_with nat_eq target (codes "https://") then behind_authority (drop 8 target)
    else None))
