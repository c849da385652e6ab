-- Names of hosts (RFC 9298, section 2).
use Rattle.std.specs.Prelude.{◌≡◌, ℕ, ◌≤◌, true, List, length, map}
use Rattle.std.specs.List.{list_all}
use Rattle.std.specs.Char.{to_ascii_lowercase}
use Rattle.mq_target.specs.Classes.{is_name_byte}

-- 1 to 253 letters, digits, `-`, `.` or `_`
pub record IsName (text : List ℕ) : Type 0 where
  pub some : 1 ≤ length text
  pub short : length text ≤ 253
  pub bytes : list_all is_name_byte text ≡ true

-- such a name in lower case
pub record IsLowercaseName (name : List ℕ) : Type 0 where
  pub form : IsName name
  pub lower : map to_ascii_lowercase name ≡ name
