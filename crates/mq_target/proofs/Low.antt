-- A name in lower case is a name in lower case.
use Rattle.std.proofs.Common.{◌≡◌, ℕ, true, List, [], ◌∷◌, length, map, ap, ◌∙◌, refl, arith}
use Rattle.std.proofs.lemmas.Bool.{and_parts, and_from}
use Rattle.std.proofs.lemmas.Bool.Decides.{nat_tests}
use Rattle.std.proofs.lemmas.List.{length-map}
use Rattle.std.proofs.lemmas.Str.Ascii.{lowercase-lowercase}
use Rattle.std.specs.List.{list_all}
use Rattle.std.specs.Char.{to_ascii_lowercase}
use Rattle.mq_target.specs.Classes.{is_name_byte}
use Rattle.mq_target.specs.Names.{IsName, IsLowercaseName}

low_byte : (b : ℕ) → is_name_byte b ≡ true → is_name_byte (to_ascii_lowercase b) ≡ true
unfolding is_name_byte
low_byte b h = grind (arith, nat_tests)

low_bytes : (text : List ℕ) → list_all is_name_byte text ≡ true → list_all is_name_byte (map to_ascii_lowercase text) ≡ true
low_bytes [] h = refl
low_bytes (b ∷ text) h =
    let parts = and_parts (is_name_byte b) (list_all is_name_byte text) h in
    and_from _ _ (low_byte b parts.0) (low_bytes text parts.1)

lowered_again : (text : List ℕ) → map to_ascii_lowercase (map to_ascii_lowercase text) ≡ map to_ascii_lowercase text
lowered_again [] = refl
lowered_again (b ∷ text) =
    ap (λ (c : ℕ). c ∷ map to_ascii_lowercase (map to_ascii_lowercase text)) (lowercase-lowercase b)
    ∙ ap (λ (bs : List ℕ). to_ascii_lowercase b ∷ bs) (lowered_again text)

pub low_name : (text : List ℕ) → IsName text → IsLowercaseName (map to_ascii_lowercase text)
low_name text h = record {
  form = record {
    some = rw (length-map text to_ascii_lowercase) h.some;
    short = rw (length-map text to_ascii_lowercase) h.short;
    bytes = low_bytes text h.bytes;
  };
  lower = lowered_again text;
}
