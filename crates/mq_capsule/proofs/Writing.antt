-- What was written is read again.
use Rattle.std.proofs.Common.{◌≡◌, ℕ, ◌^◌, ◌<◌, ◌≤◌, Bool, List, [], ◌∷◌, ◌++◌, length, Option, Some, refl, sym, ap, ◌∙◌, arith, append-nil}
use Rattle.std.proofs.lemmas.Bool.{le-ltb, cond-false}
use Rattle.mq_wire.specs.Integer.{int_of, spelling_of, IsReadAgain}
use Rattle.mq_capsule.specs.declared.item.Item.{Item}
use Rattle.mq_capsule.specs.declared.item.Item.TheVariants.{Datagram}
use Rattle.mq_capsule.specs.Capsule.{Capsule, capsule_of}
use Rattle.mq_capsule.specs.Spelling.{IsInteger, IsSpelling}
use Rattle.mq_capsule.specs.Items.{item_of, datagram_by, max_payload}
use Rattle.mq_capsule.specs.Writing.{capsule_text, datagram}
use Rattle.mq_capsule.proofs.Spelling.{spelled}

-- what is written of an integer is that integer
integer_back : IsReadAgain → (n : ℕ) → n < 2 ^ 62 → IsInteger n (spelling_of n)
integer_back again n l = ap int_of (sym (append-nil (spelling_of n))) ∙ again n [] l

-- and of a capsule that capsule
spelling_back : IsReadAgain → (capsule : Capsule) → capsule.kind < 2 ^ 62 → length capsule.value < 2 ^ 62 → IsSpelling capsule (capsule_text capsule)
spelling_back again capsule k s = record {
  kind = spelling_of capsule.kind;
  size = spelling_of (length capsule.value);
  text_is = refl;
  kind_is = integer_back again capsule.kind k;
  size_is = integer_back again (length capsule.value) s;
}

pub written_back : IsReadAgain → (capsule : Capsule) (rest : List ℕ) → capsule.kind < 2 ^ 62 → length capsule.value < 2 ^ 62
    → capsule_of (capsule_text capsule ++ rest) ≡ Some (capsule, length (capsule_text capsule))
written_back again capsule rest k s = spelled capsule (capsule_text capsule) rest (spelling_back again capsule k s)

-- a Context ID of 0
zero_first : (payload : List ℕ) → int_of (0 ∷ payload) ≡ Some (0, 1)
unfolding int_of
zero_first payload = cond-false _ _ _ (le-ltb (length (0 ∷ payload)) 1 (omega arith))

pub payload_back : (control : Bool) (payload : List ℕ) → length payload ≤ max_payload
    → item_of control (datagram payload) ≡ Some (Datagram 0 payload)
payload_back control payload fits =
    ap (λ (c : Option (ℕ × ℕ)). Some (datagram_by c (0 ∷ payload))) (zero_first payload)
    ∙ ap (λ (i : Item). Some i) (cond-false _ _ _ (le-ltb max_payload (length payload) fits))
