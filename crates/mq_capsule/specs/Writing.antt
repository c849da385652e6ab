-- The spelling of a capsule, with integers in their shortest form (RFC 9297, section 3.2, and RFC 9000, section 16).
use Rattle.std.specs.Prelude.{◌≡◌, ℕ, ◌^◌, ◌<◌, ◌≤◌, List, ◌∷◌, ◌++◌, length, Some, Bool, true}
use Rattle.mq_wire.specs.Integer.{spelling_of}
use Rattle.mq_capsule.specs.declared.item.Item.TheVariants.{Datagram, Control}
use Rattle.mq_capsule.specs.Capsule.{Capsule, capsule_of}
use Rattle.mq_capsule.specs.Items.{item_of, is_control, max_payload, max_control}

abbrev pub capsule_text : Capsule → List ℕ
capsule_text capsule = spelling_of capsule.kind ++ (spelling_of (length capsule.value) ++ capsule.value)

-- a DATAGRAM of Context ID 0 (RFC 9298, section 5, and RFC 9484, section 6)
abbrev pub datagram : List ℕ → Capsule
datagram payload = record { kind = 0; value = 0 ∷ payload }

-- whatever follows, a capsule that was written is the one at the front
abbrev pub IsWrittenBack : Type 0
IsWrittenBack = (capsule : Capsule) (rest : List ℕ) → capsule.kind < 2 ^ 62 → length capsule.value < 2 ^ 62
    → capsule_of (capsule_text capsule ++ rest) ≡ Some (capsule, length (capsule_text capsule))

-- and it says what was written, where it isn't too long
abbrev pub SaysPayload : Type 0
SaysPayload = (control : Bool) (payload : List ℕ) → length payload ≤ max_payload
    → item_of control (datagram payload) ≡ Some (Datagram 0 payload)

abbrev pub SaysValue : Type 0
SaysValue = (kind : ℕ) (value : List ℕ) → is_control kind ≡ true → length value ≤ max_control
    → item_of true (record { kind = kind; value = value }) ≡ Some (Control kind value)
