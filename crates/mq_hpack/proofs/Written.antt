-- What the encoder writes, field by field.
use Rattle.std.proofs.Common.{◌≡◌, ℕ, ◌+◌, ◌<◌, List, [], ◌∷◌, ◌++◌, length, take, get_or, add-one, refl, sym, ◌∙◌, ap}
use Rattle.std.proofs.lemmas.List.{append_assoc}
use Rattle.std.proofs.Math.Seq.{take-suc}
use Rattle.mq_hpack.specs.declared.field.Field.{Field}
use Rattle.mq_hpack.specs.Encoder.{Appends, AreFields, IsField}

append_none : (xs : List ℕ) → xs ++ [] ≡ xs
append_none [] = refl
append_none (x ∷ xs) = ap (λ ys. x ∷ ys) (append_none xs)

-- one field behind others
pub fields_more : (fs : List Field) (f : Field) (bytes more : List ℕ) → AreFields fs bytes → IsField f more → AreFields (fs ++ f ∷ []) (bytes ++ more)
fields_more [] f bytes more h one =
    let e : bytes ++ more ≡ more ++ [] = ap (λ xs. xs ++ more) h ∙ sym (append_none more) in
    (more, [], one, refl, e)
fields_more (g ∷ fs) f bytes more h one =
    let e : bytes ++ more ≡ h.0 ++ (h.1 ++ more) = ap (λ xs. xs ++ more) h.4 ∙ append_assoc h.0 h.1 more in
    (h.0, h.1 ++ more, h.2, fields_more fs f h.1 more h.3 one, e)

-- the same, of what was written at the end
pub appends_more : (fs : List Field) (f : Field) (old mid new : List ℕ) → Appends old mid (AreFields fs) → Appends mid new (IsField f) → Appends old new (AreFields (fs ++ f ∷ []))
appends_more fs f old mid new a b = record {
  written = a.written ++ b.written;
  appended = b.appended ∙ ap (λ xs. xs ++ b.written) a.appended ∙ append_assoc old a.written b.written;
  are = fields_more fs f a.written b.written a.are b.are;
}

pub appends_none : (old : List ℕ) → Appends old old (AreFields [])
appends_none old = record { written = []; appended = sym (append_none old); are = refl }

-- three pieces, one after another
pub three_more : (old a b c x y z : List ℕ) → x ≡ old ++ a → y ≡ x ++ b → z ≡ y ++ c → z ≡ old ++ (a ++ (b ++ c))
three_more old a b c x y z p q r =
    r ∙ ap (λ xs. xs ++ c) (q ∙ ap (λ xs. xs ++ b) p ∙ append_assoc old a b)
    ∙ append_assoc old (a ++ b) c ∙ ap (λ xs. old ++ xs) (append_assoc a b c)

-- the first elements, and one more
pub take_more : (fs : List Field) (i : ℕ) (f : Field) → i < length fs → f ≡ get_or fs i f → take (i + 1) fs ≡ take i fs ++ f ∷ []
take_more fs i f h e =
    ap (λ k. take k fs) (add-one i) ∙ take-suc fs i f h ∙ ap (λ g. take i fs ++ g ∷ []) (sym e)
