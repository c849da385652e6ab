-- Texts made of a class of bytes.
use Rattle.std.proofs.Common.{◌≡◌, ◌≢◌, ℕ, Bool, true, false, List, [], ◌∷◌, ◌++◌, sym, ◌∙◌, ap, refl}
use Rattle.std.proofs.lemmas.Bool.{and_parts}
use Rattle.std.specs.List.{list_all}
use Rattle.mq_text.specs.Cut.{Lacks}

pub all_lack : (p : ℕ → Bool) (b : ℕ) (text : List ℕ) → p b ≡ false → list_all p text ≡ true → Lacks b text
all_lack p b [] no_b h = tt
all_lack p b (x ∷ xs) no_b h =
    let parts = and_parts (p x) (list_all p xs) h in
    let other : x ≢ b = λ e. (let yes : p b ≡ true = sym (ap p e) ∙ parts.0 in cc) in
    (other, all_lack p b xs no_b parts.1)

pub lacks_none : (b : ℕ) (xs ys : List ℕ) → Lacks b (xs ++ b ∷ ys) → ⊥
lacks_none b [] ys h = h.0 refl
lacks_none b (x ∷ xs) ys h = lacks_none b xs ys h.1

pub lacks_both : (b : ℕ) (xs ys : List ℕ) → Lacks b xs → Lacks b ys → Lacks b (xs ++ ys)
lacks_both b [] ys h k = k
lacks_both b (x ∷ xs) ys h k = (h.0, lacks_both b xs ys h.1 k)

pub cons_lacks : (b x : ℕ) (xs : List ℕ) → x ≢ b → Lacks b xs → Lacks b (x ∷ xs)
cons_lacks b x xs other h = (other, h)
