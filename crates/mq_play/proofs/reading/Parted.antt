-- How a part and what stands behind it are cut from a text.
use Rattle.std.proofs.Common.{◌≡◌, ℕ, ◌≤◌, ◌<◌, ◌^◌, List, sym, ap, ◌∙◌, subst, arith}
use Rattle.std.proofs.lemmas.Fmt.{decimal_injective}
use Rattle.mq_text.specs.Cut.{Lacks, IsCut, IsCutOnce}
use Rattle.mq_play.specs.Parts.{Parted, Means, IsNumber}
use Rattle.mq_play.proofs.reading.Lacking.{holds_separator, lacks_decimal}

-- such a part has no space
abbrev pub IsLacking : {A : Type 0} → (List ℕ → A → Type 0) → Type 0
IsLacking {A = A} Is = (text : List ℕ) (value : A) → Is text value → Lacks 32 text

-- such a part is one value
abbrev pub IsSingle : {A : Type 0} → (List ℕ → A → Type 0) → Type 0
IsSingle {A = A} Is = (text : List ℕ) (a b : A) → Is text a → Is text b → a ≡ b

-- without a space there is no part
pub parted_none : {A B : Type 0} (Is : List ℕ → A → Type 0) (Behind : A → List ℕ → B → Type 0) (text : List ℕ) → Lacks 32 text
    → (said : B) → Parted Is Behind text said → ⊥
parted_none Is Behind text lacks said h = holds_separator 32 h.part h.rest (subst (Lacks 32) h.is lacks)

-- the part ends at the first space
pub parted_cut : {A B : Type 0} (Is : List ℕ → A → Type 0) (Behind : A → List ℕ → B → Type 0) → IsCutOnce → IsLacking Is → (text before behind : List ℕ) → IsCut 32 text before behind
    → (said : B) (h : Parted Is Behind text said) → (before ≡ h.part) × (behind ≡ h.rest)
parted_cut Is Behind once lacking text before behind cut said h =
    let other : IsCut 32 text h.part h.rest = record { is = h.is; first = lacking h.part h.first h.says } in
    once 32 text before behind h.part h.rest cut other

-- what stands before the first space is no part
pub parted_other : {A B : Type 0} (Is : List ℕ → A → Type 0) (Behind : A → List ℕ → B → Type 0) → IsCutOnce → IsLacking Is → (text before behind : List ℕ) → IsCut 32 text before behind
    → ((value : A) → Is before value → ⊥) → (said : B) → Parted Is Behind text said → ⊥
parted_other Is Behind once lacking text before behind cut none said h =
    let same = parted_cut Is Behind once lacking text before behind cut said h in
    none h.first (subst (λ (part : List ℕ). Is part h.first) (sym same.0) h.says)

-- what stands behind the part
pub parted_behind : {A B : Type 0} (Is : List ℕ → A → Type 0) (Behind : A → List ℕ → B → Type 0) → IsCutOnce → IsLacking Is → IsSingle Is → (text before behind : List ℕ) → IsCut 32 text before behind
    → (value : A) → Is before value → (said : B) → Parted Is Behind text said → Behind value behind said
parted_behind {A = A} Is Behind once lacking single text before behind cut value says said h =
    let same = parted_cut Is Behind once lacking text before behind cut said h in
    let value_is : h.first ≡ value = single h.part h.first value h.says (subst (λ (part : List ℕ). Is part value) same.0 says) in
    let after = subst (λ (rest : List ℕ). Behind h.first rest said) (sym same.1) h.behind in
    subst (λ (v : A). Behind v behind said) value_is after

-- a text says one thing where each of its parts does
pub parted_once : {A B : Type 0} (Is : List ℕ → A → Type 0) (Behind : A → List ℕ → B → Type 0) → IsCutOnce → IsLacking Is → IsSingle Is
    → ((value : A) → IsSingle (Behind value)) → IsSingle (Parted Is Behind)
parted_once Is Behind once lacking single behind_single text a b h k =
    let mine : IsCut 32 text h.part h.rest = record { is = h.is; first = lacking h.part h.first h.says } in
    behind_single h.first h.rest a b h.behind (parted_behind Is Behind once lacking single text h.part h.rest mine h.first h.says b k)

pub means_once : {A B : Type 0} (Is : List ℕ → A → Type 0) (make : A → B) → IsSingle Is → IsSingle (Means Is make)
means_once Is make single text a b h k = h.said_is ∙ ap make (single text h.value k.value h.says k.says) ∙ sym k.said_is

-- ---- numbers

fits : (high n : ℕ) → high < 2 ^ 64 → n ≤ high → n < 2 ^ 64
fits high n small most = omega arith

pub number_lacks : (low high : ℕ) → high < 2 ^ 64 → IsLacking (IsNumber low high)
number_lacks low high small text n h = subst (Lacks 32) (sym h.is) (lacks_decimal n (fits high n small h.most))

pub number_once : (low high : ℕ) → high < 2 ^ 64 → IsSingle (IsNumber low high)
number_once low high small text m n h k = decimal_injective m n (fits high m small h.most) (fits high n small k.most) (sym h.is ∙ k.is)
