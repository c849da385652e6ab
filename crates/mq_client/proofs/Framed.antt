-- DATA frames of bytes, part by part.
use Rattle.std.proofs.Common.{◌≡◌, ℕ, zero, suc, false, ◌<◌, ◌≤◌, List, [], ◌∷◌, ◌++◌, length, take, drop, refl, sym, ap, ◌∙◌, arith, append_assoc, append-nil}
use Rattle.std.proofs.lemmas.List.{nil_from_length}
use Rattle.mq_frame.specs.declared.frame.Frame.TheVariants.{Content}
use Rattle.mq_frame.specs.Writing.{spelling_of}
use Rattle.mq_client.specs.Asking.{stream}
use Rattle.std.specs.List.{flat_map}
use Rattle.mq_frame.specs.Numbers.{max_frame_size}
use Rattle.mq_client.specs.Sending.{parts, data_frame}

abbrev pub parts_text : ℕ → List ℕ → List ℕ
parts_text n bytes = flat_map data_frame (parts n bytes)

pub no_parts : (n : ℕ) → parts_text n [] ≡ []
unfolding parts
no_parts zero = refl
no_parts (suc n) = refl

pub one_part : (n : ℕ) (bytes : List ℕ) → 0 < length bytes → parts_text (suc n) bytes ≡ data_frame (take max_frame_size bytes) ++ parts_text n (drop max_frame_size bytes)
unfolding parts
one_part n [] some = absurd (omega arith)
one_part n (b ∷ bytes) some = refl

-- no byte is left
pub framed_all : (n : ℕ) (items rest all : List ℕ) → length rest ≤ 0 → items ++ parts_text n rest ≡ all → items ≡ all
framed_all n items rest all none e =
    let nil : rest ≡ [] = nil_from_length rest (omega (arith, none)) in
    sym (append-nil items) ∙ ap (λ (t : List ℕ). items ++ t) (sym (no_parts n)) ∙ ap (λ (r : List ℕ). items ++ parts_text n r) (sym nil) ∙ e

-- one more part was written
pub framed_on : (n m : ℕ) (items rest all front back new : List ℕ) → n ≡ suc m → 0 < length rest → front ≡ take max_frame_size rest
    → back ≡ drop max_frame_size rest → new ≡ items ++ spelling_of (Content stream (front ++ []) (length (front ++ [])) false)
    → items ++ parts_text n rest ≡ all → new ++ parts_text m back ≡ all
framed_on n m items rest all front back new more some front_is back_is is e =
    let part : List ℕ = take max_frame_size rest in
    let text : List ℕ → List ℕ = λ bytes. spelling_of (Content stream bytes (length bytes) false) in
    ap (λ (l : List ℕ). l ++ parts_text m back) (is ∙ ap (λ (b : List ℕ). items ++ text b) (append-nil front ∙ front_is))
    ∙ append_assoc items (text part) (parts_text m back)
    ∙ ap (λ (b : List ℕ). items ++ (text part ++ parts_text m b)) back_is
    ∙ ap (λ (l : List ℕ). items ++ l) (sym (one_part m rest some))
    ∙ ap (λ (k : ℕ). items ++ parts_text k rest) (sym more)
    ∙ e
