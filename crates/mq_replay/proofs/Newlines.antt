-- The first newline of a text.
use Rattle.std.proofs.Common.{◌≡◌, ◌≢◌, ℕ, ◌<◌, List, [], ◌∷◌, ◌++◌, length, get_or, take, drop, sym, ◌∙◌, ap, arith, drop-cons, suc, length-take, eq-eqb}
use Rattle.std.proofs.Common.{None, Some}
use Rattle.std.proofs.lemmas.Bool.{eqb-true}
use Rattle.std.proofs.lemmas.List.{take-append-drop, get_or-take}
use Rattle.memchr.specs.Find.{IsFirstByte, is_byte}
use Rattle.mq_text.specs.Cut.{Lacks, IsCut}

-- a text lacks a byte that stands at none of its places
lacks : (byte : ℕ) (text : List ℕ) → ((k : ℕ) → k < length text → get_or text k 0 ≢ byte) → Lacks byte text
lacks byte [] other = tt
lacks byte (b ∷ bs) other = (other 0 (omega arith), lacks byte bs (λ k within. other (suc k) (omega arith)))

pub nowhere : (byte : ℕ) (text : List ℕ) → IsFirstByte (is_byte byte) text None → Lacks byte text
nowhere byte text none = lacks byte text (λ k within same. none k (omega arith) within (eq-eqb _ _ same))

pub cut_there : (byte : ℕ) (text : List ℕ) (at : ℕ) → IsFirstByte (is_byte byte) text (Some at) → IsCut byte text (take at text) (drop 1 (drop at text))
cut_there byte text at first =
    let here : get_or text at 0 ≡ byte = eqb-true _ _ first.1 in
    let behind : drop at text ≡ get_or text at 0 ∷ drop (suc at) text = drop-cons text at 0 first.0.high in
    let rest : drop 1 (drop at text) ≡ drop (suc at) text = ap (drop 1) behind in
    record {
      is = sym (take-append-drop at text) ∙ ap (λ (xs : List ℕ). take at text ++ xs) (behind ∙ ap (λ (b : ℕ). b ∷ drop (suc at) text) here ∙ ap (λ (xs : List ℕ). byte ∷ xs) (sym rest));
      first = lacks byte (take at text) (λ k within same. let before : k < at = grind (arith, length-take at text) in first.0.before k (omega arith) before (eq-eqb _ _ (sym (get_or-take at text k 0 before) ∙ same)));
    }
