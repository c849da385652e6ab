-- What appends leave.
use Rattle.std.proofs.Common.{◌≡◌, ℕ, List, [], ◌∷◌, ◌++◌, map, refl, sym, ◌∙◌, ap, append_assoc, Result, Ok, Err}
use Rattle.std.proofs.lemmas.List.{append-nil}
use Rattle.mq_addr.specs.declared.entry.Given.{Given}
use Rattle.mq_play.specs.Parts.{space}
use Rattle.mq_play.specs.Script.{IsFrontOf}
use Rattle.mq_play.specs.Text.{newline, spaced, given_text}
use Rattle.mq_script.specs.declared.part.Part.{Part}
use Rattle.mq_script.specs.Words.{Appends, behind_spaces, line_words, part_text}

-- what stood in front before an append stands there after a part of the next
pub front_before : (old text mid new : List ℕ) → mid ≡ old ++ text → IsFrontOf mid new → IsFrontOf old new
front_before old text mid new e f = (text ++ f.0, f.1 ∙ ap (λ (xs : List ℕ). xs ++ f.0) e ∙ append_assoc old text f.0)

-- two appends
pub appends_more : {T E : Type 0} (old text mid more new : List ℕ) (r : Result T E) → mid ≡ old ++ text → Appends mid more new r → Appends old (text ++ more) new r
appends_more old text mid more new (Ok x) e h = h ∙ ap (λ (xs : List ℕ). xs ++ more) e ∙ append_assoc old text more
appends_more old text mid more new (Err x) e h = front_before old text mid new e h

-- words behind a first one stand behind spaces
spaced_is : (word : List ℕ) (words : List (List ℕ)) → spaced (word ∷ words) ≡ word ++ behind_spaces words
spaced_is word [] = sym (append-nil word)
spaced_is word (w ∷ words) = ap (λ (xs : List ℕ). word ++ space ∷ xs) (spaced_is w words)

behind_more : (first second : List (List ℕ)) → behind_spaces (first ++ second) ≡ behind_spaces first ++ behind_spaces second
behind_more [] second = refl
behind_more (w ∷ first) second = ap (λ (xs : List ℕ). (space ∷ w) ++ xs) (behind_more first second) ∙ sym (append_assoc (space ∷ w) (behind_spaces first) (behind_spaces second))

-- a word, its parts, a list and the newline
pub line_is : (word : List ℕ) (parts : List Part) (list : List Given)
    → word ++ (behind_spaces (map part_text parts) ++ (behind_spaces (map given_text list) ++ newline ∷ [])) ≡ spaced (line_words word parts list) ++ newline ∷ []
line_is word parts list =
    let first = behind_spaces (map part_text parts) in
    let second = behind_spaces (map given_text list) in
    ap (λ (xs : List ℕ). word ++ xs) (sym (append_assoc first second (newline ∷ [])))
    ∙ sym (append_assoc word (first ++ second) (newline ∷ []))
    ∙ ap (λ (xs : List ℕ). (word ++ xs) ++ newline ∷ []) (sym (behind_more (map part_text parts) (map given_text list)))
    ∙ ap (λ (xs : List ℕ). xs ++ newline ∷ []) (sym (spaced_is word (map part_text parts ++ map given_text list)))
