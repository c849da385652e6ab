-- What the entries of one number are, and when they stay.
use Rattle.std.proofs.Common.{◌≡◌, ◌≢◌, ℕ, ◌≤◌, eqb, arith, length-append, ⊎_elim, List, [], ◌∷◌, ◌++◌, length, sym, refl, ap, ◌∙◌, append_assoc, eq-eqb, ne_eqb, ◌⊎◌, inl, inr}
use Rattle.std.proofs.lemmas.List.{append-nil}
use Rattle.std.proofs.lemmas.List.Elements.{filter-append, All-head, All-tail, All-cons, All-nil}
use Rattle.std.specs.List.{All}
use Rattle.std.proofs.lemmas.Bool.{lt-ltb, le-ltb}
use mathlib.Core.Logic.{dite}
use native.Mathlib.Decide.{ℕ_discrete, dec_lt}
use Rattle.mq_turn.specs.declared.view.Known.{Known}
use Rattle.mq_turn.specs.History.{StartsWith, Fits, by, longer, Adds}
use Rattle.mq_turn.specs.Passes.{IsNamed}

module _ {A : Type 0} where
  no_front : (xs ys : List A) → xs ++ ys ≡ [] → xs ≡ []
  no_front [] ys e = refl
  no_front (x ∷ xs) ys e = cc

  same_front : (xs ys : List A) → xs ≡ xs ++ ys → ys ≡ []
  same_front xs [] e = refl
  same_front xs (y ∷ ys) e = (let l : length xs ≡ length (xs ++ y ∷ ys) = ap length e in absurd (omega (arith, length-append xs (y ∷ ys))))

  no_more : (xs ys zs : List A) → xs ≡ (xs ++ ys) ++ zs → zs ≡ []
  no_more xs ys [] e = refl
  no_more xs ys (z ∷ zs) e = (let l : length xs ≡ length ((xs ++ ys) ++ z ∷ zs) = ap length e in absurd (omega (arith, length-append (xs ++ ys) (z ∷ zs), length-append xs ys)))

  -- of two beginnings of one list the shorter begins the longer
  pub nested : (all a b : List A) → StartsWith all a → StartsWith all b → length a ≤ length b → StartsWith b a
  nested all [] b s t le = record { rest = b; is = refl }
  nested all (x ∷ a) [] s t le = absurd (omega arith)
  nested [] (x ∷ a) (y ∷ b) s t le = (let no = s.is in absurd cc)
  nested (z ∷ all) (x ∷ a) (y ∷ b) s t le =
      let p = s.is in
      let q = t.is in
      let one : x ≡ y = cc in
      let n = nested all a b (record { rest = s.rest; is = cc }) (record { rest = t.rest; is = cc }) (omega arith) in
      record { rest = n.rest; is = (λ i. sym one i ∷ n.is i) }

  pub longer_of : (a b : List A) (P : List A → Type 0) → (length b ≤ length a → P a) → (length a ≤ length b → P b) → P (longer a b)
  longer_of a b P at_a at_b = dite (dec_lt (length a) (length b))
      (λ lt. rw (lt-ltb (length a) (length b) lt) (at_b (omega arith)))
      (λ ge. rw (le-ltb (length a) (length b) (omega arith)) (at_a (omega arith)))

module _ {E : Type 0} (maker : E → ℕ) where
  named_first : (n : ℕ) (x : E) (xs : List E) → maker x ≡ n → by maker n (x ∷ xs) ≡ x ∷ by maker n xs
  named_first n x xs is = rw (eq-eqb (maker x) n is) refl

  other_first : (n : ℕ) (x : E) (xs : List E) → maker x ≢ n → by maker n (x ∷ xs) ≡ by maker n xs
  other_first n x xs ne = rw (ne_eqb (maker x) n ne) refl

  -- of entries that all name this number, none is left out
  pub by_all : (n : ℕ) (xs : List E) → All (λ e. maker e ≡ n) xs → by maker n xs ≡ xs
  by_all n [] all = refl
  by_all n (x ∷ xs) all = rw (eq-eqb (maker x) n (All-head (λ e. maker e ≡ n) x xs all)) (ap (λ (l : List E). x ∷ l) (by_all n xs (All-tail (λ e. maker e ≡ n) x xs all)))

  -- of entries that all name another, all are
  pub by_none : (n m : ℕ) (xs : List E) → All (λ e. maker e ≡ m) xs → n ≢ m → by maker n xs ≡ []
  by_none n m [] all ne = refl
  by_none n m (x ∷ xs) all ne = rw (ne_eqb (maker x) n (λ e. ne (sym e ∙ All-head (λ e. maker e ≡ m) x xs all))) (by_none n m xs (All-tail (λ e. maker e ≡ m) x xs all) ne)

  pub by_append : (n : ℕ) (xs ys : List E) → by maker n (xs ++ ys) ≡ by maker n xs ++ by maker n ys
  by_append n xs ys = filter-append (λ e. eqb (maker e) n) xs ys

  pub stands_whole : (history seen : List E) (n : ℕ) → seen ≡ history → Fits maker history n seen
  stands_whole history seen n is = record { begins = record { rest = []; is = sym is ∙ sym (append-nil seen) }; own = ap (by maker n) (sym is) }

  -- another has added to the history
  pub fits_more : (old new seen : List E) (n m : ℕ) → Adds maker m old new → n ≢ m → Fits maker old n seen → Fits maker new n seen
  fits_more old new seen n m a ne f = record {
    begins = record { rest = f.begins.rest ++ a.added; is = a.grows ∙ ap (λ (l : List E). l ++ a.added) f.begins.is ∙ append_assoc seen f.begins.rest a.added };
    own = ap (by maker n) a.grows ∙ by_append n old a.added ∙ ap (λ (l : List E). by maker n old ++ l) (by_none n m a.added a.own ne) ∙ append-nil (by maker n old) ∙ f.own;
  }

  pub all_fit_more : (old new : List E) (m : ℕ) (ks : List (Known E)) → Adds maker m old new → ¬ (IsNamed m ks)
      → All (λ k. Fits maker old k.number k.seen) ks → All (λ k. Fits maker new k.number k.seen) ks
  all_fit_more old new m [] a ne all = All-nil (λ (k : Known E). Fits maker new k.number k.seen)
  all_fit_more old new m (k ∷ ks) a ne all = All-cons (λ (k : Known E). Fits maker new k.number k.seen) k ks
      (fits_more old new k.seen k.number m a (λ e. ne (inl e)) (All-head (λ (k : Known E). Fits maker old k.number k.seen) k ks all))
      (all_fit_more old new m ks a (λ e. ne (inr e)) (All-tail (λ (k : Known E). Fits maker old k.number k.seen) k ks all))

  -- what begins a list without entries of a number has none
  pub none_before : (n : ℕ) (history seen : List E) → StartsWith history seen → by maker n history ≡ [] → by maker n seen ≡ []
  none_before n history seen s none = no_front (by maker n seen) (by maker n s.rest) (sym (by_append n seen s.rest) ∙ ap (by maker n) (sym s.is) ∙ none)

  -- of two beginnings, the longer has what the shorter has of a number, if all are there
  fits_between : (history a b : List E) (n : ℕ) → Fits maker history n a → StartsWith history b → StartsWith b a → Fits maker history n b
  fits_between history a b n f s t =
      let whole : by maker n history ≡ by maker n b ++ by maker n s.rest = ap (by maker n) s.is ∙ by_append n b s.rest in
      let half : by maker n b ≡ by maker n a ++ by maker n t.rest = ap (by maker n) t.is ∙ by_append n a t.rest in
      let none : by maker n s.rest ≡ [] = no_more (by maker n a) (by maker n t.rest) (by maker n s.rest) (sym f.own ∙ whole ∙ ap (λ (l : List E). l ++ by maker n s.rest) half) in
      record { begins = s; own = whole ∙ ap (λ (l : List E). by maker n b ++ l) none ∙ append-nil (by maker n b) }

  pub fits_longer : (history a b : List E) (n : ℕ) → Fits maker history n a → StartsWith history b → Fits maker history n (longer a b)
  fits_longer history a b n f s = longer_of a b (λ c. Fits maker history n c) (λ _. f) (λ le. fits_between history a b n f s (nested history a b f.begins s le))

  -- others made what goes on from what was seen
  pub none_named : (n : ℕ) (xs : List E) → by maker n xs ≡ [] → All (λ e. maker e ≢ n) xs
  none_named n [] none = All-nil (λ e. maker e ≢ n)
  none_named n (x ∷ xs) none = dite (ℕ_discrete (maker x) n)
      (λ is. (let no : x ∷ by maker n xs ≡ [] = sym (named_first n x xs is) ∙ none in cc))
      (λ ne. All-cons (λ e. maker e ≢ n) x xs ne (none_named n xs (sym (other_first n x xs ne) ∙ none)))

  pub others_made : (n : ℕ) (history seen : List E) (s : StartsWith history seen) → by maker n history ≡ by maker n seen → All (λ e. maker e ≢ n) s.rest
  others_made n history seen s own = none_named n s.rest (same_front (by maker n seen) (by maker n s.rest) (sym own ∙ ap (by maker n) s.is ∙ by_append n seen s.rest))

module _ {E : Type 0} where
  pub named_append : (n : ℕ) (xs ys : List (Known E)) → IsNamed n (xs ++ ys) → IsNamed n xs ⊎ IsNamed n ys
  named_append n [] ys has = inr has
  named_append n (x ∷ xs) ys has = ⊎_elim (λ p. inl (inl p)) (λ p. ⊎_elim (λ q. inl (inr q)) (λ q. inr q) (named_append n xs ys p)) has

  pub named_front : (n : ℕ) (xs ys : List (Known E)) → IsNamed n xs → IsNamed n (xs ++ ys)
  named_front n [] ys has = absurd has
  named_front n (x ∷ xs) ys has = ⊎_elim (λ p. inl p) (λ p. inr (named_front n xs ys p)) has

  pub named_back : (n : ℕ) (xs ys : List (Known E)) → IsNamed n ys → IsNamed n (xs ++ ys)
  named_back n [] ys has = has
  named_back n (x ∷ xs) ys has = inr (named_back n xs ys has)
