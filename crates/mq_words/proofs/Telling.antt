-- The arguments of a subcommand, and the values that clap tells, id by id.
use Rattle.std.proofs.Common.{◌≡◌, ◌∙◌, ℕ, zero, suc, ◌+◌, ◌<◌, List, [], ◌∷◌, ◌++◌, Option, Some, None, Bor, length, map, drop, option_map, filter_map, fold, slice_index_or, refl, sym, ap, arith, append_assoc}
use Rattle.std.proofs.lemmas.List.{map-append}
use Rattle.clap.specs.Words.{App, Text}
use Rattle.mq_words.specs.CommandLine.{with_value}

abbrev texts_of : List (Bor Text) → List Text
texts_of = map (λ s. s.now)

kept_some : (f : Text → Option Text) (id value : Text) (ids : List Text) → f id ≡ Some value → filter_map f (id ∷ ids) ≡ value ∷ filter_map f ids
kept_some f id value ids is = rw is refl

kept_none : (f : Text → Option Text) (id : Text) (ids : List Text) → f id ≡ None → filter_map f (id ∷ ids) ≡ filter_map f ids
kept_none f id ids is = rw is refl

next_id : (ids : List (Bor Text)) (i : ℕ) (d : Bor Text) → i < length ids → drop i (texts_of ids) ≡ (slice_index_or ids i d).now ∷ drop (suc i) (texts_of ids)
next_id [] i d lt = absurd (omega (arith, lt))
next_id (x ∷ xs) zero d lt = refl
next_id (x ∷ xs) (suc i) d lt = next_id xs i d (omega (arith, lt))

-- one more argument
pub argument_added : (line now : App) (ids : List (Bor Text)) (i : ℕ) (d : Bor Text) (whole : App) → i < length ids → now ≡ with_value line (slice_index_or ids i d).now
    → fold with_value line (drop i (texts_of ids)) ≡ whole → fold with_value now (drop (i + 1) (texts_of ids)) ≡ whole
argument_added line now ids i d whole lt added kept =
    let more : suc i ≡ i + 1 = omega arith in
    let left : drop i (texts_of ids) ≡ (slice_index_or ids i d).now ∷ drop (i + 1) (texts_of ids) =
    next_id ids i d lt ∙ ap (λ (k : ℕ). (slice_index_or ids i d).now ∷ drop k (texts_of ids)) more in
    ap (λ (a : App). fold with_value a (drop (i + 1) (texts_of ids))) added ∙ (ap (fold with_value line) (sym left) ∙ kept)

module _ (f : Text → Option Text) (values now ids : List (Bor Text)) (i : ℕ) (d : Bor Text) (got : Option (Bor Text)) (whole : List Text)
    (lt : i < length ids) (told : option_map (λ s. s.now) got ≡ f (slice_index_or ids i d).now)
    (kept : texts_of values ++ filter_map f (drop i (texts_of ids)) ≡ whole) where
  abbrev left : ℕ → List Text
  left k = filter_map f (drop k (texts_of ids))

  more : suc i ≡ i + 1
  more = omega arith

  -- the id has this value
  pub told_some : (value : Bor Text) → got ≡ Some value → now ≡ values ++ value ∷ [] → texts_of now ++ left (i + 1) ≡ whole
  told_some value is added =
      let found : f (slice_index_or ids i d).now ≡ Some value.now = sym told ∙ ap (option_map (λ (s : Bor Text). s.now)) is in
      let first : left i ≡ value.now ∷ left (i + 1) =
      ap (filter_map f) (next_id ids i d lt) ∙ (kept_some f _ value.now (drop (suc i) (texts_of ids)) found ∙ ap (λ (k : ℕ). value.now ∷ left k) more) in
      ap (λ (xs : List (Bor Text)). texts_of xs ++ left (i + 1)) added
      ∙ (ap (λ (xs : List Text). xs ++ left (i + 1)) (map-append (λ (s : Bor Text). s.now) values (value ∷ []))
      ∙ (append_assoc (texts_of values) (value.now ∷ []) (left (i + 1))
      ∙ (ap (λ (xs : List Text). texts_of values ++ xs) (sym first) ∙ kept)))

  -- the id has none
  pub told_none : got ≡ None → now ≡ values → texts_of now ++ left (i + 1) ≡ whole
  told_none is same =
      let found : f (slice_index_or ids i d).now ≡ None = sym told ∙ ap (option_map (λ (s : Bor Text). s.now)) is in
      let first : left i ≡ left (i + 1) = ap (filter_map f) (next_id ids i d lt) ∙ (kept_none f _ (drop (suc i) (texts_of ids)) found ∙ ap left more) in
      ap (λ (xs : List (Bor Text)). texts_of xs ++ left (i + 1)) same ∙ (ap (λ (xs : List Text). texts_of values ++ xs) (sym first) ∙ kept)
