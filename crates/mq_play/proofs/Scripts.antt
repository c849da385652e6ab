-- Scripts whose lines are good, scripts with a bad line, and plays that stop.
use Rattle.std.proofs.Common.{◌≡◌, ℕ, ◌+◌, ◌≤◌, inl, inr, List, [], ◌∷◌, ◌++◌, length, refl, sym, ap, subst, ◌∙◌, arith, append_assoc, append-nil}
use Rattle.std.proofs.lemmas.List.{length-append}
use Rattle.mq_play.specs.declared.line.Line.{Line}
use Rattle.mq_play.specs.declared.line.Line.TheVariants as line
use Rattle.mq_play.specs.declared.line.SettingLine.{SettingLine}
use Rattle.mq_play.specs.Text.{printed, Bad}
use Rattle.mq_play.specs.Play.{Fate, Until, TheEnd, SomeStop, Stage, Settings, Running, opening, Sets, IsUnset, IsBadHere, IsWrong, LinePlays, PlaysLine, Plays}
use Rattle.mq_play.specs.Script.{lines_of, text_of, held, script_limit, Fits, IsBad, IsPlayed, IsPlayedSoFar, IsPlayedBad, IsFrontOf, IsPlayedPart}
use Rattle.mq_play.specs.Laws.{Alike, AllAlike}
use Rattle.mq_play.proofs.Plays.{Known, behind, ends_same, plays_lawful, line_front}
use Rattle.mq_play.proofs.Sure.{lawful_opening}
use Rattle.mq_play.proofs.Cuts.{fronts, last_same, front_lines, is_cut, held_most, held_more}

-- ---- how steps went

alike_back : (f g : List Fate) → Alike f g → Alike g f
alike_back [] [] h = tt
alike_back [] (y ∷ g) h = tt
alike_back (x ∷ f) [] h = tt
alike_back (x ∷ f) (y ∷ g) h = (sym h.0, alike_back f g h.1)

all_back : (f g : List (List Fate)) → AllAlike f g → AllAlike g f
all_back [] [] h = tt
all_back [] (y ∷ g) h = tt
all_back (x ∷ f) [] h = tt
all_back (x ∷ f) (y ∷ g) h = (alike_back x y h.0, all_back f g h.1)

all_front : (f more g : List (List Fate)) → AllAlike (f ++ more) g → AllAlike f g
all_front [] more g h = tt
all_front (x ∷ f) more [] h = tt
all_front (x ∷ f) more (y ∷ g) h = (h.0, all_front f more g h.1)

all_end : (f g : List (List Fate)) → AllAlike f g → AllAlike (f ++ []) g
all_end f g h = subst (λ (x : List (List Fate)). AllAlike x g) (sym (append-nil f)) h

-- ---- a line that is played isn't bad

set_not_unset : (s : Stage) (said : SettingLine) (new : Stage) → Sets s said new → IsUnset s said → ⊥
set_not_unset (Settings lines) said new x bad = bad x.0
set_not_unset (Running state) said new x bad = x

not_bad_here : (until : Until) (s : Stage) (said : Line) (f : List Fate) (text : List ℕ) (new : Stage) → LinePlays until s said f text new → IsBadHere s said → ⊥
not_bad_here until s line.Blank f text new x bad = bad
not_bad_here until s (line.Setting said) f text new x bad = set_not_unset s said new x.0 bad
not_bad_here until s (line.Happens event) f text new x bad = let good = x.0 in cc
not_bad_here until s (line.Steps actor count) f text new x bad = let good = x.0 in cc
not_bad_here until s (line.Run count) f text new x bad = bad

module _ (known : Known) where
  not_wrong : (until : Until) (s new : Stage) (l : List ℕ) (f : List Fate) (text : List ℕ) → PlaysLine until s l f text new → IsWrong s l → ⊥
  not_wrong until s new l f text x (inl none) = none x.said x.says
  not_wrong until s new l f text x (inr (said, says, bad)) =
      let P : Line → Type 0 = λ other. IsBadHere s other in
      not_bad_here until s x.said f text new x.plays (subst P (known.says l said x.said says x.says) bad)

  -- nor is it where its bytes are within the script's limit
  not_bad : (script : List ℕ) (before : List (List ℕ)) (until : Until) (s new : Stage) (l : List ℕ) (f : List Fate) (text : List ℕ)
      → Fits script (before ++ l ∷ []) → PlaysLine until s l f text new → IsBad script before s l → ⊥
  not_bad script before until s new l f text fits x (inl wrong) = not_wrong until s new l f text x wrong
  not_bad script before until s new l f text fits x (inr (inl long)) = let short = x.fits in omega arith
  not_bad script before until s new l f text fits x (inr (inr past)) = omega arith

  -- the first of lines that are played
  first_played : (s new : Stage) (l : List ℕ) (lines : List (List ℕ)) (g : List (List Fate)) (t : List ℕ) → Plays s (l ∷ lines) g t new
      → (mid : Stage) × (f : List Fate) × (shown : List ℕ) × (rest : List ℕ) × (more : List (List Fate)) × (g ≡ f ∷ more) × PlaysLine TheEnd s l f shown mid × (t ≡ shown ++ rest)
  first_played s new l lines [] t x = absurd x
  first_played s new l lines (f ∷ more) t x = (x.0, f, x.1, x.2, more, refl, x.3, x.5)

  -- where one play says that a line is bad, no other goes on with it
  played_not_bad : (script : List ℕ) (before : List (List ℕ)) (l : List ℕ) (lines : List (List ℕ)) (f g : List (List Fate)) (s t : List ℕ) (here new : Stage)
      → AllAlike f g → Fits script (before ++ l ∷ []) → Plays opening before f s here → Plays opening (before ++ l ∷ lines) g t new → IsBad script before here l → ⊥
  played_not_bad script before l lines f g s t here new same fits x y bad =
      let on = behind known before (l ∷ lines) opening here new f g [] s t lawful_opening (all_end f g same) x y in
      let p = first_played here new l lines on.fates on.rest on.plays in
      not_bad script before TheEnd here p.0 l p.1 p.2 fits p.6 bad

  fits_whole : (script : List ℕ) (lines : List (List ℕ)) → length script ≤ script_limit → Fits script lines
  fits_whole script lines h = let most = held_most script lines in omega arith

  fits_front : (script : List ℕ) (before : List (List ℕ)) (l : List ℕ) (more : List (List ℕ)) → Fits script (before ++ l ∷ more) → Fits script (before ++ l ∷ [])
  fits_front script before l more h =
      let less = held_more script (before ++ l ∷ []) more in
      let same : (before ++ l ∷ []) ++ more ≡ before ++ l ∷ more = append_assoc before (l ∷ []) more in
      let whole : held script ((before ++ l ∷ []) ++ more) ≡ held script (before ++ l ∷ more) = ap (λ (ls : List (List ℕ)). held script ls) same in
      omega arith

  -- ---- good and bad scripts

  pub good_not_bad : (script a b : List ℕ) (p : IsPlayed script a) (q : IsPlayedBad script b) → AllAlike p.fates q.fates → ⊥
  good_not_bad script a b p q same =
      let P : List (List ℕ) → Type 0 = λ ls. Plays opening ls p.fates a p.new in
      played_not_bad script q.before q.line q.after q.fates p.fates q.text a q.here p.new (all_back p.fates q.fates same)
      (fits_whole script (q.before ++ q.line ∷ []) p.fits) q.reached.plays (subst P q.reached.is p.plays) q.bad

  pub one_played : (script a b : List ℕ) (p : IsPlayed script a) (q : IsPlayed script b) → AllAlike p.fates q.fates → (a ≡ b) × (p.new ≡ q.new)
  one_played script a b p q same = ends_same known (lines_of script) opening p.new q.new p.fates q.fates a b lawful_opening same p.plays q.plays

  pub one_so_far : (script a b : List ℕ) (p : IsPlayedSoFar script a) (q : IsPlayedSoFar script b) → AllAlike p.fates q.fates → (a ≡ b) × (p.new ≡ q.new)
  one_so_far script a b p q same =
      let lines = last_same p.lines q.lines p.begun q.begun (sym p.is ∙ q.is) in
      let P : List (List ℕ) → Type 0 = λ ls. Plays opening ls q.fates b q.new in
      ends_same known p.lines opening p.new q.new p.fates q.fates a b lawful_opening same p.plays (subst P (sym lines.0) q.plays)

  -- the later of two bad lines was played
  none_later : (script a b : List ℕ) (p : IsPlayedBad script a) (q : IsPlayedBad script b) (l : List ℕ) (more : List (List ℕ)) → AllAlike p.fates q.fates
      → q.before ≡ p.before ++ l ∷ more → p.line ∷ p.after ≡ (l ∷ more) ++ q.line ∷ q.after → ⊥
  none_later script a b p q l more same is rest =
      let line_is : p.line ≡ l = cc in
      let P : List (List ℕ) → Type 0 = λ ls. Plays opening ls q.fates q.text q.here in
      let Q : List (List ℕ) → Type 0 = λ ls. Fits script ls in
      let R : List ℕ → Type 0 = λ x. IsBad script p.before p.here x in
      played_not_bad script p.before l more p.fates q.fates p.text q.text p.here q.here same
      (fits_front script p.before l more (subst Q is q.reached.fits)) p.reached.plays (subst P is q.reached.plays) (subst R line_is p.bad)

  pub one_before : (script a b : List ℕ) (p : IsPlayedBad script a) (q : IsPlayedBad script b) → AllAlike p.fates q.fates → p.before ≡ q.before
  one_before script a b p q same =
      elim (fronts p.before (p.line ∷ p.after) q.before (q.line ∷ q.after) (sym p.reached.is ∙ q.reached.is)) [
        | inl ([], is, rest) ↦ sym (append-nil p.before) ∙ sym is
        | inl (l ∷ more, is, rest) ↦ absurd (none_later script a b p q l more same is rest)
        | inr (l, more, is, rest) ↦ absurd (none_later script b a q p l more (all_back p.fates q.fates same) is rest)
      ]

  -- the same lines before the bad one print one text
  same_before : (script a b : List ℕ) (p : IsPlayedBad script a) (q : IsPlayedBad script b) → AllAlike p.fates q.fates → p.before ≡ q.before → (p.text ≡ q.text) × (p.here ≡ q.here)
  same_before script a b p q same is =
      let P : List (List ℕ) → Type 0 = λ ls. Plays opening ls q.fates q.text q.here in
      ends_same known p.before opening p.here q.here p.fates q.fates p.text q.text lawful_opening same p.reached.plays (subst P (sym is) q.reached.plays)

  bad_text : (a b : List ℕ) (m n : List (List ℕ)) → a ≡ b → m ≡ n → a ++ printed (Bad (length m + 1)) ≡ b ++ printed (Bad (length n + 1))
  bad_text a b m n e f = ap (λ (x : List ℕ). x ++ printed (Bad (length m + 1))) e ∙ ap (λ (ls : List (List ℕ)). b ++ printed (Bad (length ls + 1))) f

  pub one_bad : (script a b : List ℕ) (p : IsPlayedBad script a) (q : IsPlayedBad script b) → AllAlike p.fates q.fates → (a ≡ b) × (p.here ≡ q.here)
  one_bad script a b p q same =
      let is = one_before script a b p q same in
      let both = same_before script a b p q same is in
      (p.out_is ∙ bad_text p.text q.text p.before q.before both.0 is ∙ sym q.out_is, both.1)

  -- ---- plays that stopped

  longer : (out text whole : List ℕ) → IsFrontOf out text → IsFrontOf text whole → IsFrontOf out whole
  longer out text whole x y = (x.0 ++ y.0, y.1 ∙ ap (λ (s : List ℕ). s ++ y.0) x.1 ∙ append_assoc out x.0 y.0)

  -- the part that a line printed stands behind what those before it printed
  part_front : (s part t rest shown more : List ℕ) → t ≡ s ++ rest → rest ≡ shown ++ more → IsFrontOf part shown → IsFrontOf (s ++ part) t
  part_front s part t rest shown more is rest_is front =
      let end : rest ≡ part ++ (front.0 ++ more) = rest_is ∙ ap (λ (x : List ℕ). x ++ more) front.1 ∙ append_assoc part front.0 more in
      (front.0 ++ more, is ∙ ap (λ (x : List ℕ). s ++ x) end ∙ sym (append_assoc s part (front.0 ++ more)))

  no_part : (s part t rest : List ℕ) → t ≡ s ++ rest → part ≡ [] → IsFrontOf (s ++ part) t
  no_part s part t rest is none = (rest, is ∙ ap (λ (x : List ℕ). x ++ rest) (sym (append-nil s) ∙ ap (λ (x : List ℕ). s ++ x) (sym none)))

  alike_first : (f x : List Fate) (g more : List (List Fate)) → AllAlike (f ∷ []) g → g ≡ x ∷ more → Alike f x
  alike_first f x g more h e = (subst (λ (y : List (List Fate)). AllAlike (f ∷ []) y) e h).0

  -- What was printed is a front of what more lines print, which are good.
  stops_front : (script out : List ℕ) (p : IsPlayedPart script out) (l : List ℕ) (more : List (List ℕ)) (g : List (List Fate)) (t : List ℕ) (new : Stage)
      → AllAlike (p.fates ++ p.last ∷ []) g → (e : (rest : List (List ℕ)) × (p.after ≡ (l ∷ more) ++ rest)) → Fits script (p.before ++ l ∷ []) → Plays opening (p.before ++ l ∷ more) g t new
      → IsFrontOf (p.text ++ p.part) t
  stops_front script out p l more g t new same e fits y =
      let on = behind known p.before (l ∷ more) opening p.here new p.fates g (p.last ∷ []) p.text t lawful_opening same p.reached.plays y in
      let q = first_played p.here new l more on.fates on.rest on.plays in
      let lawful = plays_lawful p.before opening p.here p.fates p.text lawful_opening p.reached.plays in
      elim p.stops [
        | inl none ↦ no_part p.text p.part t on.rest on.is none.1
        | inr (inl stop) ↦ (
            let is : (l ∷ more) ++ e.0 ≡ stop.line ∷ stop.others = sym e.1 ∙ stop.is in
            let line_is : stop.line ≡ l = cc in
            let P : List ℕ → Type 0 = λ x. PlaysLine SomeStop p.here x p.last p.part stop.new in
            part_front p.text p.part t on.rest q.2 q.3 on.is q.7
            (line_front known p.here l p.last q.1 p.part q.2 stop.new q.0 lawful (alike_first p.last q.1 on.fates q.4 on.alike q.5) (subst P line_is stop.plays) q.6)
            )
        | inr (inr bad) ↦ (
            let is : (l ∷ more) ++ e.0 ≡ bad.1.line ∷ bad.1.others = sym e.1 ∙ bad.1.is in
            let line_is : bad.1.line ≡ l = cc in
            let R : List ℕ → Type 0 = λ x. IsBad script p.before p.here x in
            absurd (not_bad script p.before TheEnd p.here q.0 l q.1 q.2 fits q.6 (subst R line_is bad.1.bad))
            )
      ]

  -- behind all lines of the script no line is left to stop in
  none_left : (script out : List ℕ) (p : IsPlayedPart script out) → p.after ≡ [] → p.part ≡ []
  none_left script out p none =
      elim p.stops [
        | inl x ↦ x.1
        | inr (inl stop) ↦ (let e : [] ≡ stop.line ∷ stop.others = sym none ∙ stop.is in absurd cc)
        | inr (inr bad) ↦ (let e : [] ≡ bad.1.line ∷ bad.1.others = sym none ∙ bad.1.is in absurd cc)
      ]

  good_front : (script out whole : List ℕ) (p : IsPlayedPart script out) (q : IsPlayed script whole) (after : List (List ℕ)) → p.after ≡ after → AllAlike (p.fates ++ p.last ∷ []) q.fates → IsFrontOf (p.text ++ p.part) whole
  good_front script out whole p q [] e same =
      let P : List (List ℕ) → Type 0 = λ ls. Plays opening ls q.fates whole q.new in
      let plays = subst P (p.reached.is ∙ ap (λ (ls : List (List ℕ)). p.before ++ ls) e) q.plays in
      let on = behind known p.before [] opening p.here q.new p.fates q.fates (p.last ∷ []) p.text whole lawful_opening same p.reached.plays plays in
      no_part p.text p.part whole on.rest on.is (none_left script out p e)
  good_front script out whole p q (l ∷ more) e same =
      let P : List (List ℕ) → Type 0 = λ ls. Plays opening ls q.fates whole q.new in
      let plays = subst P (p.reached.is ∙ ap (λ (ls : List (List ℕ)). p.before ++ ls) e) q.plays in
      stops_front script out p l more q.fates whole q.new same ([], e ∙ sym (append-nil (l ∷ more))) (fits_whole script (p.before ++ l ∷ []) q.fits) plays

  pub part_is_front : (script out whole : List ℕ) (p : IsPlayedPart script out) (q : IsPlayed script whole) → AllAlike (p.fates ++ p.last ∷ []) q.fates → IsFrontOf out whole
  part_is_front script out whole p q same = longer out (p.text ++ p.part) whole p.front (good_front script out whole p q p.after refl same)

  -- what a play printed that stopped where the other found a bad line, or said that
  at_bad : (script out whole : List ℕ) (p : IsPlayedPart script out) (q : IsPlayedBad script whole) → AllAlike p.fates q.fates → q.before ≡ p.before → p.after ≡ q.line ∷ q.after → IsFrontOf (p.text ++ p.part) whole
  at_bad script out whole p q same is after_is =
      let P : List (List ℕ) → Type 0 = λ ls. Plays opening ls q.fates q.text q.here in
      let both = ends_same known p.before opening p.here q.here p.fates q.fates p.text q.text lawful_opening same p.reached.plays (subst P is q.reached.plays) in
      let text_is : whole ≡ p.text ++ printed (Bad (length p.before + 1)) = q.out_is ∙ bad_text q.text p.text q.before p.before (sym both.0) is in
      elim p.stops [
        | inl none ↦ no_part p.text p.part whole (printed (Bad (length p.before + 1))) text_is none.1
        | inr (inl stop) ↦ (
            let line : q.line ∷ q.after ≡ stop.line ∷ stop.others = sym after_is ∙ stop.is in
            let line_is : q.line ≡ stop.line = cc in
            let R : List ℕ → Type 0 = λ x. IsBad script p.before p.here x in
            let S : List (List ℕ) → Type 0 = λ ls. IsBad script ls p.here q.line in
            let T : Stage → Type 0 = λ s. IsBad script q.before s q.line in
            absurd (not_bad script p.before SomeStop p.here stop.new stop.line p.last p.part stop.fits stop.plays (subst R line_is (subst S is (subst T (sym both.1) q.bad))))
            )
        | inr (inr bad) ↦ ([], text_is ∙ ap (λ (x : List ℕ). p.text ++ x) (sym bad.1.part_is) ∙ sym (append-nil (p.text ++ p.part)))
      ]

  bad_front : (script out whole : List ℕ) (p : IsPlayedPart script out) (q : IsPlayedBad script whole) → AllAlike (p.fates ++ p.last ∷ []) q.fates → IsFrontOf (p.text ++ p.part) whole
  bad_front script out whole p q same =
      elim (fronts p.before p.after q.before (q.line ∷ q.after) (sym p.reached.is ∙ q.reached.is)) [
        | inl ([], is, rest) ↦ at_bad script out whole p q (all_front p.fates (p.last ∷ []) q.fates same) (is ∙ append-nil p.before) rest
        | inl (l ∷ more, is, rest) ↦ (
            let P : List (List ℕ) → Type 0 = λ ls. Plays opening ls q.fates q.text q.here in
            let Q : List (List ℕ) → Type 0 = λ ls. Fits script ls in
            let front = stops_front script out p l more q.fates q.text q.here same (q.line ∷ q.after, rest) (fits_front script p.before l more (subst Q is q.reached.fits)) (subst P is q.reached.plays) in
            longer (p.text ++ p.part) q.text whole front (printed (Bad (length q.before + 1)), q.out_is)
            )
        | inr (l, more, is, rest) ↦ (
            let line_is : q.line ≡ l = cc in
            let P : List (List ℕ) → Type 0 = λ ls. Plays opening ls p.fates p.text p.here in
            let Q : List (List ℕ) → Type 0 = λ ls. Fits script ls in
            let R : List ℕ → Type 0 = λ x. IsBad script q.before q.here x in
            absurd (played_not_bad script q.before l more q.fates p.fates q.text p.text q.here p.here (all_back p.fates q.fates (all_front p.fates (p.last ∷ []) q.fates same))
            (fits_front script q.before l more (subst Q is p.reached.fits)) q.reached.plays (subst P is p.reached.plays) (subst R line_is q.bad))
            )
      ]

  pub part_is_front_of_bad : (script out whole : List ℕ) (p : IsPlayedPart script out) (q : IsPlayedBad script whole) → AllAlike (p.fates ++ p.last ∷ []) q.fates → IsFrontOf out whole
  part_is_front_of_bad script out whole p q same = longer out (p.text ++ p.part) whole p.front (bad_front script out whole p q same)

  -- ---- what was read

  lines_on : (script more : List ℕ) (lines : List (List ℕ)) (tail : List ℕ) → lines_of script ≡ lines ++ tail ∷ [] → lines_of (script ++ more) ≡ lines ++ lines_of (tail ++ more)
  lines_on script more lines tail e =
      let c = is_cut script lines tail e in
      ap lines_of (ap (λ (xs : List ℕ). xs ++ more) c.is ∙ append_assoc (text_of lines) tail more) ∙ front_lines lines (tail ++ more) c.lines_are

  -- what the whole lines of a script's front print is a part of what the script prints
  abbrev so_far_part : (script more out : List ℕ) → (p : IsPlayedSoFar script out) → IsPlayedPart (script ++ more) out
  so_far_part script more out p =
      let c = is_cut script p.lines p.begun p.is in
      let sum : length script ≡ length (text_of p.lines) + length p.begun = ap (λ (xs : List ℕ). length xs) c.is ∙ length-append (text_of p.lines) p.begun in
      let limit = p.fits in
      record {
        before = p.lines;
        after = lines_of (p.begun ++ more);
        fates = p.fates;
        here = p.new;
        text = out;
        last = [];
        part = [];
        reached = record { is = lines_on script more p.lines p.begun p.is; fits = omega arith; plays = p.plays };
        stops = inl (refl, refl);
        front = ([], refl);
      }

  end_alike : (f g : List (List Fate)) → AllAlike f g → AllAlike (f ++ [] ∷ []) g
  end_alike [] [] h = tt
  end_alike [] (y ∷ g) h = (tt, tt)
  end_alike (x ∷ f) [] h = tt
  end_alike (x ∷ f) (y ∷ g) h = (h.0, end_alike f g h.1)

  pub so_far_is_front : (script more out whole : List ℕ) (p : IsPlayedSoFar script out) (q : IsPlayed (script ++ more) whole) → AllAlike p.fates q.fates → IsFrontOf out whole
  so_far_is_front script more out whole p q same = part_is_front (script ++ more) out whole (so_far_part script more out p) q (end_alike p.fates q.fates same)

  pub so_far_is_front_of_bad : (script more out whole : List ℕ) (p : IsPlayedSoFar script out) (q : IsPlayedBad (script ++ more) whole) → AllAlike p.fates q.fates → IsFrontOf out whole
  so_far_is_front_of_bad script more out whole p q same = part_is_front_of_bad (script ++ more) out whole (so_far_part script more out p) q (end_alike p.fates q.fates same)
