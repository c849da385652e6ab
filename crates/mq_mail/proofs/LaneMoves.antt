-- Each move keeps the rule of a lane.
use Rattle.std.proofs.Common.{◌≡◌, ◌≢◌, ℕ, true, false, true≢false, List, [], ◌∷◌, ◌++◌, length, set, sym, refl, ap, ◌∙◌, append_assoc}
use Rattle.std.proofs.lemmas.List.{append-nil}
use mathlib.Core.Option.{some-ne-none}
use Rattle.crossbeam_queue.specs.Fifo.{Pushes, Pops, Forks, Merges, Learns}
use Rattle.mq_mail.specs.declared.lane_rule.Hand.{Hand}
use Rattle.mq_mail.specs.LaneRule.{hand, StartsWith, Fits, IsInOrder}
use Rattle.mq_mail.proofs.Views.{OfEach, each_set, each_more, was_there}

module _ {T : Type 0} where
  starts_none : (put : List T) → StartsWith put []
  starts_none put = record { rest = put; is = refl }

  starts_all : (put told : List T) → told ≡ put → StartsWith put told
  starts_all put told is = record { rest = []; is = sym is ∙ sym (append-nil told) }

  starts_more : (put told xs : List T) → StartsWith put told → StartsWith (put ++ xs) told
  starts_more put told xs s = record { rest = s.rest ++ xs; is = ap (λ (l : List T). l ++ xs) s.is ∙ append_assoc told s.rest xs }

  -- a pass that may do nothing, and was told
  idle : (putter taker : ℕ) (put taken told : List T) (j : ℕ) → StartsWith put told → Fits putter taker put taken j (hand false false [] [] told)
  idle putter taker put taken told j s = record { puts = λ p. absurd (true≢false (sym p)); takes = λ p. absurd (true≢false (sym p)); told = s }

  pub begins : IsInOrder {T = T} [] (hand true true [] [] [] ∷ [])
  begins = record {
    putter = 0;
    taker = 0;
    put = [];
    taken = [];
    whole = refl;
    fits = each_set (Fits 0 0 [] []) (hand true true [] [] [] ∷ []) 0 (hand true true [] [] [])
        (record { puts = λ _. (refl, refl); takes = λ _. (refl, refl); told = starts_none [] })
        (λ j u other e. each_more (λ j u. j ≢ 0 → Fits 0 0 [] [] j u) [] (hand true true [] [] []) (λ j u e. absurd (some-ne-none u (sym e))) (λ other. absurd (other refl)) j u e other);
  }

  pub puts : (n pass : ℕ) (v : Hand T) (x : T) → v.puts ≡ true → Pushes IsInOrder n pass v x (λ w. w ≡ hand v.puts v.takes (v.put ++ x ∷ []) v.taken v.told)
  puts n pass v x may items views _ h at =
      let w : Hand T = hand v.puts v.takes (v.put ++ x ∷ []) v.taken v.told in
      let mine = h.fits pass v at in
      let is = mine.puts may in
      let put : List T = h.put ++ x ∷ [] in (
        w,
        record {
          putter = h.putter;
          taker = h.taker;
          put = put;
          taken = h.taken;
          whole = ap (λ (l : List T). l ++ x ∷ []) h.whole ∙ append_assoc h.taken items (x ∷ []);
          fits = each_set (Fits h.putter h.taker put h.taken) views pass w
              (record { puts = λ _. (is.0, ap (λ (l : List T). l ++ x ∷ []) is.1); takes = mine.takes; told = starts_more h.put v.told (x ∷ []) mine.told })
              (λ j u other e. let old = h.fits j u e in record {
                puts = λ p. absurd (other ((old.puts p).0 ∙ sym is.0));
                takes = old.takes;
                told = starts_more h.put u.told (x ∷ []) old.told;
              });
        },
        refl,
      )

  pub learns_put : (pass : ℕ) (v : Hand T) → v.puts ≡ true → Learns IsInOrder pass v (λ items. (taken : List T) × (v.put ≡ taken ++ items))
  learns_put pass v may items views h at = (h.taken, ((h.fits pass v at).puts may).1 ∙ h.whole)

  pub takes : (pass : ℕ) (v : Hand T) → v.takes ≡ true → Pops IsInOrder pass v (λ x w. w ≡ hand v.puts v.takes v.put (v.taken ++ x ∷ []) v.told)
  takes pass v may x items views h at =
      let w : Hand T = hand v.puts v.takes v.put (v.taken ++ x ∷ []) v.told in
      let mine = h.fits pass v at in
      let is = mine.takes may in
      let taken : List T = h.taken ++ x ∷ [] in (
        w,
        record {
          putter = h.putter;
          taker = h.taker;
          put = h.put;
          taken = taken;
          whole = h.whole ∙ sym (append_assoc h.taken (x ∷ []) items);
          fits = each_set (Fits h.putter h.taker h.put taken) views pass w
              (record { puts = mine.puts; takes = λ _. (is.0, ap (λ (l : List T). l ++ x ∷ []) is.1); told = mine.told })
              (λ j u other e. let old = h.fits j u e in record {
                puts = old.puts;
                takes = λ p. absurd (other ((old.takes p).0 ∙ sym is.0));
                told = old.told;
              });
        },
        refl,
      )

  pub learns_taken : (pass : ℕ) (v : Hand T) → v.takes ≡ true → Learns IsInOrder pass v (λ items. StartsWith (v.taken ++ items) v.told)
  learns_taken pass v may items views h at = let mine = h.fits pass v at in record {
    rest = mine.told.rest;
    is = ap (λ (l : List T). l ++ items) (mine.takes may).1 ∙ sym h.whole ∙ mine.told.is;
  }

  pub parts : (pass : ℕ) (v : Hand T) → v.puts ≡ true → v.takes ≡ true → Forks IsInOrder pass v (hand true false v.put [] []) (hand false true [] v.taken [])
  parts pass v a b items views h at =
      let l : Hand T = hand true false v.put [] [] in
      let r : Hand T = hand false true [] v.taken [] in
      let mine = h.fits pass v at in
      let vs : List (Hand T) = set views pass l in
      let F : ℕ → Hand T → Type 0 = Fits h.putter (length vs) h.put h.taken in
      record {
        putter = h.putter;
        taker = length vs;
        put = h.put;
        taken = h.taken;
        whole = h.whole;
        fits = each_more F vs r
            (each_set F views pass l (record { puts = λ _. mine.puts a; takes = λ p. absurd (true≢false (sym p)); told = starts_none h.put })
            (λ j u other e. let old = h.fits j u e in record {
              puts = old.puts;
              takes = λ p. absurd (other ((old.takes p).0 ∙ sym (mine.takes b).0));
              told = old.told;
            }))
            (record { puts = λ p. absurd (true≢false (sym p)); takes = λ _. (refl, (mine.takes b).1); told = starts_none h.put });
      }

  pub tells : (pass : ℕ) (v : Hand T) → v.puts ≡ true → Forks IsInOrder pass v v (hand false false [] [] v.put)
  tells pass v a items views h at =
      let mine = h.fits pass v at in
      let F : ℕ → Hand T → Type 0 = Fits h.putter h.taker h.put h.taken in
      record {
        putter = h.putter;
        taker = h.taker;
        put = h.put;
        taken = h.taken;
        whole = h.whole;
        fits = each_more F (set views pass v) (hand false false [] [] v.put) (each_set F views pass v mine (λ j u other e. h.fits j u e))
            (idle h.putter h.taker h.put h.taken v.put (length (set views pass v)) (starts_all h.put v.put (mine.puts a).1));
      }

  pub hears : (pass : ℕ) (v : Hand T) (other : ℕ) (w : Hand T) → Merges IsInOrder pass v other w (hand v.puts v.takes v.put v.taken w.told) (hand false false [] [] [])
  hears pass v other w items views h at two at' =
      let both : Hand T = hand v.puts v.takes v.put v.taken w.told in
      let spent : Hand T = hand false false [] [] [] in
      let mine = h.fits pass v at in
      let theirs = h.fits other w (was_there views pass other both w two at') in
      let F : ℕ → Hand T → Type 0 = Fits h.putter h.taker h.put h.taken in
      let now : OfEach F (set views pass both) = each_set F views pass both (record { puts = mine.puts; takes = mine.takes; told = theirs.told }) (λ j u other e. h.fits j u e) in
      record {
        putter = h.putter;
        taker = h.taker;
        put = h.put;
        taken = h.taken;
        whole = h.whole;
        fits = each_set F (set views pass both) other spent (idle h.putter h.taker h.put h.taken [] other (starts_none h.put)) (λ j u apart e. now j u e);
      }

  pub joins : (pass : ℕ) (v : Hand T) (other : ℕ) (w : Hand T) → v.puts ≡ true → w.takes ≡ true
      → Merges IsInOrder pass v other w (hand true true v.put w.taken []) (hand false false [] [] [])
  joins pass v other w a b items views h at two at' =
      let both : Hand T = hand true true v.put w.taken [] in
      let spent : Hand T = hand false false [] [] [] in
      let mine = h.fits pass v at in
      let theirs = (h.fits other w (was_there views pass other both w two at')).takes b in
      let F : ℕ → Hand T → Type 0 = Fits h.putter pass h.put h.taken in
      let Now : ℕ → Hand T → Type 0 = λ j u. j ≢ other → F j u in
      let now : OfEach Now (set views pass both) = each_set Now views pass both
      (λ _. record { puts = λ _. mine.puts a; takes = λ _. (refl, theirs.1); told = starts_none h.put })
      (λ j u _ e apart. let old = h.fits j u e in record {
        puts = old.puts;
        takes = λ p. absurd (apart ((old.takes p).0 ∙ sym theirs.0));
        told = old.told;
      }) in
      record {
        putter = h.putter;
        taker = pass;
        put = h.put;
        taken = h.taken;
        whole = h.whole;
        fits = each_set F (set views pass both) other spent (idle h.putter pass h.put h.taken [] other (starts_none h.put)) (λ j u apart e. now j u e apart);
      }

  pub learns_whole : (pass : ℕ) (v : Hand T) → v.puts ≡ true → v.takes ≡ true → Learns IsInOrder pass v (λ items. v.put ≡ v.taken ++ items)
  learns_whole pass v a b items views h at = let mine = h.fits pass v at in (mine.puts a).1 ∙ h.whole ∙ ap (λ (l : List T). l ++ items) (sym (mine.takes b).1)

  pub drains : (pass : ℕ) (v : Hand T) → v.puts ≡ true → v.takes ≡ true
      → Pops IsInOrder pass v (λ x w. (w ≡ hand v.puts v.takes v.put (v.taken ++ x ∷ []) v.told) × ((rest : List T) × (v.put ≡ v.taken ++ (x ∷ rest))))
  drains pass v a b x items views h at =
      let step = takes pass v b x items views h at in (step.0, step.1, (step.2, (items, learns_whole pass v a b (x ∷ items) views h at)))
