-- That nothing may be printed, and one text behind another.
use Rattle.std.specs.Prelude.{◌≡◌, ℕ, List, [], ◌++◌, Option, Some, None, refl}
use Rattle.std.proofs.Common.{sym, ap, subst, ◌∙◌, MutBor, append_assoc, append-nil}
use Rattle.mq_output.specs.Printing.{Adds, Takes, Prints}
use Rattle.mq_output.specs.declared.output.Output.{Output}

pub adds_none : (a : Option (List ℕ)) → Adds a a []
adds_none None = refl
adds_none (Some taken) = ap (λ (xs : List ℕ). Some xs) (sym (append-nil taken))

pub adds_more : (a b c : Option (List ℕ)) (x y : List ℕ) → Adds a b x → Adds b c y → Adds a c (x ++ y)
adds_more None b c x y p q = let P : Option (List ℕ) → Type 0 = λ o. Adds o c y in subst P p q
adds_more (Some taken) b c x y p q =
    let P : Option (List ℕ) → Type 0 = λ o. Adds o c y in
    let r : c ≡ Some ((taken ++ x) ++ y) = subst P p q in
    r ∙ ap (λ (xs : List ℕ). Some xs) (append_assoc taken x y)

module _ {K : Type 0} where
  pub takes_none : (taken : K → Option (List ℕ)) (o p : Output K) → p.sink ≡ o.sink → Takes taken o p []
  takes_none taken o p same =
      let P : MutBor K → Type 0 = λ s. Adds (taken o.sink.now) (taken s.now) [] in
      record { same_sink = ap (λ (s : MutBor K). s.ghost_name) same; adds = subst P (sym same) (adds_none (taken o.sink.now)) }

  pub takes_more : (taken : K → Option (List ℕ)) (o p q : Output K) (x y : List ℕ) → Takes taken o p x → Takes taken p q y → Takes taken o q (x ++ y)
  takes_more taken o p q x y first next = record {
    same_sink = next.same_sink ∙ first.same_sink;
    adds = adds_more (taken o.sink.now) (taken p.sink.now) (taken q.sink.now) x y first.adds next.adds;
  }

  -- nothing was shown
  pub prints_none : (taken : K → Option (List ℕ)) (o : Output K) → Prints taken o o []
  prints_none taken o = record { written = []; takes = takes_none taken o o refl; is = append-nil o.owed.now.items }

  -- one after the other
  pub prints_more : (taken : K → Option (List ℕ)) (o p q : Output K) (x y : List ℕ) → Prints taken o p x → Prints taken p q y → Prints taken o q (x ++ y)
  prints_more taken o p q x y first next = record {
    written = first.written ++ next.written;
    takes = takes_more taken o p q first.written next.written first.takes next.takes;
    is =
        sym (append_assoc o.owed.now.items x y)
        ∙ ap (λ (xs : List ℕ). xs ++ y) first.is
        ∙ append_assoc first.written p.owed.now.items y
        ∙ ap (λ (xs : List ℕ). first.written ++ xs) next.is
        ∙ sym (append_assoc first.written next.written q.owed.now.items);
  }
