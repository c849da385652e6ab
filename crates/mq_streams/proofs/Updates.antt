-- Which window is given back next.
use Rattle.std.proofs.Common.{◌≡◌, ℕ, ◌<◌, ◌≤◌, ◌∷◌, [], List, All, Bool, true, false, length, get_or, Option, Some, None, refl, sym, ap, ◌∙◌, subst, arith, leb, zero, suc}
use Rattle.std.specs.List.{find}
use Rattle.std.specs.Option.{option_map}
use Rattle.std.proofs.lemmas.Bool.{le-leb, lt-leb}
use Rattle.mq_streams.specs.History.{History}
use Rattle.mq_streams.specs.Answers.{to_give_back, connection_to_give_back, next_update}
use Rattle.mq_streams.specs.Stand.{AreOf}
use Rattle.mq_streams.specs.declared.stream.Stream.{Stream}
use Rattle.mq_streams.specs.declared.connection.Connection.{Connection}
use Rattle.mq_streams.proofs.Live.{ids}
use Rattle.mq_streams.proofs.Grants.{chosen}
use Rattle.mq_streams.proofs.Rooms.{waits_is, stream_waits_is}

find_first : (p : ℕ → Bool) (rows : List Stream) (at : ℕ) (d : Stream) → at < length rows → p (get_or rows at d).id ≡ true → ((k : ℕ) → k < at → p (get_or rows k d).id ≡ false) → find p (ids rows) ≡ Some (get_or rows at d).id
find_first p [] at d within here before = absurd (omega arith)
find_first p (row ∷ rows) zero d within here before = chosen (p row.id) true _ _ here
find_first p (row ∷ rows) (suc at) d within here before = chosen (p row.id) false _ _ (before 0 (omega arith)) ∙ find_first p rows at d (omega arith) here (λ k below. before (suc k) (omega arith))

find_none : (p : ℕ → Bool) (rows : List Stream) → ((k : ℕ) (d : Stream) → k < length rows → p (get_or rows k d).id ≡ false) → find p (ids rows) ≡ None
find_none p [] all = refl
find_none p (row ∷ rows) all = chosen (p row.id) false _ _ (all 0 row (omega arith)) ∙ find_none p rows (λ k d below. all (suc k) d (omega arith))

module _ (h : History) (b f : ℕ) (c : Connection) (rows : List Stream) (is : AreOf h b f c rows) where
  pub connection_next : 16384 ≤ c.receiving.consumed → Some (0, c.receiving.consumed) ≡ next_update h
  connection_next many =
      let waits = waits_is h b f c rows is in
      ap (λ (n : ℕ). Some (0, n)) waits ∙ sym (chosen (leb 16384 (connection_to_give_back h)) true _ _ (le-leb _ _ (omega arith)))

  abbrev is_due : ℕ → Bool
  is_due id = leb 16384 (to_give_back id h)

  few : c.receiving.consumed < 16384 → next_update h ≡ option_map (λ id. (id, to_give_back id h)) (find is_due (ids rows))
  few many =
      let waits = waits_is h b f c rows is in
      chosen (leb 16384 (connection_to_give_back h)) false _ _ (lt-leb _ _ (omega arith))
      ∙ ap (λ (js : List ℕ). option_map (λ id. (id, to_give_back id h)) (find is_due js)) (sym is.live_are)

  row_due : (k : ℕ) (d : Stream) → k < length rows → (get_or rows k d).receiving.consumed ≡ to_give_back (get_or rows k d).id h
  row_due k d below = stream_waits_is h b f c rows is _ _ (is.each k d below)

  pub none_next : c.receiving.consumed < 16384 → All (λ row. row.receiving.consumed < 16384) rows → None ≡ next_update h
  none_next many all =
      sym (few many ∙ ap (λ (o : Option ℕ). option_map (λ id. (id, to_give_back id h)) o)
      (find_none is_due rows (λ k d below. let e = row_due k d below in let l = all k d below in lt-leb _ _ (omega arith))))

  pub stream_next : c.receiving.consumed < 16384 → (at : ℕ) (old : Stream) → at < length rows → ((d : Stream) → get_or rows at d ≡ old) → 16384 ≤ old.receiving.consumed →
      ((k : ℕ) (d : Stream) → 0 ≤ k → k < at → (get_or rows k d).receiving.consumed < 16384) → Some (old.id, old.receiving.consumed) ≡ next_update h
  stream_next many at old within here due before =
      let same = here old in
      let waits : old.receiving.consumed ≡ to_give_back old.id h = subst (λ (row : Stream). row.receiving.consumed ≡ to_give_back row.id h) same (row_due at old within) in
      let test : is_due (get_or rows at old).id ≡ true = subst (λ (row : Stream). is_due row.id ≡ true) (sym same) (le-leb _ _ (omega arith)) in
      let first : find is_due (ids rows) ≡ Some old.id =
      find_first is_due rows at old within test (λ k below. let e = row_due k old (omega arith) in let l = before k old (omega arith) below in lt-leb _ _ (omega arith))
      ∙ ap (λ (row : Stream). Some row.id) same in
      ap (λ (n : ℕ). Some (old.id, n)) waits ∙ sym (few many ∙ ap (λ (o : Option ℕ). option_map (λ id. (id, to_give_back id h)) o) first)
