-- Whether a stream is live, by the rows.
use Rattle.std.proofs.Common.{◌≡◌, ◌≢◌, ℕ, ◌<◌, ◌∷◌, [], List, All, true, false, length, get_or, map, refl, sym, ap, ◌∙◌, arith, eqb, zero, suc, Option, Some, None}
use Rattle.std.specs.List.{list_any, HoldsAt}
use Rattle.std.specs.Option.{MatchOption, is_some}
use Rattle.std.proofs.lemmas.Bool.{ne_eqb, eq-eqb}
use Rattle.std.proofs.lemmas.List.{length-map}
use Rattle.std.proofs.lemmas.List.Elements.{All-tail}
use Rattle.mq_streams.specs.declared.stream.Stream.{Stream}
use Rattle.mq_streams.specs.History.{History, live, is_live}
use Rattle.mq_streams.specs.Stand.{AreOf}
use Rattle.std.specs.Bool.{IsTrue}
use Rattle.mq_streams.specs.declared.connection.Connection.{Connection}

abbrev pub ids : List Stream → List ℕ
ids rows = map (λ (row : Stream). row.id) rows

found : (rows : List Stream) (at id : ℕ) → at < length rows → ((d : Stream) → (get_or rows at d).id ≡ id) → list_any (λ s. eqb s id) (ids rows) ≡ true
found [] at id within is = absurd (omega arith)
found (row ∷ rows) zero id within is = rw (eq-eqb row.id id (is row)) refl
found (row ∷ rows) (suc at) id within is = grind (arith, found rows at id (omega arith) is)

missing : (rows : List Stream) (id : ℕ) → All (λ row. row.id ≢ id) rows → list_any (λ s. eqb s id) (ids rows) ≡ false
missing [] id none = refl
missing (row ∷ rows) id none = rw (ne_eqb row.id id (none 0 row (omega arith))) (missing rows id (All-tail (λ (r : Stream). r.id ≢ id) row rows none))

module _ (h : History) (rows : List Stream) (are : ids rows ≡ live h) (id : ℕ) where
  pub is_live_at : (at : ℕ) → at < length rows → ((d : Stream) → (get_or rows at d).id ≡ id) → is_live id h ≡ true
  is_live_at at within is = rw (← are) (found rows at id within is)

  pub is_not_live : All (λ row. row.id ≢ id) rows → is_live id h ≡ false
  is_not_live none = rw (← are) (missing rows id none)

-- a live stream has a row
pub live_is_found : (h : History) (b f : ℕ) (c : Connection) (rows : List Stream) → AreOf h b f c rows → (id : ℕ) → All (λ row. row.id ≢ id) rows → IsTrue (is_live id h) → ⊥
live_is_found h b f c rows is id none lives = let no_row = is_not_live h rows is.live_are id none in grind arith

-- as many are live as there are rows
pub live_count : (h : History) (rows : List Stream) → ids rows ≡ live h → length (live h) ≡ length rows
live_count h rows are = sym (ap length are) ∙ length-map rows (λ (row : Stream). row.id)

-- whether a place was found tells whether the stream is live
pub live_test : (h : History) (rows : List Stream) → ids rows ≡ live h → (id : ℕ) (place : Option ℕ) → MatchOption place (All (λ row. row.id ≢ id) rows) (λ at. (at < length rows) × HoldsAt (λ row. row.id ≡ id) rows at) →
    is_some place ≡ is_live id h
live_test h rows are id None none = sym (is_not_live h rows are id none)
live_test h rows are id (Some at) here = sym (is_live_at h rows are id at here.0 here.1)
