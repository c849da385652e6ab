-- What the only pass knows of the value at the end.
use Rattle.std.proofs.Common.{◌≡◌, ℕ, ◌<◌, inl, List, sym, refl, ap, ◌∙◌, subst, arith}
use Rattle.std.specs.Prelude.{Option, Some}
use Rattle.std.specs.List.{All}
use mathlib.Core.Option.{some, some-injective}
use mathlib.Core.Logic.{dite}
use native.Mathlib.Decide.{dec_lt}
use lib.ListN.{get_elem?}
use Rattle.atomic_table.specs.Seated.{TableId}
use Rattle.atomic_table.specs.Table.{Final, Seen}
use Rattle.mq_turn.specs.declared.view.Stage.TheVariants.{Idle, Serving}
use Rattle.mq_turn.specs.declared.view.View.{View}
use Rattle.mq_turn.specs.History.{Fits, by}
use Rattle.mq_turn.specs.Passes.{CountsAs, IsClosed, PassOf, TurnOf}
use Rattle.mq_turn.specs.Rule.{HasTicket, IsLive, HasNumber, IsTurn}
use Rattle.mq_turn.proofs.Moves.{holder}

module _ {V E S : Type 0} (settings_of : V → S) (history_of : V → List E) (settings : S) (maker : E → ℕ) (is_sound : S → List E → Type 0) where
  -- the value is in the slot, and this is known of it
  pub closes : (id : ℕ) (v : View E S) (words : List ℕ) (slots : List (Option V)) (turn : TurnOf S) (pass : PassOf E S) (table : TableId) → turn.settings ≡ settings
      → pass ≡ (record { turn = table; settings = v.settings; number = v.number; seen = v.seen; taken_in = v.taken_in; made = v.made })
      → IsLive settings v → v.stage ≡ Idle → HasNumber 0 v → ((n : ℕ) → n < v.made → HasNumber n v)
      → Final (Seen (IsTurn settings_of history_of settings maker is_sound) id v) words slots
      → (value : V) × (get_elem? slots 0 ≡ some (Some value)) × IsClosed settings_of history_of maker is_sound turn pass value
  closes id v words slots turn pass table turn_is pass_is live idle first all f =
      let s = f.0 in
      let r = f.1.0 in
      let at = f.1.1 in
      let mine = r.stands id v at live in
      let made : v.made ≡ r.made = mine.first first in
      let h = r.slot.home (λ j u t e serves.
      let lives : IsLive settings u = holder settings_of history_of settings maker is_sound s r j t u e (subst (HasTicket t) (sym serves) refl) in
      let less : u.number < r.made = (r.stands j u e lives).below u.number (inl refl) in
      let same : j ≡ id = r.one_number j id u.number u v e at lives live (inl refl) (all u.number (omega arith)) in
      let one : v ≡ u = some-injective v u (sym at ∙ ap (get_elem? s.views) (sym same) ∙ e) in
      let both : Idle ≡ Serving t = sym idle ∙ ap (λ (x : View E S). x.stage) one ∙ serves in cc) in
      let log : r.history ≡ history_of h.value = sym h.history_is in (
        h.value,
        f.4 0 (Some h.value) (ap (λ z. get_elem? z 0) h.homes_are),
        record {
          settings = h.settings_is ∙ sym turn_is;
          sound = subst (λ (p : S × List E). is_sound p.0 p.1) (λ i. (sym turn_is i, log i)) r.sound;
          own = subst (λ (p : PassOf E S × List E). Fits maker p.1 p.0.number p.0.seen) (λ i. (sym pass_is i, log i)) mine.fits;
          each = subst (λ (p : PassOf E S × List E). All (λ k. Fits maker p.1 k.number k.seen) p.0.taken_in) (λ i. (sym pass_is i, log i)) mine.others;
          others = λ n no. ap (by maker n) (sym log) ∙ dite (dec_lt n r.made)
              (λ less. absurd (no (subst (λ (p : PassOf E S). CountsAs n p.number p.taken_in) (sym pass_is) (all n (omega arith)))))
              (λ more. r.unmade n (omega arith));
        },
      )
