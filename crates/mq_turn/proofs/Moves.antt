-- Each step of a call in its turn keeps the rule.
use Rattle.std.proofs.Common.{◌≡◌, ◌≢◌, ℕ, zero, suc, eqb, ◌+◌, ◌^◌, ◌<◌, ◌≤◌, ◌⊎◌, inl, inr, ⊎_elim, List, [], ◌∷◌, map, length, get_or, set, sym, refl, ap, ◌∙◌, subst, arith}
use Rattle.std.specs.Prelude.{Option, Some}
use Rattle.std.specs.Option.{unwrap_or}
use Rattle.std.proofs.lemmas.List.Elements.{All-nil}
use mathlib.Core.Option.{none, some, some-injective, some-ne-none}
use mathlib.Core.Option as maybe
use mathlib.Core.Logic.{dite}
use native.Mathlib.Decide.{ℕ_discrete, dec_lt}
use lib.ListN.{get_elem?}
use prog.Atomic.{either}
use Rattle.atomic_table.specs.Table.{State, Me, Act, step, keeps, takes, gives, Valid, Allows, stepped, carried_after, opening, put_back}
use Rattle.atomic_table.proofs.Lists.{at_set, set_else, set_again, exchanged}
use Rattle.mq_turn.specs.declared.view.Stage.{Stage}
use Rattle.mq_turn.specs.declared.view.Stage.TheVariants.{Idle, Waiting, Serving}
use Rattle.mq_turn.specs.declared.view.View.{View}
use Rattle.mq_turn.specs.declared.view.Known.{Known}
use Rattle.mq_turn.specs.History.{StartsWith, Fits, by, Adds}
use Rattle.mq_turn.specs.Rule.{HasWords, InStage, HasTicket, newcomer, IsLive, HasNumber, Stands, IsHome, IsSlot, IsTurn}
use Rattle.mq_turn.specs.Steps.{Draws, Looks, Publishes, PassesOn}
use Rattle.mq_turn.proofs.Histories.{by_none, by_append, stands_whole, fits_more, all_fit_more}
use Rattle.mq_turn.proofs.Words.{set_next, set_served, set_count}

-- what was set is there
pub there : {A : Type 0} (l : List A) (i : ℕ) (a b : A) → get_elem? l i ≡ some a → get_elem? (set l i b) i ≡ some b
there [] i a b e = absurd (some-ne-none a (sym e))
there (x ∷ xs) zero a b e = refl
there (x ∷ xs) (suc i) a b e = there xs i a b e

-- the value that a seat has in the slot that it took
abbrev in_slot : {V : Type 0} → V → List (ℕ × Option V) → V
in_slot d [] = d
in_slot d (x ∷ xs) = unwrap_or x.1 d

-- the only view
one_view : {A : Type 0} (a : A) (j : ℕ) (b : A) → get_elem? (a ∷ []) j ≡ some b → (j ≡ 0) × (a ≡ b)
one_view a zero b e = (refl, some-injective a b e)
one_view a (suc j) b e = absurd (some-ne-none b (sym e))

ticket_below : {E : Type 0} (next served : ℕ) (history seen : List E) (stage : Stage) (t : ℕ) → InStage next served history seen stage → HasTicket t stage → t < next
ticket_below next served history seen Idle t i h = absurd h
ticket_below next served history seen (Waiting u) t i h = let p = i.1 in omega arith
ticket_below next served history seen (Serving u) t i h = let p = i.1 in omega arith

-- there are more tickets
stage_drawn : {E : Type 0} (next served next' : ℕ) (history seen : List E) (stage : Stage) → next ≤ next' → InStage next served history seen stage → InStage next' served history seen stage
stage_drawn next served next' history seen Idle le i = tt
stage_drawn next served next' history seen (Waiting u) le i = let p = i.1 in (i.0, omega arith)
stage_drawn next served next' history seen (Serving u) le i = let p = i.1 in (i.0, omega arith, i.2)

-- the history went on, or the next number is served, while this pass wasn't
stage_waits : {E : Type 0} (next served served' : ℕ) (history history' seen : List E) (stage : Stage) → ((t : ℕ) → HasTicket t stage → t ≢ served) → served' ≤ served + 1
    → InStage next served history seen stage → InStage next served' history' seen stage
stage_waits next served served' history history' seen Idle ne le i = tt
stage_waits next served served' history history' seen (Waiting u) ne le i = let p = i.0 in let q = ne u refl in (omega arith, i.1)
stage_waits next served served' history history' seen (Serving u) ne le i = absurd (ne u refl i.0)

module _ {V E S : Type 0} (settings_of : V → S) (history_of : V → List E) (settings : S) (maker : E → ℕ) (is_sound : S → List E → Type 0) where
  abbrev W : Type 0
  W = View E S

  abbrev St : Type 0
  St = State (Option V) W

  abbrev M : Type 0
  M = Me (Option V) W

  abbrev Rule : St → Type 0
  Rule = IsTurn settings_of history_of settings maker is_sound

  -- the step can go on from here, to the number k
  abbrev Goes : St → ℕ → ℕ → M → (ℕ → M → Type 0) → ℕ → Type 0
  Goes s i id me then k = (w : W) × (a : Act (Option V)) × Valid s.homes me.1 a × Rule (stepped s i k id me.1 w a) × then (get_or s.words i 0) (w, carried_after me.1 a)

  -- a pass with a ticket stands
  pub holder : (s : St) (r : Rule s) (j t : ℕ) (u : W) → get_elem? s.views j ≡ some u → HasTicket t u.stage → IsLive settings u
  holder s r j t u at has = ⊎_elim (λ live. live) (λ is. absurd (subst (HasTicket t) is has)) (r.idle j u at)

  below_next : (s : St) (r : Rule s) (j t : ℕ) (u : W) → get_elem? s.views j ≡ some u → HasTicket t u.stage → t < r.next
  below_next s r j t u at has = ticket_below r.next r.served r.history u.seen u.stage t (r.stands j u at (holder s r j t u at has)).stage has

  -- who is served has the number that is served
  served_is : (s : St) (r : Rule s) (j t : ℕ) (u : W) → get_elem? s.views j ≡ some u → u.stage ≡ Serving t → t ≡ r.served
  served_is s r j t u at is = (subst (InStage r.next r.served r.history u.seen) is (r.stands j u at (holder s r j t u at (subst (HasTicket t) (sym is) refl))).stage).0

  -- another pass than this has the ticket
  abbrev pub HeldElse : List W → ℕ → ℕ → Type 0
  HeldElse views id t = (j : ℕ) × (u : W) × (j ≢ id) × (get_elem? views j ≡ some u) × HasTicket t u.stage

  -- a ticket that wasn't served yet is this pass's or another's
  pub held_by : (s : St) (r : Rule s) (id : ℕ) (v : W) → get_elem? s.views id ≡ some v → (t : ℕ) → r.served ≤ t → t < r.next → HasTicket t v.stage ⊎ HeldElse s.views id t
  held_by s r id v at t le lt = let p = r.held t le lt in dite (ℕ_discrete p.0 id)
      (λ same. inl (subst (λ (x : W). HasTicket t x.stage) (some-injective p.1 v (sym p.2 ∙ ap (get_elem? s.views) same ∙ at)) p.3))
      (λ other. inr (p.0, p.1, other, p.2, p.3))

  -- one pass stands elsewhere, and the others where they were
  unfoldable pub moved : (s : St) (r : Rule s) (id : ℕ) (v : W) → get_elem? s.views id ≡ some v → IsLive settings v
      → (words : List ℕ) (homes : List (maybe.Option (Option V))) (next served : ℕ) (history : List E) (stage : Stage) (seen : List E) (made known : ℕ)
      → HasWords words next served (length history) → served ≤ next → next ≤ 2 ^ 63 → is_sound settings history
      → ((n : ℕ) → made ≤ n → by maker n history ≡ [])
      → IsSlot settings_of history_of settings homes (set s.views id (record v { stage = stage; seen = seen; made = known })) history
      → Stands maker next served made history (record v { stage = stage; seen = seen; made = known })
      → ((j : ℕ) (u : W) → j ≢ id → get_elem? s.views j ≡ some u → IsLive settings u → Stands maker next served made history u)
      → ((j t : ℕ) (u : W) → j ≢ id → get_elem? s.views j ≡ some u → HasTicket t u.stage → HasTicket t stage → ⊥)
      → ((t : ℕ) → served ≤ t → t < next → HasTicket t stage ⊎ HeldElse s.views id t)
      → Rule record { words = words; homes = homes; views = set s.views id (record v { stage = stage; seen = seen; made = known }) }
  moved s r id v at live words homes next served history stage seen made known are behind bounded sound unmade slot mine others apart held =
      let w : W = record v { stage = stage; seen = seen; made = known } in record {
        next = next;
        served = served;
        made = made;
        history = history;
        words = are;
        behind = behind;
        bounded = bounded;
        slot = slot;
        sound = sound;
        unmade = unmade;
        stands = λ j u e is. ⊎_elim (λ p. subst (Stands maker next served made history) p.1 mine) (λ p. others j u p.0 p.1 is) (at_set s.views id j w u e);
        idle = λ j u e. ⊎_elim (λ p. inl (ap (λ (x : W). x.settings) (sym p.1) ∙ live)) (λ p. r.idle j u p.1) (at_set s.views id j w u e);
        held = λ t le lt. ⊎_elim (λ p. (id, w, there s.views id v w at, p)) (λ p. (p.0, p.1, set_else s.views id p.0 w p.2 ∙ p.3, p.4)) (held t le lt);
        one_ticket = λ i j t a b ea eb ha hb. ⊎_elim
            (λ p. ⊎_elim (λ q. p.0 ∙ sym q.0) (λ q. absurd (apart j t b q.0 q.1 hb (subst (λ (x : W). HasTicket t x.stage) (sym p.1) ha))) (at_set s.views id j w b eb))
            (λ p. ⊎_elim (λ q. absurd (apart i t a p.0 p.1 ha (subst (λ (x : W). HasTicket t x.stage) (sym q.1) hb))) (λ q. r.one_ticket i j t a b p.1 q.1 ha hb) (at_set s.views id j w b eb))
            (at_set s.views id i w a ea);
        one_number = λ i j n a b ea eb la lb ha hb. ⊎_elim
            (λ p. ⊎_elim (λ q. p.0 ∙ sym q.0) (λ q. p.0 ∙ r.one_number id j n v b at q.1 live lb (subst (λ (x : W). HasNumber n x) (sym p.1) ha) hb) (at_set s.views id j w b eb))
            (λ p. ⊎_elim (λ q. r.one_number i id n a v p.1 at la live ha (subst (λ (x : W). HasNumber n x) (sym q.1) hb) ∙ sym q.0) (λ q. r.one_number i j n a b p.1 q.1 la lb ha hb) (at_set s.views id j w b eb))
            (at_set s.views id i w a ea);
      }

  -- nothing changed but that a word was read
  stays : (s : St) (r : Rule s) (id : ℕ) (v : W) → get_elem? s.views id ≡ some v → (words : List ℕ) → HasWords words r.next r.served (length r.history)
      → Rule record { words = words; homes = s.homes; views = set s.views id v }
  stays s r id v at words are = subst (λ (z : List W). Rule record { words = words; homes = s.homes; views = z }) (sym (set_again s.views id v at)) record {
    next = r.next;
    served = r.served;
    made = r.made;
    history = r.history;
    words = are;
    behind = r.behind;
    bounded = r.bounded;
    slot = r.slot;
    sound = r.sound;
    unmade = r.unmade;
    stands = r.stands;
    idle = r.idle;
    held = r.held;
    one_ticket = r.one_ticket;
    one_number = r.one_number;
  }

  -- the slot stays where it is while a pass isn't served
  pub slot_stays : (homes : List (maybe.Option (Option V))) (views : List W) (history : List E) (id : ℕ) (v w : W) → IsSlot settings_of history_of settings homes views history
      → get_elem? views id ≡ some v → ((t : ℕ) → v.stage ≢ Serving t) → ((t : ℕ) → w.stage ≢ Serving t) → IsSlot settings_of history_of settings homes (set views id w) history
  slot_stays homes views history id v w slot at before after = record {
    out = λ j u t e is. ⊎_elim (λ p. absurd (after t (ap (λ (x : W). x.stage) p.1 ∙ is))) (λ p. slot.out j u t p.1 is) (at_set views id j w u e);
    home = λ none. slot.home (λ j u t e is. dite (ℕ_discrete j id)
        (λ same. before t (ap (λ (x : W). x.stage) (some-injective v u (sym at ∙ ap (get_elem? views) (sym same) ∙ e)) ∙ is))
        (λ other. none j u t (set_else views id j w other ∙ e) is));
  }

  pub draws : (n id : ℕ) (me : M) (old : ℕ) → IsLive settings me.0 → me.0.stage ≡ Idle → old < 2 ^ 63
      → Allows Rule n id me 0 (λ y. either (eqb y old) (old + 1) y) (Draws (step n 0 old (old + 1) none) me)
  draws n id me old live is below s r _ at _ = let y : ℕ = get_or s.words 0 0 in let v : W = me.0 in let told = Draws (step n 0 old (old + 1) none) me in
      exchanged y old (old + 1) (Goes s 0 id me told)
      (λ hit. let next_is : y ≡ r.next = r.words.next_is in let behind : r.served ≤ r.next = r.behind in let mine = r.stands id v at live in (
        record v { stage = Waiting y },
        keeps,
        tt,
        moved s r id v at live (set s.words 0 (old + 1)) s.homes (old + 1) r.served r.history (Waiting y) v.seen r.made v.made
            (set_next s.words r.next r.served (length r.history) (old + 1) (old + 1) r.words refl) (omega arith) (omega arith) r.sound r.unmade
            (slot_stays s.homes s.views r.history id v (record v { stage = Waiting y }) r.slot at (λ t e. cc) (λ t e. cc))
            record { stage = let a : r.served ≤ y = omega arith in let b : y < old + 1 = omega arith in (a, b); fits = mine.fits; others = mine.others; once = mine.once; below = mine.below; first = mine.first; later = mine.later }
            (λ j u other e lives. let its = r.stands j u e lives in
            record { stage = stage_drawn r.next r.served (old + 1) r.history u.seen u.stage (omega arith) its.stage; fits = its.fits; others = its.others; once = its.once; below = its.below; first = its.first; later = its.later })
            (λ j t u other e has same. let less : t < r.next = below_next s r j t u e has in let t_is : y ≡ t = same in omega arith)
            (λ t le lt. dite (dec_lt t r.next)
            (λ old. ⊎_elim (λ p. absurd (subst (HasTicket t) is p)) (λ p. inr p) (held_by s r id v at t le old))
            (λ new. inl (omega arith))),
        record { drawn = λ _. refl; late = λ miss. absurd (miss hit) },
      ))
      (λ miss. (v, keeps, tt, stays s r id v at (set s.words 0 y) (set_next s.words r.next r.served (length r.history) y r.next r.words r.words.next_is), record { drawn = λ hit. absurd (miss hit); late = λ _. refl }))

  pub looks : (n id : ℕ) (me : M) (ticket : ℕ) → IsLive settings me.0 → me.0.stage ≡ Waiting ticket
      → Allows Rule n id me 16 (λ y. y) (Looks settings_of history_of maker is_sound me)
  looks n id me ticket live is s r _ at _ = let y : ℕ = get_or s.words 16 0 in let v : W = me.0 in let mine = r.stands id v at live in
      dite (ℕ_discrete y ticket)
      (λ hit.
      let has : HasTicket y v.stage = subst (HasTicket y) (sym is) (sym hit) in
      let alone : (j : ℕ) (u : W) (t : ℕ) → get_elem? s.views j ≡ some u → u.stage ≢ Serving t = λ j u t e serves.
      let t_is : t ≡ r.served = served_is s r j t u e serves in
      let same : id ≡ j = r.one_ticket id j y v u at e has (subst (HasTicket y) (sym serves) (t_is ∙ sym r.words.served_is)) in
      let one : v ≡ u = some-injective v u (sym at ∙ ap (get_elem? s.views) same ∙ e) in
      let stages : Waiting ticket ≡ Serving t = sym is ∙ ap (λ (x : W). x.stage) one ∙ serves in cc in
      let h = r.slot.home alone in
      let seen : List E = history_of h.value in
      let w : W = record v { stage = Serving y; seen = seen } in
      let gone : set s.homes 0 none ≡ none ∷ [] = ap (λ (z : List (maybe.Option (Option V))). set z 0 none) h.homes_are in (
        w,
        takes 0 (Some h.value),
        ap (λ (z : List (maybe.Option (Option V))). get_elem? z 0) h.homes_are,
        moved s r id v at live (set s.words 16 y) (set s.homes 0 none) r.next r.served r.history (Serving y) seen r.made v.made
            (set_served s.words r.next r.served (length r.history) y r.served r.words r.words.served_is) r.behind r.bounded r.sound r.unmade
            (record { out = λ _ _ _ _ _. gone; home = λ none. absurd {A = IsHome settings_of history_of settings (set s.homes 0 maybe.none) r.history} (none id w y (there s.views id v w at) refl) })
            record {
              stage = (r.words.served_is, below_next s r id y v at has, h.history_is);
              fits = stands_whole maker r.history seen v.number h.history_is;
              others = mine.others;
              once = mine.once;
              below = mine.below;
              first = mine.first;
              later = mine.later;
            }
            (λ j u other e lives. r.stands j u e lives)
            (λ j t u other e its same. other (sym (r.one_ticket id j t v u at e (subst (λ (z : ℕ). HasTicket z v.stage) same has) its)))
            (λ t le lt. ⊎_elim (λ p. inl (hit ∙ subst (HasTicket t) is p)) (λ p. inr p) (held_by s r id v at t le lt)),
        record {
          now = λ _. record {
            value = h.value;
            slot = refl;
            view = refl;
            goes_on = record {
              settings = live ∙ ap Some (sym h.settings_is);
              begins = subst (λ (l : List E). StartsWith l v.seen) (sym h.history_is) mine.fits.begins;
              own = ap (by maker v.number) h.history_is ∙ mine.fits.own;
              sound = subst (λ (p : S × List E). is_sound p.0 p.1) (λ i. (sym h.settings_is i, sym h.history_is i)) r.sound;
            };
          };
          later = λ no. absurd (no (is ∙ ap Waiting (sym hit)));
        },
      ))
      (λ miss. (
        v,
        keeps,
        tt,
        stays s r id v at (set s.words 16 y) (set_served s.words r.next r.served (length r.history) y r.served r.words r.words.served_is),
        record { now = λ stage. let both : Waiting ticket ≡ Waiting y = sym is ∙ stage in absurd (miss (let q : ticket ≡ y = cc in sym q)); later = λ _. refl },
      ))

  -- another pass, while this one is served and adds its entries
  goes_on : (s : St) (r : Rule s) (id t : ℕ) (v : W) (new : List E) → get_elem? s.views id ≡ some v → IsLive settings v → v.stage ≡ Serving t → Adds maker v.number r.history new
      → (j : ℕ) (u : W) → j ≢ id → get_elem? s.views j ≡ some u → IsLive settings u → Stands maker r.next r.served r.made new u
  goes_on s r id t v new at live is adds j u other e lives = let its = r.stands j u e lives in
      let mine : t ≡ r.served = served_is s r id t v at is in
      let apart : ¬ (HasNumber v.number u) = λ has. other (r.one_number j id v.number u v e at lives live has (inl refl)) in record {
        stage = stage_waits r.next r.served r.served r.history new u.seen u.stage
            (λ q has q_is. other (r.one_ticket j id q u v e at has (subst (HasTicket q) (sym is) (mine ∙ sym q_is)))) (omega arith) its.stage;
        fits = fits_more maker r.history new u.seen u.number v.number adds (λ n. apart (inl n)) its.fits;
        others = all_fit_more maker r.history new v.number u.taken_in adds (λ n. apart (inr n)) its.others;
        once = its.once;
        below = its.below;
        first = its.first;
        later = its.later;
      }

  pub publishes : (n id : ℕ) (me : M) (new ticket : ℕ) (value : V) → IsLive settings me.0 → me.0.stage ≡ Serving ticket → me.1 ≡ (0, Some value) ∷ []
      → Adds maker me.0.number me.0.seen (history_of value) → is_sound settings (history_of value) → new ≡ length (history_of value)
      → Allows Rule n id me 32 (λ _. new) (λ _ after. Publishes history_of me after)
  publishes n id me new ticket value live is has adds sound long s r _ at _ =
      let v : W = me.0 in
      let log : List E = history_of value in
      let w : W = record v { seen = log } in
      let mine = r.stands id v at live in
      let stage = subst (InStage r.next r.served r.history v.seen) is mine.stage in
      let adds' : Adds maker v.number r.history log = subst (λ (l : List E). Adds maker v.number l log) stage.2 adds in (
        w,
        keeps,
        tt,
        moved s r id v at live (set s.words 32 new) s.homes r.next r.served log v.stage log r.made v.made
            (set_count s.words r.next r.served (length r.history) new (length log) r.words long) r.behind r.bounded sound
            (λ k le. ap (by maker k) adds'.grows ∙ by_append maker k r.history adds'.added
            ∙ (let less : v.number < r.made = mine.below v.number (inl refl) in
            let none : by maker k adds'.added ≡ [] = by_none maker k v.number adds'.added adds'.own (λ e. omega arith) in
            let old : by maker k r.history ≡ [] = r.unmade k le in rw (none, old) refl))
            record {
              out = λ _ _ _ _ _. r.slot.out id v ticket at is;
              home = λ none. absurd (none id w ticket (there s.views id v w at) is);
            }
            record {
              stage = subst (InStage r.next r.served log log) (sym is) (stage.0, stage.1, refl);
              fits = stands_whole maker log log v.number refl;
              others = all_fit_more maker r.history log v.number v.taken_in adds' mine.once mine.others;
              once = mine.once;
              below = mine.below;
              first = mine.first;
              later = mine.later;
            }
            (goes_on s r id ticket v log at live is adds')
            (λ j t u other e its same. other (sym (r.one_ticket id j t v u at e same its)))
            (held_by s r id v at),
        (λ x x_is. let one : value ≡ x = ap (in_slot value) (sym has ∙ x_is) in ap (λ (z : V). (record v { seen = history_of z }, me.1)) one),
      )

  pub passes_on : (n id : ℕ) (me : M) (new ticket : ℕ) (value : V) → IsLive settings me.0 → me.0.stage ≡ Serving ticket → me.1 ≡ (0, Some value) ∷ []
      → history_of value ≡ me.0.seen → settings_of value ≡ settings → new ≡ ticket + 1 → Allows Rule n id me 16 (λ _. new) (λ _ after. PassesOn me after)
  passes_on n id me new ticket value live is has log_is settings_is next_is s r _ at _ =
      let v : W = me.0 in
      let w : W = record v { stage = Idle } in
      let mine = r.stands id v at live in
      let stage = subst (InStage r.next r.served r.history v.seen) is mine.stage in
      let here : ticket ≡ r.served = stage.0 in
      let below : ticket < r.next = stage.1 in
      let more : new ≡ ticket + 1 = next_is in
      let mine_t : (q : ℕ) → q ≡ r.served → HasTicket q v.stage = λ q q_is. subst (HasTicket q) (sym is) (here ∙ sym q_is) in
      let homes : List (maybe.Option (Option V)) = put_back s.homes me.1 in
      let home : homes ≡ some (Some value) ∷ [] = ap (put_back s.homes) has ∙ ap (λ (z : List (maybe.Option (Option V))). set z 0 (some (Some value))) (r.slot.out id v ticket at is) in
      let waits : (j t : ℕ) (u : W) → j ≢ id → get_elem? s.views j ≡ some u → HasTicket t u.stage → t ≢ r.served =
      λ j t u other e has' t_is. other (r.one_ticket j id t u v e at has' (mine_t t t_is)) in (
        w,
        gives,
        tt,
        moved s r id v at live (set s.words 16 new) homes r.next new r.history Idle v.seen r.made v.made
            (set_served s.words r.next r.served (length r.history) new new r.words refl) (omega arith) r.bounded r.sound r.unmade
            record {
              out = λ j u t e serves. ⊎_elim (λ p. (let both : Idle ≡ Serving t = ap (λ (x : W). x.stage) p.1 ∙ serves in cc))
                  (λ p. absurd (waits j t u p.0 p.1 (subst (HasTicket t) (sym serves) refl) (served_is s r j t u p.1 serves))) (at_set s.views id j w u e);
              home = λ _. record { value = value; homes_are = home; history_is = log_is ∙ stage.2; settings_is = settings_is };
            }
            record { stage = tt; fits = mine.fits; others = mine.others; once = mine.once; below = mine.below; first = mine.first; later = mine.later }
            (λ j u other e lives. let its = r.stands j u e lives in record {
              stage = stage_waits r.next r.served new r.history r.history u.seen u.stage (λ q has'. waits j q u other e has') (omega arith) its.stage;
              fits = its.fits;
              others = its.others;
              once = its.once;
              below = its.below;
              first = its.first;
              later = its.later;
            })
            (λ j t u other e its no. no)
            (λ t le lt. ⊎_elim (λ p. (let q : ticket ≡ t = subst (HasTicket t) is p in absurd (omega arith))) (λ p. inr p) (held_by s r id v at t (omega arith) lt)),
        refl,
      )

  pub begins : (words : List ℕ) (slots : List (Option V)) (value : V) → HasWords words 0 0 0 → slots ≡ Some value ∷ [] → history_of value ≡ [] → settings_of value ≡ settings → is_sound settings []
      → Rule (opening words slots (newcomer settings))
  begins words slots value are slots_are empty settings_is sound = let v : W = newcomer settings in
      let only : (j : ℕ) (u : W) → get_elem? (v ∷ []) j ≡ some u → (j ≡ 0) × (v ≡ u) = one_view v in record {
        next = 0;
        served = 0;
        made = 1;
        history = [];
        words = are;
        behind = omega arith;
        bounded = omega arith;
        slot = record {
          out = λ j u t e is. (let both : Idle ≡ Serving t = ap (λ (x : W). x.stage) (only j u e).1 ∙ is in cc);
          home = λ _. record { value = value; homes_are = ap (map some) slots_are; history_is = empty; settings_is = settings_is };
        };
        sound = sound;
        unmade = λ _ _. refl;
        stands = λ j u e lives. subst (Stands maker 0 0 1 []) (only j u e).1 record {
          stage = tt;
          fits = stands_whole maker [] [] 0 refl;
          others = All-nil (λ (k : Known E). Fits maker [] k.number k.seen);
          once = λ none. none;
          below = λ n has. ⊎_elim (λ is. (let zero_is : 0 ≡ n = is in omega arith)) (λ none. absurd none) has;
          first = λ _. refl;
          later = λ no. absurd (no (inl refl));
        };
        idle = λ j u e. inl (ap (λ (x : W). x.settings) (sym (only j u e).1));
        held = λ t le lt. absurd (omega arith);
        one_ticket = λ i j t a b ea eb _ _. (only i a ea).0 ∙ sym (only j b eb).0;
        one_number = λ i j n a b ea eb _ _ _ _. (only i a ea).0 ∙ sym (only j b eb).0;
      }
