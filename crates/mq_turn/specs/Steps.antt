-- What each step of a turn tells the pass that makes it.
use Rattle.std.specs.Prelude.{◌≡◌, ◌≢◌, ℕ, suc, ◌+◌, List, [], ◌∷◌, ◌++◌, Option, Some, None}
use Rattle.atomic_table.specs.Table.{Me, Step, rest}
use Rattle.mq_turn.specs.declared.view.Known.{Known}
use Rattle.mq_turn.specs.declared.view.Stage.TheVariants.{Idle, Waiting, Serving}
use Rattle.mq_turn.specs.declared.view.View.{View}
use Rattle.mq_turn.specs.History.{StartsWith, by, longer}

abbrev pub Seated : Type 0 → Type 0 → Type 0 → Type 0
Seated V E S = Me (Option V) (View E S)

module _ {V E S : Type 0} where
  -- the pass has the ticket, if that was the next one
  pub record Draws (st : Step (Option V)) (me : Seated V E S) (found : ℕ) (after : Seated V E S) : Type 0 where
    pub drawn : found ≡ st.first → after ≡ (record me.0 { stage = Waiting found }, me.1)
    pub late : found ≢ st.first → after ≡ me

  -- the pass gives its slot back, and has no ticket any more
  abbrev pub PassesOn : Seated V E S → Seated V E S → Type 0
  PassesOn me after = after ≡ (record me.0 { stage = Idle }, rest me.1)

  abbrev pub Publishes : (V → List E) → Seated V E S → Seated V E S → Type 0
  Publishes history_of me after =
      (value : V) → me.1 ≡ (0, Some value) ∷ [] → after ≡ (record me.0 { seen = history_of value }, me.1)

module _ {V E S : Type 0} (settings_of : V → S) (history_of : V → List E) (maker : E → ℕ) (is_sound : S → List E → Type 0) where
  -- the value goes on from what the pass has seen, and others made what it has more
  pub record GoesOn (v : View E S) (value : V) : Type 0 where
    pub settings : v.settings ≡ Some (settings_of value)
    pub begins : StartsWith (history_of value) v.seen
    pub own : by maker v.number (history_of value) ≡ by maker v.number v.seen
    pub sound : is_sound (settings_of value) (history_of value)

  -- the pass is served: it has the slot with the value, and sees its history
  pub record Takes (ticket : ℕ) (me after : Seated V E S) : Type 0 where
    pub value : V
    pub slot : after.1 ≡ (0, Some value) ∷ me.1
    pub view : after.0 ≡ record me.0 { stage = Serving ticket; seen = history_of value }
    pub goes_on : GoesOn me.0 value

  -- the pass sees which number is served
  pub record Looks (me : Seated V E S) (found : ℕ) (after : Seated V E S) : Type 0 where
    pub now : me.0.stage ≡ Waiting found → Takes found me after
    pub later : me.0.stage ≢ Waiting found → after ≡ me

module _ {E S : Type 0} where
  -- a pass that another took in
  abbrev pub spent : View E S
  spent = record { stage = Idle; settings = None; number = 0; seen = []; taken_in = []; made = 0 }

  -- the first pass has made one more
  abbrev pub made_more : View E S → View E S
  made_more v = record v { made = suc v.made }

  -- the new pass has seen what this one has
  abbrev pub made_of : View E S → View E S
  made_of v = record v { stage = Idle; number = v.made; taken_in = []; made = 0 }

  -- what is known of a pass that is taken in
  abbrev pub known_of : View E S → Known E
  known_of v = record { number = v.number; seen = v.seen }

  -- the longer of what both have seen, and which passes both took in
  abbrev pub joined : View E S → View E S → View E S
  joined v w = record v { seen = longer v.seen w.seen; taken_in = v.taken_in ++ known_of w ∷ w.taken_in; made = v.made + w.made }
