-- What a reader has read.
use Rattle.std.proofs.Common.{◌≡◌, ◌≢◌, ℕ, ◌+◌, ◌<◌, ◌≤◌, Bool, true, false, not, ltb, eqb, ◌↔◌, List, [], ◌∷◌, ◌++◌, length, take, drop, Option, Some, None, option_to_list, refl, sym, ap, subst, ◌∙◌, arith, append_assoc, append-nil}
use Rattle.std.specs.List.{filter_map, list_any}
use Rattle.std.proofs.lemmas.List.Elements.{filter_map-append}
use Rattle.std.proofs.lemmas.List.Folds.{list_any-append}
use Rattle.std.proofs.lemmas.Bool.{both_ways, or_from, or_right, lt-ltb, ne_eqb, eqb-true}
use Rattle.std.proofs.lemmas.List.{length-append}
use Rattle.mq_capsule.specs.declared.front.Front.{Front}
use Rattle.mq_capsule.specs.declared.front.Plan.TheVariants.{Keep, Skip}
use Rattle.mq_capsule.specs.declared.item.Item.{Item}
use Rattle.mq_capsule.specs.declared.state.State.{State}
use Rattle.mq_capsule.specs.declared.state.State.TheVariants as state
use Rattle.mq_capsule.specs.declared.step.Step.{Step}
use Rattle.mq_capsule.specs.declared.step.WholeCapsule.{WholeCapsule}
use Rattle.mq_capsule.specs.declared.reader.Reader.{Reader}
use Rattle.mq_capsule.specs.Capsule.{Capsule, AreCapsules, head_of}
use Rattle.mq_capsule.specs.Items.{ItemsOf, EndsInside, item_of, head_items, is_bad, max_control, up_to_bad, said}
use Rattle.mq_capsule.specs.Fronts.{front_of}
use Rattle.mq_capsule.specs.Steps.{Holds, IsOpen, IsEnded, IsAt, IsStep, StaysEnded, BeginsWhole, GoesFar, is_begun, is_between, kept_item}
use Rattle.mq_capsule.specs.Readers.{HasRead, Stands, StopsAtBoundary, Went, kept, room_of}
use Rattle.mq_capsule.proofs.Fronts.{front_none, front_front}
use Rattle.mq_capsule.proofs.Capsules.{capsules_on, capsules_one}
use Rattle.mq_capsule.proofs.Items.{up_sound, up_any, items_behind, items_ended, items_one}
use Rattle.mq_capsule.proofs.Plans.{KeepMeans, front_means}
use Rattle.mq_capsule.proofs.Steps.{kept_len, whole_kept, front_nothing}

-- One reading behind another.

sound_on : (items told : List Item) → list_any is_bad items ≡ false → list_any is_bad told ≡ false → list_any is_bad (items ++ told) ≡ false
sound_on items told a b = list_any-append is_bad items told ∙ or_from _ _ a b

open_on : (control : Bool) (s next : State) (bytes taken : List ℕ) (items told : List Item) (a : IsOpen control s bytes items)
    → IsOpen control next (a.rest ++ taken) told → IsOpen control next (bytes ++ taken) (items ++ told)
open_on control s next bytes taken items told a b = record {
  capsules = a.capsules ++ b.capsules;
  rest = b.rest;
  are = capsules_on bytes taken a.capsules a.rest a.are b.capsules b.rest b.are;
  items_are = ap (λ (i : List Item). i ++ told) a.items_are ∙ ap (λ (i : List Item). filter_map (item_of control) a.capsules ++ i) b.items_are
      ∙ sym (filter_map-append (item_of control) a.capsules b.capsules);
  none_bad = sound_on items told a.none_bad b.none_bad;
  no_fault_yet = b.no_fault_yet;
  holds = b.holds;
}

ended_on : (control : Bool) (s : State) (bytes taken : List ℕ) (items told : List Item) (a : IsOpen control s bytes items) → IsEnded control (a.rest ++ taken) told
    → IsEnded control (bytes ++ taken) (items ++ told)
ended_on control s bytes taken items told a b =
    let sound = ap (list_any is_bad) (sym a.items_are) ∙ a.none_bad in
    let P : List Item → Type 0 = λ i. ItemsOf control (bytes ++ taken) (i ++ told) in
    record {
      are = subst P (sym a.items_are) (items_behind control bytes taken a.capsules a.rest told a.are sound b.are);
      bad = list_any-append is_bad items told ∙ or_right _ _ b.bad;
    }

at_on : (control : Bool) (s next : State) (bytes taken : List ℕ) (items told : List Item) (a : IsOpen control s bytes items) → IsAt control next (a.rest ++ taken) told
    → IsAt control next (bytes ++ taken) (items ++ told)
at_on control s (state.Front head) bytes taken items told a b = open_on control s (state.Front head) bytes taken items told a b
at_on control s (state.Keep what bytes' missing) bytes taken items told a b = open_on control s (state.Keep what bytes' missing) bytes taken items told a b
at_on control s (state.Skip what missing) bytes taken items told a b = open_on control s (state.Skip what missing) bytes taken items told a b
at_on control s state.Ended bytes taken items told a b = ended_on control s bytes taken items told a b
at_on control s state.Spent bytes taken items told a b = absurd b

-- A step.

at_step : (control : Bool) (s : State) (piece : List ℕ) (step : Step) → ((rest : List ℕ) → Holds control s rest → IsStep control rest piece step)
    → StaysEnded s piece step → (bytes : List ℕ) (items : List Item) → IsAt control s bytes items
    → IsAt control step.state (bytes ++ take step.used piece) (items ++ option_to_list step.told)
at_step control (state.Front head) piece step gives ended bytes items at =
    at_on control (state.Front head) step.state bytes (take step.used piece) items (option_to_list step.told) at (gives at.rest at.holds).at
at_step control (state.Keep what bytes' missing) piece step gives ended bytes items at =
    at_on control (state.Keep what bytes' missing) step.state bytes (take step.used piece) items (option_to_list step.told) at (gives at.rest at.holds).at
at_step control (state.Skip what missing) piece step gives ended bytes items at =
    at_on control (state.Skip what missing) step.state bytes (take step.used piece) items (option_to_list step.told) at (gives at.rest at.holds).at
at_step control state.Ended piece step gives ended bytes items at =
    let all = bytes ++ take step.used piece in
    let P : State → Type 0 = λ n. IsAt control n all (items ++ option_to_list step.told) in
    let Q : List Item → Type 0 = λ i. IsEnded control all i in
    let none : items ≡ items ++ option_to_list step.told = sym (ap (λ (t : Option Item). items ++ option_to_list t) ended.1 ∙ append-nil items) in
    subst P (sym ended.0) (subst Q none (record { are = items_ended control bytes (take step.used piece) items at.are at.bad; bad = at.bad }))
at_step control state.Spent piece step gives ended bytes items at = absurd at

some_step : (control : Bool) (s : State) (piece : List ℕ) (step : Step) → ((rest : List ℕ) → Holds control s rest → 0 < length piece → 0 < step.used)
    → StaysEnded s piece step → (bytes : List ℕ) (items : List Item) → IsAt control s bytes items → 0 < length piece → 0 < step.used
some_step control (state.Front head) piece step some ended bytes items at there = some at.rest at.holds there
some_step control (state.Keep what bytes' missing) piece step some ended bytes items at there = some at.rest at.holds there
some_step control (state.Skip what missing) piece step some ended bytes items at there = some at.rest at.holds there
some_step control state.Ended piece step some ended bytes items at there = omega (arith, ended.2, there)
some_step control state.Spent piece step some ended bytes items at there = absurd at

pub went_step : (old : Reader) (before : State) (piece : List ℕ) (step : Step) (told : Option Item) → before ≡ old.state → step.told ≡ told
    → ((rest : List ℕ) → Holds old.control before rest → IsStep old.control rest piece step) → StaysEnded before piece step
    → Went old (record { control = old.control; state = step.state }) (take step.used piece) (option_to_list told)
went_step old before piece step told before_is told_is gives ended control bytes items read =
    let P : Bool → Type 0 = λ c. (rest : List ℕ) → Holds c before rest → IsStep c rest piece step in
    let Q : State → Type 0 = λ s. IsAt control s bytes items in
    let R : Option Item → Type 0 = λ t. IsAt control step.state (bytes ++ take step.used piece) (items ++ option_to_list t) in
    record {
      control_is = read.control_is;
      at = subst R told_is (at_step control before piece step (subst P read.control_is gives) ended bytes items (subst Q (sym before_is) read.at));
    }

pub some_used : (old : Reader) (before : State) (piece : List ℕ) (step : Step) → before ≡ old.state
    → ((rest : List ℕ) → Holds old.control before rest → 0 < length piece → 0 < step.used) → StaysEnded before piece step
    → (control : Bool) (bytes : List ℕ) → Stands old control bytes → 0 < length piece → 0 < step.used
some_used old before piece step before_is some ended control bytes stands there =
    let read = stands.1 in
    let P : Bool → Type 0 = λ c. (rest : List ℕ) → Holds c before rest → 0 < length piece → 0 < step.used in
    let Q : State → Type 0 = λ s. IsAt control s bytes stands.0 in
    some_step control before piece step (subst P read.control_is some) ended bytes stands.0 (subst Q (sym before_is) read.at) there

far_step : (control : Bool) (s : State) (piece : List ℕ) (step : Step) → ((rest : List ℕ) → Holds control s rest → GoesFar piece step)
    → StaysEnded s piece step → (bytes : List ℕ) (items : List Item) → IsAt control s bytes items → GoesFar piece step
far_step control (state.Front head) piece step far ended bytes items at = far at.rest at.holds
far_step control (state.Keep what bytes' missing) piece step far ended bytes items at = far at.rest at.holds
far_step control (state.Skip what missing) piece step far ended bytes items at = far at.rest at.holds
far_step control state.Ended piece step far ended bytes items at = λ less. absurd (omega (arith, ended.2, less))
far_step control state.Spent piece step far ended bytes items at = absurd at

-- one piece after the other
pub went_on : (a b c : Reader) (piece next : List ℕ) (more later : List Item) → Went a b piece more → Went b c next later → Went a c (piece ++ next) (more ++ later)
went_on a b c piece next more later first second control bytes items read =
    let P : List ℕ → List Item → Type 0 = λ x y. HasRead c control x y in
    subst (λ (x : List ℕ). P x (items ++ (more ++ later))) (append_assoc bytes piece next)
    (subst (P (bytes ++ piece ++ next)) (append_assoc items more later) (second control (bytes ++ piece) (items ++ more) (first control bytes items read)))

-- no bytes, and no items
pub went_nothing : (r : Reader) → Went r r [] []
went_nothing r control bytes items read =
    let P : List ℕ → List Item → Type 0 = λ x y. HasRead r control x y in
    subst (λ (x : List ℕ). P x (items ++ [])) (sym (append-nil bytes)) (subst (P bytes) (sym (append-nil items)) read)

-- A capsule that is whole in one piece.

nothing : (bytes : List ℕ) → length bytes ≡ 0 → bytes ≡ []
nothing [] e = refl
nothing (b ∷ bytes) e = absurd (omega arith)

between_holds : (control : Bool) (s : State) (rest : List ℕ) → is_between s ≡ true → Holds control s rest → (rest ≡ []) × Holds control s []
between_holds control (state.Front head) rest between holds =
    let none = nothing head.items (eqb-true (length head.items) 0 between) in
    (holds.0 ∙ none, (sym none, front_nothing control))
between_holds control (state.Keep what bytes' missing) rest between holds = absurd cc
between_holds control (state.Skip what missing) rest between holds = absurd cc
between_holds control state.Ended rest between holds = absurd holds
between_holds control state.Spent rest between holds = absurd holds

between_open : (s : State) (piece : List ℕ) (step : Step) → is_between s ≡ true → StaysEnded s piece step
between_open (state.Front head) piece step between = tt
between_open (state.Keep what bytes' missing) piece step between = tt
between_open (state.Skip what missing) piece step between = tt
between_open state.Ended piece step between = absurd cc
between_open state.Spent piece step between = tt

pub whole_went : (old : Reader) (piece : List ℕ) (whole : WholeCapsule) (item : Item) → is_between old.state ≡ true → BeginsWhole old.control piece whole
    → item ≡ kept_item whole.what (take whole.length (drop whole.front piece)) → Went old old (take (whole.front + whole.length) piece) (item ∷ [])
whole_went old piece whole item between is_in item_is =
    let step : Step = record { state = old.state; told = Some item; used = whole.front + whole.length } in
    let gives : (rest : List ℕ) → Holds old.control old.state rest → IsStep old.control rest piece step = λ rest holds.
    let b = between_holds old.control old.state rest between holds in
    let P : List ℕ → Type 0 = λ r. IsStep old.control r piece step in
    subst P (sym b.0) (whole_kept old.control piece (take whole.length (drop whole.front piece)) whole.what whole.length whole.front item old.state
    is_in.0 is_in.1 refl item_is b.1) in
    went_step old old.state piece step (Some item) refl refl gives (between_open old.state piece step between)

pub whole_some : (control : Bool) (piece : List ℕ) (whole : WholeCapsule) → BeginsWhole control piece whole → 0 < whole.front + whole.length
whole_some control piece whole is_in =
    omega (arith, (front_front control piece (record { plan = Keep whole.what whole.length; used = whole.front }) is_in.0).some)

-- The ends of reading a piece.

-- all of it was read
pub went_all : (start now : Reader) (done left piece : List ℕ) (more : List Item) → Went start now done more → done ++ left ≡ piece → length left ≡ 0
    → Went start now piece more
went_all start now done left piece more went all none =
    let P : List ℕ → Type 0 = λ p. Went start now p more in
    let same : done ≡ piece = sym (append-nil done) ∙ ap (λ (l : List ℕ). done ++ l) (sym (nothing left none)) ∙ all in
    subst P same went

-- there were as many rounds as bytes
pub went_round : (start now : Reader) (done left piece : List ℕ) (more : List Item) (rounds : ℕ) → Went start now done more → done ++ left ≡ piece
    → ((control : Bool) (bytes : List ℕ) → Stands start control bytes → rounds ≤ length done) → length piece ≤ rounds → Went start now piece more
went_round start now done left piece more rounds went all goes enough control bytes items read =
    let far = goes control bytes (items, read) in
    let none : length left ≡ 0 = omega (arith, length-append done left, ap length all) in
    went_all start now done left piece more went all none control bytes items read

-- What was said.

open_items : (control : Bool) (s : State) (bytes : List ℕ) (items : List Item) → IsOpen control s bytes items → ItemsOf control bytes items
open_items control s bytes items o =
    let front = filter_map (item_of control) o.capsules in
    let all : front ++ head_items control (head_of o.rest) ≡ items = ap (λ (i : List Item). front ++ i) o.no_fault_yet ∙ append-nil front ∙ sym o.items_are in
    record { capsules = o.capsules; rest = o.rest; are = o.are; items_are = sym (ap up_to_bad all ∙ up_sound items o.none_bad) }

pub at_items : (control : Bool) (s : State) (bytes : List ℕ) (items : List Item) → IsAt control s bytes items → ItemsOf control bytes items
at_items control (state.Front head) bytes items at = open_items control (state.Front head) bytes items at
at_items control (state.Keep what bytes' missing) bytes items at = open_items control (state.Keep what bytes' missing) bytes items at
at_items control (state.Skip what missing) bytes items at = open_items control (state.Skip what missing) bytes items at
at_items control state.Ended bytes items at = at.are
at_items control state.Spent bytes items at = absurd at

-- the items of a piece
pub gives : (old new : Reader) (piece : List ℕ) (given : List Item) → Went old new piece given → (control : Bool) (bytes : List ℕ) (items : List Item)
    → Stands old control bytes → ItemsOf control bytes items → ItemsOf control (bytes ++ piece) (items ++ given)
gives old new piece given went control bytes items stands of =
    let read = stands.1 in
    let next = went control bytes stands.0 read in
    let P : List Item → Type 0 = λ i. ItemsOf control (bytes ++ piece) (i ++ given) in
    let same = items_one control bytes stands.0 items (at_items control old.state bytes stands.0 read.at) of in
    subst P same (at_items control new.state (bytes ++ piece) (stands.0 ++ given) next.at)

-- What is kept.

pub at_few : (control : Bool) (s : State) (bytes : List ℕ) (items : List Item) → IsAt control s bytes items → kept s ≤ max_control
at_few control (state.Front head) bytes items at = omega (arith, front_none control at.rest at.holds.1, ap length at.holds.0)
at_few control (state.Keep what bytes' missing) bytes items at =
    let k = at.holds.0 in
    let plan = front_means control at.rest (record { plan = Keep what (length bytes'.items + missing); used = k.used }) k.front in
    let means : KeepMeans control plan.head at.rest what (length bytes'.items + missing) k.used = plan.means in
    omega (arith, means.small)
at_few control (state.Skip what missing) bytes items at = omega arith
at_few control state.Ended bytes items at = omega arith
at_few control state.Spent bytes items at = absurd at

open_keeps : (control : Bool) (s : State) (bytes : List ℕ) (items : List Item) (o : IsOpen control s bytes items) → kept s ≤ room_of (front_of control o.rest)
    → (capsules : List Capsule) (rest : List ℕ) → AreCapsules bytes capsules rest → kept s ≤ room_of (front_of control rest)
open_keeps control s bytes items o few capsules rest are =
    let one = capsules_one bytes o.capsules capsules o.rest rest o.are are in
    let P : List ℕ → Type 0 = λ r. kept s ≤ room_of (front_of control r) in
    subst P one.rest_is few

room_at : (control : Bool) (rest : List ℕ) (front : Option Front) (n : ℕ) → front_of control rest ≡ front → n ≤ room_of front → n ≤ room_of (front_of control rest)
room_at control rest front n e l = let P : Option Front → Type 0 = λ f. n ≤ room_of f in subst P (sym e) l

pub at_keeps : (control : Bool) (s : State) (bytes : List ℕ) (items : List Item) → IsAt control s bytes items
    → (capsules : List Capsule) (rest : List ℕ) → AreCapsules bytes capsules rest → kept s ≤ room_of (front_of control rest)
at_keeps control (state.Front head) bytes items at =
    open_keeps control (state.Front head) bytes items at
    (room_at control at.rest None (length head.items) at.holds.1 (omega (arith, front_none control at.rest at.holds.1, ap length at.holds.0)))
at_keeps control (state.Keep what bytes' missing) bytes items at =
    let k = at.holds.0 in
    open_keeps control (state.Keep what bytes' missing) bytes items at
    (room_at control at.rest (Some (record { plan = Keep what (length bytes'.items + missing); used = k.used })) (length bytes'.items) k.front (omega arith))
at_keeps control (state.Skip what missing) bytes items at = λ capsules rest are. omega arith
at_keeps control state.Ended bytes items at = λ capsules rest are. omega arith
at_keeps control state.Spent bytes items at = absurd at

-- An unfinished capsule.

-- whether there are bytes, by their number
not_empty : (xs : List ℕ) → ltb 0 (length xs) ≡ true → xs ≢ []
not_empty [] h = λ e. absurd cc
not_empty (x ∷ xs) h = λ e. cc

some_length : (xs : List ℕ) → xs ≢ [] → ltb 0 (length xs) ≡ true
some_length [] h = absurd (h refl)
some_length (x ∷ xs) h = lt-ltb 0 (length (x ∷ xs)) (omega arith)

-- the answer for what is held is that for the bytes
begun_open : (control : Bool) (s : State) (bytes : List ℕ) (items : List Item) (answer : Bool) (o : IsOpen control s bytes items) → answer ≡ ltb 0 (length o.rest)
    → (answer ≡ true) ↔ EndsInside control bytes
begun_open control s bytes items answer o is =
    let front = filter_map (item_of control) o.capsules in
    let all : front ++ head_items control (head_of o.rest) ≡ items = ap (λ (i : List Item). front ++ i) o.no_fault_yet ∙ append-nil front ∙ sym o.items_are in (
      λ yes. record {
        capsules = o.capsules;
        rest = o.rest;
        are = o.are;
        some = not_empty o.rest (sym is ∙ yes);
        none_bad = up_any (front ++ head_items control (head_of o.rest)) ∙ ap (list_any is_bad) all ∙ o.none_bad;
      },
      λ ends.
          let one = capsules_one bytes o.capsules ends.capsules o.rest ends.rest o.are ends.are in
          is ∙ ap (λ (rest : List ℕ). ltb 0 (length rest)) one.rest_is ∙ some_length ends.rest ends.some,
    )

-- behind a bad item nothing is begun
begun_ended : (control : Bool) (bytes : List ℕ) (items : List Item) → IsEnded control bytes items → EndsInside control bytes → ⊥
begun_ended control bytes items e ends =
    let of = e.are in
    let one = capsules_one bytes of.capsules ends.capsules of.rest ends.rest of.are ends.are in
    let same : items ≡ said control ends.capsules ends.rest =
    of.items_are ∙ ap (λ (c : List Capsule). said control c of.rest) one.capsules_are ∙ ap (λ (r : List ℕ). said control ends.capsules r) one.rest_is in
    both_ways (list_any is_bad items) (ap (list_any is_bad) same ∙ ends.none_bad) e.bad

some : (bytes : List ℕ) → not (eqb (length bytes) 0) ≡ ltb 0 (length bytes)
some [] = refl
some (b ∷ bytes) = ap not (ne_eqb (length (b ∷ bytes)) 0 (λ e. omega arith)) ∙ sym (lt-ltb 0 (length (b ∷ bytes)) (omega arith))

-- a capsule that is begun has bytes
pub at_begun : (control : Bool) (s : State) (bytes : List ℕ) (items : List Item) → IsAt control s bytes items → (is_begun s ≡ true) ↔ EndsInside control bytes
at_begun control (state.Front head) bytes items at =
    begun_open control (state.Front head) bytes items (not (eqb (length head.items) 0)) at
    (some head.items ∙ ap (λ (b : List ℕ). ltb 0 (length b)) (sym at.holds.0))
at_begun control (state.Keep what bytes' missing) bytes items at =
    let len = kept_len control what bytes'.items missing at.rest at.holds.0 in
    begun_open control (state.Keep what bytes' missing) bytes items true at (sym (lt-ltb 0 (length at.rest) (omega (arith, len.0, len.1))))
at_begun control (state.Skip what missing) bytes items at =
    let k = at.holds.0 in
    let a = front_front control at.rest (record { plan = Skip what k.size; used = k.used }) k.front in
    begun_open control (state.Skip what missing) bytes items true at (sym (lt-ltb 0 (length at.rest) (omega (arith, a.within, a.some))))
at_begun control state.Ended bytes items at = (λ yes. absurd cc, λ ends. absurd (begun_ended control bytes items at ends))
at_begun control state.Spent bytes items at = absurd at

-- A boundary.

between_begun : (s : State) → is_between s ≡ true → is_begun s ≡ false
between_begun (state.Front head) between = ap not between
between_begun (state.Keep what bytes' missing) between = absurd cc
between_begun (state.Skip what missing) between = absurd cc
between_begun state.Ended between = refl
between_begun state.Spent between = refl

-- where the state that comes of it isn't begun
boundary : (old new : Reader) (piece : List ℕ) (more : List Item) → Went old new piece more
    → ((control : Bool) (bytes : List ℕ) → Stands old control bytes → is_begun new.state ≡ false)
    → (control : Bool) (bytes : List ℕ) → Stands old control bytes → EndsInside control (bytes ++ piece) → ⊥
boundary old new piece more went closed control bytes stands ends =
    let next = went control bytes stands.0 stands.1 in
    let begun = (at_begun control new.state (bytes ++ piece) (stands.0 ++ more) next.at).1 ends in
    both_ways (is_begun new.state) (closed control bytes stands) begun

pub step_boundary : (old : Reader) (before : State) (piece : List ℕ) (step : Step) → before ≡ old.state
    → ((rest : List ℕ) → Holds old.control before rest → IsStep old.control rest piece step)
    → ((rest : List ℕ) → Holds old.control before rest → GoesFar piece step) → StaysEnded before piece step
    → StopsAtBoundary old piece step.used
step_boundary old before piece step before_is gives far ended less =
    let new : Reader = record { control = old.control; state = step.state } in
    let went = went_step old before piece step step.told before_is refl gives ended in
    let P : Bool → Type 0 = λ c. (rest : List ℕ) → Holds c before rest → GoesFar piece step in
    boundary old new (take step.used piece) (option_to_list step.told) went
    (λ control bytes stands.
    let Q : State → Type 0 = λ s. IsAt control s bytes stands.0 in
    far_step control before piece step (subst P stands.1.control_is far) ended bytes stands.0 (subst Q (sym before_is) stands.1.at) less)

pub whole_boundary : (old : Reader) (piece : List ℕ) (whole : WholeCapsule) (item : Item) → is_between old.state ≡ true → BeginsWhole old.control piece whole
    → item ≡ kept_item whole.what (take whole.length (drop whole.front piece)) → StopsAtBoundary old piece (whole.front + whole.length)
whole_boundary old piece whole item between is_in item_is less =
    boundary old old (take (whole.front + whole.length) piece) (item ∷ []) (whole_went old piece whole item between is_in item_is)
    (λ control bytes stands. between_begun old.state between)
