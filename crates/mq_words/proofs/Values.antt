-- When clap takes words without a dash: each is the value of a position of its own.
use Rattle.std.proofs.Common.{◌≡◌, ◌∙◌, ◌&&◌, ◌||◌, ℕ, suc, Bool, true, false, not, List, [], ◌∷◌, ◌++◌, Option, Some, None, is_some, refl, sym, ap}
use Rattle.std.specs.Prelude.{fold, find, if◌then◌else◌}
use Rattle.std.specs.Option.{option_map_or}
use Rattle.std.specs.Str.{bytes_eq}
use Rattle.std.specs.List.{list_all}
use Rattle.clap.proofs.WalkLemmas.{both, walk_stopped}
use Rattle.clap.specs.Lexer.{long_of, short_of}
use Rattle.clap.specs.Simple.{entered, label_of, names_of, rows_at}
use Rattle.clap.specs.Takes.{built_takes, bundle_passes, default_passes, entered_passes, flag_word_passes, is_valid, level_passes, other_passes, settle_passes, step_passes, turn_passes, walk_passes}
use Rattle.clap.specs.Walk.{Held, Names, Step, Walk, after_step, answers_to, arg_by_index, finished, idle, long_or_other, nothing_held, rows_after, short_or_plain, stop_after, subcommand_or_other, to_positional, trailing, value, walk, walk_from, walked}
use Rattle.clap.specs.Words.{App, Rule, Shape, Text}
use Rattle.mq_words.specs.Words.{begins_with_dash}

and_true : (a b : Bool) → a ≡ true → b ≡ true → (a && b) ≡ true
and_true a b p q = rw (p, q) refl

-- ---- one word without a dash

not_dashes : (word : Text) → begins_with_dash word ≡ false → bytes_eq word (45 ∷ 45 ∷ []) ≡ false
not_dashes [] dash = refl
not_dashes (x ∷ xs) dash = rw dash refl

no_long : (word : Text) → begins_with_dash word ≡ false → long_of word ≡ None
no_long [] dash = refl
no_long (x ∷ xs) dash = rw dash refl

no_short : (word : Text) → begins_with_dash word ≡ false → short_of word ≡ None
no_short [] dash = refl
no_short (x ∷ xs) dash = rw dash refl

value_met : (c : List Rule) (position : ℕ) (word : Text) (h : Held) → begins_with_dash word ≡ false → subcommand_or_other c None idle position word h ≡ (h, value)
value_met c position word h dash =
    ap (λ (b : Bool). if b then (h, trailing position) else long_or_other c idle word (long_of word) h) (not_dashes word dash)
    ∙ (ap (λ (o : Option (Text × Option Text)). long_or_other c idle word o h) (no_long word dash)
    ∙ ap (λ (o : Option Text). short_or_plain c idle word o h) (no_short word dash))

value_passes : (s : Shape) (word : Text) (h : Held) → begins_with_dash word ≡ false → other_passes s None word h ≡ true
value_passes s word h dash =
    ap (λ (b : Bool). b || flag_word_passes s.rules s.args_override_self (long_of word) word h) (not_dashes word dash)
    ∙ (ap (λ (o : Option (Text × Option Text)). flag_word_passes s.rules s.args_override_self o word h) (no_long word dash)
    ∙ ap (λ (o : Option Text). option_map_or (λ (flags : Text). bundle_passes s.rules s.args_override_self flags h) o true) (no_short word dash))

-- ---- the words of a subcommand

-- where the walk stands before the value of a position
abbrev pub standing : Held → ℕ → Walk
standing h position = record { held = h; waiting = idle; position = position; is_trailing = false; stopped = None }

abbrev pub walk_after : Shape → ℕ → Text → Held → Walk
walk_after s position word h = to_positional s.rules (arg_by_index s.rules position) word (standing h position) h

abbrev pub held_after : Shape → ℕ → Held → List Text → Held
held_after s position h [] = h
held_after s position h (word ∷ words) = held_after s (suc position) (walk_after s position word h).held words

-- each word goes to a position of its own
abbrev pub EachFits : Shape → ℕ → Held → List Text → Type 0
EachFits s position h [] = Unit {0}
EachFits s position h (word ∷ words) =
    (step_passes s position h value ≡ true)
    × (walk_after s position word h ≡ standing (walk_after s position word h).held (suc position))
    × EachFits s (suc position) (walk_after s position word h).held words

abbrev pub no_dashes : List Text → Bool
no_dashes = list_all (λ word. not (begins_with_dash word))

has_none : (b : Bool) → not b ≡ true → b ≡ false
has_none true e = sym e
has_none false e = refl

walk_on : (s : Shape) (position : ℕ) (word : Text) (h : Held) → begins_with_dash word ≡ false
    → walk_after s position word h ≡ standing (walk_after s position word h).held (suc position)
    → walked s.rules [] (standing h position) word ≡ standing (walk_after s position word h).held (suc position)
unfolding walked
walk_on s position word h dash fits = ap (λ (p : Held × Step). after_step s.rules word (standing h position) p.0 p.1) (value_met s.rules position word h dash) ∙ fits

turn_on : (s : Shape) (position : ℕ) (word : Text) (h : Held) → begins_with_dash word ≡ false → step_passes s position h value ≡ true → turn_passes s [] (standing h position) word ≡ true
turn_on s position word h dash passes =
    and_true _ _ (value_passes s word h dash) (ap (λ (p : Held × Step). step_passes s position p.0 p.1) (value_met s.rules position word h dash) ∙ passes)

held_is : (s : Shape) (position : ℕ) (h : Held) (words : List Text) → no_dashes words ≡ true → EachFits s position h words
    → (fold (walked s.rules []) (standing h position) words).held ≡ held_after s position h words
held_is s position h [] none fits = refl
held_is s position h (word ∷ words) none fits =
    let parts = both (not (begins_with_dash word)) (no_dashes words) none in
    ap (λ (w : Walk). (fold (walked s.rules []) w words).held) (walk_on s position word h (has_none _ parts.0) fits.1)
    ∙ held_is s (suc position) (walk_after s position word h).held words parts.1 fits.2

words_pass : (s : Shape) (position : ℕ) (h : Held) (words : List Text) → no_dashes words ≡ true → EachFits s position h words
    → walk_passes s [] (standing h position) words ≡ true
unfolding walk_passes
words_pass s position h [] none fits = refl
words_pass s position h (word ∷ words) none fits =
    let parts = both (not (begins_with_dash word)) (no_dashes words) none in
    let dash = has_none _ parts.0 in
    and_true _ _ (turn_on s position word h dash fits.0)
    (ap (λ (w : Walk). walk_passes s [] w words) (walk_on s position word h dash fits.1)
    ∙ words_pass s (suc position) (walk_after s position word h).held words parts.1 fits.2)

pub rows_read : (s : Shape) (words : List Text) → no_dashes words ≡ true → EachFits s 1 nothing_held words → rows_after s.rules [] words ≡ finished s.rules (held_after s 1 nothing_held words)
rows_read s words none fits = ap (finished s.rules) (held_is s 1 nothing_held words none fits)

abbrev pub end_passes : Shape → Held → Bool
end_passes s end = settle_passes s.rules s.args_override_self end && (list_all default_passes s.rules && is_valid s (finished s.rules end) false)

pub level_taken : (s : Shape) (words : List Text) → no_dashes words ≡ true → EachFits s 1 nothing_held words → end_passes s (held_after s 1 nothing_held words) ≡ true
    → level_passes s [] nothing_held words false ≡ true
level_taken s words none fits end =
    and_true _ _ (words_pass s 1 nothing_held words none fits) (ap (end_passes s) (held_is s 1 nothing_held words none fits) ∙ end)

-- ---- the name of a subcommand, and the words after it

abbrev pub stopped_at : Text → List Text → Walk
stopped_at name seen = record (walk_from nothing_held) { stopped = Some (name, seen) }

stopped_passes : (s : Shape) (names : Names) (name : Text) (seen words : List Text) → walk_passes s names (stopped_at name seen) words ≡ true
unfolding walk_passes walked
stopped_passes s names name seen [] = refl
stopped_passes s names name seen (word ∷ words) = stopped_passes s names name (seen ++ word ∷ []) words

module _ (a : App) (name : Text) (rest : List Text) (leaf : Shape)
    (stops : walked a.top.rules (names_of a) (walk_from nothing_held) name ≡ stopped_at name [])
    (turn : turn_passes a.top (names_of a) (walk_from nothing_held) name ≡ true)
    (is : find (λ s. answers_to name (label_of s)) a.subs ≡ Some leaf)
    (end : (list_all default_passes a.top.rules && is_valid a.top (finished a.top.rules nothing_held) true) ≡ true)
    (level : level_passes leaf [] nothing_held rest false ≡ true) where
  walk_is : walk a.top.rules (names_of a) nothing_held (name ∷ rest) ≡ stopped_at name rest
  walk_is = ap (λ (w : Walk). fold (walked a.top.rules (names_of a)) w rest) stops ∙ sym (walk_stopped a.top.rules (names_of a) (walk_from nothing_held) name [] rest)

  enters : entered_passes a (Some (name, rest)) ≡ true
  enters = rw is level

  pub line_is : entered a (stop_after a.top.rules (names_of a) (name ∷ rest)) ≡ Some (rows_at leaf rest)
  line_is = ap (λ (w : Walk). entered a w.stopped) walk_is ∙ rw is refl

  has_entered : is_some (entered a (Some (name, rest))) ≡ true
  has_entered = rw is refl

  top_walk : walk_passes a.top (names_of a) (walk_from nothing_held) (name ∷ rest) ≡ true
  unfolding walk_passes
  top_walk = and_true _ _ turn (ap (λ (w : Walk). walk_passes a.top (names_of a) w rest) stops ∙ stopped_passes a.top (names_of a) name [] rest)

  abbrev top_end : Held → Bool → Bool
  top_end h has = settle_passes a.top.rules a.top.args_override_self h && (list_all default_passes a.top.rules && is_valid a.top (finished a.top.rules h) has)

  top_passes : level_passes a.top (names_of a) nothing_held (name ∷ rest) true ≡ true
  top_passes = and_true _ _ top_walk (ap (λ (w : Walk). top_end w.held true) walk_is ∙ end)

  pub name_taken : built_takes a nothing_held (name ∷ rest) ≡ true
  name_taken =
      let stop = ap (λ (w : Walk). w.stopped) walk_is in
      and_true _ _ (ap (entered_passes a) stop ∙ enters)
      (ap (λ (o : Option (Text × List Text)). level_passes a.top (names_of a) nothing_held (name ∷ rest) (is_some (entered a o))) stop
      ∙ (ap (λ (has : Bool). level_passes a.top (names_of a) nothing_held (name ∷ rest) has) has_entered ∙ top_passes))
