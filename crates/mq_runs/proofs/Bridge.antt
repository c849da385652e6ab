-- What lines print is what a run prints.
use Rattle.std.proofs.Common.{◌≡◌, ℕ, zero, suc, Bool, true, false, List, [], ◌∷◌, ◌++◌, ap, sym, subst, refl, ◌∙◌, inl, inr, append_assoc, append-nil}
use Rattle.std.specs.List.{flat_map, list_any}
use Rattle.mq_talk.specs.declared.note.Note.{Note}
use Rattle.mq_machine.specs.State.{State}
use Rattle.mq_machine.specs.Turn.{Actor, has_turn}
use Rattle.mq_play.specs.declared.line.Line.{Line}
use Rattle.mq_play.specs.declared.line.Line.TheVariants as line
use Rattle.mq_play.specs.declared.line.SettingLine.{SettingLine}
use Rattle.mq_play.specs.Events.{happen}
use Rattle.mq_play.specs.Lines.{Says}
use Rattle.mq_play.specs.Play.{Fate, Noted, Silent, Until, TheEnd, SomeStop, StepsTo, StopsAt, Runs, EndsAt, actors_of, place_behind, Goes, Stage, Settings, Running, opening, opened, actor_of, Sets, LinePlays, PlaysLine, Plays}
use Rattle.mq_play.specs.Settings.{plan_of}
use Rattle.mq_play.specs.Text.{Print, Idle, More, Bad, printed}
use Rattle.mq_play.specs.Text.{Says as SaysNote}
use Rattle.mq_play.proofs.Plans.{IsKept, none_kept, more_kept, kept_plan}
use Rattle.mq_runs.specs.Runs.{Moment, Happened, Refused, Run, notes_of, notes_in, IsRunOf}
use Rattle.mq_runs.specs.Runs as runs

-- ---- runs behind runs

pub run_append : (ms ns : List Moment) (old mid new : State) → Run old ms mid → Run mid ns new → Run old (ms ++ ns) new
run_append [] ns old mid new x y = subst (λ (s : State). Run s ns new) x y
run_append (m ∷ ms) ns old mid new x y = (x.0, x.1, run_append ms ns x.0 mid new x.2 y)

pub notes_append : (ms ns : List Moment) → notes_of (ms ++ ns) ≡ notes_of ms ++ notes_of ns
notes_append [] ns = refl
notes_append (Happened event ∷ ms) ns = notes_append ms ns
notes_append (runs.Noted actor note ∷ ms) ns = ap (λ (l : List Note). note ∷ l) (notes_append ms ns)
notes_append (Refused actor reached ∷ ms) ns = notes_append ms ns

prints_append : (ps qs : List Print) → notes_in (ps ++ qs) ≡ notes_in ps ++ notes_in qs
prints_append [] qs = refl
prints_append (SaysNote note ∷ ps) qs = ap (λ (l : List Note). note ∷ l) (prints_append ps qs)
prints_append (Idle actor ∷ ps) qs = prints_append ps qs
prints_append (More ∷ ps) qs = prints_append ps qs
prints_append (Bad number ∷ ps) qs = prints_append ps qs

text_append : (ps qs : List Print) → flat_map printed (ps ++ qs) ≡ flat_map printed ps ++ flat_map printed qs
text_append [] qs = refl
text_append (p ∷ ps) qs = ap (λ (l : List ℕ). printed p ++ l) (text_append ps qs) ∙ sym (append_assoc (printed p) (flat_map printed ps) (flat_map printed qs))

-- a part of a run, and what it prints
record Piece (old : State) (text : List ℕ) (new : State) : Type 0 where
  moments : List Moment
  prints : List Print
  run : Run old moments new
  text_is : text ≡ flat_map printed prints
  notes_are : notes_in prints ≡ notes_of moments

joined : (a b c : State) (s t : List ℕ) → Piece a s b → Piece b t c → Piece a (s ++ t) c
joined a b c s t x y = record {
  moments = x.moments ++ y.moments;
  prints = x.prints ++ y.prints;
  run = run_append x.moments y.moments a b c x.run y.run;
  text_is = ap (λ (l : List ℕ). l ++ t) x.text_is ∙ ap (λ (l : List ℕ). flat_map printed x.prints ++ l) y.text_is ∙ sym (text_append x.prints y.prints);
  notes_are = prints_append x.prints y.prints ∙ ap (λ (l : List Note). l ++ notes_in y.prints) x.notes_are ∙ ap (λ (l : List Note). notes_of x.moments ++ l) y.notes_are ∙ sym (notes_append x.moments y.moments);
}

-- nothing goes on, and this is printed, which is no note
still : (old new : State) (text : List ℕ) (prints : List Print) → new ≡ old → text ≡ flat_map printed prints → notes_in prints ≡ [] → Piece old text new
still old new text prints same is none = record { moments = []; prints = prints; run = same; text_is = is; notes_are = none }

one_print : (p : Print) → printed p ≡ flat_map printed (p ∷ [])
one_print p = sym (append-nil (printed p))

-- ---- steps

step_piece : (old : State) (actor : Actor) (fate : Fate) (text : List ℕ) (new : State) → StepsTo old actor fate text new → Piece old text new
step_piece old actor Noted text new x = record {
  moments = runs.Noted actor x.0 ∷ [];
  prints = SaysNote x.0 ∷ [];
  run = (new, x.1, refl);
  text_is = x.2 ∙ one_print (SaysNote x.0);
  notes_are = refl;
}
step_piece old actor (Silent reached) text new x = record { moments = Refused actor reached ∷ []; prints = []; run = (new, x.0, refl); text_is = x.1; notes_are = refl }

stops_piece : (until : Until) (old : State) (actor : Actor) (text : List ℕ) (new : State) → StopsAt until old actor text → new ≡ old → Piece old text new
stops_piece TheEnd old actor text new x same = still old new text (Idle actor ∷ []) same (x.1 ∙ one_print (Idle actor)) refl
stops_piece SomeStop old actor text new (inl x) same = still old new text (Idle actor ∷ []) same (x.1 ∙ one_print (Idle actor)) refl
stops_piece SomeStop old actor text new (inr x) same = still old new text [] same x refl

run_piece : (until : Until) (n : ℕ) (old : State) (actor : Actor) (f : List Fate) (text : List ℕ) (new : State) → Runs until old actor n f text new → Piece old text new
run_piece until zero old actor [] text new x = still old new text [] x.1 x.0 refl
run_piece until zero old actor (z ∷ f) text new x = absurd x
run_piece until (suc n) old actor [] text new x = stops_piece until old actor text new x.0 x.1
run_piece until (suc n) old actor (z ∷ f) text new x =
    rw x.5 (joined old x.0 new x.1 x.2 (step_piece old actor z x.1 x.0 x.3) (run_piece until n x.0 actor f x.2 new x.4))

more_piece : (b : Bool) (old new : State) (text : List ℕ) → new ≡ old → text ≡ Rattle.std.specs.Prelude.cond b (printed More) [] → Piece old text new
more_piece true old new text same is = still old new text (More ∷ []) same (is ∙ one_print More) refl
more_piece false old new text same is = still old new text [] same is refl

ends_piece : (until : Until) (old : State) (text : List ℕ) (new : State) → EndsAt until old text → new ≡ old → Piece old text new
ends_piece TheEnd old text new x same = more_piece (list_any (has_turn old) (actors_of old)) old new text same x
ends_piece SomeStop old text new (inl x) same = more_piece (list_any (has_turn old) (actors_of old)) old new text same x
ends_piece SomeStop old text new (inr x) same = still old new text [] same x refl

round_piece : (until : Until) (n : ℕ) (old : State) (at : ℕ) (f : List Fate) (text : List ℕ) (new : State) → Goes until old at n f text new → Piece old text new
round_piece until zero old at [] text new x = ends_piece until old text new x.0 x.1
round_piece until zero old at (z ∷ f) text new x = absurd x
round_piece until (suc n) old at [] text new x = still old new text [] x.2 x.1 refl
round_piece until (suc n) old at (z ∷ f) text new x =
    rw x.7 (joined old x.1 new x.2 x.3 (step_piece old x.0 z x.2 x.1 x.5) (round_piece until n x.1 (place_behind x.0) f x.3 new x.6))

-- ---- lines

-- how far a script has come, when it has printed this
abbrev Reaches : Stage → List ℕ → Type 0
Reaches (Settings lines) text = IsKept lines × (text ≡ [])
Reaches (Running s) text = IsRunOf text s

as_run : (s : Stage) (text : List ℕ) → Reaches s text → IsRunOf text (opened s)
as_run (Settings lines) text h =
    record { plan = plan_of lines; moments = []; prints = []; is_plan = kept_plan lines h.0; run = refl; text_is = h.1; notes_are = refl }
as_run (Running s) text h = h

longer : (seen text : List ℕ) (old new : State) → IsRunOf seen old → Piece old text new → IsRunOf (seen ++ text) new
longer seen text old new x y =
    let first : Piece (Rattle.mq_play.specs.Events.state_of x.plan) seen old = record { moments = x.moments; prints = x.prints; run = x.run; text_is = x.text_is; notes_are = x.notes_are } in
    let all = joined (Rattle.mq_play.specs.Events.state_of x.plan) old new seen text first y in
    record { plan = x.plan; moments = all.moments; prints = all.prints; is_plan = x.is_plan; run = all.run; text_is = all.text_is; notes_are = all.notes_are }

-- nothing is printed
stays : (s : Stage) (seen text : List ℕ) → text ≡ [] → Reaches s seen → Reaches s (seen ++ text)
stays s seen text none h = rw none (rw append-nil h)

set_reaches : (text : List ℕ) (old : Stage) (said : SettingLine) (new : Stage) (seen : List ℕ) → Says text (line.Setting said) → Reaches old seen → Sets old said new → Reaches new seen
set_reaches text (Settings lines) said new seen says h x = subst (λ (s : Stage). Reaches s seen) (sym x.1) (more_kept text lines said says h.0 x.0, h.1)
set_reaches text (Running state) said new seen says h x = absurd x

line_reaches : (until : Until) (text : List ℕ) (old : Stage) (said : Line) (f : List Fate) (shown : List ℕ) (new : Stage) (seen : List ℕ)
    → Says text said → Reaches old seen → LinePlays until old said f shown new → Reaches new (seen ++ shown)
line_reaches until text old line.Blank f shown new seen says h x = stays new seen shown x.2 (subst (λ (s : Stage). Reaches s seen) (sym x.0) h)
line_reaches until text old (line.Setting said) f shown new seen says h x = stays new seen shown x.2 (set_reaches text old said new seen says h x.0)
line_reaches until text old (line.Happens event) f shown new seen says h x =
    let piece : Piece (opened old) [] (happen (opened old) event) = record { moments = Happened event ∷ []; prints = []; run = (happen (opened old) event, (x.0, refl), refl); text_is = refl; notes_are = refl } in
    subst (λ (s : Stage). Reaches s (seen ++ shown)) (sym x.1) (rw x.3 (longer seen [] (opened old) (happen (opened old) event) (as_run old seen h) piece))
line_reaches until text old (line.Steps actor count) f shown new seen says h x =
    subst (λ (s : Stage). Reaches s (seen ++ shown)) (sym x.3) (longer seen shown (opened old) x.1 (as_run old seen h) (run_piece until count (opened old) (actor_of actor) f shown x.1 x.2))
line_reaches until text old (line.Run count) f shown new seen says h x =
    subst (λ (s : Stage). Reaches s (seen ++ shown)) (sym x.2) (longer seen shown (opened old) x.0 (as_run old seen h) (round_piece until count (opened old) 0 f shown x.0 x.1))

lines_reach : (lines : List (List ℕ)) (old new : Stage) (f : List (List Fate)) (text seen : List ℕ) → Reaches old seen → Plays old lines f text new → Reaches new (seen ++ text)
lines_reach [] old new [] text seen h x = stays new seen text x.0 (subst (λ (s : Stage). Reaches s seen) (sym x.1) h)
lines_reach [] old new (z ∷ f) text seen h x = absurd x
lines_reach (l ∷ lines) old new [] text seen h x = absurd x
lines_reach (l ∷ lines) old new (z ∷ f) text seen h x =
    let here = line_reaches TheEnd l old x.3.said z x.1 x.0 seen x.3.says h x.3.plays in
    let on = lines_reach lines x.0 new f x.2 (seen ++ x.1) here x.4 in
    rw x.5 (rw (← append_assoc seen x.1 x.2) on)

opens : Reaches opening []
opens = (none_kept, refl)

pub plays_run : (lines : List (List ℕ)) (fates : List (List Fate)) (text : List ℕ) (s : Stage) → Plays opening lines fates text s → IsRunOf text (opened s)
plays_run lines fates text s x = as_run s text (lines_reach lines opening s fates text [] opens x)

pub stops_run : (lines : List (List ℕ)) (fates : List (List Fate)) (text : List ℕ) (s : Stage) (l : List ℕ) (last : List Fate) (part : List ℕ) (t : Stage)
    → Plays opening lines fates text s → PlaysLine SomeStop s l last part t → IsRunOf (text ++ part) (opened t)
stops_run lines fates text s l last part t x y =
    as_run t (text ++ part) (line_reaches SomeStop l s y.said last part t text y.says (lines_reach lines opening s fates text [] opens x) y.plays)
