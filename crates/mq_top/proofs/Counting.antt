-- One line more of a generated script.
use Rattle.std.proofs.Common.{◌≡◌, ℕ, ◌+◌, ◌<◌, Bool, true, false, List, [], ◌∷◌, ◌++◌, length, Ok, Err, refl, sym, ap, subst, ◌∙◌, arith, append_assoc, append-nil, inl, inr}
use Rattle.std.specs.List.{AllByRecursion}
use Rattle.std.proofs.lemmas.List.{length-append}
use Rattle.mq_play.specs.Laws.{AllNoted, NoneSilent}
use Rattle.mq_play.specs.Play.{Fate, Noted, Silent, Stage, opening, IsWrong}
use Rattle.mq_replay.proofs.Reading.{plays_more}
use Rattle.mq_top.specs.Joined.{counted_none, counted_more}
use Rattle.mq_replay.specs.Listening.{IsNoted}
use Rattle.mq_replay.specs.Playing.{LineTo}
use Rattle.mq_drawn.specs.Laws.{HasNoBadLine}
use Rattle.mq_script.specs.Generated.{generated}
use Rattle.mq_script.specs.Left.{GivesLine}
use Rattle.mq_output.specs.Printing.{StopCounts}
use Rattle.mq_top.specs.Soaking.{IsBadAt, IsCounted, IsSoaked, IsSoaking, SoaksAll, SoaksOn}
use Rattle.mq_top.specs.Tallies.{Counts, Counted, no_counts}
use Rattle.mq_top.specs.declared.soaking.GeneratedPlay.{GeneratedPlay}
use Rattle.mq_replay.specs.declared.stage.Stage as held
use Rattle.mq_output.specs.declared.stop.Stop.{Stop}
use Rattle.mq_output.specs.declared.stop.Stop.TheVariants as stop

none_silent : (fates : List Fate) → AllByRecursion IsNoted fates → NoneSilent fates
none_silent [] h = tt
none_silent (Noted ∷ fates) h = none_silent fates h.1
none_silent (Silent reached ∷ fates) h = absurd h.0

noted_more : (before : List (List Fate)) (here : List Fate) → AllNoted before → NoneSilent here → AllNoted (before ++ here ∷ [])
noted_more [] here all h = (h, tt)
noted_more (f ∷ before) here all h = (all.0, noted_more before here all.1 h)

-- no line was played
pub counted_so_far : IsCounted [] no_counts opening
counted_so_far = record { fates = []; text = []; plays = (refl, refl); noted = tt; counted = counted_none no_counts }

-- one more line was played
pub counted_line : (before : List (List ℕ)) (line shown : List ℕ) (counts now : Counts) (here : Stage) (y : held.Stage) → IsCounted before counts here → (told : LineTo IsNoted here line shown (Ok tt) y) → Counted counts now shown
    → IsCounted (before ++ line ∷ []) now told.1
counted_line before line shown counts now here y is told heard = record {
  fates = is.fates ++ told.0 ∷ [];
  text = is.text ++ shown;
  plays = plays_more opening before is.fates is.text here line shown told.0 told.1 is.plays told.2.0;
  noted = noted_more is.fates told.0 is.noted (none_silent told.0 told.2.1);
  counted = counted_more no_counts counts now is.text shown is.counted heard;
}

-- it is played on
pub soaks_line : (x y : GeneratedPlay) (lines rest : List (List ℕ)) (line shown : List ℕ) → (is : IsSoaking x lines) → x.generator ≡ line ∷ rest → LineTo IsNoted is.here line shown (Ok tt) y.stage
    → Counted x.tally y.tally shown → y.generator ≡ rest → y.number ≡ x.number + 1 → IsSoaking y lines
soaks_line x y lines rest line shown is first told heard left number =
    let size : length (is.before ++ line ∷ []) ≡ length is.before + 1 = length-append is.before (line ∷ []) in
    record {
      before = is.before ++ line ∷ [];
      here = told.1;
      lines_are = is.lines_are ∙ ap (λ (ls : List (List ℕ)). is.before ++ ls) (first ∙ ap (λ (ls : List (List ℕ)). line ∷ ls) (sym left)) ∙ sym (append_assoc is.before (line ∷ []) y.generator);
      is = counted_line is.before line shown x.tally y.tally is.here y.stage is.is told heard;
      stands = told.3;
      number = omega (arith, number, is.number, size);
    }

-- a line is bad
pub soaks_bad : (x : GeneratedPlay) (lines rest : List (List ℕ)) (line : List ℕ) (number : ℕ) → (is : IsSoaking x lines) → x.generator ≡ line ∷ rest → IsWrong is.here line → number ≡ x.number → IsBadAt lines number
soaks_bad x lines rest line number is first bad same = record {
  before = is.before;
  line = line;
  after = rest;
  counts = x.tally;
  here = is.here;
  lines_are = is.lines_are ∙ ap (λ (ls : List (List ℕ)). is.before ++ ls) first;
  is = is.is;
  bad = inl bad;
  number_is = same ∙ is.number;
}

-- a line was given
pub given_line : (b : Bool) (old new : List (List ℕ)) (text out : List ℕ) → b ≡ true → text ≡ [] → GivesLine old text (Ok b) new out → old ≡ out ∷ new
given_line true old new text out is empty given =
    given.1 ∙ ap (λ (line : List ℕ). line ∷ new) (sym (given.2 ∙ ap (λ (t : List ℕ). t ++ given.0) empty))
given_line false old new text out is empty given = absurd cc

pub shorter_by : (old new : List (List ℕ)) (line : List ℕ) → old ≡ line ∷ new → length new < length old
shorter_by old new line is = let size : length old ≡ length new + 1 = ap (λ (ls : List (List ℕ)). length ls) is ∙ omega arith in omega (arith, size)

-- its play stopped
pub soaks_stopped : (x y : GeneratedPlay) (lines rest : List (List ℕ)) (line shown : List ℕ) (why : Stop) (z : held.Stage) → (is : IsSoaking x lines) → x.generator ≡ line ∷ rest → LineTo IsNoted is.here line shown (Err why) z
    → StopCounts {A = Unit {0}} 0 0 (Err why) → y.number ≡ x.number → SoaksOn lines (Err why) y
soaks_stopped x y lines rest line shown stop.BadLine z is first told counts same = soaks_bad x lines rest line y.number is first told.0 same
soaks_stopped x y lines rest line shown stop.WriteFault z is first told counts same = absurd (omega (arith, counts.1))
soaks_stopped x y lines rest line shown stop.NoMemory z is first told counts same = tt

-- all lines were played
pub soaked_all : (x : GeneratedPlay) (lines : List (List ℕ)) → IsSoaking x lines → x.generator ≡ [] → IsSoaked x lines
soaked_all x lines is none =
    let all : lines ≡ is.before = is.lines_are ∙ ap (λ (ls : List (List ℕ)). is.before ++ ls) none ∙ append-nil is.before in
    record { here = is.here; is = subst (λ (ls : List (List ℕ)). IsCounted ls x.tally is.here) (sym all) is.is; stands = is.stands }

pub stops_all : (lines : List (List ℕ)) (why : Stop) (x : GeneratedPlay) → SoaksOn lines (Err why) x → SoaksAll lines (Err why) x
stops_all lines stop.BadLine x on = on
stops_all lines stop.WriteFault x on = on
stops_all lines stop.NoMemory x on = on

pub counted_at : (t : Counts) → t ≡ no_counts → IsCounted [] t opening
counted_at t is = subst (λ (c : Counts). IsCounted [] c opening) (sym is) counted_so_far

-- no line is left
pub ends_all : (b : Bool) (lines : List (List ℕ)) (x : GeneratedPlay) → b ≡ false → SoaksOn lines (Ok b) x → IsSoaked x lines
ends_all false lines x is on = soaked_all x lines on.0 on.1
ends_all true lines x is on = absurd cc

-- no line of a generated script is bad
pub no_bad_line : HasNoBadLine → (seed count number : ℕ) → IsBadAt (generated seed count) number → ⊥
no_bad_line none seed count number at =
    let good = none seed count at.before at.line at.after at.is.fates at.is.text at.here at.lines_are at.is.plays at.is.noted in
    elim at.bad [
      | inl wrong ↦ good.0 wrong
      | inr long ↦ absurd (omega (arith, long, good.1))
    ]
