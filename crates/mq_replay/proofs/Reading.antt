-- The play of the lines that were cut.
use Rattle.std.proofs.Common.{◌≡◌, ℕ, ◌+◌, ◌≤◌, List, [], ◌∷◌, ◌++◌, length, Result, Ok, Err, refl, sym, ap, subst, ◌∙◌, arith, append_assoc, append-nil, inl, inr}
use Rattle.std.specs.List.{AllByRecursion}
use Rattle.std.proofs.lemmas.List.{length-append}
use Rattle.mq_play.specs.Play.{Fate, Stage, opening, Plays, PlaysLine, TheEnd}
use Rattle.mq_play.specs.Script.{lines_of, Fits, IsReached, IsBad, IsPlayedPart}
use Rattle.mq_play.specs.Text.{newline}
use Rattle.mq_text.specs.Cut.{Lacks}
use Rattle.mq_replay.proofs.Cutting.{begun_more, begun_ended, parts_length, script_lines, reached, line_reached, last_reached, begun_reached, bad_long, bad_past}
use Rattle.mq_replay.specs.Listening.{MayBeAny}
use Rattle.mq_replay.specs.Playing.{LineTo, IsCutOff}
use Rattle.mq_output.specs.Printing.{IsSilent}
use Rattle.mq_replay.specs.Reading.{IsScript, IsRead, RoomTo, StopsAt, ReadsTo, EndsTo}
use Rattle.mq_replay.specs.Stages.{IsStage}
use Rattle.mq_replay.specs.declared.session.Session.{Session}
use Rattle.mq_replay.specs.declared.stage.Stage as held
use Rattle.mq_output.specs.declared.stop.Stop.{Stop}
use Rattle.mq_output.specs.declared.stop.Stop.TheVariants.{BadLine, WriteFault, NoMemory}

-- one more line
pub plays_more : (old : Stage) (lines : List (List ℕ)) (before : List (List Fate)) (text : List ℕ) (mid : Stage) (line shown : List ℕ) (here : List Fate) (new : Stage)
    → Plays old lines before text mid → PlaysLine TheEnd mid line here shown new → Plays old (lines ++ line ∷ []) (before ++ here ∷ []) (text ++ shown) new
plays_more old [] [] text mid line shown here new p q =
    let P : Stage → Type 0 = λ from. PlaysLine TheEnd from line here shown new in
    (new, shown, [], subst P p.1 q, (refl, refl), ap (λ (xs : List ℕ). xs ++ shown) p.0 ∙ sym (append-nil shown))
plays_more old [] (f ∷ before) text mid line shown here new p q = absurd p
plays_more old (first ∷ lines) [] text mid line shown here new p q = absurd p
plays_more old (first ∷ lines) (f ∷ before) text mid line shown here new p q =
    (p.0, p.1, p.2 ++ shown, p.3, plays_more p.0 lines before p.2 mid line shown here new p.4 q, ap (λ (xs : List ℕ). xs ++ shown) p.5 ∙ append_assoc p.1 p.2 shown)

-- ---- where a play stops

-- no line was played
pub nothing_yet : (whole : List ℕ) → IsPlayedPart whole []
nothing_yet whole = record {
  before = [];
  after = lines_of whole;
  fates = [];
  here = opening;
  text = [];
  last = [];
  part = [];
  reached = record { is = refl; fits = omega arith; plays = (refl, refl) };
  stops = inl (refl, refl);
  front = ([], refl);
}

-- the play stopped before a line
stops_before : (whole : List ℕ) (lines after : List (List ℕ)) (fates : List (List Fate)) (state : Stage) (text shown : List ℕ) → IsReached whole lines after fates text state → shown ≡ [] → IsPlayedPart whole (text ++ shown)
stops_before whole lines after fates state text shown far none = record {
  before = lines;
  after = after;
  fates = fates;
  here = state;
  text = text;
  last = [];
  part = [];
  reached = far;
  stops = inl (refl, refl);
  front = ([], ap (λ (xs : List ℕ). text ++ xs) (sym none) ∙ sym (append-nil (text ++ shown)));
}

-- it stopped in a line
stops_in : (whole : List ℕ) (lines others : List (List ℕ)) (fates : List (List Fate)) (state : Stage) (text shown line : List ℕ) → IsReached whole lines (line ∷ others) fates text state → Fits whole (lines ++ line ∷ [])
    → IsCutOff (λ until here t. PlaysLine until state line here shown t × AllByRecursion MayBeAny here) shown → IsPlayedPart whole (text ++ shown)
stops_in whole lines others fates state text shown line far fits (inl none) = stops_before whole lines (line ∷ others) fates state text shown far none
stops_in whole lines others fates state text shown line far fits (inr cut) = record {
  before = lines;
  after = line ∷ others;
  fates = fates;
  here = state;
  text = text;
  last = cut.0;
  part = shown;
  reached = far;
  stops = inr (inl (record { line = line; others = others; new = cut.1; is = refl; fits = fits; plays = cut.2.0 }));
  front = ([], sym (append-nil (text ++ shown)));
}

-- a whole line was played until its play stopped
pub line_stops : (whole : List ℕ) (lines others : List (List ℕ)) (fates : List (List Fate)) (state : Stage) (text shown line : List ℕ) (why : Stop) (w : held.Stage) (number : ℕ) → IsReached whole lines (line ∷ others) fates text state
    → Fits whole (lines ++ line ∷ []) → number ≡ length lines → LineTo MayBeAny state line shown (Err why) w → StopsAt whole (text ++ shown) why number
line_stops whole lines others fates state text shown line BadLine w number far fits count told =
    let P : List ℕ → Type 0 = λ all. IsReached whole lines (line ∷ others) fates all state in
    record {
      before = lines;
      line = line;
      after = others;
      fates = fates;
      here = state;
      reached = subst P (sym (ap (λ (xs : List ℕ). text ++ xs) told.1 ∙ append-nil text)) far;
      bad = inl told.0;
      number_is = count;
    }
line_stops whole lines others fates state text shown line WriteFault w number far fits count told = stops_in whole lines others fates state text shown line far fits told
line_stops whole lines others fates state text shown line NoMemory w number far fits count told = stops_in whole lines others fates state text shown line far fits told

-- what was read stands for a play that stopped behind its lines
pub no_memory : (x : Session) (script : List ℕ) (lines : List (List ℕ)) (text more : List ℕ) → IsRead x script lines text → IsPlayedPart (script ++ more) text
no_memory x script lines text more r =
    let sum = parts_length script lines x.begun.items r.script_is in
    let far = reached script lines (lines_of (x.begun.items ++ more)) x.begun.items more r.fates text r.state r.script_is (omega (arith, sum, r.fits)) r.plays refl in
    let P : List ℕ → Type 0 = λ all. IsPlayedPart (script ++ more) all in
    subst P (append-nil text) (stops_before (script ++ more) lines (lines_of (x.begun.items ++ more)) r.fates r.state text [] far refl)

pub nothing_played : (x : Session) (script : List ℕ) (lines : List (List ℕ)) (text bytes more : List ℕ) → IsRead x script lines text → IsPlayedPart (script ++ bytes ++ more) (text ++ [])
nothing_played x script lines text bytes more r =
    let P : List ℕ → Type 0 = λ whole. IsPlayedPart whole (text ++ []) in
    let Q : List ℕ → Type 0 = λ out. IsPlayedPart (script ++ (bytes ++ more)) out in
    subst P (sym (append_assoc script bytes more)) (subst Q (sym (append-nil text)) (no_memory x script lines text (bytes ++ more) r))

-- no bytes were read
pub read_none : (x : Session) (script : List ℕ) (lines : List (List ℕ)) (text : List ℕ) → IsRead x script lines text → IsRead x (script ++ []) lines (text ++ [])
read_none x script lines text r =
    let P : List ℕ → Type 0 = λ whole. IsRead x whole lines (text ++ []) in
    let Q : List ℕ → Type 0 = λ out. IsRead x script lines out in
    subst P (sym (append-nil script)) (subst Q (sym (append-nil text)) r)

-- a limit is no fault of the sink
pub room_silent : (line count ended : ℕ) (why : Stop) → RoomTo line count ended (Err why) → IsSilent {A = Unit {0}} (Err why)
room_silent line count ended BadLine r = tt
room_silent line count ended WriteFault r = absurd r
room_silent line count ended NoMemory r = absurd r

-- the begun line with more bytes of it has no room
pub too_much : (x : Session) (script : List ℕ) (lines : List (List ℕ)) (text bytes tail : List ℕ) (why : Stop) → length tail ≤ 1 → Lacks newline bytes → IsRead x script lines text
    → RoomTo (length x.begun.items + length bytes) (x.count + length bytes) (length tail) (Err why)
    → (more : List ℕ) → StopsAt (script ++ (bytes ++ tail) ++ more) text why x.number
too_much x script lines text bytes tail BadLine short plain r told more =
    let begun = x.begun.items in
    let line = begun ++ bytes in
    let s = begun_more script lines begun bytes plain r.script_is in
    let sum = parts_length script lines begun r.script_is in
    let size : length line ≡ length begun + length bytes = length-append begun bytes in
    let all : length (script ++ bytes) ≡ length script + length bytes = length-append script bytes in
    let rest : length (tail ++ more) ≡ length tail + length more = length-append tail more in
    let far = begun_reached (script ++ bytes) lines line (tail ++ more) r.fates text r.state s (omega (arith, sum, r.fits)) r.plays in
    let bad : IsBad ((script ++ bytes) ++ (tail ++ more)) lines r.state (line ++ far.end) =
    elim told [
      | inl long ↦ bad_long ((script ++ bytes) ++ (tail ++ more)) lines r.state line far.end (omega (arith, long, size))
      | inr past ↦ bad_past (script ++ bytes) lines r.state line far.end (tail ++ more) (length tail) s (omega (arith, past, all, r.count)) short (omega (arith, rest))
    ] in
    let whole : (script ++ bytes) ++ (tail ++ more) ≡ script ++ (bytes ++ tail) ++ more =
    sym (append_assoc (script ++ bytes) tail more) ∙ ap (λ (xs : List ℕ). xs ++ more) (append_assoc script bytes tail) in
    let P : List ℕ → Type 0 = λ xs. StopsAt xs text BadLine x.number in
    subst P whole (record {
      before = lines;
      line = line ++ far.end;
      after = far.after;
      fates = r.fates;
      here = r.state;
      reached = far.reached;
      bad = bad;
      number_is = r.number;
    })
too_much x script lines text bytes tail WriteFault short plain r told more = absurd told
too_much x script lines text bytes tail NoMemory short plain r told more = absurd told

-- the script up to a newline, as the begun line and its newline
ended_script : (script bytes : List ℕ) → (script ++ bytes) ++ newline ∷ [] ≡ script ++ (bytes ++ newline ∷ [])
ended_script script bytes = append_assoc script bytes (newline ∷ [])

-- the begun line ended and was good
pub line_read : (x y : Session) (script : List ℕ) (lines : List (List ℕ)) (text bytes shown : List ℕ) (now : ℕ) → Lacks newline bytes → (r : IsRead x script lines text)
    → RoomTo (length x.begun.items + length bytes) (x.count + length bytes) 1 (Ok now) → LineTo MayBeAny r.state (x.begun.items ++ bytes) shown (Ok tt) y.stage
    → y.begun.items ≡ [] → y.number ≡ x.number + 1 → y.count ≡ now → IsRead y (script ++ (bytes ++ newline ∷ [])) (lines ++ (x.begun.items ++ bytes) ∷ []) (text ++ shown)
line_read x y script lines text bytes shown now plain r room told none number count =
    let begun = x.begun.items in
    let line = begun ++ bytes in
    let s = begun_more script lines begun bytes plain r.script_is in
    let all : length (script ++ (bytes ++ newline ∷ [])) ≡ length script + length (bytes ++ newline ∷ []) = length-append script (bytes ++ newline ∷ []) in
    let last : length (bytes ++ newline ∷ []) ≡ length bytes + 1 = length-append bytes (newline ∷ []) in
    let counted : length (lines ++ line ∷ []) ≡ length lines + 1 = length-append lines (line ∷ []) in
    let P : List ℕ → Type 0 = λ whole. IsScript whole (lines ++ line ∷ []) [] in
    let Q : List ℕ → Type 0 = λ tail. IsScript (script ++ (bytes ++ newline ∷ [])) (lines ++ line ∷ []) tail in
    record {
      state = told.1;
      fates = r.fates ++ told.0 ∷ [];
      plays = plays_more opening lines r.fates text r.state line shown told.0 told.1 r.plays told.2.0;
      stands = told.3;
      number = omega (arith, number, counted, r.number);
      script_is = subst Q (sym none) (subst P (ended_script script bytes) (begun_ended (script ++ bytes) lines line s));
      count = omega (arith, count, room.0, all, last, r.count);
      fits = omega (arith, room.0, room.1, all, last, r.count);
      begun_fits = omega (arith, ap (λ (xs : List ℕ). length xs) none);
    }

-- it ended and stopped the play
pub line_stopped : (x : Session) (script : List ℕ) (lines : List (List ℕ)) (text bytes shown : List ℕ) (now : ℕ) (why : Stop) (w : held.Stage) → Lacks newline bytes → (r : IsRead x script lines text)
    → RoomTo (length x.begun.items + length bytes) (x.count + length bytes) 1 (Ok now) → LineTo MayBeAny r.state (x.begun.items ++ bytes) shown (Err why) w
    → (more : List ℕ) → StopsAt (script ++ (bytes ++ newline ∷ []) ++ more) (text ++ shown) why x.number
line_stopped x script lines text bytes shown now why w plain r room told more =
    let begun = x.begun.items in
    let line = begun ++ bytes in
    let s = begun_more script lines begun bytes plain r.script_is in
    let all : length (script ++ bytes) ≡ length script + length bytes = length-append script bytes in
    let last : length ((script ++ bytes) ++ newline ∷ []) ≡ length (script ++ bytes) + 1 = length-append (script ++ bytes) (newline ∷ []) in
    let far = line_reached (script ++ bytes) lines line more r.fates text r.state s (omega (arith, room.0, room.1, all, last, r.count)) r.plays in
    let P : List ℕ → Type 0 = λ whole. StopsAt (whole ++ more) (text ++ shown) why x.number in
    subst P (ended_script script bytes)
    (line_stops (((script ++ bytes) ++ newline ∷ []) ++ more) lines (lines_of more) r.fates r.state text shown line why w x.number far.0 far.1 r.number told)

-- the begun line goes on
pub kept : (x y : Session) (script : List ℕ) (lines : List (List ℕ)) (text bytes : List ℕ) (now : ℕ) → Lacks newline bytes → IsRead x script lines text
    → RoomTo (length x.begun.items + length bytes) (x.count + length bytes) 0 (Ok now) → y.stage ≡ x.stage
    → y.begun.items ≡ x.begun.items ++ bytes → y.number ≡ x.number → y.count ≡ now → IsRead y (script ++ bytes) lines text
kept x y script lines text bytes now plain r room world begun number count =
    let s = begun_more script lines x.begun.items bytes plain r.script_is in
    let size : length (x.begun.items ++ bytes) ≡ length x.begun.items + length bytes = length-append x.begun.items bytes in
    let all : length (script ++ bytes) ≡ length script + length bytes = length-append script bytes in
    let P : List ℕ → Type 0 = λ tail. IsScript (script ++ bytes) lines tail in
    let Q : held.Stage → Type 0 = λ w. IsStage w r.state in
    record {
      state = r.state;
      fates = r.fates;
      plays = r.plays;
      stands = subst Q (sym world) r.stands;
      number = number ∙ r.number;
      script_is = subst P (sym begun) s;
      count = omega (arith, count, room.0, all, r.count);
      fits = omega (arith, room.0, room.1, all, r.count);
      begun_fits = omega (arith, ap (λ (xs : List ℕ). length xs) begun, size, room.2);
    }

-- the stop at a front is one of all
pub stops_more : (script front back all text : List ℕ) (why : Stop) (number : ℕ) → all ≡ front ++ back
    → ((more : List ℕ) → StopsAt (script ++ front ++ more) text why number) → (more : List ℕ) → StopsAt (script ++ all ++ more) text why number
stops_more script front back all text why number e told more =
    let P : List ℕ → Type 0 = λ whole. StopsAt whole text why number in
    let is : script ++ front ++ (back ++ more) ≡ script ++ all ++ more =
    append_assoc script front (back ++ more)
    ∙ ap (λ (xs : List ℕ). script ++ xs) (sym (append_assoc front back more) ∙ ap (λ (xs : List ℕ). xs ++ more) (sym e))
    ∙ sym (append_assoc script all more) in
    subst P is (told (back ++ more))

-- the script and the text, grouped otherwise
pub regrouped : (script front last whole text shown s : List ℕ) (answer : Result (Unit {0}) Stop) (x : Session) → whole ≡ front ++ last
    → ReadsTo ((script ++ front) ++ last) ((text ++ shown) ++ s) answer x → ReadsTo (script ++ whole) (text ++ (shown ++ s)) answer x
regrouped script front last whole text shown s answer x e r =
    let P : List ℕ → Type 0 = λ all. ReadsTo all ((text ++ shown) ++ s) answer x in
    let Q : List ℕ → Type 0 = λ out. ReadsTo (script ++ whole) out answer x in
    let script_is : (script ++ front) ++ last ≡ script ++ whole = append_assoc script front last ∙ ap (λ (xs : List ℕ). script ++ xs) (sym e) in
    subst Q (append_assoc text shown s) (subst P script_is r)

-- the bytes up to a newline and those behind it
pub cut_here : (bytes front rest end behind : List ℕ) → bytes ≡ front ++ rest → rest ≡ end ++ newline ∷ behind → bytes ≡ (front ++ (end ++ newline ∷ [])) ++ behind
cut_here bytes front rest end behind e cut =
    let is : rest ≡ (end ++ newline ∷ []) ++ behind = cut ∙ sym (append_assoc end (newline ∷ []) behind) in
    e ∙ ap (λ (xs : List ℕ). front ++ xs) is ∙ sym (append_assoc front (end ++ newline ∷ []) behind)

-- the last bytes
pub regrouped_last : (script front rest whole text : List ℕ) (answer : Result (Unit {0}) Stop) (x : Session) → whole ≡ front ++ rest → ReadsTo ((script ++ front) ++ rest) text answer x → ReadsTo (script ++ whole) text answer x
regrouped_last script front rest whole text answer x e r =
    let P : List ℕ → Type 0 = λ all. ReadsTo all text answer x in
    subst P (append_assoc script front rest ∙ ap (λ (xs : List ℕ). script ++ xs) (sym e)) r

pub no_bytes : (xs : List ℕ) → length xs ≡ 0 → xs ≡ []
no_bytes [] h = refl
no_bytes (x ∷ xs) h = absurd (omega (arith, h))

-- ---- the end of a script

-- its last line was played
pub ends_line : (x y : Session) (script : List ℕ) (lines : List (List ℕ)) (text shown : List ℕ) (answer : Result (Unit {0}) Stop) → (r : IsRead x script lines text) → y.number ≡ x.number
    → LineTo MayBeAny r.state x.begun.items shown answer y.stage → EndsTo script (text ++ shown) answer y
ends_line x y script lines text shown (Ok done) r number told =
    let line = x.begun.items in
    let all = script_lines script lines line r.script_is in
    let plays = plays_more opening lines r.fates text r.state line shown told.0 told.1 r.plays told.2.0 in
    let P : List (List ℕ) → Type 0 = λ ls. Plays opening ls (r.fates ++ told.0 ∷ []) (text ++ shown) told.1 in
    let Q : List ℕ → Type 0 = λ out. IsPlayedPart script out in (
      record { fates = r.fates ++ told.0 ∷ []; new = told.1; fits = r.fits; plays = subst P (sym all) plays },
      subst Q (append-nil (text ++ shown))
          (stops_before script (lines ++ line ∷ []) [] (r.fates ++ told.0 ∷ []) told.1 (text ++ shown) []
          (record { is = all ∙ sym (append-nil (lines ++ line ∷ [])); fits = omega (arith, r.fits); plays = plays }) refl),
    )
ends_line x y script lines text shown (Err why) r number told =
    let far = last_reached script lines x.begun.items r.fates text r.state r.script_is r.fits r.plays in
    line_stops script lines [] r.fates r.state text shown x.begun.items why y.stage y.number far.0 far.1 (number ∙ r.number) told
