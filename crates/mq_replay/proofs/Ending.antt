-- How a replay ends.
use Rattle.std.proofs.Common.{◌≡◌, ℕ, ◌+◌, List, [], ◌∷◌, ◌++◌, length, Option, Some, None, refl, sym, ap, subst, ◌∙◌, append_assoc, append-nil, inl, inr}
use Rattle.std.specs.Option.{IfSome, MatchOption}
use Rattle.mq_play.specs.Script.{IsPlayedSoFar, IsPlayedBad, IsPlayedPart}
use Rattle.mq_play.specs.Text.{printed, Bad}
use Rattle.mq_outside.specs.Outside.{Gives}
use Rattle.mq_replay.proofs.Cutting.{script_lines}
use Rattle.mq_replay.proofs.Reading.{no_memory}
use Rattle.mq_replay.specs.Reading.{IsRead, IsAtBad, StopsAt, SaysTo, IsWritten, PlayCounts, PlaysTo, FinishesTo, GoesOn}
use Rattle.mq_replay.specs.Replay.{Replays, SourceCounts, SinkCounts}
use Rattle.mq_replay.specs.declared.session.Session.{Session}
use Rattle.mq_replay.specs.declared.status.Status.{Status}
use Rattle.mq_replay.specs.declared.status.Status.TheVariants as status
use Rattle.mq_replay.specs.declared.status.Status.TheVariants.{Done, ReadFault, BadScript}
use Rattle.mq_output.specs.declared.stop.Stop.{Stop}
use Rattle.mq_output.specs.declared.stop.Stop.TheVariants.{BadLine, WriteFault, NoMemory}

-- a bad line of which nothing was said
bad_unsaid : (whole text : List ℕ) (number : ℕ) → IsAtBad whole text number → IsPlayedPart whole text
bad_unsaid whole text number b = record {
  before = b.before;
  after = b.line ∷ b.after;
  fates = b.fates;
  here = b.here;
  text = text;
  last = [];
  part = printed (Bad (length b.before + 1));
  reached = b.reached;
  stops = inr (inr (refl, record { line = b.line; others = b.after; is = refl; bad = b.bad; part_is = refl }));
  front = (printed (Bad (length b.before + 1)), refl);
}

-- nothing was said of the stop
pub unsaid : (whole text : List ℕ) (why : Stop) (number : ℕ) → StopsAt whole text why number → IsPlayedPart whole (text ++ [])
unsaid whole text why number s = let P : List ℕ → Type 0 = λ out. IsPlayedPart whole out in subst P (sym (append-nil text)) (part why s) where
  part : (why : Stop) → StopsAt whole text why number → IsPlayedPart whole text
  part BadLine s = bad_unsaid whole text number s
  part WriteFault s = s
  part NoMemory s = s

-- that the line is bad was said
pub bad_said : (whole text : List ℕ) (why : Stop) (number : ℕ) → why ≡ BadLine → StopsAt whole text why number → IsPlayedBad whole (text ++ printed (Bad (number + 1)))
bad_said whole text why number is stopped =
    let P : Stop → Type 0 = λ w. StopsAt whole text w number in
    let b = subst P is stopped in
    record {
      before = b.before;
      line = b.line;
      after = b.after;
      fates = b.fates;
      here = b.here;
      text = text;
      reached = b.reached;
      bad = b.bad;
      out_is = ap (λ (n : ℕ). text ++ printed (Bad (n + 1))) b.number_is;
    }

-- what was said whole was said in part
bad_part : (whole out : List ℕ) → IsPlayedBad whole out → IsPlayedPart whole out
bad_part whole out b = record {
  before = b.before;
  after = b.line ∷ b.after;
  fates = b.fates;
  here = b.here;
  text = b.text;
  last = [];
  part = printed (Bad (length b.before + 1));
  reached = b.reached;
  stops = inr (inr (refl, record { line = b.line; others = b.after; is = refl; bad = b.bad; part_is = refl }));
  front = ([], sym b.out_is ∙ sym (append-nil out));
}

pub says_part : (whole out : List ℕ) (answer : Status) → SaysTo whole out answer → IsPlayedPart whole out
says_part whole out BadScript s = bad_part whole out s
says_part whole out status.WriteFault s = s
says_part whole out status.NoMemory s = s
says_part whole out Done s = absurd s
says_part whole out ReadFault s = absurd s

-- where nothing was owed, and nothing is
pub all_written : (o owes shown written : List ℕ) → o ≡ [] → owes ≡ [] → o ++ shown ≡ written ++ owes → shown ≡ written
all_written o owes shown written none all e =
    ap (λ (xs : List ℕ). xs ++ shown) (sym none) ∙ e ∙ ap (λ (xs : List ℕ). written ++ xs) all ∙ append-nil written

-- where nothing was owed
pub from_none : (o owes shown written : List ℕ) → o ≡ [] → o ++ shown ≡ written ++ owes → shown ≡ written ++ owes
from_none o owes shown written none e = ap (λ (xs : List ℕ). xs ++ shown) (sym none) ∙ e

-- a front of a part is a part
pub part_front : (whole text shown written owes : List ℕ) → shown ≡ written ++ owes → IsPlayedPart whole (text ++ shown) → IsPlayedPart whole (text ++ written)
part_front whole text shown written owes e p = record {
  before = p.before;
  after = p.after;
  fates = p.fates;
  here = p.here;
  text = p.text;
  last = p.last;
  part = p.part;
  reached = p.reached;
  stops = p.stops;
  front = (owes ++ p.front.0, p.front.1 ∙ ap (λ (xs : List ℕ). xs ++ p.front.0) (ap (λ (xs : List ℕ). text ++ xs) e ∙ sym (append_assoc text written owes)) ∙ append_assoc (text ++ written) owes p.front.0);
}

-- what the sink took of what was shown
pub says_written : (whole text o owes shown written : List ℕ) (answer : Status) → o ≡ [] → o ++ shown ≡ written ++ owes → IsWritten owes answer → SaysTo whole (text ++ shown) answer → SaysTo whole (text ++ written) answer
says_written whole text o owes shown written BadScript none e all s =
    let P : List ℕ → Type 0 = λ xs. IsPlayedBad whole (text ++ xs) in
    subst P (all_written o owes shown written none all e) s
says_written whole text o owes shown written status.WriteFault none e all s = part_front whole text shown written owes (from_none o owes shown written none e) s
says_written whole text o owes shown written status.NoMemory none e all s = part_front whole text shown written owes (from_none o owes shown written none e) s
says_written whole text o owes shown written Done none e all s = absurd s
says_written whole text o owes shown written ReadFault none e all s = absurd s

-- the sink failed when all lines that were read were played
pub fault_part : (x : Session) (script : List ℕ) (lines : List (List ℕ)) (text o owes shown written more : List ℕ) → o ≡ [] → o ++ shown ≡ written ++ owes → IsRead x script lines (text ++ shown)
    → IsPlayedPart (script ++ more) (text ++ written)
fault_part x script lines text o owes shown written more none e r =
    part_front (script ++ more) text shown written owes (from_none o owes shown written none e) (no_memory x script lines (text ++ shown) more r)

pub says_finish : (whole out : List ℕ) (answer : Status) → SaysTo whole out answer → FinishesTo whole out answer
says_finish whole out BadScript s = s
says_finish whole out status.WriteFault s = s
says_finish whole out status.NoMemory s = s
says_finish whole out Done s = absurd s
says_finish whole out ReadFault s = absurd s

pub play_sink : (before after : ℕ) (answer : Status) → PlayCounts before after answer → SinkCounts before after answer
play_sink before after status.WriteFault p = p
play_sink before after Done p = p
play_sink before after BadScript p = p
play_sink before after status.NoMemory p = p
play_sink before after ReadFault p = absurd p

pub play_source : (before after now then : ℕ) (answer : Status) → PlayCounts before after answer → then ≡ now → SourceCounts now then answer
play_source before after now then status.WriteFault p e = e
play_source before after now then Done p e = e
play_source before after now then BadScript p e = e
play_source before after now then status.NoMemory p e = e
play_source before after now then ReadFault p e = absurd p

pub option_source : (before after now then : ℕ) (answer : Option Status) → MatchOption answer (after ≡ before) (PlayCounts before after) → then ≡ now → MatchOption answer (then ≡ now) (SourceCounts now then)
option_source before after now then None p e = e
option_source before after now then (Some answer) p e = play_source before after now then answer p e

-- more bytes were played: the replay goes on, or ends whatever follows
pub plays_on : (script out owes : List ℕ) (left : Option (List ℕ)) (answer : Option Status) (x : Session) → PlaysTo script out owes answer x → GoesOn script out owes left answer x
plays_on script out owes left None x p = p
plays_on script out owes left (Some BadScript) x p = λ rest e. inl p
plays_on script out owes left (Some status.WriteFault) x p = λ rest e. inl p
plays_on script out owes left (Some status.NoMemory) x p = λ rest e. inl p
plays_on script out owes left (Some Done) x p = absurd (p [])
plays_on script out owes left (Some ReadFault) x p = absurd (p [])

pub finishes : (script out : List ℕ) (answer : Status) → FinishesTo script out answer → (rest : List ℕ) → rest ≡ [] → Replays script rest out answer
finishes script out Done p rest e = (e, p)
finishes script out BadScript p rest e = inr (e, p)
finishes script out status.WriteFault p rest e = inr (e, p)
finishes script out status.NoMemory p rest e = inr (e, p)
finishes script out ReadFault p rest e = absurd p

pub nothing_left : (before after : Option (List ℕ)) → after ≡ before → IfSome before (λ left. left ≡ []) → (rest : List ℕ) → after ≡ Some rest → rest ≡ []
nothing_left None after e h rest is = absurd cc
nothing_left (Some left) after e h rest is = cc

pub gives_none : (before after : Option (List ℕ)) → after ≡ before → Gives before after []
gives_none None after e = e
gives_none (Some left) after e = (left, e, refl)

pub gives_more : (a b c : Option (List ℕ)) (x y : List ℕ) → Gives a b x → Gives b c y → Gives a c (x ++ y)
gives_more None b c x y p q = let P : Option (List ℕ) → Type 0 = λ o. Gives o c y in subst P p q
gives_more (Some left) b c x y p q =
    let P : Option (List ℕ) → Type 0 = λ o. Gives o c y in
    let r = subst P p.1 q in
    (r.0, r.1, p.2 ∙ ap (λ (xs : List ℕ). x ++ xs) r.2 ∙ sym (append_assoc x y r.0))

-- the source failed
pub so_far : (x : Session) (script : List ℕ) (lines : List (List ℕ)) (text : List ℕ) → IsRead x script lines text → IsPlayedSoFar script text
so_far x script lines text r = record {
  lines = lines;
  begun = x.begun.items;
  fates = r.fates;
  new = r.state;
  is = script_lines script lines x.begun.items r.script_is;
  fits = r.fits;
  begun_fits = r.begun_fits;
  plays = r.plays;
}
