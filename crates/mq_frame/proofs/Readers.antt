-- What a reader has read.
use Rattle.std.proofs.Common.{◌≡◌, ℕ, ◌≤◌, Bool, true, false, ltb, ◌↔◌, List, [], ◌∷◌, ◌++◌, length, take, drop, Option, Some, None, refl, sym, ap, subst, ◌∙◌, arith, append_assoc, append-nil}
use Rattle.std.proofs.lemmas.List.{length-append, length-drop}
use Rattle.std.proofs.lemmas.Bool.{both_ways, lt-ltb, le-ltb, cond-true, cond-false}
use Rattle.mq_frame.specs.declared.place.Place.{Place}
use Rattle.mq_frame.specs.declared.place.Place.TheVariants.{First}
use Rattle.mq_frame.specs.declared.frame.Frame.{Frame}
use Rattle.mq_frame.specs.declared.state.State.{State}
use Rattle.mq_frame.specs.declared.step.Step.{Step}
use Rattle.mq_frame.specs.declared.reader.FrameReader.{FrameReader}
use Rattle.mq_frame.specs.declared.header.Header.{Header}
use Rattle.mq_frame.specs.Header.{header_of, is_skipped}
use Rattle.mq_frame.specs.Stream.{front_of, is_ended, next_place, AreFrames, EndsInFrame}
use Rattle.mq_frame.specs.Steps.{Holds, Gives, IsStep}
use Rattle.mq_frame.specs.declared.state.State.TheVariants.{Head, Contents, Skip, Spent}
use Rattle.mq_frame.specs.Numbers.{max_frame_size}
use Rattle.mq_frame.specs.Readers.{HasRead, Stands, Went, KeepsOnly, kept, kept_of}
use Rattle.mq_frame.proofs.Fronts.{front_short}
use Rattle.mq_frame.proofs.Streams.{front_ended, frames_on, frames_one}

drop_all : (bytes : List ℕ) → drop (length bytes) bytes ≡ []
drop_all [] = refl
drop_all (b ∷ bytes) = drop_all bytes

-- what a state holds is bounded
pub holds_few : (state : State) (bytes : List ℕ) → Holds state bytes → kept state ≤ max_frame_size
holds_few (Head head) bytes h = omega (arith, ap length h.0, h.1)
holds_few (Contents header contents missing) bytes h = omega (arith, h.0.count, h.0.begun, h.0.fits, ap length h.2, length-drop 9 bytes)
holds_few (Skip header missing) bytes h = omega arith
holds_few Spent bytes h = absurd h

-- a step that ends no frame
pub went_none : (old : FrameReader) (s : Step) (piece : List ℕ) → is_ended old.place ≡ false → s.frame ≡ None
    → ((rest : List ℕ) → Holds old.state rest → IsStep old.place rest piece s)
    → Went old (record { place = old.place; state = s.state }) (take s.used piece) []
went_none old s piece on none step bytes frames read =
    let taken : List ℕ = take s.used piece in
    let P : Option Frame → Type 0 = λ f. Gives old.place (read.rest ++ taken) s.state f in
    let gives = subst P none (step read.rest (read.holds on)).gives in
    record {
      rest = read.rest ++ taken;
      are = frames_on First bytes taken frames old.place read.rest read.are [] old.place (read.rest ++ taken) (gives.0, refl, refl);
      holds = λ _. gives.1;
      bounded = holds_few s.state _ gives.1;
    }

-- a step that ends a frame
pub went_some : (old : FrameReader) (s : Step) (piece : List ℕ) (frame : Frame) (place : Place) → is_ended old.place ≡ false → s.frame ≡ Some frame
    → place ≡ next_place frame → ((rest : List ℕ) → Holds old.state rest → IsStep old.place rest piece s)
    → Went old (record { place = place; state = s.state }) (take s.used piece) (frame ∷ [])
went_some old s piece frame place on some place_is step bytes frames read =
    let taken : List ℕ = take s.used piece in
    let all : List ℕ = read.rest ++ taken in
    let P : Option Frame → Type 0 = λ f. Gives old.place all s.state f in
    let gives = subst P some (step read.rest (read.holds on)).gives in
    let Q : Place → Type 0 = λ p. AreFrames First (bytes ++ taken) (frames ++ frame ∷ []) p [] in
    let R : List ℕ → Type 0 = λ b. front_of (next_place frame) b ≡ None in
    let nothing : front_of (next_place frame) (drop (length all) all) ≡ None = subst R (sym (drop_all all)) (front_short (next_place frame) [] (omega arith)) in
    record {
      rest = [];
      are = subst Q (sym place_is) (frames_on First bytes taken frames old.place read.rest read.are (frame ∷ []) (next_place frame) []
          (length all, gives.0, (nothing, refl, sym (drop_all all))));
      holds = λ _. gives.1;
      bounded = holds_few s.state _ gives.1;
    }

-- behind an error more bytes change nothing
pub went_ended : (r : FrameReader) (piece : List ℕ) → is_ended r.place ≡ true → Went r r piece []
went_ended r piece ended bytes frames read = record {
  rest = read.rest ++ piece;
  are = frames_on First bytes piece frames r.place read.rest read.are [] r.place (read.rest ++ piece) (front_ended r.place (read.rest ++ piece) ended, refl, refl);
  holds = λ on. absurd cc;
  bounded = read.bounded;
}

-- one piece after the other
pub went_on : (a b c : FrameReader) (piece next : List ℕ) (more later : List Frame) → Went a b piece more → Went b c next later → Went a c (piece ++ next) (more ++ later)
went_on a b c piece next more later first second bytes frames read =
    let P : List ℕ → List Frame → Type 0 = λ x y. HasRead c x y in
    subst (λ (x : List ℕ). P x (frames ++ (more ++ later))) (append_assoc bytes piece next)
    (subst (P (bytes ++ piece ++ next)) (append_assoc frames more later) (second (bytes ++ piece) (frames ++ more) (first bytes frames read)))

-- no bytes, and no frames
pub went_nothing : (r : FrameReader) → Went r r [] []
went_nothing r bytes frames read =
    let P : List ℕ → List Frame → Type 0 = λ x y. HasRead r x y in
    subst (λ (x : List ℕ). P x (frames ++ [])) (sym (append-nil bytes)) (subst (P bytes) (sym (append-nil frames)) read)

-- The ends of reading a piece.

nothing : (bytes : List ℕ) → length bytes ≡ 0 → bytes ≡ []
nothing [] e = refl
nothing (b ∷ bytes) e = absurd (omega arith)

-- all of it was read
pub went_all : (start now : FrameReader) (done left piece : List ℕ) (more : List Frame) → Went start now done more → done ++ left ≡ piece → length left ≡ 0
    → Went start now piece more
went_all start now done left piece more went all none =
    let P : List ℕ → Type 0 = λ p. Went start now p more in
    let same : done ≡ piece = sym (append-nil done) ∙ ap (λ (l : List ℕ). done ++ l) (sym (nothing left none)) ∙ all in
    subst P same went

-- an error was met
pub went_to_end : (start now : FrameReader) (done left piece : List ℕ) (more : List Frame) → Went start now done more → done ++ left ≡ piece
    → is_ended now.place ≡ true → Went start now piece more
went_to_end start now done left piece more went all ended =
    let P : List ℕ → List Frame → Type 0 = λ p m. Went start now p m in
    subst (λ (p : List ℕ). P p more) all (subst (P (done ++ left)) (append-nil more) (went_on start now now done left more [] went (went_ended now left ended)))

-- there were as many rounds as bytes
pub went_round : (start now : FrameReader) (done left piece : List ℕ) (more : List Frame) (rounds : ℕ) → Went start now done more → done ++ left ≡ piece
    → ((bytes : List ℕ) → Stands start bytes → rounds ≤ length done) → length piece ≤ rounds → Went start now piece more
went_round start now done left piece more rounds went all goes enough bytes frames read =
    let far = goes bytes (frames, read) in
    let none : length left ≡ 0 = omega (arith, length-append done left, ap length all) in
    went_all start now done left piece more went all none bytes frames read

-- A begun frame: the answer for what the state holds is that for the bytes.
pub begun_rest : (r : FrameReader) (bytes : List ℕ) (answer : Bool) → Stands r bytes → is_ended r.place ≡ false
    → ((rest : List ℕ) → Holds r.state rest → answer ≡ ltb 0 (length rest)) → (answer ≡ true) ↔ EndsInFrame bytes
begun_rest r bytes answer stands on is =
    let read = stands.1 in
    let some = is read.rest (read.holds on) in (
      λ yes. (stands.0, r.place, read.rest, read.are, on, sym some ∙ yes),
      λ ends.
          let one = frames_one First bytes stands.0 ends.0 r.place ends.1 read.rest ends.2 read.are ends.3 in
          some ∙ ap (λ (rest : List ℕ). ltb 0 (length rest)) one.rest_is ∙ ends.5,
    )

-- behind an error nothing is begun
pub begun_ended : (r : FrameReader) (bytes : List ℕ) → Stands r bytes → is_ended r.place ≡ true → EndsInFrame bytes → ⊥
begun_ended r bytes stands ended ends =
    let one = frames_one First bytes stands.0 ends.0 r.place ends.1 stands.1.rest ends.2 stands.1.are ends.3 in
    let same = ap is_ended one.last_is in
    both_ways (is_ended r.place) (same ∙ ends.4) ended

-- what a state holds is what is kept of the bytes
holds_of : (state : State) (rest : List ℕ) → Holds state rest → kept state ≡ kept_of rest
holds_of (Head head) rest h = ap length (sym h.0) ∙ sym (cond-true (ltb (length rest) 9) (length rest) _ (lt-ltb (length rest) 9 h.1))
holds_of (Contents header contents missing) rest h =
    let long = le-ltb (length rest) 9 h.0.begun in
    let kind : is_skipped header.kind ≡ is_skipped (header_of rest).kind = ap (λ (x : Header). is_skipped x.kind) h.0.header_is in
    ap length h.2 ∙ sym (cond-false (ltb (length rest) 9) (length rest) _ long ∙ cond-false (is_skipped (header_of rest).kind) 0 (length (drop 9 rest)) (sym kind ∙ h.1))
holds_of (Skip header missing) rest h =
    let long = le-ltb (length rest) 9 h.0.begun in
    let kind : is_skipped header.kind ≡ is_skipped (header_of rest).kind = ap (λ (x : Header). is_skipped x.kind) h.0.header_is in
    sym (cond-false (ltb (length rest) 9) (length rest) _ long ∙ cond-true (is_skipped (header_of rest).kind) 0 (length (drop 9 rest)) (sym kind ∙ h.1))
holds_of Spent rest h = absurd h

pub keeps_only : (r : FrameReader) (bytes : List ℕ) → Stands r bytes → KeepsOnly r bytes
keeps_only r bytes stands frames last rest are on =
    let one = frames_one First bytes frames stands.0 last r.place rest stands.1.rest are stands.1.are in
    let going = ap is_ended (sym one.last_is) ∙ on in
    holds_of r.state stands.1.rest (stands.1.holds going) ∙ ap kept_of (sym one.rest_is)
