-- The steps of a reader.
use Rattle.std.proofs.Common.{◌≡◌, ℕ, ◌+◌, ◌-◌, ◌<◌, ◌≤◌, false, List, [], ◌∷◌, ◌++◌, length, take, drop, Option, Some, None, refl, sym, ap, subst, ◌∙◌, arith, append_assoc, append-nil}
use Rattle.std.proofs.Math.Seq.{take-add}
use Rattle.std.proofs.lemmas.List.{drop-append-le, length-append, length-drop, length-take-le, take_all}
use Rattle.mq_frame.specs.Numbers.{frame_size_error, max_frame_size}
use Rattle.mq_frame.specs.declared.place.Place.{Place}
use Rattle.mq_frame.specs.declared.frame.Frame.{Frame}
use Rattle.mq_frame.specs.declared.frame.Frame.TheVariants.{Fault}
use Rattle.mq_frame.specs.declared.header.Header.{Header}
use Rattle.mq_frame.specs.declared.state.State.{State}
use Rattle.mq_frame.specs.declared.step.Step.{Step}
use Rattle.mq_frame.specs.Header.{header_of}
use Rattle.mq_frame.specs.Table.{frame_at}
use Rattle.mq_frame.specs.Stream.{front_of, is_ended}
use Rattle.mq_frame.specs.Steps.{IsBegun, Holds, Gives, IsStep}
use Rattle.mq_frame.proofs.Fronts.{header_keeps, front_short, front_part, front_large, front_whole}

-- more bytes of a begun frame
pub more_begun : (h : Header) (missing : ℕ) (bytes more : List ℕ) → IsBegun h missing bytes → length more < missing
    → IsBegun h (missing - length more) (bytes ++ more)
more_begun h missing bytes more b l = record {
  begun = omega (arith, b.begun, length-append bytes more);
  header_is = b.header_is ∙ sym (header_keeps bytes more b.begun);
  count = omega (arith, b.count, length-append bytes more);
  some = omega arith;
  fits = b.fits;
}

-- nothing is whole in a begun frame
pub front_begun : (place : Place) (h : Header) (missing : ℕ) (bytes : List ℕ) → IsBegun h missing bytes → front_of place bytes ≡ None
front_begun place h missing bytes b = front_part place bytes h b.begun b.header_is b.fits (omega (arith, b.count, b.some))

-- all of a piece was taken, and no frame is whole
pub step_part : (place : Place) (bytes piece : List ℕ) (state : State) → front_of place (bytes ++ piece) ≡ None → Holds state (bytes ++ piece)
    → IsStep place bytes piece (record { state = state; frame = None; used = length piece })
step_part place bytes piece state front holds =
    let P : List ℕ → Type 0 = λ taken. Gives place (bytes ++ taken) state None in
    record { gives = subst P (sym (take_all (length piece) piece (omega arith))) (front, holds) }

-- a frame ends behind so many bytes of a piece
pub step_whole : (place : Place) (bytes piece : List ℕ) (frame : Frame) (used : ℕ) (s : Step)
    → front_of place (bytes ++ take used piece) ≡ Some (frame, length (bytes ++ take used piece))
    → s.frame ≡ Some frame → s.used ≡ used → Holds s.state [] → IsStep place bytes piece s
step_whole place bytes piece frame used s front frame_is used_is holds =
    let P : Option Frame → Type 0 = λ f. Gives place (bytes ++ take used piece) s.state f in
    let Q : ℕ → Type 0 = λ n. Gives place (bytes ++ take n piece) s.state s.frame in
    record { gives = subst Q (sym used_is) (subst P (sym frame_is) (front, holds)) }

-- the length of what was taken
taken : (bytes piece : List ℕ) (used : ℕ) → used ≤ length piece → length (bytes ++ take used piece) ≡ length bytes + used
taken bytes piece used l = omega (arith, length-append bytes (take used piece), length-take-le used piece l)

-- a frame is whole with the bytes of a piece that its contents wanted
pub step_ends : (place : Place) (bytes piece : List ℕ) (h : Header) (used : ℕ) (frame : Frame) (s : Step) → is_ended place ≡ false
    → 9 ≤ length bytes → h ≡ header_of bytes → h.length ≤ max_frame_size → length bytes + used ≡ 9 + h.length → used ≤ length piece
    → frame ≡ frame_at place h (drop 9 bytes ++ take used piece)
    → s.frame ≡ Some frame → s.used ≡ used → Holds s.state [] → IsStep place bytes piece s
step_ends place bytes piece h used frame s on begun header fits count within is frame_is used_is holds =
    let all : List ℕ = bytes ++ take used piece in
    let long : length all ≡ length bytes + used = taken bytes piece used within in
    let same : h ≡ header_of all = header ∙ sym (header_keeps bytes (take used piece) begun) in
    let front : front_of place all ≡ Some (frame_at place h (drop 9 all), length all) = front_whole place all h on (omega arith) same fits (omega arith) in
    let contents : drop 9 all ≡ drop 9 bytes ++ take used piece = drop-append-le 9 bytes (take used piece) begun in
    let named : frame_at place h (drop 9 all) ≡ frame = ap (frame_at place h) contents ∙ sym is in
    step_whole place bytes piece frame used s (front ∙ ap (λ (f : Frame). Some (f, length all)) named) frame_is used_is holds

nothing : (bytes : List ℕ) → length bytes ≡ 0 → bytes ≡ []
nothing [] e = refl
nothing (b ∷ bytes) e = absurd (omega arith)

-- nine bytes hold no contents
pub header_only : (head contents : List ℕ) → length head ≡ 9 → drop 9 head ++ contents ≡ contents
header_only head contents l =
    let none : drop 9 head ≡ [] = nothing (drop 9 head) (omega (arith, length-drop 9 head)) in
    ap (λ (front : List ℕ). front ++ contents) none

pub header_alone : (head contents : List ℕ) → length head ≡ 9 → drop 9 (head ++ contents) ≡ contents
header_alone head contents l = drop-append-le 9 head contents (omega arith) ∙ header_only head contents l

-- a header and the first bytes of its contents
pub begun_at : (h : Header) (head contents : List ℕ) → length head ≡ 9 → h ≡ header_of head → h.length ≤ max_frame_size
    → length contents < h.length → IsBegun h (h.length - length contents) (head ++ contents)
begun_at h head contents l e fits fewer = record {
  begun = omega (arith, length-append head contents);
  header_is = e ∙ sym (header_keeps head contents (omega arith));
  count = omega (arith, length-append head contents);
  some = omega arith;
  fits = fits;
}

-- the length that a header has is above the limit
pub large_step : (place : Place) (head piece : List ℕ) (h : Header) (s : Step) → is_ended place ≡ false → length head ≡ 9 → h ≡ header_of head
    → max_frame_size < h.length → s.frame ≡ Some (Fault frame_size_error) → s.used ≡ 0 → Holds s.state [] → IsStep place head piece s
large_step place head piece h s on len header large frame_is used_is holds =
    let all : head ++ take 0 piece ≡ head = append-nil head in
    let front : front_of place head ≡ Some (Fault frame_size_error, 9) = front_large place head h on (omega arith) header large in
    let P : List ℕ → Type 0 = λ b. front_of place b ≡ Some (Fault frame_size_error, length b) in
    step_whole place head piece (Fault frame_size_error) 0 s
    (subst P (sym all) (front ∙ ap (λ (n : ℕ). Some (Fault frame_size_error, n)) (sym len))) frame_is used_is holds

-- the header isn't whole
pub step_head : (place : Place) (bytes piece : List ℕ) (used : ℕ) (state : State) → length (bytes ++ take used piece) < 9
    → Holds state (bytes ++ take used piece) → IsStep place bytes piece (record { state = state; frame = None; used = used })
step_head place bytes piece used state short holds = record { gives = (front_short place (bytes ++ take used piece) short, holds) }

-- a step behind a whole header
pub step_behind : (place : Place) (bytes front piece : List ℕ) (used : ℕ) (s : Step) → front ≡ take used piece
    → IsStep place (bytes ++ front) (drop used piece) s → IsStep place bytes piece (record { state = s.state; frame = s.frame; used = used + s.used })
step_behind place bytes front piece used s front_is step =
    let P : List ℕ → Type 0 = λ b. Gives place b s.state s.frame in
    let joined : bytes ++ front ++ take s.used (drop used piece) ≡ bytes ++ take (used + s.used) piece =
    ap (λ (f : List ℕ). bytes ++ f ++ take s.used (drop used piece)) front_is ∙ append_assoc bytes (take used piece) (take s.used (drop used piece))
    ∙ ap (λ (t : List ℕ). bytes ++ t) (sym (take-add used s.used piece)) in
    record { gives = subst P joined step.gives }
