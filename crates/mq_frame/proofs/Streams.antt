-- What was read of a stream stays, whatever follows, and is one.
use Rattle.std.proofs.Common.{◌≡◌, ℕ, zero, suc, ◌+◌, ◌≤◌, Bool, true, false, cond, ltb, List, [], ◌∷◌, ◌++◌, length, take, drop, Option, Some, None, refl, sym, ap, subst, ◌∙◌, arith, inl, inr}
use Rattle.std.proofs.lemmas.Bool.{cases_Bool, ltb-false, le-ltb, cond-false, cond-true}
use Rattle.std.proofs.lemmas.Option.{some_pair_parts}
use Rattle.std.proofs.lemmas.List.{take-append-le, drop-append-le, length-append, length-drop}
use Rattle.mq_frame.specs.Numbers.{frame_size_error, max_frame_size}
use Rattle.mq_frame.specs.declared.place.Place.{Place}
use Rattle.mq_frame.specs.declared.place.Place.TheVariants.{Ended}
use Rattle.mq_frame.specs.declared.frame.Frame.{Frame}
use Rattle.mq_frame.specs.declared.frame.Frame.TheVariants.{Fault}
use Rattle.mq_frame.specs.declared.header.Header.{Header}
use Rattle.mq_frame.specs.Header.{header_of}
use Rattle.mq_frame.specs.Table.{frame_at}
use Rattle.mq_frame.specs.Stream.{front_of, front_by, is_ended, next_place, AreFrames}
use Rattle.mq_frame.proofs.Fronts.{header_keeps}

-- a test that left something
left : {A : Type 0} (b : Bool) (x : Option A) (y : A) → cond b None x ≡ Some y → (b ≡ false) × (x ≡ Some y)
left true x y e = absurd cc
left false x y e = (refl, e)

front_by_keeps : (place : Place) (h : Header) (bytes more : List ℕ) (f : Frame) (n : ℕ) → 9 ≤ length bytes → front_by place h bytes ≡ Some (f, n)
    → (n ≤ length bytes) × (front_by place h (bytes ++ more) ≡ Some (f, n))
front_by_keeps place h bytes more f n l e =
    elim (cases_Bool (ltb max_frame_size h.length)) [
      | inl large ↦
          let is : Some (Fault frame_size_error, 9) ≡ Some (f, n) = sym (cond-true _ (Some (Fault frame_size_error, 9)) _ large) ∙ e in
          let nine : 9 ≡ n = (some_pair_parts (Fault frame_size_error) f 9 n is).1 in
          (omega arith, cond-true _ (Some (Fault frame_size_error, 9)) _ large ∙ is)
      | inr fits ↦
          let w = left (ltb (length bytes) (9 + h.length)) (Some (frame_at place h (take h.length (drop 9 bytes)), 9 + h.length)) (f, n)
          (sym (cond-false _ (Some (Fault frame_size_error, 9)) _ fits) ∙ e) in
          let enough : 9 + h.length ≤ length bytes = ltb-false _ _ w.0 in
          let size : 9 + h.length ≡ n = (some_pair_parts (frame_at place h (take h.length (drop 9 bytes))) f (9 + h.length) n w.1).1 in
          let more_enough : 9 + h.length ≤ length (bytes ++ more) = omega (arith, length-append bytes more) in
          let contents : take h.length (drop 9 (bytes ++ more)) ≡ take h.length (drop 9 bytes) =
          ap (take h.length) (drop-append-le 9 bytes more l) ∙ take-append-le h.length (drop 9 bytes) more (omega (arith, length-drop 9 bytes)) in (
            omega arith,
            cond-false _ (Some (Fault frame_size_error, 9)) _ fits ∙ cond-false _ None _ (le-ltb _ _ more_enough)
                ∙ ap (λ (c : List ℕ). Some (frame_at place h c, 9 + h.length)) contents ∙ w.1,
          )
    ]

-- a frame at the front stays there
pub front_keeps : (place : Place) (bytes more : List ℕ) (f : Frame) (n : ℕ) → front_of place bytes ≡ Some (f, n)
    → (n ≤ length bytes) × (front_of place (bytes ++ more) ≡ Some (f, n))
unfolding front_of
front_keeps place bytes more f n e =
    let on = left (is_ended place) _ (f, n) e in
    let there = left (ltb (length bytes) 9) _ (f, n) on.1 in
    let nine : 9 ≤ length bytes = ltb-false _ _ there.0 in
    let more_nine : 9 ≤ length (bytes ++ more) = omega (arith, length-append bytes more) in
    let by = front_by_keeps place (header_of bytes) bytes more f n nine there.1 in (
      by.0,
      cond-false _ None _ on.0 ∙ cond-false _ None _ (le-ltb _ _ more_nine) ∙ ap (λ (h : Header). front_by place h (bytes ++ more)) (header_keeps bytes more nine) ∙ by.1,
    )

-- behind an error nothing is read
pub front_ended : (place : Place) (bytes : List ℕ) → is_ended place ≡ true → front_of place bytes ≡ None
unfolding front_of
front_ended place bytes e = cond-true _ None _ e

-- what comes later follows what was read
pub frames_on : (place : Place) (bytes more : List ℕ) (frames : List Frame) (last : Place) (rest : List ℕ) → AreFrames place bytes frames last rest
    → (later : List Frame) (end : Place) (tail : List ℕ) → AreFrames last (rest ++ more) later end tail → AreFrames place (bytes ++ more) (frames ++ later) end tail
frames_on place bytes more [] last rest are later end tail next =
    let P : Place → List ℕ → Type 0 = λ q r. AreFrames q (r ++ more) later end tail in
    subst (λ (q : Place). P q bytes) are.1 (subst (P last) are.2 next)
frames_on place bytes more (frame ∷ frames) last rest are later end tail next =
    let used = are.0 in
    let keeps = front_keeps place bytes more frame used are.1 in
    let P : List ℕ → Type 0 = λ b. AreFrames (next_place frame) b (frames ++ later) end tail in (
      used,
      keeps.1,
      subst P (sym (drop-append-le used bytes more keeps.0)) (frames_on (next_place frame) (drop used bytes) more frames last rest are.2 later end tail next),
    )

-- two readings of the same bytes are one
pub record AreOne (frames others : List Frame) (last end : Place) (rest tail : List ℕ) : Type 0 where
  pub frames_are : frames ≡ others
  pub last_is : last ≡ end
  pub rest_is : rest ≡ tail

pub frames_one : (place : Place) (bytes : List ℕ) (frames others : List Frame) (last end : Place) (rest tail : List ℕ) → AreFrames place bytes frames last rest
    → AreFrames place bytes others end tail → AreOne frames others last end rest tail
frames_one place bytes [] [] last end rest tail a b = record { frames_are = refl; last_is = a.1 ∙ sym b.1; rest_is = a.2 ∙ sym b.2 }
frames_one place bytes [] (g ∷ gs) last end rest tail a b = let x = a.0 in let y = b.1 in absurd cc
frames_one place bytes (f ∷ fs) [] last end rest tail a b = let x = a.1 in let y = b.0 in absurd cc
frames_one place bytes (f ∷ fs) (g ∷ gs) last end rest tail a b =
    let both = some_pair_parts f g a.0 b.0 (sym a.1 ∙ b.1) in
    let frame : f ≡ g = both.0 in
    let used : a.0 ≡ b.0 = both.1 in
    let P : Place → ℕ → Type 0 = λ p n. AreFrames p (drop n bytes) gs end tail in
    let moved = subst (P (next_place f)) (sym used) (subst (λ (p : Place). P p b.0) (ap next_place (sym frame)) b.2) in
    let one = frames_one (next_place f) (drop a.0 bytes) fs gs last end rest tail a.2 moved in
    let rest_frames = one.frames_are in
    record { frames_are = cc; last_is = one.last_is; rest_is = one.rest_is }

-- A frame has nine bytes at least.
nine_by : (place : Place) (h : Header) (bytes : List ℕ) (f : Frame) (n : ℕ) → front_by place h bytes ≡ Some (f, n) → 9 ≤ n
nine_by place h bytes f n e =
    elim (cases_Bool (ltb max_frame_size h.length)) [
      | inl large ↦
          let is : Some (Fault frame_size_error, 9) ≡ Some (f, n) = sym (cond-true _ (Some (Fault frame_size_error, 9)) _ large) ∙ e in
          let nine : 9 ≡ n = (some_pair_parts (Fault frame_size_error) f 9 n is).1 in
          omega arith
      | inr fits ↦
          let w = left (ltb (length bytes) (9 + h.length)) (Some (frame_at place h (take h.length (drop 9 bytes)), 9 + h.length)) (f, n)
          (sym (cond-false _ (Some (Fault frame_size_error, 9)) _ fits) ∙ e) in
          let size : 9 + h.length ≡ n = (some_pair_parts (frame_at place h (take h.length (drop 9 bytes))) f (9 + h.length) n w.1).1 in
          omega arith
    ]

front_nine : (place : Place) (bytes : List ℕ) (f : Frame) (n : ℕ) → front_of place bytes ≡ Some (f, n) → 9 ≤ n
unfolding front_of
front_nine place bytes f n e =
    let on = left (is_ended place) _ (f, n) e in
    let there = left (ltb (length bytes) 9) _ (f, n) on.1 in
    nine_by place (header_of bytes) bytes f n there.1

-- all bytes have frames
pub record Reading (place : Place) (bytes : List ℕ) : Type 0 where
  pub frames : List Frame
  pub last : Place
  pub rest : List ℕ
  pub are : AreFrames place bytes frames last rest

reading_by : (n : ℕ) (place : Place) (bytes : List ℕ) (front : Option (Frame × ℕ)) → front_of place bytes ≡ front → length bytes ≤ n → Reading place bytes
reading_by n place bytes None e l = record { frames = []; last = place; rest = bytes; are = (e, refl, refl) }
reading_by zero place bytes (Some front) e l =
    absurd (let keeps = front_keeps place bytes [] front.0 front.1 e in let some = front_nine place bytes front.0 front.1 e in omega arith)
reading_by (suc n) place bytes (Some front) e l =
    let some = front_nine place bytes front.0 front.1 e in
    let next = next_place front.0 in
    let behind = drop front.1 bytes in
    let more = reading_by n next behind (front_of next behind) refl (omega (arith, length-drop front.1 bytes)) in
    record { frames = front.0 ∷ more.frames; last = more.last; rest = more.rest; are = (front.1, e, more.are) }

pub reading : (place : Place) (bytes : List ℕ) → Reading place bytes
reading place bytes = reading_by (length bytes) place bytes (front_of place bytes) refl (omega arith)

-- what was read stays the front of what is read
pub frames_stay : (place : Place) (bytes more : List ℕ) (frames all : List Frame) (last end : Place) (rest tail : List ℕ)
    → AreFrames place bytes frames last rest → AreFrames place (bytes ++ more) all end tail → (later : List Frame) × (all ≡ frames ++ later)
frames_stay place bytes more [] all last end rest tail a b = (all, refl)
frames_stay place bytes more (f ∷ fs) [] last end rest tail a b =
    let keeps = (front_keeps place bytes more f a.0 a.1).1 in let none = b.0 in absurd cc
frames_stay place bytes more (f ∷ fs) (g ∷ gs) last end rest tail a b =
    let keeps = front_keeps place bytes more f a.0 a.1 in
    let both = some_pair_parts f g a.0 b.0 (sym keeps.1 ∙ b.1) in
    let frame : f ≡ g = both.0 in
    let P : Place → List ℕ → Type 0 = λ p r. AreFrames p r gs end tail in
    let seam = ap (λ (n : ℕ). drop n (bytes ++ more)) (sym both.1) ∙ drop-append-le a.0 bytes more keeps.0 in
    let moved = subst (P (next_place f)) seam (subst (λ (p : Place). P p (drop b.0 (bytes ++ more))) (ap next_place (sym frame)) b.2) in
    let on = frames_stay (next_place f) (drop a.0 bytes) more fs gs last end rest tail a.2 moved in
    let rest_frames = on.1 in
    (on.0, cc)

-- nothing follows an error
pub fault_last : (place : Place) (bytes : List ℕ) (frames : List Frame) (code : ℕ) (later : List Frame) (last : Place) (rest : List ℕ)
    → AreFrames place bytes (frames ++ Fault code ∷ later) last rest → later ≡ []
fault_last place bytes [] code [] last rest a = refl
fault_last place bytes [] code (g ∷ later) last rest a =
    let none = front_ended Ended (drop a.0 bytes) refl in let some = a.2.1 in absurd cc
fault_last place bytes (f ∷ frames) code later last rest a = fault_last (next_place f) (drop a.0 bytes) frames code later last rest a.2

-- no bytes have no frames
pub nothing_read : (place : Place) (frames : List Frame) (last : Place) (rest : List ℕ) → AreFrames place [] frames last rest → frames ≡ []
nothing_read place [] last rest a = refl
nothing_read place (f ∷ fs) last rest a =
    let some = front_nine place [] f a.0 a.1 in
    let within = (front_keeps place [] [] f a.0 a.1).0 in
    absurd (omega arith)
