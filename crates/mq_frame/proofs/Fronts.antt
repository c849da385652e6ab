-- What stands at the front of some bytes.
use Rattle.std.proofs.Common.{◌≡◌, ℕ, ◌+◌, ◌<◌, ◌≤◌, Bool, true, false, cond, ltb, List, [], ◌∷◌, ◌++◌, length, take, drop, Some, None, refl, ap, arith}
use Rattle.std.proofs.lemmas.Bool.{le-ltb, lt-ltb}
use Rattle.std.proofs.lemmas.List.{length-drop, take_all}
use Rattle.mq_frame.specs.Numbers.{frame_size_error, max_frame_size}
use Rattle.mq_frame.specs.declared.kind.Kind.{Kind}
use Rattle.mq_frame.specs.declared.kind.Kind.TheVariants as kinds
use Rattle.mq_frame.specs.declared.place.Place.{Place}
use Rattle.mq_frame.specs.declared.frame.Frame.TheVariants.{Fault, Priority, Unknown}
use Rattle.mq_frame.specs.declared.header.Header.{Header}
use Rattle.mq_frame.specs.Header.{header_of, is_skipped}
use Rattle.mq_frame.specs.Table.{frame_at, judged}
use Rattle.mq_frame.specs.Stream.{front_of, front_by, is_ended}

-- the first nine bytes decide the header
pub header_keeps : (bytes more : List ℕ) → 9 ≤ length bytes → header_of (bytes ++ more) ≡ header_of bytes
unfolding header_of
header_keeps (a ∷ b ∷ c ∷ d ∷ e ∷ f ∷ g ∷ h ∷ i ∷ rest) more l = refl
header_keeps _ more l = absurd (omega arith)

-- fewer than nine bytes
pub front_short : (place : Place) (bytes : List ℕ) → length bytes < 9 → front_of place bytes ≡ None
unfolding front_of
front_short place bytes l = grind (arith, lt-ltb (length bytes) 9 l)

-- more bytes are wanted
pub front_part : (place : Place) (bytes : List ℕ) (h : Header) → 9 ≤ length bytes → h ≡ header_of bytes → h.length ≤ max_frame_size
    → length bytes < 9 + h.length → front_of place bytes ≡ None
unfolding front_of
front_part place bytes h l e fits more =
    let no_limit : ltb max_frame_size h.length ≡ false = le-ltb _ _ fits in
    let wants : ltb (length bytes) (9 + h.length) ≡ true = lt-ltb _ _ more in
    let by : front_by place (header_of bytes) bytes ≡ None = rw (← e, no_limit, wants) refl in
    elim (is_ended place) as (λ b. cond b None (cond (ltb (length bytes) 9) None (front_by place (header_of bytes) bytes)) ≡ None) [
      | true ↦ refl
      | false ↦ rw (le-ltb (length bytes) 9 l) by
    ]

-- the length is above the limit
pub front_large : (place : Place) (bytes : List ℕ) (h : Header) → is_ended place ≡ false → 9 ≤ length bytes → h ≡ header_of bytes
    → max_frame_size < h.length → front_of place bytes ≡ Some (Fault frame_size_error, 9)
unfolding front_of
front_large place bytes h on l e large =
    let limit : ltb max_frame_size h.length ≡ true = lt-ltb _ _ large in
    rw (on, le-ltb (length bytes) 9 l, ← e, limit) refl

-- a frame is whole
pub front_whole : (place : Place) (bytes : List ℕ) (h : Header) → is_ended place ≡ false → 9 ≤ length bytes → h ≡ header_of bytes
    → h.length ≤ max_frame_size → length bytes ≡ 9 + h.length → front_of place bytes ≡ Some (frame_at place h (drop 9 bytes), length bytes)
unfolding front_of
front_whole place bytes h on l e fits len =
    let no_limit : ltb max_frame_size h.length ≡ false = le-ltb _ _ fits in
    let there : ltb (length bytes) (9 + h.length) ≡ false = le-ltb _ _ (omega arith) in
    let all : take h.length (drop 9 bytes) ≡ drop 9 bytes = take_all h.length (drop 9 bytes) (omega (arith, length-drop 9 bytes)) in
    rw (on, le-ltb (length bytes) 9 l, ← e, no_limit, there, all, len) refl

judged_skipped : (kind : Kind) (h : Header) (contents : List ℕ) → is_skipped kind ≡ true → judged kind h contents ≡ judged kind h []
unfolding judged
judged_skipped kinds.Priority h contents s = ap (λ (b : Bool). cond b (Fault frame_size_error) (Priority h.stream)) (le-ltb (length contents) 0 (omega arith))
judged_skipped (kinds.Unknown byte) h contents s = ap (λ (b : Bool). cond b (Fault frame_size_error) (Unknown byte h.stream)) (le-ltb (length contents) 0 (omega arith))
judged_skipped kinds.Data h contents s = absurd cc
judged_skipped kinds.Headers h contents s = absurd cc
judged_skipped kinds.Reset h contents s = absurd cc
judged_skipped kinds.Settings h contents s = absurd cc
judged_skipped kinds.Push h contents s = absurd cc
judged_skipped kinds.Ping h contents s = absurd cc
judged_skipped kinds.GoAway h contents s = absurd cc
judged_skipped kinds.Window h contents s = absurd cc
judged_skipped kinds.Continuation h contents s = absurd cc

-- what a frame says whose contents are read past doesn't depend on them
pub same_skipped : (place : Place) (h : Header) (contents : List ℕ) → is_skipped h.kind ≡ true → frame_at place h contents ≡ frame_at place h []
unfolding frame_at
same_skipped place h contents s =
    let whole = judged_skipped h.kind h contents s in
    rw whole refl
