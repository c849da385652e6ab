-- The frames of some bytes are bounded and alternate.
use Rattle.std.proofs.Common.{◌≡◌, ℕ, zero, suc, ◌+◌, ◌-◌, ◌*◌, ◌^◌, ◌%◌, ◌<◌, ◌≤◌, Bool, true, false, cond, not, ltb, eqb, ◌||◌, ◌&&◌, List, [], ◌∷◌, ◌++◌, length, take, drop, Option, Some, None, refl, sym, subst, ◌∙◌, ◌⊎◌, inl, inr, arith}
use Rattle.std.specs.List.{AllByRecursion}
use Rattle.std.specs.Int.{w32, from_be_bytes}
use Rattle.std.proofs.lemmas.Bool.{cases_Bool, ltb-false, eqb-true, eqb-false, cond-false, cond-true}
use Rattle.std.proofs.lemmas.Option.{some_pair_parts}
use Rattle.std.proofs.lemmas.List.{length-drop, length-take-le}
use Rattle.mq_frame.specs.Numbers.{protocol_error, flow_control_error, frame_size_error, max_frame_size}
use Rattle.mq_frame.specs.declared.kind.Kind.{Kind}
use Rattle.mq_frame.specs.declared.kind.Kind.TheVariants as kinds
use Rattle.mq_frame.specs.declared.header.Header.{Header}
use Rattle.mq_frame.specs.declared.place.Place.{Place}
use Rattle.mq_frame.specs.declared.place.Place.TheVariants.{First, Between, Block, Ended}
use Rattle.mq_frame.specs.declared.frame.Setting.{Setting}
use Rattle.mq_frame.specs.declared.frame.Frame.{Frame}
use Rattle.mq_frame.specs.declared.frame.Frame.TheVariants.{Fault}
use Rattle.mq_frame.specs.Header.{header_of}
use Rattle.mq_frame.specs.Table.{frame_at, judged, frame_of, block_of, fields_len, padding_len, or_fault, or_else, is_misplaced, isnt_first, breaks_block, is_push, lacks_stream, has_stream, grants_nothing, lacks_fields, is_overpadded, is_missized, setting_fault, settings_fault, values_fault, pairs_of}
use Rattle.mq_frame.specs.Stream.{front_of, front_by, is_ended, next_place, AreFrames}
use Rattle.mq_frame.specs.Told.{IsFaultCode, IsBounded, Follows, Alternate}
use Rattle.mq_frame.proofs.Writing.{place_first}

-- it is an error, with the code of one
abbrev pub IsFault : Frame → Type 0
IsFault f = (code : ℕ) × IsFaultCode code × (f ≡ Fault code)

-- what contents say, where no test fails; of WINDOW_UPDATE with its test
abbrev Says : Kind → Header → List ℕ → Frame → Type 0
Says kind h contents f = IsFault f ⊎ ((f ≡ frame_of kind h contents) × (grants_nothing kind h.stream contents ≡ false))

last_test : (b : Bool) (code : ℕ) (g : Frame) → IsFaultCode code → IsFault (cond b (Fault code) g) ⊎ ((cond b (Fault code) g ≡ g) × (b ≡ false))
last_test true code g is = inl (code, is, refl)
last_test false code g is = inr (refl, refl)

says_test : (b : Bool) (code : ℕ) (kind : Kind) (h : Header) (contents : List ℕ) (f : Frame) → IsFaultCode code → Says kind h contents f → Says kind h contents (cond b (Fault code) f)
says_test true code kind h contents f is s = inl (code, is, refl)
says_test false code kind h contents f is s = s

-- the error of a setting is one
abbrev HasFaultCode : Option ℕ → Type 0
HasFaultCode None = Unit {0}
HasFaultCode (Some code) = IsFaultCode code

three_tests : (a b c : Bool) → HasFaultCode (cond a (Some protocol_error) (cond b (Some flow_control_error) (cond c (Some protocol_error) None)))
three_tests true b c = inl refl
three_tests false true c = inr (inl refl)
three_tests false false true = inl refl
three_tests false false false = tt

setting_has : (s : Setting) → HasFaultCode (setting_fault s)
unfolding setting_fault
setting_has s =
    three_tests (eqb s.id 2 && ltb 1 s.value) (eqb s.id 4 && ltb (2 ^ 31 - 1) s.value) (eqb s.id 5 && (ltb s.value (2 ^ 14) || ltb (2 ^ 24 - 1) s.value))

either_has : (fault other : Option ℕ) → HasFaultCode fault → HasFaultCode other → HasFaultCode (or_else fault other)
either_has None other is rest = rest
either_has (Some code) other is rest = is

settings_have : (ss : List Setting) → HasFaultCode (settings_fault ss)
settings_have [] = tt
settings_have (s ∷ ss) = either_has (setting_fault s) (settings_fault ss) (setting_has s) (settings_have ss)

values_have : (kind : Kind) (contents : List ℕ) → HasFaultCode (values_fault kind contents)
values_have kinds.Settings contents = settings_have (pairs_of contents)
values_have kinds.Data contents = tt
values_have kinds.Headers contents = tt
values_have kinds.Priority contents = tt
values_have kinds.Reset contents = tt
values_have kinds.Push contents = tt
values_have kinds.Ping contents = tt
values_have kinds.GoAway contents = tt
values_have kinds.Window contents = tt
values_have kinds.Continuation contents = tt
values_have (kinds.Unknown byte) contents = tt

says_tests : (fault : Option ℕ) (kind : Kind) (h : Header) (contents : List ℕ) (f : Frame) → HasFaultCode fault → Says kind h contents f → Says kind h contents (or_fault fault f)
says_tests None kind h contents f is s = s
says_tests (Some code) kind h contents f is s = inl (code, is, refl)

judged_says : (kind : Kind) (h : Header) (contents : List ℕ) → Says kind h contents (judged kind h contents)
unfolding judged
judged_says kind h contents =
    says_test (lacks_fields kind h.flags contents) frame_size_error kind h contents _ (inr (inr refl))
    (says_test (is_overpadded kind h.flags contents) protocol_error kind h contents _ (inl refl)
    (says_test (is_missized kind h.flags (length contents)) frame_size_error kind h contents _ (inr (inr refl))
    (says_tests (values_fault kind contents) kind h contents _ (values_have kind contents)
    (last_test (grants_nothing kind h.stream contents) protocol_error (frame_of kind h contents) (inl refl)))))

neither : (a b : Bool) → (a || b) ≡ false → (a ≡ false) × (b ≡ false)
neither true b e = absurd cc
neither false b e = (refl, e)

-- no error of the place holds
pub record Allowed (place : Place) (h : Header) : Type 0 where
  pub first : isnt_first place h ≡ false
  pub block : breaks_block place h ≡ false
  pub push : is_push h.kind ≡ false
  pub on_stream : lacks_stream h.kind h.stream ≡ false
  pub on_connection : has_stream h.kind h.stream ≡ false

allowed : (place : Place) (h : Header) → is_misplaced place h ≡ false → Allowed place h
allowed place h e =
    let a = neither (isnt_first place h || breaks_block place h || is_push h.kind || lacks_stream h.kind h.stream) (has_stream h.kind h.stream) e in
    let b = neither (isnt_first place h || breaks_block place h || is_push h.kind) (lacks_stream h.kind h.stream) a.0 in
    let c = neither (isnt_first place h || breaks_block place h) (is_push h.kind) b.0 in
    let d = neither (isnt_first place h) (breaks_block place h) c.0 in
    record { first = d.0; block = d.1; push = c.1; on_stream = b.1; on_connection = a.1 }

-- a frame at a place is an error, or what its contents say where the place allows it
pub record IsTold (place : Place) (h : Header) (contents : List ℕ) (f : Frame) : Type 0 where
  pub is : f ≡ frame_of h.kind h contents
  pub grants : grants_nothing h.kind h.stream contents ≡ false
  pub allowed : Allowed place h

told_by : (b : Bool) (place : Place) (h : Header) (contents : List ℕ) → is_misplaced place h ≡ b
    → IsFault (cond b (Fault protocol_error) (judged h.kind h contents)) ⊎ IsTold place h contents (cond b (Fault protocol_error) (judged h.kind h contents))
told_by true place h contents e = inl (protocol_error, inl refl, refl)
told_by false place h contents e = elim (judged_says h.kind h contents) [
  | inl fault ↦ inl fault
  | inr says ↦ inr (record { is = says.0; grants = says.1; allowed = allowed place h e })
]

pub told : (place : Place) (h : Header) (contents : List ℕ) → IsFault (frame_at place h contents) ⊎ IsTold place h contents (frame_at place h contents)
told place h contents =
    let P : Frame → Type 0 = λ f. IsFault f ⊎ IsTold place h contents f in
    subst P (sym (place_first place h contents (judged h.kind h contents) refl)) (told_by (is_misplaced place h) place h contents refl)

not_false : (b : Bool) → not b ≡ false → b ≡ true
not_false true e = refl
not_false false e = absurd cc

-- Bounds.

on_a_stream : (stream : ℕ) → eqb stream 0 ≡ false → stream < 2 ^ 31 → (0 < stream) × (stream < 2 ^ 31)
on_a_stream stream e l = let ne = eqb-false stream 0 e in (omega (arith, ne), l)

inner_few : (n m : ℕ) (contents : List ℕ) → length (take (length (drop n contents) - m) (drop n contents)) ≤ length contents
inner_few n m contents = omega (arith, length-drop n contents, length-take-le (length (drop n contents) - m) (drop n contents) (omega arith))

pairs_few : (contents : List ℕ) → 6 * length (pairs_of contents) ≤ length contents
pairs_few (a ∷ b ∷ c ∷ d ∷ e ∷ f ∷ rest) = omega (arith, pairs_few rest)
pairs_few _ = omega arith

some_growth : (grow stream : ℕ) → (eqb grow 0 && eqb stream 0) ≡ false → stream ≡ 0 → 0 < grow
some_growth zero zero e s = absurd cc
some_growth (suc n) stream e s = omega arith
some_growth zero (suc m) e s = absurd (omega arith)

bounded_of : (kind : Kind) (h : Header) (contents : List ℕ) → lacks_stream kind h.stream ≡ false → grants_nothing kind h.stream contents ≡ false
    → h.stream < 2 ^ 31 → h.length ≤ max_frame_size → length contents ≡ h.length → IsBounded (frame_of kind h contents)
bounded_of kinds.Data h contents on some small fits len =
    let few : length (block_of kinds.Data h.flags contents) ≤ length contents = inner_few (fields_len kinds.Data h.flags) (padding_len h.flags contents) contents in (on_a_stream h.stream on small, omega (arith, few), fits)
bounded_of kinds.Headers h contents on some small fits len =
    let few : length (block_of kinds.Headers h.flags contents) ≤ length contents = inner_few (fields_len kinds.Headers h.flags) (padding_len h.flags contents) contents in (on_a_stream h.stream on small, omega (arith, few))
bounded_of kinds.Priority h contents on some small fits len = on_a_stream h.stream on small
bounded_of kinds.Reset h contents on some small fits len = on_a_stream h.stream on small
bounded_of kinds.Settings h contents on some small fits len = omega (arith, pairs_few contents)
bounded_of kinds.Push h contents on some small fits len = inl refl
bounded_of kinds.Ping h contents on some small fits len = tt
bounded_of kinds.GoAway h contents on some small fits len = omega arith
bounded_of kinds.Window h contents on some small fits len =
    let grow = from_be_bytes w32 contents % 2 ^ 31 in (small, omega arith, some_growth grow h.stream some)
bounded_of kinds.Continuation h contents on some small fits len = (on_a_stream h.stream on small, omega arith)
bounded_of (kinds.Unknown byte) h contents on some small fits len = small

-- the order of frames
same_stream : (stream other : ℕ) → not (eqb stream other) ≡ false → stream ≡ other
same_stream stream other e = eqb-true stream other (not_false (eqb stream other) e)

follows_of : (place : Place) (kind : Kind) (len flags stream : ℕ) (contents : List ℕ) → is_ended place ≡ false
    → isnt_first place (record { length = len; kind = kind; flags = flags; stream = stream }) ≡ false
    → breaks_block place (record { length = len; kind = kind; flags = flags; stream = stream }) ≡ false
    → Follows place (frame_of kind (record { length = len; kind = kind; flags = flags; stream = stream }) contents)
follows_of Ended kind len flags stream contents on first block = absurd cc
follows_of First kinds.Settings len flags stream contents on first block = first
follows_of First kinds.Data len flags stream contents on first block = absurd cc
follows_of First kinds.Headers len flags stream contents on first block = absurd cc
follows_of First kinds.Priority len flags stream contents on first block = absurd cc
follows_of First kinds.Reset len flags stream contents on first block = absurd cc
follows_of First kinds.Push len flags stream contents on first block = tt
follows_of First kinds.Ping len flags stream contents on first block = absurd cc
follows_of First kinds.GoAway len flags stream contents on first block = absurd cc
follows_of First kinds.Window len flags stream contents on first block = absurd cc
follows_of First kinds.Continuation len flags stream contents on first block = absurd cc
follows_of First (kinds.Unknown byte) len flags stream contents on first block = absurd cc
follows_of Between kinds.Continuation len flags stream contents on first block = absurd cc
follows_of Between kinds.Settings len flags stream contents on first block = tt
follows_of Between kinds.Data len flags stream contents on first block = tt
follows_of Between kinds.Headers len flags stream contents on first block = tt
follows_of Between kinds.Priority len flags stream contents on first block = tt
follows_of Between kinds.Reset len flags stream contents on first block = tt
follows_of Between kinds.Push len flags stream contents on first block = tt
follows_of Between kinds.Ping len flags stream contents on first block = tt
follows_of Between kinds.GoAway len flags stream contents on first block = tt
follows_of Between kinds.Window len flags stream contents on first block = tt
follows_of Between (kinds.Unknown byte) len flags stream contents on first block = tt
follows_of (Block other) kinds.Continuation len flags stream contents on first block = same_stream stream other block
follows_of (Block other) kinds.Settings len flags stream contents on first block = absurd cc
follows_of (Block other) kinds.Data len flags stream contents on first block = absurd cc
follows_of (Block other) kinds.Headers len flags stream contents on first block = absurd cc
follows_of (Block other) kinds.Priority len flags stream contents on first block = absurd cc
follows_of (Block other) kinds.Reset len flags stream contents on first block = absurd cc
follows_of (Block other) kinds.Push len flags stream contents on first block = tt
follows_of (Block other) kinds.Ping len flags stream contents on first block = absurd cc
follows_of (Block other) kinds.GoAway len flags stream contents on first block = absurd cc
follows_of (Block other) kinds.Window len flags stream contents on first block = absurd cc
follows_of (Block other) (kinds.Unknown byte) len flags stream contents on first block = absurd cc

fault_follows : (place : Place) (code : ℕ) → is_ended place ≡ false → Follows place (Fault code)
fault_follows First code on = tt
fault_follows Between code on = tt
fault_follows (Block stream) code on = tt
fault_follows Ended code on = absurd cc

-- a frame at the front is bounded, and may follow
record IsRight (place : Place) (f : Frame) : Type 0 where
  pub bounded : IsBounded f
  pub follows : Follows place f

right_fault : (place : Place) (f : Frame) → is_ended place ≡ false → IsFault f → IsRight place f
right_fault place f on is =
    let P : Frame → Type 0 = λ g. IsRight place g in
    subst P (sym is.2) (record { bounded = is.1; follows = fault_follows place is.0 on })

right_at : (place : Place) (h : Header) (contents : List ℕ) → is_ended place ≡ false → h.stream < 2 ^ 31 → h.length ≤ max_frame_size → length contents ≡ h.length
    → IsRight place (frame_at place h contents)
right_at place h contents on small fits len = elim (told place h contents) [
  | inl fault ↦ right_fault place (frame_at place h contents) on fault
  | inr t ↦
      let P : Frame → Type 0 = λ g. IsRight place g in
      subst P (sym t.is) (record {
        bounded = bounded_of h.kind h contents t.allowed.on_stream t.grants small fits len;
        follows = follows_of place h.kind h.length h.flags h.stream contents on t.allowed.first t.allowed.block;
      })
]

small_stream : (bytes : List ℕ) → (header_of bytes).stream < 2 ^ 31
unfolding header_of
small_stream bytes = omega arith

left : {A : Type 0} (b : Bool) (x : Option A) (y : A) → cond b None x ≡ Some y → (b ≡ false) × (x ≡ Some y)
left true x y e = absurd cc
left false x y e = (refl, e)

-- the contents behind a header
abbrev pub behind : List ℕ → List ℕ
behind bytes = take (header_of bytes).length (drop 9 bytes)

-- what holds of the frame at the front, where it is too large and where it isn't
front_has : (P : Frame → Type 0) (place : Place) (h : Header) (bytes : List ℕ) (f : Frame) (n : ℕ) → P (Fault frame_size_error)
    → (h.length ≤ max_frame_size → length (take h.length (drop 9 bytes)) ≡ h.length → P (frame_at place h (take h.length (drop 9 bytes))))
    → front_by place h bytes ≡ Some (f, n) → P f
front_has P place h bytes f n large small e = elim (cases_Bool (ltb max_frame_size h.length)) [
  | inl over ↦
      let is = some_pair_parts (Fault frame_size_error) f 9 n (sym (cond-true _ (Some (Fault frame_size_error, 9)) _ over) ∙ e) in
      subst P is.0 large
  | inr fits ↦
      let few = ltb-false _ _ fits in
      let w = left (ltb (length bytes) (9 + h.length)) (Some (frame_at place h (take h.length (drop 9 bytes)), 9 + h.length)) (f, n)
      (sym (cond-false _ (Some (Fault frame_size_error, 9)) _ fits) ∙ e) in
      let enough : 9 + h.length ≤ length bytes = ltb-false _ _ w.0 in
      let is = some_pair_parts (frame_at place h (take h.length (drop 9 bytes))) f (9 + h.length) n w.1 in
      let len : length (take h.length (drop 9 bytes)) ≡ h.length = length-take-le h.length (drop 9 bytes) (omega (arith, length-drop 9 bytes)) in
      subst P is.0 (small few len)
]

pub front_holds : (P : Frame → Type 0) (place : Place) (bytes : List ℕ) (f : Frame) (n : ℕ) → P (Fault frame_size_error)
    → (is_ended place ≡ false → (header_of bytes).length ≤ max_frame_size → length (behind bytes) ≡ (header_of bytes).length → P (frame_at place (header_of bytes) (behind bytes)))
    → front_of place bytes ≡ Some (f, n) → P f
unfolding front_of
front_holds P place bytes f n large small e =
    let on = left (is_ended place) _ (f, n) e in
    let there = left (ltb (length bytes) 9) _ (f, n) on.1 in
    front_has P place (header_of bytes) bytes f n large (small on.0) there.1

right : (place : Place) (bytes : List ℕ) (f : Frame) (n : ℕ) → is_ended place ≡ false → front_of place bytes ≡ Some (f, n) → IsRight place f
right place bytes f n on e =
    front_holds (λ g. IsRight place g) place bytes f n (right_fault place (Fault frame_size_error) on (frame_size_error, inr (inr refl), refl))
    (λ on fits len. right_at place (header_of bytes) (behind bytes) on (small_stream bytes) fits len) e

-- where a frame stands, an error wasn't met
on_at : (place : Place) (bytes : List ℕ) (f : Frame) (n : ℕ) → front_of place bytes ≡ Some (f, n) → is_ended place ≡ false
unfolding front_of
on_at place bytes f n e = (left (is_ended place) _ (f, n) e).0

pub all_bounded : (place : Place) (bytes : List ℕ) (frames : List Frame) (last : Place) (rest : List ℕ) → AreFrames place bytes frames last rest
    → AllByRecursion IsBounded frames
all_bounded place bytes [] last rest are = tt
all_bounded place bytes (f ∷ fs) last rest are =
    ((right place bytes f are.0 (on_at place bytes f are.0 are.1) are.1).bounded, all_bounded (next_place f) (drop are.0 bytes) fs last rest are.2)

pub all_alternate : (place : Place) (bytes : List ℕ) (frames : List Frame) (last : Place) (rest : List ℕ) → AreFrames place bytes frames last rest
    → Alternate place frames
all_alternate place bytes [] last rest are = tt
all_alternate place bytes (f ∷ fs) last rest are =
    ((right place bytes f are.0 (on_at place bytes f are.0 are.1) are.1).follows, all_alternate (next_place f) (drop are.0 bytes) fs last rest are.2)

-- the later of two parts
pub later_bounded : (first later : List Frame) → AllByRecursion IsBounded (first ++ later) → AllByRecursion IsBounded later
later_bounded [] later all = all
later_bounded (f ∷ fs) later all = later_bounded fs later all.1
