-- The numbers of frames of bytes fit the fields that they are written in.
use Rattle.std.proofs.Common.{ℕ, zero, suc, ◌^◌, ◌<◌, List, [], ◌∷◌, take, drop, get_or, sym, subst, inl, inr, arith}
use Rattle.std.specs.List.{All, AllByRecursion}
use Rattle.std.specs.Int.{w16, w32, w64, from_be_bytes}
use Rattle.std.proofs.lemmas.List.Elements.{All-take, All-drop, All-head, All-tail}
use Rattle.mq_frame.specs.declared.kind.Kind.{Kind}
use Rattle.mq_frame.specs.declared.kind.Kind.TheVariants as kinds
use Rattle.mq_frame.specs.declared.header.Header.{Header}
use Rattle.mq_frame.specs.declared.place.Place.{Place}
use Rattle.mq_frame.specs.declared.frame.Frame.{Frame}
use Rattle.mq_frame.specs.Header.{header_of}
use Rattle.mq_frame.specs.Table.{frame_at, frame_of, pairs_of, setting_at}
use Rattle.mq_frame.specs.Stream.{next_place, AreFrames}
use Rattle.mq_frame.specs.Writing.{Fits, SettingFits}
use Rattle.mq_frame.proofs.Told.{told, behind, front_holds}

abbrev IsByte : ℕ → Type 0
IsByte b = b < 2 ^ 8

byte : (bytes : List ℕ) → All IsByte bytes → (i : ℕ) → get_or bytes i 0 < 2 ^ 8
byte [] all i = omega arith
byte (b ∷ bytes) all zero = All-head IsByte b bytes all
byte (b ∷ bytes) all (suc i) = byte bytes (All-tail IsByte b bytes all) i

two : (bytes : List ℕ) → All IsByte bytes → from_be_bytes w16 bytes < 2 ^ 16
two bytes all = omega (arith, byte bytes all 0, byte bytes all 1)

four : (bytes : List ℕ) → All IsByte bytes → from_be_bytes w32 bytes < 2 ^ 32
four bytes all = omega (arith, byte bytes all 0, byte bytes all 1, byte bytes all 2, byte bytes all 3)

eight : (bytes : List ℕ) → All IsByte bytes → from_be_bytes w64 bytes < 2 ^ 64
eight bytes all =
    omega (arith, byte bytes all 0, byte bytes all 1, byte bytes all 2, byte bytes all 3, byte bytes all 4, byte bytes all 5, byte bytes all 6, byte bytes all 7)

setting_fits : (bytes : List ℕ) → All IsByte bytes → SettingFits (setting_at bytes)
unfolding setting_at
setting_fits bytes all = (two (take 2 bytes) (All-take IsByte 2 bytes all), four (take 4 (drop 2 bytes)) (All-take IsByte 4 (drop 2 bytes) (All-drop IsByte 2 bytes all)))

pairs_fit : (contents : List ℕ) → All IsByte contents → AllByRecursion SettingFits (pairs_of contents)
pairs_fit (a ∷ b ∷ c ∷ d ∷ e ∷ f ∷ rest) all =
    let bytes : List ℕ = a ∷ b ∷ c ∷ d ∷ e ∷ f ∷ rest in
    (setting_fits (take 6 bytes) (All-take IsByte 6 bytes all), pairs_fit rest (All-drop IsByte 6 bytes all))
pairs_fit _ all = tt

fits_of : (kind : Kind) (h : Header) (contents : List ℕ) → All IsByte contents → Fits (frame_of kind h contents)
fits_of kinds.Data h contents all = tt
fits_of kinds.Headers h contents all = tt
fits_of kinds.Priority h contents all = tt
fits_of kinds.Reset h contents all = four contents all
fits_of kinds.Settings h contents all = pairs_fit contents all
fits_of kinds.Push h contents all = tt
fits_of kinds.Ping h contents all = eight contents all
fits_of kinds.GoAway h contents all =
    four (take 4 (drop 4 contents)) (All-take IsByte 4 (drop 4 contents) (All-drop IsByte 4 contents all))
fits_of kinds.Window h contents all = tt
fits_of kinds.Continuation h contents all = tt
fits_of (kinds.Unknown byte) h contents all = tt

fits_at : (place : Place) (h : Header) (contents : List ℕ) → All IsByte contents → Fits (frame_at place h contents)
fits_at place h contents all =
    let P : Frame → Type 0 = λ g. Fits g in
    elim (told place h contents) [
      | inl fault ↦ subst P (sym fault.2) tt
      | inr t ↦ subst P (sym t.is) (fits_of h.kind h contents all)
    ]

pub all_fit : (place : Place) (bytes : List ℕ) (frames : List Frame) (last : Place) (rest : List ℕ) → All IsByte bytes → AreFrames place bytes frames last rest
    → AllByRecursion Fits frames
all_fit place bytes [] last rest all are = tt
all_fit place bytes (f ∷ fs) last rest all are =
    let contents = All-take IsByte (header_of bytes).length (drop 9 bytes) (All-drop IsByte 9 bytes all) in (
      front_holds (λ g. Fits g) place bytes f are.0 tt (λ on fits len. fits_at place (header_of bytes) (behind bytes) contents) are.1,
      all_fit (next_place f) (drop are.0 bytes) fs last rest (All-drop IsByte are.0 bytes all) are.2,
    )
