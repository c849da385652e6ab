-- Frames that this side puts, each of which is read back as itself.
use Rattle.std.proofs.Common.{◌≡◌, ℕ, ◌^◌, ◌<◌, ◌≤◌, Bool, true, false, eqb, List, [], ◌∷◌, ◌++◌, length, refl, sym, ap, ◌∙◌, arith}
use Rattle.std.specs.List.{flat_map, AllByRecursion}
use Rattle.std.proofs.lemmas.Bool.{ne_eqb}
use Rattle.std.proofs.lemmas.List.{append-nil, append_assoc}
use Rattle.std.proofs.lemmas.Grind.{flat_map-append}
use Rattle.mq_frame.specs.Numbers.{max_frame_size}
use Rattle.mq_frame.specs.declared.frame.Frame.{Frame}
use Rattle.mq_frame.specs.declared.frame.Frame.TheVariants as frame
use Rattle.mq_frame.specs.declared.place.Place.{Place}
use Rattle.mq_frame.specs.declared.place.Place.TheVariants.{First, Between}
use Rattle.mq_frame.specs.Stream.{next_place}
use Rattle.mq_frame.specs.Told.{IsStream}
use Rattle.mq_frame.specs.Writing.{spelling_of, read_as, AreWritten, IsWritable, Fits}
use Rattle.mq_h2.specs.Codes.{own_settings}

-- a frame that is read back as itself between others, and leaves no header block open
pub record IsOwn (f : Frame) : Type 0 where
  pub writable : IsWritable f
  pub fits : Fits f
  pub back : read_as Between f ≡ f
  pub between : next_place f ≡ Between

apart : (n : ℕ) → 0 < n → eqb n 0 ≡ false
apart n some = ne_eqb n 0 (λ e. absurd (omega (arith, some, e)))

pub own_goaway : (last code : ℕ) → last < 2 ^ 31 → code < 2 ^ 32 → IsOwn (frame.GoAway last code)
own_goaway last code small fits = record { writable = small; fits = fits; back = refl; between = refl }

pub own_reset : (id code : ℕ) → IsStream id → code < 2 ^ 32 → IsOwn (frame.Reset id code)
own_reset id code on fits = record { writable = on.1; fits = fits; back = rw (apart id on.0) refl; between = refl }

pub own_data : (id : ℕ) (bytes : List ℕ) (end : Bool) → IsStream id → length bytes ≤ max_frame_size → IsOwn (frame.Content id bytes (length bytes) end)
own_data id bytes end on few = record { writable = (on.1, few, refl); fits = tt; back = rw (apart id on.0) refl; between = refl }

pub own_headers : (id : ℕ) (block : List ℕ) (end : Bool) → IsStream id → length block ≤ max_frame_size → IsOwn (frame.Headers id block end true)
own_headers id block end on few = record { writable = (on.1, few); fits = tt; back = rw (apart id on.0) refl; between = refl }

pub own_acknowledgement : IsOwn (frame.Settings true [])
own_acknowledgement = record { writable = omega arith; fits = tt; back = refl; between = refl }

pub own_pong : (bytes : ℕ) → bytes < 2 ^ 64 → IsOwn (frame.Ping true bytes)
own_pong bytes fits = record { writable = tt; fits = fits; back = refl; between = refl }

pub own_window : (id grow : ℕ) → id < 2 ^ 31 → 0 < grow → grow < 2 ^ 31 → IsOwn (frame.Window id grow)
own_window id grow on some small = record { writable = (on, small); fits = tt; back = rw (apart grow some) refl; between = refl }

-- what was put: the SETTINGS of the server, and such frames
pub record IsOwnText (out : List ℕ) : Type 0 where
  pub later : List Frame
  pub own : AllByRecursion IsOwn later
  pub put : out ≡ spelling_of (frame.Settings false own_settings) ++ flat_map spelling_of later

pub first_text : IsOwnText (spelling_of (frame.Settings false own_settings))
first_text = record { later = []; own = tt; put = sym (append-nil (spelling_of (frame.Settings false own_settings))) }

all_more : (fs : List Frame) (f : Frame) → AllByRecursion IsOwn fs → IsOwn f → AllByRecursion IsOwn (fs ++ f ∷ [])
all_more [] f all own = (own, tt)
all_more (g ∷ fs) f all own = (all.0, all_more fs f all.1 own)

pub text_more : (out : List ℕ) (f : Frame) → IsOwnText out → IsOwn f → IsOwnText (out ++ spelling_of f)
text_more out f text own =
    let first : List ℕ = spelling_of (frame.Settings false own_settings) in
    record {
      later = text.later ++ f ∷ [];
      own = all_more text.later f text.own own;
      put =
          ap (λ (bytes : List ℕ). bytes ++ spelling_of f) text.put
          ∙ append_assoc first (flat_map spelling_of text.later) (spelling_of f)
          ∙ ap (λ (bytes : List ℕ). first ++ (flat_map spelling_of text.later ++ bytes)) (sym (append-nil (spelling_of f)))
          ∙ ap (λ (bytes : List ℕ). first ++ bytes) (sym (flat_map-append spelling_of text.later (f ∷ [])));
    }

-- such frames are written one behind the other
all_written : (place : Place) (fs : List Frame) → place ≡ Between → AllByRecursion IsOwn fs → AreWritten place fs
all_written place [] is all = tt
all_written place (f ∷ fs) is all = (
  all.0.writable,
  all.0.fits,
  ap (λ (p : Place). read_as p f) is ∙ all.0.back,
  all_written (next_place f) fs all.0.between all.1,
)

own_settings_fit : Fits (frame.Settings false own_settings)
own_settings_fit = ((omega arith, omega arith), ((omega arith, omega arith), ((omega arith, omega arith), tt)))

own_settings_back : read_as First (frame.Settings false own_settings) ≡ frame.Settings false own_settings
own_settings_back = unfold Rattle.mq_frame.specs.Table.setting_fault in refl

pub text_written : (out : List ℕ) (text : IsOwnText out) → AreWritten First (frame.Settings false own_settings ∷ text.later)
text_written out text = (omega arith, own_settings_fit, own_settings_back, all_written Between text.later refl text.own)
