-- A connection did what it wants: what that is in the machine's words.
use Rattle.std.proofs.Common.{◌≡◌, ℕ, zero, suc, ◌+◌, List, [], ◌∷◌, length, Option, Some, None, refl, sym, ap, ◌∙◌}
use Rattle.std.specs.Prelude.{⊤, option_map}
use Rattle.std.proofs.lemmas.List.{append-nil}
use Rattle.std.proofs.lemmas.List.Elements.{All-nil}
use Rattle.mq_talk.specs.declared.note.Note.{Note}
use Rattle.mq_talk.specs.declared.note.Note.TheVariants as note
use Rattle.mq_talk.specs.declared.note.End.{End}
use Rattle.mq_talk.specs.declared.place.Parcel.{Parcel}
use Rattle.mq_talk.specs.declared.book.Entry.{Entry}
use Rattle.mq_talk.specs.Mails.{Boxes, IsTold, Inboxes}
use Rattle.mq_talk.specs.Offices.{Seen, Sees, IsOfOther}
use Rattle.mq_machine.specs.State.{Conn, Held, Orders, Shared}
use Rattle.mq_machine.specs.Want.{Want, Nothing, Say, Bind, Ask, Judge, Push, Send, Over, Answer, want_of}
use Rattle.mq_machine.specs.Done.{done}
use Rattle.mq_machine.specs.Shared.{ports_after}
use Rattle.mq_machine.specs.Turn.{over_or, acted, with_conn}
use Rattle.mq_machine.specs.Acting.{Shares}
use Rattle.mq_step.specs.Holds.{HasInboxes}
use Rattle.mq_talk.proofs.Mails.{nothing_moved}

abbrev pub IsNotOver : Want → Type 0
IsNotOver Nothing = ⊤
IsNotOver Say = ⊤
IsNotOver (Bind stream goal) = ⊤
IsNotOver (Ask call) = ⊤
IsNotOver (Judge tunnel n flow) = ⊤
IsNotOver (Push parcel) = ⊤
IsNotOver (Send tunnel n payload) = ⊤
IsNotOver (Over why) = ⊥

not_over : (h : Held) (w : Want) (a : Answer) → IsNotOver w → over_or h w a ≡ option_map (with_conn (record h { ports = ports_after w a h.ports })) (done h.conn a)
not_over h Nothing a is = refl
not_over h Say a is = refl
not_over h (Bind stream goal) a is = refl
not_over h (Ask call) a is = refl
not_over h (Judge tunnel n flow) a is = refl
not_over h (Push parcel) a is = refl
not_over h (Send tunnel n payload) a is = refl
not_over h (Over why) a is = absurd is

-- the connection behind an answer
abbrev pub behind : Held → Want → Answer → Conn → Held
behind h w a t = record h { conn = t; ports = ports_after w a h.ports }

pub acted_is : (h : Held) (w : Want) (a : Answer) (n : Note) (t : Conn) → want_of h.conn ≡ w → IsNotOver w → done h.conn a ≡ Some (n, t) → acted h a ≡ Some (n, Some (behind h w a t))
acted_is h w a n t want over is =
    ap (λ (v : Want). over_or h v a) want
    ∙ not_over h w a over
    ∙ ap (λ (d : Option (Note × Conn)). option_map (with_conn (record h { ports = ports_after w a h.ports })) d) is

pub over_is : (h : Held) (why : End) (a : Answer) → want_of h.conn ≡ Over why → acted h a ≡ Some (note.Ended h.conn.number why, None)
over_is h why a want = ap (λ (v : Want). over_or h v a) want

-- ---- what is shared, where the book isn't asked

abbrev pub shared_by : Seen → List Entry → List (List Parcel) → Orders → Shared
shared_by seen book boxes orders = record { config = seen.config; book = book; boxes = boxes; orders = orders }

-- a mail, and inboxes with which what it tells fits
pub record Mailed (seen : Seen) : Type 0 where
  pub mail : Inboxes
  pub boxes : Boxes
  pub told : IsTold mail.told boxes
  pub count : length boxes ≡ seen.config.workers + 1

-- so many inboxes without a parcel
no_parcels : ℕ → Boxes
no_parcels zero = []
no_parcels (suc n) = [] ∷ no_parcels n

no_parcels_size : (n : ℕ) → length (no_parcels n) ≡ n
unfolding no_parcels
no_parcels_size zero = refl
no_parcels_size (suc n) = ap (λ (k : ℕ). suc k) (no_parcels_size n)

-- inboxes with which that fits
abbrev Fitting : ℕ → Option Boxes → Type 0
Fitting count told = (boxes : Boxes) × IsTold told boxes × (length boxes ≡ count)

pub fitting : (count : ℕ) (told : Option Boxes) → ((boxes : Boxes) → told ≡ Some boxes → length boxes ≡ count) → Fitting count told
fitting count None size = (no_parcels count, tt, no_parcels_size count)
fitting count (Some boxes) size = (boxes, refl, size boxes refl)

abbrev pub mailed : (seen : Seen) (count : ℕ) (mail : Inboxes) → HasInboxes seen count mail → Mailed seen
mailed seen count mail has =
    let f = fitting count mail.told has.size in
    record { mail = mail; boxes = f.0; told = f.1; count = f.2 ∙ has.count_is }

pub sees_same : (seen : Seen) → Sees seen seen.entries
sees_same seen = record { more = []; goes_on = sym (append-nil seen.entries); others = All-nil (IsOfOther seen); whole = λ is. refl }

pub shares_same : (seen seen_after : Seen) (m : Mailed seen) (orders : Orders) → seen_after ≡ seen
    → Shares seen seen_after m.mail m.mail orders (shared_by seen seen.entries m.boxes orders) (shared_by seen seen.entries m.boxes orders)
shares_same seen seen_after m orders same = record {
  config = refl;
  book = sees_same seen;
  wrote = ap (λ (x : Seen). x.entries) same;
  same = record { config = ap (λ (x : Seen). x.config) same; whole = ap (λ (x : Seen). x.is_whole) same };
  boxes = m.told;
  count = m.count;
  boxes_after = m.told;
  moves = nothing_moved m.mail m.mail m.boxes refl;
  orders_are = refl;
}
