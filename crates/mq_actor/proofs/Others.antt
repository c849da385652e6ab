-- What the offered links, the inbox and connections beside them come to.
use Rattle.std.proofs.Common.{◌≡◌, ◌≢◌, inl, inr, ◌⊎◌, ℕ, zero, suc, ◌==◌, Bool, true, false, List, [], ◌∷◌, ◌++◌, map, All, slice_get, slice_set}
use Rattle.std.proofs.Common.{length, Option, Some, None, MatchOption, refl, sym, ap, subst, ◌∙◌}
use Rattle.std.specs.Prelude.{⊤, if◌then◌else◌}
use Rattle.std.proofs.lemmas.List.Elements.{All-nil}
use Rattle.slab.specs.Slab.{Slab}
use Rattle.mq_talk.specs.declared.place.Parcel.{Parcel}
use Rattle.mq_talk.specs.Mails.{Boxes, IsTold}
use Rattle.mq_machine.specs.State.{Conn, Link, Offer, Held}
use Rattle.mq_machine.specs.Acting.{Outside, PortsTold, ConnsTold, WasInbox}
use Rattle.mq_held.specs.declared.held.Held.{Held as HeldBy}
use Rattle.mq_held.specs.declared.held.PortSeat.{PortSeat}
use Rattle.mq_step.specs.Holds.{IsHeld, IsOther}
use Rattle.mq_step.specs.Sights.{Found, idle}
use Rattle.mq_step.specs.Whole.{filled}
use Rattle.mq_actor.specs.declared.offer.Offer.{Offer as OfferBy}
use Rattle.mq_actor.specs.Holds.{AreOffered, AreOthers, HaveOwnPorts, numbers_of}
use Rattle.mq_actor.specs.Passing.{TellsSame}
use Rattle.mq_actor.proofs.Cores.{cores_of}
use Rattle.mq_actor.proofs.InRing.{all_at}
use Rattle.mq_actor.proofs.Lists.{get_pushed}
use Rattle.mq_actor.proofs.Refilled.{refilled, reoffered, told_idle}

-- ---- lists

-- a list in which one element was set is as long
pub set_length : {A : Type 0} (xs : List A) (i : ℕ) (x : A) → length (slice_set xs i x) ≡ length xs
set_length [] zero x = refl
set_length [] (suc i) x = refl
set_length (y ∷ xs) zero x = refl
set_length (y ∷ xs) (suc i) x = ap (λ (k : ℕ). suc k) (set_length xs i x)

-- ---- cores

-- what links and ports hold changes no core
pub cores_refilled : (o : Outside) (number : ℕ) (found : Found) (hs : List Held) → cores_of (map (refilled o number found) hs) ≡ cores_of hs
cores_refilled o number found [] = refl
cores_refilled o number found (h ∷ hs) = ap (λ (cs : List Conn). h.conn ∷ cs) (cores_refilled o number found hs)

-- the cores with one more connection
pub cores_pushed : (hs : List Held) (h : Held) → cores_of (hs ++ h ∷ []) ≡ cores_of hs ++ h.conn ∷ []
cores_pushed [] h = refl
cores_pushed (x ∷ hs) h = ap (λ (cs : List Conn). x.conn ∷ cs) (cores_pushed hs h)

-- ---- what is told

idle_or : (b : Bool) → ◌≡◌ {A = Found} (if b then idle else idle) idle
idle_or true = refl
idle_or false = refl

-- what is told of a connection that was passed over is told of it afterwards, where nothing was found of any
pub told_refilled : (o n : Outside) (number : ℕ) (s : Held) → TellsSame o n s
    → IsTold (n.link s.conn.number) (refilled o number idle s).link × PortsTold n (refilled o number idle s).ports
told_refilled o n number s tells =
    let P : Found → Type 0 = λ f. IsTold (n.link s.conn.number) (filled o f s).link × PortsTold n (filled o f s).ports in
    subst P (sym (idle_or (s.conn.number == number))) (told_idle o n s tells)

-- one more connection holds what is told of it
pub told_pushed : (n : Outside) (hs : List Held) (h : Held) → ConnsTold n hs → IsTold (n.link h.conn.number) h.link → PortsTold n h.ports
    → ConnsTold n (hs ++ h ∷ [])
told_pushed n [] h told link ports = (link, ports, tt)
told_pushed n (x ∷ hs) h told link ports = (told.0, told.1, told_pushed n hs h told.2 link ports)

-- this was in its inbox
pub was_box : (told : Option Boxes) (b : Boxes) (id own : ℕ) (box : List Parcel) → IsTold told b → own ≡ id → slice_get b id ≡ Some box → WasInbox told own box
was_box None b id own box is same at = tt
was_box (Some c) b id own box is same at =
    let P : Boxes → Type 0 = λ x. slice_get x id ≡ Some box in
    let Q : ℕ → Type 0 = λ k. slice_get c k ≡ Some box in
    subst Q (sym same) (subst P is at)

-- as many inboxes are told as there are
pub boxes_told : (told : Option Boxes) (b : Boxes) (count : ℕ) → IsTold told b → length b ≡ count
    → (boxes : List (List Parcel)) → told ≡ Some boxes → length boxes ≡ count
boxes_told None b count is size boxes some = absurd cc
boxes_told (Some c) b count is size boxes some =
    let same : c ≡ boxes = cc in
    ap (λ (x : Boxes). length x) (sym same) ∙ ap (λ (x : Boxes). length x) (sym is) ∙ size

-- ---- one more connection

-- what a connection stands for doesn't depend on its link
pub relinked : {L Q : Type 0} (most : Q → ℕ) (table : Slab Q) (h : HeldBy L) (s : Held) (link : Link) → IsHeld most table h s
    → IsHeld most table h (record s { link = link })
relinked most table h s link is =
    record { conn = is.conn; number = is.number; ports = is.ports; apart = is.apart; served = is.served; bound = is.bound; room = is.room }

matches : (P : ℕ → Type 0) (o : Option ℕ) → ((k : ℕ) → P k) → MatchOption o ⊤ P
matches P None each = tt
matches P (Some k) each = each k

-- one that has no ports has none of another's
pub ports_pushed : {L : Type 0} (hs : List (HeldBy L)) (h : HeldBy L) → h.ports.items ≡ [] → h.bound ≡ None → HaveOwnPorts hs
    → HaveOwnPorts (hs ++ h ∷ [])
ports_pushed {L} hs h none unbound own =
    λ i j a b ne at_a at_b. by_places i j a b ne (get_pushed hs h i a at_a) (get_pushed hs h j b at_b) where
      Stands : ℕ → HeldBy L → Type 0
      Stands i a = (slice_get hs i ≡ Some a) ⊎ ((i ≡ length hs) × (a ≡ h))

      other : (key : ℕ) → IsOther h.ports.items h.bound key
      other key =
          let P : List PortSeat → Type 0 = λ xs. All (λ (seat : PortSeat). seat.key ≢ key) xs in
          record {
            seats_are = subst P (sym none) (All-nil (λ (seat : PortSeat). seat.key ≢ key));
            bound_is = λ some. let e : ◌≡◌ {A = Option ℕ} None (Some key) = sym unbound ∙ some in absurd cc;
          }

      last : (a : HeldBy L) → AreOthers a h
      last a =
          let W : PortSeat → Type 0 = λ seat. IsOther a.ports.items a.bound seat.key in
          let P : List PortSeat → Type 0 = λ xs. All W xs in
          let Q : Option ℕ → Type 0 = λ bound. MatchOption bound ⊤ (λ key. IsOther a.ports.items a.bound key) in
          record { seats = subst P (sym none) (All-nil W); bound = subst Q (sym unbound) tt }

      first : (b : HeldBy L) → AreOthers h b
      first b =
          let W : PortSeat → Type 0 = λ seat. IsOther h.ports.items h.bound seat.key in
          record {
            seats = all_at W b.ports.items (λ k seat at. other seat.key);
            bound = matches (λ key. IsOther h.ports.items h.bound key) b.bound other;
          }

      by_places : (i j : ℕ) (a b : HeldBy L) → i ≢ j → Stands i a → Stands j b → AreOthers a b
      by_places i j a b ne (inl at_a) (inl at_b) = own i j a b ne at_a at_b
      by_places i j a b ne (inl at_a) (inr (there, e)) = let P : HeldBy L → Type 0 = λ y. AreOthers a y in subst P (sym e) (last a)
      by_places i j a b ne (inr (here, e)) (inl at_b) = let P : HeldBy L → Type 0 = λ y. AreOthers y b in subst P (sym e) (first b)
      by_places i j a b ne (inr (here, e)) (inr (there, f)) = absurd (ne (here ∙ sym there))

-- the number of an offered link is that of its connection
pub numbers_moved : {L : Type 0} (hs : List (HeldBy L)) (h : HeldBy L) (f : OfferBy L) (others : List (OfferBy L)) → h.number ≡ f.number
    → numbers_of (hs ++ h ∷ []) others ≡ numbers_of hs (f ∷ others)
numbers_moved {L} [] h f others is = ap (λ (k : ℕ). k ∷ map (λ (g : OfferBy L). g.number) others) is
numbers_moved (x ∷ hs) h f others is = ap (λ (ks : List ℕ). x.number ∷ ks) (numbers_moved hs h f others is)

-- the worker's first offered link
pub offered_first : {L : Type 0} (f : OfferBy L) (fs : List (OfferBy L)) (xs : List Offer) → AreOffered (f ∷ fs) xs
    → (y : Offer) × (ys : List Offer) × (xs ≡ y ∷ ys) × (y.number ≡ f.number) × AreOffered fs ys
offered_first f fs [] are = absurd are
offered_first f fs (y ∷ ys) are = (y, ys, refl, are.0, are.1)

-- offered links have the same numbers, whatever they hold
pub offered_refilled : {L : Type 0} (o : Outside) (fs : List (OfferBy L)) (xs : List Offer) → AreOffered fs xs → AreOffered fs (map (reoffered o) xs)
offered_refilled o [] [] are = tt
offered_refilled o [] (x ∷ xs) are = absurd are
offered_refilled o (f ∷ fs) [] are = absurd are
offered_refilled o (f ∷ fs) (x ∷ xs) are = (are.0, offered_refilled o fs xs are.1)
