-- What comes to a link reaches the worker to which it was offered, and no other.
use Rattle.std.proofs.Common.{◌≡◌, ◌≢◌, ℕ, zero, suc, ◌<◌, ◌==◌, Bool, false, List, [], ◌∷◌, ◌++◌, length, map, All, find, slice_get, slice_set, Some, None, refl, sym, ap, subst, ◌∙◌}
use Rattle.std.specs.Prelude.{nat_lt}
use Rattle.std.specs.Option.{option_map}
use Rattle.std.specs.Vec.{with_item}
use Rattle.std.specs.Global.{Vec}
use Rattle.std.proofs.lemmas.Bool.{ne_eqb}
use Rattle.std.proofs.lemmas.List.Elements.{All-cons, All-head, All-tail, All-nil, All-weaker}
use Rattle.mq_talk.specs.Mails.{Boxes}
use Rattle.mq_talk.specs.Offices.{Seen}
use Rattle.mq_machine.specs.State.{Link, Told, Worker, State}
use Rattle.mq_mem.specs.Links.{Link as LinkOf}
use Rattle.mq_mem.specs.Offices.{seen_of}
use Rattle.mq_held.specs.declared.held.Held.{Held as HeldBy}
use Rattle.mq_actor.specs.declared.offer.Offer.{Offer as OfferBy}
use Rattle.mq_actor.specs.declared.ring.Ring.{Ring}
use Rattle.mq_actor.specs.Ended.{conn_numbers, offer_numbers, numbers_in}
use Rattle.mq_actor.specs.Lent.{link_at}
use Rattle.mq_play.specs.Events.{at_worker, at_link}
use Rattle.mq_world.specs.declared.told.Told.{Told as ToldBy}
use Rattle.mq_world.specs.declared.workers.Workers.{Workers}
use Rattle.mq_plain.specs.Served.{Plain, IsOf, Serves}
use Rattle.mq_world.specs.Worlds.{told_of, IsWorld}
use Rattle.mq_plain.proofs.Serving.{serves_unlinked}
use Rattle.mq_world.proofs.Each.{stands_changed}

-- ---- no other has it

all_left : (P : ℕ → Type 0) (xs ys : List ℕ) → All P (xs ++ ys) → All P xs
all_left P [] ys all = All-nil P
all_left P (x ∷ xs) ys all = All-cons P x xs (All-head P x (xs ++ ys) all) (all_left P xs ys (All-tail P x (xs ++ ys) all))

all_right : (P : ℕ → Type 0) (xs ys : List ℕ) → All P (xs ++ ys) → All P ys
all_right P [] ys all = all
all_right P (x ∷ xs) ys all = all_right P xs ys (All-tail P x (xs ++ ys) all)

find_none : {X : Type 0} (f : X → ℕ) (n : ℕ) (xs : List X) → All (λ (m : ℕ). m ≢ n) (map f xs) → find (λ (x : X). f x == n) xs ≡ None
find_none f n [] all = refl
find_none {X} f n (x ∷ xs) all = rw (ne_eqb (f x) n (All-head (λ (m : ℕ). m ≢ n) (f x) (map f xs) all)) (find_none f n xs (All-tail (λ (m : ℕ). m ≢ n) (f x) (map f xs) all))

module _ (links : List Told) (conn : ℕ) (t : Told) (at : slice_get links conn ≡ Some t) where
  not_this : (number n : ℕ) → t.worker ≢ number → IsOf links number n → n ≢ conn
  not_this number n ne is same =
      let both : Some is.said ≡ Some t = sym is.at ∙ ap (λ (i : ℕ). slice_get links i) same ∙ at in
      let one : is.said ≡ t = cc in
      ne (sym (ap (λ (x : Told). x.worker) one) ∙ is.to)

  unlent : (number : ℕ) (r : Ring LinkOf) → t.worker ≢ number → All (IsOf links number) (numbers_in r) → link_at conn r ≡ None
  unlent number r ne own =
      let others : All (λ (n : ℕ). n ≢ conn) (numbers_in r) = All-weaker (IsOf links number) (λ (n : ℕ). n ≢ conn) (λ n is. not_this number n ne is) (numbers_in r) own in
      let conns = find_none (λ (h : HeldBy LinkOf). h.number) conn r.conns.items (all_left (λ (n : ℕ). n ≢ conn) (conn_numbers r) (offer_numbers r) others) in
      let offered = find_none (λ (f : OfferBy LinkOf). f.number) conn r.offered.items (all_right (λ (n : ℕ). n ≢ conn) (conn_numbers r) (offer_numbers r) others) in
      rw (conns, offered) refl

  -- ---- all workers

  module _ (seen : Seen) (boxes : Boxes) (change : Link → Link) where
    one_else : (number : ℕ) (a : Plain) (w : Worker) → t.worker ≢ number → Serves links seen boxes number a w → Serves links seen boxes number a (at_worker conn change w)
    one_else number a w ne x =
        subst (λ (v : Worker). Serves links seen boxes number a v) (sym (serves_unlinked links seen boxes number a w x conn change (unlent number a.ring ne x.own))) x

-- ---- the world

module _ (old : Workers) (s : State) (is : IsWorld old s) (conn k : ℕ) (told : option_map (λ (t : ToldBy). t.worker) (slice_get old.links.items conn) ≡ Some k) where
  told_at : (ts : List ToldBy) (i : ℕ) → option_map (λ (t : ToldBy). t.worker) (slice_get ts i) ≡ Some k → (t : Told) × (slice_get (map told_of ts) i ≡ Some t) × (t.worker ≡ k)
  told_at [] i e = absurd cc
  told_at (t ∷ ts) zero e = (told_of t, refl, cc)
  told_at (t ∷ ts) (suc i) e = told_at ts i e

  said : (t : Told) × (slice_get s.links conn ≡ Some t) × (t.worker ≡ k)
  said =
      let f = told_at old.links.items conn told in
      (f.0, ap (λ (ts : List Told). slice_get ts conn) is.links ∙ f.1, f.2)

  at_all : (P : Told → Type 0) (ts : List Told) (i : ℕ) (t : Told) → All P ts → slice_get ts i ≡ Some t → P t
  at_all P [] i t all e = absurd cc
  at_all P (x ∷ ts) zero t all e = let same : x ≡ t = cc in subst P same (All-head P x ts all)
  at_all P (x ∷ ts) (suc i) t all e = at_all P ts i t (All-tail P x ts all) e

  -- it is one of its workers
  pub reached : k < length old.workers.items
  reached = let f = said in subst (λ (n : ℕ). n < length old.workers.items) f.2 (at_all (λ (t : Told). t.worker < length old.workers.items) s.links conn f.0 is.offered f.1)

  pub stands_reached : (rests : Vec Bool) → rests.items ≡ slice_set old.rests.items k false → (a b : Plain) (change : Link → Link) → slice_get old.workers.items k ≡ Some a
      → ((w : Worker) → Serves s.links (seen_of old.office) old.mail.boxes k a w → Serves s.links (seen_of old.office) old.mail.boxes k b (at_worker conn change w))
      → IsWorld (record old { workers = with_item old.workers k b; rests = rests }) (at_link conn change s)
  stands_reached rests awake a b change at does =
      let f = said in
      stands_changed old s is k (at_worker conn change) rests awake
      (λ n x w ne served. one_else s.links conn f.0 f.1 (seen_of old.office) old.mail.boxes change n x w (λ same. ne (sym same ∙ f.2)) served) a b at does

pub links_long : (old : Workers) (s : State) → IsWorld old s → (conn : ℕ) (b : Bool) → nat_lt conn (length old.links.items) ≡ b → nat_lt conn (length s.links) ≡ b
links_long old s is conn b e = ap (λ (ts : List Told). nat_lt conn (length ts)) is.links ∙ ap (λ (n : ℕ). nat_lt conn n) (map_long old.links.items) ∙ e where
  map_long : (ts : List ToldBy) → length (map told_of ts) ≡ length ts
  map_long [] = refl
  map_long (t ∷ ts) = ap (λ (n : ℕ). suc n) (map_long ts)
