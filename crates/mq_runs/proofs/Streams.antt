-- Data streams among others, and how they grow.
use Rattle.std.proofs.Common.{◌≡◌, ℕ, Bool, true, false, cond, List, [], ◌∷◌, ◌++◌, Some, refl, sym, subst, ap, ◌∙◌, append_assoc, append-nil}
use Rattle.std.specs.Prelude.{◌==◌, not}
use Rattle.std.specs.List.{filter}
use Rattle.std.proofs.lemmas.Bool.{eqb-true}
use Rattle.mq_capsule.specs.declared.item.Item.{Item}
use Rattle.mq_capsule.specs.Items.{ItemsOf}
use Rattle.mq_machine.specs.declared.act.StreamAct.{StreamAct}
use Rattle.mq_machine.specs.declared.act.StreamAct.TheVariants as stream
use Rattle.mq_machine.specs.Reading.{has_values, stream_of, more_bytes}
use Rattle.mq_machine.specs.State.{Stream}
use Rattle.mq_play.proofs.Lists.{some_same}
use Rattle.mq_runs.specs.Payloads.{IsPayload, IsOf}

-- the stream goes on with more bytes
pub record Longer (s : Stream) (streams : List Stream) (on : ℕ) : Type 0 where
  pub now : Stream
  pub more : List ℕ
  pub is : stream_of streams on ≡ Some now
  pub bytes : now.bytes ≡ s.bytes ++ more
  pub goal : now.goal ≡ s.goal

-- so does each of these
abbrev pub AreLonger : List Stream → List Stream → Type 0
AreLonger old new = (on : ℕ) (s : Stream) → stream_of old on ≡ Some s → Longer s new on

pub longer_same : (old : List Stream) → AreLonger old old
longer_same old on s is = record { now = s; more = []; is = is; bytes = sym (append-nil s.bytes); goal = refl }

pub longer_on : (a b c : List Stream) → AreLonger a b → AreLonger b c → AreLonger a c
longer_on a b c x y on s is =
    let f = x on s is in
    let g = y on f.now f.is in
    record { now = g.now; more = f.more ++ g.more; is = g.is; bytes = g.bytes ∙ ap (λ (l : List ℕ). l ++ g.more) f.bytes ∙ append_assoc s.bytes f.more g.more; goal = g.goal ∙ f.goal }

found_first : (b : Bool) (on : ℕ) (s t r : Stream) (ss new : List Stream) → cond b (Some t) (stream_of ss on) ≡ Some s → t.id == on ≡ b → r.id ≡ t.id
    → (b ≡ true → Longer t (r ∷ new) on) → (stream_of ss on ≡ Some s → Longer s new on) → Longer s (r ∷ new) on
found_first true on s t r ss new e same id first others = subst (λ x. Longer x (r ∷ new) on) (some_same e) (first refl)
found_first false on s t r ss new e same id first others =
    let l = others e in
    let no : r.id == on ≡ false = ap (λ i. i == on) id ∙ same in
    record { now = l.now; more = l.more; is = rw no l.is; bytes = l.bytes; goal = l.goal }

-- where it is the first
first_is : (on : ℕ) (s r : Stream) (new : List Stream) (more : List ℕ) → s.id == on ≡ true → r.id ≡ s.id → r.bytes ≡ s.bytes ++ more → r.goal ≡ s.goal → Longer s (r ∷ new) on
first_is on s r new more same id bytes goal =
    let yes : r.id == on ≡ true = ap (λ i. i == on) id ∙ same in
    record { now = r; more = more; is = rw yes refl; bytes = bytes; goal = goal }

pub longer_more : (id : ℕ) (bytes : List ℕ) (ss : List Stream) → AreLonger ss (more_bytes id bytes ss)
longer_more id bytes [] on s is = absurd cc
longer_more id bytes (t ∷ ss) on s is = by_id (longer_more id bytes ss on s) (t.id == id) refl where
  by_id : (stream_of ss on ≡ Some s → Longer s (more_bytes id bytes ss) on) → (b : Bool) → t.id == id ≡ b → Longer s (cond b (record t { bytes = t.bytes ++ bytes } ∷ ss) (t ∷ more_bytes id bytes ss)) on
  by_id rest true same =
      found_first (t.id == on) on s t (record t { bytes = t.bytes ++ bytes }) ss ss is refl refl
      (λ yes. first_is on t (record t { bytes = t.bytes ++ bytes }) ss bytes yes refl refl refl) (λ e. longer_same ss on s e)
  by_id rest false same =
      found_first (t.id == on) on s t t ss (more_bytes id bytes ss) is refl refl
      (λ yes. first_is on t t (more_bytes id bytes ss) [] yes refl (sym (append-nil t.bytes)) refl) rest

pub longer_front : (ss more : List Stream) → AreLonger ss (ss ++ more)
longer_front [] more on s is = absurd cc
longer_front (t ∷ ss) more on s is =
    found_first (t.id == on) on s t t ss (ss ++ more) is refl refl
    (λ yes. first_is on t t (ss ++ more) [] yes refl (sym (append-nil t.bytes)) refl) (λ e. longer_front ss more on s e)

-- the stream itself, with more bytes
pub more_is : (id : ℕ) (bytes : List ℕ) (ss : List Stream) (s : Stream) → stream_of ss id ≡ Some s → stream_of (more_bytes id bytes ss) id ≡ Some (record s { bytes = s.bytes ++ bytes })
more_is id bytes [] s is = absurd cc
more_is id bytes (t ∷ ss) s is = by_id (more_is id bytes ss s) (t.id == id) refl is where
  by_id : (stream_of ss id ≡ Some s → stream_of (more_bytes id bytes ss) id ≡ Some (record s { bytes = s.bytes ++ bytes })) → (b : Bool) → t.id == id ≡ b → cond b (Some t) (stream_of ss id) ≡ Some s
      → stream_of (cond b (record t { bytes = t.bytes ++ bytes } ∷ ss) (t ∷ more_bytes id bytes ss)) id ≡ Some (record s { bytes = s.bytes ++ bytes })
  by_id rest true same e = rw same (ap (λ (x : Stream). Some (record x { bytes = x.bytes ++ bytes })) (some_same e))
  by_id rest false same e = rw same (rest e)

-- without another stream it stays
pub longer_without : (id on : ℕ) (ss : List Stream) (s : Stream) → on == id ≡ false → stream_of ss on ≡ Some s → Longer s (filter (λ (s : Stream). not (s.id == id)) ss) on
longer_without id on [] s other is = absurd cc
longer_without id on (t ∷ ss) s other is = by_id (longer_without id on ss s other) (t.id == id) refl (t.id == on) refl is where
  by_id : (stream_of ss on ≡ Some s → Longer s (filter (λ (s : Stream). not (s.id == id)) ss) on) → (b : Bool) → t.id == id ≡ b → (d : Bool) → t.id == on ≡ d → cond d (Some t) (stream_of ss on) ≡ Some s
      → Longer s (cond (not b) (t ∷ filter (λ (s : Stream). not (s.id == id)) ss) (filter (λ (s : Stream). not (s.id == id)) ss)) on
  by_id rest true same true on_it e =
      let both : on == id ≡ true = ap (λ i. i == id) (sym (eqb-true t.id on on_it)) ∙ same in
      absurd cc
  by_id rest true same false on_it e = rest e
  by_id rest false same d on_it e =
      found_first d on s t t ss (filter (λ (s : Stream). not (s.id == id)) ss) e on_it refl
      (λ yes. first_is on t t _ [] (on_it ∙ yes) refl (sym (append-nil t.bytes)) refl) rest

-- ---- what is asked with its payloads

pub payload_longer : (old new : List Stream) (on n : ℕ) (item : Item) → ((s : Stream) → stream_of old on ≡ Some s → Longer s new on) → IsPayload old on n item → IsPayload new on n item
payload_longer old new on n item longer p =
    let l = longer p.data_stream p.is in
    let Q : _ → Type 0 = λ goal. ItemsOf (has_values goal) p.bytes p.items in
    record {
      data_stream = l.now;
      bytes = p.bytes;
      others = p.others ++ l.more;
      items = p.items;
      is = l.is;
      are_first = l.bytes ∙ ap (λ (x : List ℕ). x ++ l.more) p.are_first ∙ append_assoc p.bytes p.others l.more;
      say = subst Q (sym l.goal) p.say;
      at = p.at;
    }

pub of_longer : (mtu : ℕ) (old new : List Stream) (on : ℕ) (a : StreamAct) → ((s : Stream) → stream_of old on ≡ Some s → Longer s new on) → IsOf mtu old on a → IsOf mtu new on a
of_longer mtu old new on (stream.Payload n payload) longer h = payload_longer old new on n _ longer h
of_longer mtu old new on (stream.Packet n packet flow) longer h = (payload_longer old new on n _ longer h.0, h.1)
of_longer mtu old new on (stream.Push n to packet) longer h = payload_longer old new on n _ longer h
of_longer mtu old new on (stream.Drop n cause) longer h = (h.0, payload_longer old new on n h.0 longer h.1, h.2)
of_longer mtu old new on (stream.Assign asked) longer h = tt
of_longer mtu old new on (stream.Advertise ranges) longer h = tt
of_longer mtu old new on (stream.Close why) longer h = tt
