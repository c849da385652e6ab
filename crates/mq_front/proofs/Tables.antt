-- The data streams of a connection, and that of a number.
use Rattle.std.proofs.Common.{◌≡◌, ℕ, zero, suc, ◌==◌, cond, filter, not, Bool, true, false, List, [], ◌∷◌, ◌++◌, Some, None, slice_set, refl, sym, ap, ◌∙◌, subst, arith, eq-eqb, ne_eqb}
use Rattle.mq_machine.specs.Reading.{stream_of, more_bytes}
use Rattle.mq_machine.specs.State.{Stream}
use Rattle.mq_front.specs.declared.data.DataStream.{DataStream}
use Rattle.mq_front.specs.Data.{IsStream}
use Rattle.mq_front.specs.Streams.{AreStreams, HasNone, IsPlaceOf}

-- what stands at the place of a number
pub record Found (ds : List DataStream) (ss : List Stream) (id place : ℕ) (d : DataStream) : Type 0 where
  pub s : Stream
  pub is : stream_of ss id ≡ Some s
  pub stands : IsStream d s
  pub id_is : s.id ≡ id
  pub becomes : (new : DataStream) (bytes : List ℕ) → IsStream new (record s { bytes = s.bytes ++ bytes }) → AreStreams (slice_set ds place new) (more_bytes id bytes ss)

pub found : (ds : List DataStream) (ss : List Stream) (id place : ℕ) (d : DataStream) → AreStreams ds ss → IsPlaceOf ds id place d → Found ds ss id place d
found [] ss id place d are p = (let e = p.at in absurd cc)
found (x ∷ ds) [] id place d are p = absurd are
found (x ∷ ds) (s ∷ ss) id zero d are p =
    let same : x ≡ d = (let e = p.at in cc) in
    let number : s.id ≡ id = sym are.0.id_is ∙ ap (λ (y : DataStream). y.id) same ∙ p.id_is in
    let here : (s.id == id) ≡ true = eq-eqb s.id id number in
    record {
      s = s;
      is = ap (λ (b : Bool). cond b (Some s) (stream_of ss id)) here;
      stands = subst (λ (y : DataStream). IsStream y s) same are.0;
      id_is = number;
      becomes = λ new bytes stands.
          (let P : Bool → Type 0 = λ b. AreStreams (new ∷ ds) (cond b (record s { bytes = s.bytes ++ bytes } ∷ ss) (s ∷ more_bytes id bytes ss)) in
          subst P (sym here) (stands, are.1));
    }
found (x ∷ ds) (s ∷ ss) id (suc k) d are p =
    let not_here : (s.id == id) ≡ false = ne_eqb s.id id (λ e. p.first 0 x (omega arith) refl (are.0.id_is ∙ e)) in
    let rest = found ds ss id k d are.1 (record { at = p.at; id_is = p.id_is; first = λ other before lt at. p.first (suc other) before (omega (arith, lt)) at }) in
    record {
      s = rest.s;
      is = ap (λ (b : Bool). cond b (Some s) (stream_of ss id)) not_here ∙ rest.is;
      stands = rest.stands;
      id_is = rest.id_is;
      becomes = λ new bytes stands.
          (let P : Bool → Type 0 = λ b. AreStreams (x ∷ slice_set ds k new) (cond b (record s { bytes = s.bytes ++ bytes } ∷ ss) (s ∷ more_bytes id bytes ss)) in
          subst P (sym not_here) (are.0, rest.becomes new bytes stands));
    }

pub missing : (ds : List DataStream) (ss : List Stream) (id : ℕ) (bytes : List ℕ) → AreStreams ds ss → HasNone ds id → (stream_of ss id ≡ None) × (more_bytes id bytes ss ≡ ss)
missing [] [] id bytes are none = (refl, refl)
missing [] (s ∷ ss) id bytes are none = absurd are
missing (x ∷ ds) [] id bytes are none = absurd are
missing (x ∷ ds) (s ∷ ss) id bytes are none =
    let not_here : (s.id == id) ≡ false = ne_eqb s.id id (λ e. none 0 x refl (are.0.id_is ∙ e)) in
    let rest = missing ds ss id bytes are.1 (λ place d at. none (suc place) d at) in (
      ap (λ (b : Bool). cond b (Some s) (stream_of ss id)) not_here ∙ rest.0,
      ap (λ (b : Bool). cond b (record s { bytes = s.bytes ++ bytes } ∷ ss) (s ∷ more_bytes id bytes ss)) not_here ∙ ap (λ (xs : List Stream). s ∷ xs) rest.1,
    )

pub added : (ds : List DataStream) (ss : List Stream) (d : DataStream) (s : Stream) → AreStreams ds ss → IsStream d s → AreStreams (ds ++ d ∷ []) (ss ++ s ∷ [])
added [] [] d s are is = (is, tt)
added [] (t ∷ ss) d s are is = absurd are
added (x ∷ ds) [] d s are is = absurd are
added (x ∷ ds) (t ∷ ss) d s are is = (are.0, added ds ss d s are.1 is)

-- without those of a number
pub kept : (ds : List DataStream) (ss : List Stream) (id : ℕ) → AreStreams ds ss → AreStreams (filter (λ (d : DataStream). not (d.id == id)) ds) (filter (λ (s : Stream). not (s.id == id)) ss)
kept [] [] id are = tt
kept [] (s ∷ ss) id are = absurd are
kept (x ∷ ds) [] id are = absurd are
kept (x ∷ ds) (s ∷ ss) id are = subst P (sym are.0.id_is) (both (not (s.id == id)) (kept ds ss id are.1)) where
  here : List DataStream
  here = filter (λ (d : DataStream). not (d.id == id)) ds

  there : List Stream
  there = filter (λ (t : Stream). not (t.id == id)) ss

  P : ℕ → Type 0
  P k = AreStreams (cond (not (k == id)) (x ∷ here) here) (cond (not (s.id == id)) (s ∷ there) there)

  both : (b : Bool) → AreStreams here there → AreStreams (cond b (x ∷ here) here) (cond b (s ∷ there) there)
  both true rest = (are.0, rest)
  both false rest = rest
