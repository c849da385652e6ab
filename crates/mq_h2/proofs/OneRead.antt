-- A read has one outcome.
use Rattle.std.proofs.Common.{◌≡◌, ℕ, Bool, true, false, ltb, List, [], ◌∷◌, ◌++◌, length, Option, Some, None, Result, sym, ap, subst, ◌∙◌, inl, inr}
use Rattle.mq_frame.specs.declared.frame.Frame.{Frame}
use Rattle.mq_frame.specs.declared.frame.Frame.TheVariants as frame
use Rattle.mq_frame.specs.Laws.{IsReadOnce}
use Rattle.mq_hpack.specs.declared.field.Field.{Field}
use Rattle.mq_hpack.specs.declared.fault.HpackFault.{HpackFault}
use Rattle.mq_hpack.specs.OneReading.{HasOneReading}
use Rattle.mq_hpack.specs.Table.{Table}
use Rattle.mq_streams.specs.Answers.{begun, after_begin}
use Rattle.mq_streams.specs.declared.answers.Began.{Began}
use Rattle.mq_streams.specs.declared.answers.Began.TheVariants as began
use Rattle.mq_h2.specs.declared.block.OpenBlock.{OpenBlock}
use Rattle.mq_h2.specs.declared.event.StreamEvent.{StreamEvent}
use Rattle.mq_h2.specs.Codes.{max_block}
use Rattle.mq_h2.specs.State.{State, with_history}
use Rattle.mq_h2.specs.Frames.{Did, Is, on_block, OnWhole, OnSome, OnHeaders, OnContinuation, Does, DoAll}
use Rattle.mq_h2.specs.Reading.{lasting, drained, Reads, ReadsWhile}
use Rattle.mq_h2.specs.Laws.{IsOneRead}

-- two outcomes are one
abbrev Agree : List StreamEvent → List StreamEvent → State → State → Type 0
Agree e f t u = (e ≡ f) × (t ≡ u)

one_did : (did : Did) (e f : List StreamEvent) (t u : State) → Is did e t → Is did f u → Agree e f t u
one_did did e f t u a b = (a.0 ∙ sym b.0, a.1 ∙ sym b.1)

cancel : (xs ys zs : List Frame) → xs ++ ys ≡ xs ++ zs → ys ≡ zs
cancel [] ys zs e = e
cancel (x ∷ xs) ys zs e = cancel xs ys zs (cc)

module _ (one : HasOneReading) where
  one_whole : (b : OpenBlock) (s : State) (e f : List StreamEvent) (t u : State) → OnWhole b s e t → OnWhole b s f u → Agree e f t u
  one_whole b s e f t u x y =
      let P : Result (List Field × Table) HpackFault → Type 0 = λ r. Is (on_block r b s) f u in
      one_did (on_block x.0 b s) e f t u x.2 (subst P (sym (one s.table b.bytes x.0 y.0 x.1 y.1)) y.2)

  one_some : (many whole : Bool) (b : OpenBlock) (s : State) (e f : List StreamEvent) (t u : State) → OnSome many whole b s e t → OnSome many whole b s f u → Agree e f t u
  one_some true whole b s e f t u x y = one_did _ e f t u x y
  one_some false true b s e f t u x y = one_whole b s e f t u x y
  one_some false false b s e f t u x y = one_did _ e f t u x y

  one_headers : (k : Began) (id : ℕ) (block : List ℕ) (end whole : Bool) (s : State) (e f : List StreamEvent) (t u : State) → OnHeaders k id block end whole s e t
      → OnHeaders k id block end whole s f u → Agree e f t u
  one_headers began.BadId id block end whole s e f t u x y = one_did _ e f t u x y
  one_headers began.Live id block end whole s e f t u x y =
      one_some (ltb max_block (length block)) whole (record { stream = id; began = began.Live; end = end; bytes = block }) (with_history (after_begin began.Live id s.history) s) e f t u x y
  one_headers began.Refused id block end whole s e f t u x y =
      one_some (ltb max_block (length block)) whole (record { stream = id; began = began.Refused; end = end; bytes = block }) (with_history (after_begin began.Refused id s.history) s) e f t u x y
  one_headers began.Old id block end whole s e f t u x y =
      one_some (ltb max_block (length block)) whole (record { stream = id; began = began.Old; end = end; bytes = block }) (with_history (after_begin began.Old id s.history) s) e f t u x y

  one_continuation : (b : Option OpenBlock) (block : List ℕ) (whole : Bool) (s : State) (e f : List StreamEvent) (t u : State) → OnContinuation b block whole s e t
      → OnContinuation b block whole s f u → Agree e f t u
  one_continuation None block whole s e f t u x y = one_did _ e f t u x y
  one_continuation (Some b) block whole s e f t u x y =
      one_some (ltb max_block (length (b.bytes ++ block))) whole (record b { bytes = b.bytes ++ block }) s e f t u x y

  one_frame : (g : Frame) (s : State) (e f : List StreamEvent) (t u : State) → Does g s e t → Does g s f u → Agree e f t u
  one_frame (frame.Content id bytes len end) s e f t u x y = one_did _ e f t u x y
  one_frame (frame.Headers id block end whole) s e f t u x y = one_headers (begun id s.history) id block end whole s e f t u x y
  one_frame (frame.Continuation id block whole) s e f t u x y = one_continuation s.block block whole s e f t u x y
  one_frame (frame.Priority id) s e f t u x y = one_did _ e f t u x y
  one_frame (frame.Reset id code) s e f t u x y = one_did _ e f t u x y
  one_frame (frame.Settings ack pairs) s e f t u x y = one_did _ e f t u x y
  one_frame (frame.Ping ack bytes) s e f t u x y = one_did _ e f t u x y
  one_frame (frame.GoAway last code) s e f t u x y = one_did _ e f t u x y
  one_frame (frame.Window id grow) s e f t u x y = one_did _ e f t u x y
  one_frame (frame.Unknown kind id) s e f t u x y = one_did _ e f t u x y
  one_frame (frame.Fault code) s e f t u x y = one_did _ e f t u x y

  one_all : (fs : List Frame) (s : State) (e f : List StreamEvent) (t u : State) → DoAll fs s e t → DoAll fs s f u → Agree e f t u
  one_all [] s e f t u x y = (x.0 ∙ sym y.0, x.1 ∙ sym y.1)
  one_all (g ∷ gs) s e f t u x y =
      elim x [
        | inl a ↦ elim y [
          | inl b ↦ (a.1 ∙ sym b.1, a.2 ∙ sym b.2)
          | inr b ↦ absurd (let p = a.0 in let q = b.0 in cc)
        ]
        | inr a ↦ elim y [
          | inl b ↦ absurd (let p = a.0 in let q = b.0 in cc)
          | inr b ↦
              let first = one_frame g s a.1 b.1 a.2 b.2 a.4 b.4 in
              let P : State → Type 0 = λ m. DoAll gs m b.3 u in
              let later = one_all gs a.2 a.3 b.3 t u a.5 (subst P (sym first.1) b.5) in (
                a.6 ∙ ap (λ (z : List StreamEvent). z ++ a.3) first.0 ∙ ap (λ (z : List StreamEvent). b.1 ++ z) later.0 ∙ sym b.6,
                later.1,
              )
        ]
      ]

  module _ (once : IsReadOnce) where
    one_reads : (s : State) (piece : List ℕ) (e f : List StreamEvent) (t u : State) → Reads s piece e t → Reads s piece f u → Agree e f t u
    one_reads s piece e f t u x y =
        let bytes : List ℕ = s.read ++ piece in
        let earlier : x.earlier ≡ y.earlier = once s.read x.earlier y.earlier x.were y.were in
        let all : x.earlier ++ x.frames ≡ x.earlier ++ y.frames =
        once bytes (x.earlier ++ x.frames) (y.earlier ++ y.frames) x.are y.are ∙ ap (λ (z : List Frame). z ++ y.frames) (sym earlier) in
        let same : x.frames ≡ y.frames = cancel x.earlier x.frames y.frames all in
        let did = one_all x.frames s x.told y.told x.met y.met x.did (subst (λ (fs : List Frame). DoAll fs s y.told y.met) (sym same) y.did) in
        let after : List StreamEvent → State → State = λ told met. record met { read = bytes; history = drained told told met.history } in (
          x.events_are ∙ ap (λ (z : List StreamEvent). lasting z) did.0 ∙ sym y.events_are,
          x.state_is ∙ ap (λ (z : List StreamEvent). after z x.met) did.0 ∙ ap (λ (m : State). after y.told m) did.1 ∙ sym y.state_is,
        )

    one_while : (ended : Bool) (s : State) (piece : List ℕ) (e f : List StreamEvent) (t u : State) → ReadsWhile ended s piece e t → ReadsWhile ended s piece f u → Agree e f t u
    one_while true s piece e f t u x y = (x.0 ∙ sym y.0, x.1 ∙ sym y.1)
    one_while false s piece e f t u x y = one_reads s piece e f t u x y

    pub one_outcome : IsOneRead
    one_outcome s piece e f t u x y = one_while s.ended s piece e f t u x y
