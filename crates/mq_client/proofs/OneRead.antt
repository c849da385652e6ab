-- A read over HTTP/2 has one outcome.
use Rattle.std.proofs.Common.{◌≡◌, ℕ, Bool, true, false, ltb, eqb, List, [], ◌∷◌, ◌++◌, length, Option, Some, None, Result, sym, ap, subst, ◌∙◌}
use Rattle.mq_capsule.specs.declared.item.Item.{Item}
use Rattle.mq_capsule.specs.Laws as capsule
use Rattle.mq_frame.specs.declared.frame.Frame.{Frame}
use Rattle.mq_frame.specs.declared.frame.Frame.TheVariants as frame
use Rattle.mq_frame.specs.Laws as frames
use Rattle.mq_hpack.specs.declared.field.Field.{Field}
use Rattle.mq_hpack.specs.declared.fault.HpackFault.{HpackFault}
use Rattle.mq_hpack.specs.OneReading.{HasOneReading}
use Rattle.mq_hpack.specs.Table.{Table}
use Rattle.mq_streams.specs.Answers.{count_of}
use Rattle.mq_streams.specs.declared.answers.Counted.{Counted}
use Rattle.mq_streams.specs.declared.answers.Counted.TheVariants as counted
use Rattle.mq_client.specs.declared.block.OpenBlock.{OpenBlock}
use Rattle.mq_client.specs.declared.event.ClientEvent.{ClientEvent}
use Rattle.mq_client.specs.Asking.{stream}
use Rattle.mq_client.specs.Session.{Session, Stage, Greeting, Asked, Open, ended}
use Rattle.mq_client.specs.Frames.{Did, Is, max_block, on_read, told_of, takes, OnWhole, OnSome, OnHeaders, OnContinuation, OnBytes, OnData, Does, DoAll}
use Rattle.mq_client.specs.Talk.{Talk, is_over, ReadsFrames}

-- two outcomes are one
abbrev Agree : List ClientEvent → List ClientEvent → Session → Session → Type 0
Agree e f t u = (e ≡ f) × (t ≡ u)

one_did : (did : Did) (e f : List ClientEvent) (t u : Session) → Is did e t → Is did f u → Agree e f t u
one_did did e f t u a b = (a.0 ∙ sym b.0, a.1 ∙ sym b.1)

pub cancel : {A : Type 0} (xs ys zs : List A) → xs ++ ys ≡ xs ++ zs → ys ≡ zs
cancel [] ys zs e = e
cancel (x ∷ xs) ys zs e = cancel xs ys zs (cc)

module _ (one : HasOneReading) (says : capsule.IsReadOnce) where
  one_whole : (b : OpenBlock) (s : Session) (e f : List ClientEvent) (t u : Session) → OnWhole b s e t → OnWhole b s f u → Agree e f t u
  one_whole b s e f t u x y =
      let P : Result (List Field × Table) HpackFault → Type 0 = λ r. Is (on_read r b.end s) f u in
      one_did (on_read x.0 b.end s) e f t u x.2 (subst P (sym (one s.table b.bytes x.0 y.0 x.1 y.1)) y.2)

  one_some : (many whole : Bool) (b : OpenBlock) (s : Session) (e f : List ClientEvent) (t u : Session) → OnSome many whole b s e t → OnSome many whole b s f u → Agree e f t u
  one_some true whole b s e f t u x y = one_did _ e f t u x y
  one_some false true b s e f t u x y = one_whole b s e f t u x y
  one_some false false b s e f t u x y = one_did _ e f t u x y

  one_headers : (own : Bool) (block : List ℕ) (end whole : Bool) (s : Session) (e f : List ClientEvent) (t u : Session) → OnHeaders own block end whole s e t
      → OnHeaders own block end whole s f u → Agree e f t u
  one_headers true block end whole s e f t u x y = one_some (ltb max_block (length block)) whole (record { end = end; bytes = block }) s e f t u x y
  one_headers false block end whole s e f t u x y = one_did _ e f t u x y

  one_continuation : (b : Option OpenBlock) (block : List ℕ) (whole : Bool) (s : Session) (e f : List ClientEvent) (t u : Session) → OnContinuation b block whole s e t
      → OnContinuation b block whole s f u → Agree e f t u
  one_continuation None block whole s e f t u x y = one_did _ e f t u x y
  one_continuation (Some b) block whole s e f t u x y =
      one_some (ltb max_block (length (b.bytes ++ block))) whole (record { end = b.end; bytes = b.bytes ++ block }) s e f t u x y

  one_bytes : (st : Stage) (bytes : List ℕ) (end : Bool) (s : Session) (e f : List ClientEvent) (t u : Session) → OnBytes st bytes end s e t → OnBytes st bytes end s f u
      → Agree e f t u
  one_bytes (Greeting request) bytes end s e f t u x y = one_did _ e f t u x y
  one_bytes Asked bytes end s e f t u x y = one_did _ e f t u x y
  one_bytes (Open earlier) bytes end s e f t u x y =
      let items : x.1.items ≡ y.1.items = says false earlier x.1.items y.1.items x.1.were y.1.were in
      let all : x.1.items ++ x.0 ≡ x.1.items ++ y.0 =
      says false (earlier ++ bytes) (x.1.items ++ x.0) (y.1.items ++ y.0) x.1.are y.1.are ∙ ap (λ (l : List Item). l ++ y.0) (sym items) in
      let same : x.0 ≡ y.0 = cancel x.1.items x.0 y.0 all in
      (x.2.0 ∙ ap (λ (l : List Item). told_of l end) same ∙ sym y.2.0, x.2.1 ∙ sym y.2.1)

  one_data : (k : Counted) (id : ℕ) (bytes : List ℕ) (len : ℕ) (end : Bool) (s : Session) (e f : List ClientEvent) (t u : Session) → OnData k id bytes len end s e t
      → OnData k id bytes len end s f u → Agree e f t u
  one_data counted.Yes id bytes len end s e f t u x y = one_bytes (takes id len s).stage bytes end (takes id len s) e f t u x y
  one_data counted.Ignored id bytes len end s e f t u x y = one_did _ e f t u x y
  one_data counted.Idle id bytes len end s e f t u x y = one_did _ e f t u x y
  one_data counted.OverConnection id bytes len end s e f t u x y = one_did _ e f t u x y
  one_data counted.OverStream id bytes len end s e f t u x y = one_did _ e f t u x y

  one_frame : (g : Frame) (s : Session) (e f : List ClientEvent) (t u : Session) → Does g s e t → Does g s f u → Agree e f t u
  one_frame (frame.Content id bytes len end) s e f t u x y = one_data (count_of id len s.history) id bytes len end s e f t u x y
  one_frame (frame.Headers id block end whole) s e f t u x y = one_headers (eqb id stream) block end whole s e f t u x y
  one_frame (frame.Continuation id block whole) s e f t u x y = one_continuation s.block block whole s e f t u x y
  one_frame (frame.Priority id) s e f t u x y = one_did _ e f t u x y
  one_frame (frame.Reset id code) s e f t u x y = one_did _ e f t u x y
  one_frame (frame.Settings ack pairs) s e f t u x y = one_did _ e f t u x y
  one_frame (frame.Ping ack bytes) s e f t u x y = one_did _ e f t u x y
  one_frame (frame.GoAway last code) s e f t u x y = one_did _ e f t u x y
  one_frame (frame.Window id grow) s e f t u x y = one_did _ e f t u x y
  one_frame (frame.Unknown kind id) s e f t u x y = one_did _ e f t u x y
  one_frame (frame.Fault code) s e f t u x y = one_did _ e f t u x y

  one_all : (over : Bool) (fs : List Frame) (s : Session) (e f : List ClientEvent) (t u : Session) → DoAll over fs s e t → DoAll over fs s f u → Agree e f t u
  one_all over [] s e f t u x y = (x.0 ∙ sym y.0, x.1 ∙ sym y.1)
  one_all true (g ∷ gs) s e f t u x y = (x.0 ∙ sym y.0, x.1 ∙ sym y.1)
  one_all false (g ∷ gs) s e f t u x y =
      let first = one_frame g s x.0 y.0 x.1 y.1 x.3 y.3 in
      let P : Session → Type 0 = λ m. DoAll (ended x.0) gs m y.2 u in
      let Q : List ClientEvent → Type 0 = λ l. DoAll (ended l) gs y.1 y.2 u in
      let later = one_all (ended x.0) gs x.1 x.2 y.2 t u x.4 (subst P (sym first.1) (subst Q (sym first.0) y.4)) in (
        x.5 ∙ ap (λ (z : List ClientEvent). z ++ x.2) first.0 ∙ ap (λ (z : List ClientEvent). y.0 ++ z) later.0 ∙ sym y.5,
        later.1,
      )

  module _ (once : frames.IsReadOnce) where
    pub one_reads : (s : Talk) (piece : List ℕ) (e f : List ClientEvent) (t u : Talk) → ReadsFrames s piece e t → ReadsFrames s piece f u → (e ≡ f) × (t ≡ u)
    one_reads s piece e f t u x y =
        let bytes : List ℕ = s.came ++ piece in
        let earlier : x.earlier ≡ y.earlier = once s.came x.earlier y.earlier x.were y.were in
        let all : x.earlier ++ x.frames ≡ x.earlier ++ y.frames =
        once bytes (x.earlier ++ x.frames) (y.earlier ++ y.frames) x.are y.are ∙ ap (λ (z : List Frame). z ++ y.frames) (sym earlier) in
        let same : x.frames ≡ y.frames = cancel x.earlier x.frames y.frames all in
        let did = one_all (is_over s) x.frames s.session e f x.after y.after x.did (subst (λ (fs : List Frame). DoAll (is_over s) fs s.session f y.after) (sym same) y.did) in
        let after : List ClientEvent → Session → Talk = λ told session. record { came = bytes; told = s.told ++ told; session = session } in (
          did.0,
          x.state_is ∙ ap (λ (z : List ClientEvent). after z x.after) did.0 ∙ ap (λ (m : Session). after f m) did.1 ∙ sym y.state_is,
        )
