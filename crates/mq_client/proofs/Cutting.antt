-- Reads one behind the other, and reads behind the last event.
use Rattle.std.proofs.Common.{◌≡◌, ℕ, Bool, true, false, ◌||◌, List, [], ◌∷◌, ◌++◌, sym, ap, subst, ◌∙◌, append_assoc, append-nil}
use Rattle.mq_capsule.specs.Laws as capsule
use Rattle.mq_frame.specs.declared.frame.Frame.{Frame}
use Rattle.mq_frame.specs.Stream.{FramesOf}
use Rattle.mq_frame.specs.Laws as frames
use Rattle.mq_hpack.specs.OneReading.{HasOneReading}
use Rattle.mq_client.specs.declared.event.ClientEvent.{ClientEvent}
use Rattle.mq_client.specs.Brings.{Brings}
use Rattle.mq_client.specs.Exchange.{Exchange, exchange_fed}
use Rattle.mq_client.specs.Session.{Session, ended}
use Rattle.mq_client.specs.Frames.{DoAll}
use Rattle.mq_client.specs.Talk.{Talk, is_over, ReadsFrames}
use Rattle.mq_client.specs.State.{State, Http1, Http2, Reads}
use Rattle.mq_client.specs.Laws.{ToldOnce, NothingFollows, IsOneRead, TellsNoMore, ReadsInPieces}
use Rattle.mq_client.proofs.Told.{ended_both}
use Rattle.mq_client.proofs.Doings.{do_none}
use Rattle.mq_client.proofs.OneRead.{cancel, one_reads}

-- ---- one outcome

-- what follows is what stands behind the earlier events
none_more : (told events : List ClientEvent) → told ++ events ≡ told → events ≡ []
none_more told events e = cancel told events [] (e ∙ sym (append-nil told))

pub one_read : ToldOnce → HasOneReading → capsule.IsReadOnce → frames.IsReadOnce → IsOneRead
one_read once one says frames (Http1 s) piece e f t u x y =
    let same = cancel s.told e f (once (s.came ++ piece) (s.told ++ e) (s.told ++ f) x.0 y.0) in
    (same, x.1 ∙ ap (λ (l : List ClientEvent). Http1 (exchange_fed s piece l)) same ∙ sym y.1)
one_read once one says frames (Http2 s) piece e f t u x y =
    let same = one_reads one says frames s piece e f x.0 y.0 x.1 y.1 in
    (same.0, x.2 ∙ ap Http2 same.1 ∙ sym y.2)

-- ---- behind the last event

over_none : (fs : List Frame) (s : Session) (e : List ClientEvent) (t : Session) → DoAll true fs s e t → (e ≡ []) × (t ≡ s)
over_none [] s e t all = all
over_none (f ∷ fs) s e t all = all

pub tells_no_more : ToldOnce → NothingFollows → TellsNoMore
tells_no_more once nothing (Http1 s) piece events t told over reads =
    none_more s.told events (once (s.came ++ piece) (s.told ++ events) s.told reads.0 (nothing s.came piece s.told told over))
tells_no_more once nothing (Http2 s) piece events t told over reads =
    let read = reads.1 in
    (over_none read.frames s.session events read.after (subst (λ (b : Bool). DoAll b read.frames s.session events read.after) over read.did)).0

-- ---- one behind the other

pub do_both : (over : Bool) (fs gs : List Frame) (s : Session) (e f : List ClientEvent) (m t : Session) → DoAll over fs s e m → DoAll (over || ended e) gs m f t
    → DoAll over (fs ++ gs) s (e ++ f) t
do_both true fs gs s e f m t x y =
    let a = over_none fs s e m x in
    let b = over_none gs m f t y in
    let none : e ++ f ≡ [] = ap (λ (l : List ClientEvent). l ++ f) a.0 ∙ b.0 in
    subst (λ (u : Session). DoAll true (fs ++ gs) s (e ++ f) u) (sym (b.1 ∙ a.1))
    (subst (λ (l : List ClientEvent). DoAll true (fs ++ gs) s l s) (sym none) (do_none (fs ++ gs) s))
do_both false [] gs s e f m t x y =
    let P : Session → Type 0 = λ n. DoAll false gs n (e ++ f) t in
    let Q : List ClientEvent → Type 0 = λ l. DoAll (ended l) gs m (l ++ f) t in
    let R : List ClientEvent → Type 0 = λ l. DoAll false gs m (l ++ f) t in
    subst P x.1 (subst R (sym x.0) (subst (λ (b : Bool). DoAll b gs m f t) (ap ended x.0) y))
do_both false (g ∷ fs) gs s e f m t x y =
    let rest = subst (λ (b : Bool). DoAll b gs m f t) (ap ended x.5 ∙ ended_both x.0 x.2) y in
    (x.0, x.1, x.2 ++ f, x.3, do_both (ended x.0) fs gs x.1 x.2 f m t x.4 rest, ap (λ (l : List ClientEvent). l ++ f) x.5 ∙ append_assoc x.0 x.2 f)

module _ (once : frames.IsReadOnce) where
  frames_cut : (s : Talk) (a b : List ℕ) (e f : List ClientEvent) (t u : Talk) → ReadsFrames s a e t → ReadsFrames t b f u → ReadsFrames s (a ++ b) (e ++ f) u
  frames_cut s a b e f t u x y =
      let mid : Talk = record { came = s.came ++ a; told = s.told ++ e; session = x.after } in
      let z : ReadsFrames mid b f u = subst (λ (m : Talk). ReadsFrames m b f u) x.state_is y in
      let seam : z.earlier ≡ x.earlier ++ x.frames = once (s.came ++ a) z.earlier (x.earlier ++ x.frames) z.were x.are in
      let bytes : (s.came ++ a) ++ b ≡ s.came ++ (a ++ b) = append_assoc s.came a b in
      let all : z.earlier ++ z.frames ≡ x.earlier ++ (x.frames ++ z.frames) =
      ap (λ (fs : List Frame). fs ++ z.frames) seam ∙ append_assoc x.earlier x.frames z.frames in
      let told : (s.told ++ e) ++ f ≡ s.told ++ (e ++ f) = append_assoc s.told e f in
      record {
        earlier = x.earlier;
        frames = x.frames ++ z.frames;
        were = x.were;
        are =
            subst (λ (fs : List Frame). FramesOf (s.came ++ (a ++ b)) fs) all
            (subst (λ (l : List ℕ). FramesOf l (z.earlier ++ z.frames)) bytes z.are);
        after = z.after;
        did = do_both (is_over s) x.frames z.frames s.session e f x.after z.after x.did
            (subst (λ (k : Bool). DoAll k z.frames x.after f z.after) (ended_both s.told e) z.did);
        state_is =
            z.state_is ∙ ap (λ (l : List ℕ). record { came = l; told = (s.told ++ e) ++ f; session = z.after }) bytes
            ∙ ap (λ (l : List ClientEvent). record { came = s.came ++ (a ++ b); told = l; session = z.after }) told;
      }

  pub cut : ReadsInPieces
  cut (Http1 s) a b e f t u x y =
      let mid : Exchange = exchange_fed s a e in
      let z = subst (λ (m : State). Reads m b f u) x.1 y in
      let bytes : (s.came ++ a) ++ b ≡ s.came ++ (a ++ b) = append_assoc s.came a b in
      let told : (s.told ++ e) ++ f ≡ s.told ++ (e ++ f) = append_assoc s.told e f in (
        subst (λ (l : List ClientEvent). Brings (s.came ++ (a ++ b)) l) told (subst (λ (l : List ℕ). Brings l ((s.told ++ e) ++ f)) bytes z.0),
        z.1 ∙ ap (λ (l : List ℕ). Http1 (record s { came = l; told = (s.told ++ e) ++ f })) bytes
            ∙ ap (λ (l : List ClientEvent). Http1 (record s { came = s.came ++ (a ++ b); told = l })) told,
      )
  cut (Http2 s) a b e f t u x y =
      let z = subst (λ (m : State). Reads m b f u) x.2 y in
      (z.0, frames_cut s a b e f x.0 z.0 x.1 z.1, z.2)
