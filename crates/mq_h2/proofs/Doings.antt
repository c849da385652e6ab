-- Frames, one after another.
use Rattle.std.proofs.Common.{◌≡◌, true, false, List, [], ◌∷◌, ◌++◌, refl, sym, ap, subst, ◌∙◌, append-nil, append_assoc, inl, inr, Err}
use Rattle.mq_frame.specs.declared.frame.Frame.{Frame}
use Rattle.mq_h2.specs.declared.event.StreamEvent.{StreamEvent}
use Rattle.mq_h2.specs.State.{State}
use Rattle.mq_h2.specs.Frames.{Does, DoAll, breaks}
use Rattle.mq_h2.specs.Doing.{Gave, ComesBy}
use Rattle.mq_h2.specs.declared.event.StreamEvent.TheVariants.{ConnectionError}
use Rattle.mq_h2.specs.declared.parts.Core.{Core}
use Rattle.mq_h2.specs.declared.stop.Stop.{Stop}
use Rattle.mq_h2.specs.declared.stop.Stop.TheVariants.{Connection, NoMemory}

-- one more frame
pub do_more : (fs : List Frame) (s : State) (told : List StreamEvent) (t : State) (f : Frame) (more : List StreamEvent) (u : State)
    → DoAll fs s told t → t.ended ≡ false → Does f t more u → DoAll (fs ++ f ∷ []) s (told ++ more) u
do_more [] s told t f more u all on does =
    let P : State → Type 0 = λ x. Does f x more u in
    inr (
      ap (λ (x : State). x.ended) (sym all.1) ∙ on,
      more,
      u,
      [],
      subst P all.1 does,
      (refl, refl),
      ap (λ (x : List StreamEvent). x ++ more) all.0 ∙ sym (append-nil more),
    )
do_more (g ∷ gs) s told t f more u all on does =
    elim all [
      | inl x ↦ absurd (let e : s.ended ≡ false = ap (λ (x : State). x.ended) (sym x.2) ∙ on in let d = x.0 in cc)
      | inr x ↦ inr (
        x.0,
        x.1,
        x.2,
        x.3 ++ more,
        x.4,
        do_more gs x.2 x.3 t f more u x.5 on does,
        ap (λ (y : List StreamEvent). y ++ more) x.6 ∙ append_assoc x.1 x.3 more,
      )
    ]

-- behind an error of the connection nothing is done
pub do_rest : (fs rest : List Frame) (s : State) (told : List StreamEvent) (t : State) → DoAll fs s told t → t.ended ≡ true → DoAll (fs ++ rest) s told t
do_rest [] [] s told t all over = all
do_rest [] (f ∷ rest) s told t all over = inl (ap (λ (x : State). x.ended) (sym all.1) ∙ over, all.0, all.1)
do_rest (g ∷ gs) rest s told t all over =
    elim all [
      | inl x ↦ inl x
      | inr x ↦ inr (x.0, x.1, x.2, x.3, x.4, do_rest gs rest x.2 x.3 t x.5 over, x.6)
    ]

-- one more frame, with its events
pub gave_more : (fs : List Frame) (f : Frame) (s : State) (before mid after : List StreamEvent) (c d : Core) (gave : Gave (DoAll fs s) before mid c)
    → Gave (Does f gave.state) mid after d → Gave (DoAll (fs ++ f ∷ []) s) before after d
gave_more fs f s before mid after c d gave more = record {
  given = gave.given ++ more.given;
  state = more.state;
  so = do_more fs s gave.given gave.state f more.given more.state gave.so gave.goes.decodes.on more.so;
  added = more.added ∙ ap (λ (x : List StreamEvent). x ++ more.given) gave.added ∙ append_assoc before gave.given more.given;
  goes = more.goes;
}

-- one more frame, that stops the reading
pub stop_at : (fs rest : List Frame) (f : Frame) (s : State) (before mid after : List StreamEvent) (c d : Core) (gave : Gave (DoAll fs s) before mid c) (stop : Stop)
    → ComesBy (Does f gave.state) mid (Err stop) after d → ComesBy (DoAll ((fs ++ f ∷ []) ++ rest) s) before (Err stop) after d
stop_at fs rest f s before mid after c d gave (Connection code) broke =
    let u : State = (breaks code broke.mid).after in
    let last : List StreamEvent = ConnectionError code ∷ [] in
    let all : DoAll ((fs ++ f ∷ []) ++ rest) s (gave.given ++ (broke.given ++ last)) u =
    do_rest (fs ++ f ∷ []) rest s _ u (do_more fs s gave.given gave.state f (broke.given ++ last) u gave.so gave.goes.decodes.on broke.so) refl in
    record {
      given = gave.given ++ broke.given;
      mid = broke.mid;
      so = subst (λ (x : List StreamEvent). DoAll ((fs ++ f ∷ []) ++ rest) s x u) (sym (append_assoc gave.given broke.given last)) all;
      added = broke.added ∙ ap (λ (x : List StreamEvent). x ++ broke.given) gave.added ∙ append_assoc before gave.given broke.given;
      serves = broke.serves;
    }
stop_at fs rest f s before mid after c d gave NoMemory broke = tt
