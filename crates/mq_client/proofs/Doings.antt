-- Frames, one after another.
use Rattle.std.proofs.Common.{◌≡◌, Bool, true, false, ◌||◌, List, [], ◌∷◌, ◌++◌, refl, sym, ap, subst, ◌∙◌, append-nil, append_assoc, inl, inr}
use Rattle.std.proofs.lemmas.Bool.{cases_Bool}
use Rattle.mq_frame.specs.declared.frame.Frame.{Frame}
use Rattle.mq_client.specs.declared.event.ClientEvent.{ClientEvent}
use Rattle.mq_client.specs.declared.parts.Parts.{Parts}
use Rattle.mq_client.specs.Session.{Session, ended}
use Rattle.mq_client.specs.Frames.{Does, DoAll}
use Rattle.mq_client.specs.Talking.{Goes, Gave}
use Rattle.mq_client.proofs.Told.{ended_both}

neither : (a b : Bool) → (a || b) ≡ false → (a ≡ false) × (b ≡ false)
neither true b e = absurd cc
neither false b e = (refl, e)

other : (a b : Bool) → (a || b) ≡ true → a ≡ false → b ≡ true
other true b e none = absurd cc
other false b e none = e

-- one more frame
pub do_more : (fs : List Frame) (s : Session) (told : List ClientEvent) (t : Session) (f : Frame) (more : List ClientEvent) (u : Session)
    → DoAll false fs s told t → ended told ≡ false → Does f t more u → DoAll false (fs ++ f ∷ []) s (told ++ more) u
do_more [] s told t f more u all none does = (
  more,
  u,
  [],
  subst (λ (x : Session). Does f x more u) all.1 does,
  (refl, refl),
  ap (λ (x : List ClientEvent). x ++ more) all.0 ∙ sym (append-nil more),
)
do_more (g ∷ gs) s told t f more u all none does =
    let first = all.0 in
    let later = all.2 in
    let both = neither (ended first) (ended later) (sym (ended_both first later) ∙ ap ended (sym all.5) ∙ none) in
    let rest = subst (λ (b : Bool). DoAll b gs all.1 later t) both.0 all.4 in (
      first,
      all.1,
      later ++ more,
      all.3,
      subst (λ (b : Bool). DoAll b (gs ++ f ∷ []) all.1 (later ++ more) u) (sym both.0) (do_more gs all.1 later t f more u rest both.1 does),
      ap (λ (x : List ClientEvent). x ++ more) all.5 ∙ append_assoc first later more,
    )

-- behind the last event nothing is done
pub do_none : (fs : List Frame) (s : Session) → DoAll true fs s [] s
do_none [] s = (refl, refl)
do_none (f ∷ fs) s = (refl, refl)

over_rest : (fs rest : List Frame) (s : Session) (told : List ClientEvent) (t : Session) → DoAll true fs s told t → DoAll true (fs ++ rest) s told t
over_rest [] [] s told t all = all
over_rest [] (f ∷ rest) s told t all = all
over_rest (g ∷ gs) rest s told t all = all

pub do_rest : (fs rest : List Frame) (s : Session) (told : List ClientEvent) (t : Session) → DoAll false fs s told t → ended told ≡ true → DoAll false (fs ++ rest) s told t
do_rest [] rest s told t all over = absurd (let e : ended told ≡ false = ap ended all.0 in cc)
do_rest (g ∷ gs) rest s told t all over =
    let first = all.0 in
    let later = all.2 in
    let both = sym (ended_both first later) ∙ ap ended (sym all.5) ∙ over in
    let goes : DoAll (ended first) (gs ++ rest) all.1 later t = elim (cases_Bool (ended first)) [
      | inl last ↦ subst (λ (b : Bool). DoAll b (gs ++ rest) all.1 later t) (sym last)
          (over_rest gs rest all.1 later t (subst (λ (b : Bool). DoAll b gs all.1 later t) last all.4))
      | inr on ↦ subst (λ (b : Bool). DoAll b (gs ++ rest) all.1 later t) (sym on)
          (do_rest gs rest all.1 later t (subst (λ (b : Bool). DoAll b gs all.1 later t) on all.4) (other (ended first) (ended later) both on))
    ] in
    (first, all.1, later, all.3, goes, all.5)

-- one more frame, with its events
pub gave_more : (fs : List Frame) (f : Frame) (s : Session) (before mid after : List ClientEvent) (over : Bool) (c d : Parts) (gave : Gave (DoAll false fs s) before mid false c)
    → Gave (Does f gave.state) mid after over d → Gave (DoAll false (fs ++ f ∷ []) s) before after over d
gave_more fs f s before mid after over c d gave more = record {
  given = gave.given ++ more.given;
  state = more.state;
  so = do_more fs s gave.given gave.state f more.given more.state gave.so (sym gave.over_is) more.so;
  added = more.added ∙ ap (λ (x : List ClientEvent). x ++ more.given) gave.added ∙ append_assoc before gave.given more.given;
  over_is = more.over_is ∙ ap (λ (b : Bool). b || ended more.given) gave.over_is ∙ sym (ended_both gave.given more.given);
  leads = more.leads;
}

-- the others do nothing
pub gave_rest : (fs rest : List Frame) (s : Session) (before after : List ClientEvent) (d : Parts) → Gave (DoAll false fs s) before after true d
    → Gave (DoAll false (fs ++ rest) s) before after true d
gave_rest fs rest s before after d gave = record {
  given = gave.given;
  state = gave.state;
  so = do_rest fs rest s gave.given gave.state gave.so (sym gave.over_is);
  added = gave.added;
  over_is = gave.over_is;
  leads = gave.leads;
}

-- no frame was done
pub gave_none : (s : Session) (before : List ClientEvent) (c : Parts) → Goes c s → Gave (DoAll false [] s) before before false c
gave_none s before c goes = record { given = []; state = s; so = (refl, refl); added = sym (append-nil before); over_is = refl; leads = goes }
