-- A datagram was received.
use Rattle.std.proofs.Common.{◌≡◌, ℕ, List, [], ◌∷◌, ◌++◌, take, length, Option, Some, None, refl, sym, ap, subst, ◌∙◌}
use Rattle.std.proofs.Math.Seq.{take-append_seam}
use Rattle.mq_outside.specs.Counts.{PortCounts}
use Rattle.mq_outside.specs.Ports.{PortHolds, PortPast, PortReceives, empty_port, with_last, past_received}
use Rattle.mq_outside.specs.declared.PortGot.TheVariants as got
use Rattle.mq_talk.specs.Mails.{IsTold}
use Rattle.mq_held.specs.Ports.{TakesDatagram}

-- a buffer of its own length was written whole
pub pasted : (n : ℕ) (xs ys : List ℕ) → length xs ≡ n → take n (xs ++ ys) ≡ xs
pasted n xs ys is = ap (λ (m : ℕ). take m (xs ++ ys)) (sym is) ∙ take-append_seam xs ys

pub takes_datagram : (holds after : Option PortHolds) (past past_after : PortPast) (counts counts_after : PortCounts) (buffer packet : List ℕ) (count : ℕ) → PortReceives holds after buffer (got.Datagram count)
    → past_after ≡ past_received past buffer (got.Datagram count) → counts_after ≡ counts → packet ≡ take count buffer → TakesDatagram (record { holds = holds; after = after; past = past; past_after = past_after; counts = counts; counts_after = counts_after }) packet
takes_datagram None after past past_after counts counts_after buffer packet count receives gave same is = record {
  holds = record empty_port { arrived = packet ∷ [] };
  others = [];
  told = tt;
  works = refl;
  arrived = refl;
  tells = let P : Option PortHolds → Type 0 = λ o. IsTold o (record empty_port { arrived = [] }) in subst P (sym receives) tt;
  untold = λ none. receives;
  past = gave ∙ ap {B = PortPast} (λ (datagram : List ℕ). record past { gave = with_last past.gave datagram }) (sym is);
  counts = same;
}
takes_datagram (Some h) after past past_after counts counts_after buffer packet count receives gave same is = record {
  holds = h;
  others = receives.others;
  told = refl;
  works = receives.works;
  arrived = receives.arrived_are ∙ ap (λ (first : List ℕ). first ∷ receives.others) (sym is);
  tells = let P : Option PortHolds → Type 0 = λ o. IsTold o (record h { arrived = receives.others }) in subst P (sym receives.after_is) refl;
  untold = λ none. absurd cc;
  past = gave ∙ ap {B = PortPast} (λ (datagram : List ℕ). record past { gave = with_last past.gave datagram }) (sym is);
  counts = same;
}
