-- A print that changes no count.
use Rattle.std.proofs.Common.{◌≡◌, [], ◌∷◌, sym, append-nil, false}
use Rattle.mq_play.specs.Text.{Print, printed}
use Rattle.mq_top.specs.Tallies.{Counts, Counted, is_starved, with_print}

pub counted_print : (c d : Counts) (p : Print) → is_starved p ≡ false → d ≡ with_print p c → Counted c d (printed p)
counted_print c d p fine is = record { prints = p ∷ []; text_is = sym (append-nil (printed p)); none = (fine, tt); is = is }
