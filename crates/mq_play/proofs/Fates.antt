-- How steps went, in two plays.
use Rattle.std.proofs.Common.{List, [], ◌∷◌, refl}
use Rattle.mq_play.specs.Play.{Fate, Noted, Silent}
use Rattle.mq_play.specs.Laws.{Alike, AllAlike, NoneSilent, AllNoted}

pub alike_noted : (f g : List Fate) → NoneSilent f → NoneSilent g → Alike f g
alike_noted [] g x y = tt
alike_noted (z ∷ f) [] x y = tt
alike_noted (Noted ∷ f) (Noted ∷ g) x y = (refl, alike_noted f g x y)
alike_noted (Noted ∷ f) (Silent reached ∷ g) x y = absurd y
alike_noted (Silent reached ∷ f) (z ∷ g) x y = absurd x

pub all_noted : (f g : List (List Fate)) → AllNoted f → AllNoted g → AllAlike f g
all_noted [] g x y = tt
all_noted (z ∷ f) [] x y = tt
all_noted (z ∷ f) (w ∷ g) x y = (alike_noted z w x.0 y.0, all_noted f g x.1 y.1)
