-- What an adapter over a reader or a writer tells: what that one tells, if it was made to.
use Rattle.std.specs.Prelude.{ℕ, Bool, true, false, List, [], Option, None, Some}
use Rattle.std.specs.Option.{unwrap_or}

abbrev pub told : Bool → Option (List ℕ) → Option (List ℕ)
told false known = None
told true known = Some (unwrap_or known [])
