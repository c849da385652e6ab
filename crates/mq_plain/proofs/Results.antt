-- What holds where a call succeeded, or where it was refused.
use Rattle.std.proofs.Common.{◌≡◌, Result, Ok, Err, subst, sym}
use Rattle.std.specs.Prelude.{OnOk, OnErr}

pub ok_then : {T E P : Type 0} (r : Result T E) (x : T) → r ≡ Ok x → P → OnOk r P
ok_then {T} {E} {P} r x is p = subst (λ (q : Result T E). OnOk q P) (sym is) p

pub ok_never : {T E : Type 0} (P : Type 0) (r : Result T E) (e : E) → r ≡ Err e → OnOk r P
ok_never {T} {E} P r e is = subst (λ (q : Result T E). OnOk q P) (sym is) tt

pub err_then : {T E P : Type 0} (r : Result T E) (e : E) → r ≡ Err e → P → OnErr r P
err_then {T} {E} {P} r e is p = subst (λ (q : Result T E). OnErr q P) (sym is) p

pub err_never : {T E : Type 0} (P : Type 0) (r : Result T E) (x : T) → r ≡ Ok x → OnErr r P
err_never {T} {E} P r x is = subst (λ (q : Result T E). OnErr q P) (sym is) tt

-- from one to another
pub ok_to : {T E P Q : Type 0} (r : Result T E) → (P → Q) → OnOk r P → OnOk r Q
ok_to (Ok x) f p = f p
ok_to (Err e) f p = tt

pub err_to : {T E P Q : Type 0} (r : Result T E) → (P → Q) → OnErr r P → OnErr r Q
err_to (Ok x) f p = tt
err_to (Err e) f p = f p
