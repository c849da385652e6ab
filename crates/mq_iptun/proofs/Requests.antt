-- A request that was read is one that the book takes.
use Rattle.std.proofs.Common.{◌≡◌, ◌≢◌, ℕ, ◌≤◌, List, [], ◌∷◌, Some, Result, Ok, Err, arith}
use Rattle.std.specs.List.{All}
use Rattle.std.proofs.lemmas.List.Elements.{All-nil, All-cons, All-head, All-tail}
use Rattle.mq_addr.specs.declared.entry.Asked.{Asked}
use Rattle.mq_ipcaps.specs.declared.fault.CapsFault.{CapsFault}
use Rattle.mq_ipcaps.specs.Laws.{FitsEntry, IsReadRequest}
use Rattle.mq_talk.specs.Answers.{IsAsked}
use Rattle.mq_machine.specs.Words.{unless_faulty}
use Rattle.mq_iptun.specs.Acts.{MayAssign}

not_zero : (n : ℕ) → n ≢ 0 → 1 ≤ n
not_zero n is = omega (arith, is)

each_asked : (list : List Asked) → All (λ e. e.id ≢ 0) list → All (λ e. FitsEntry e.id e.block) list → All IsAsked list
each_asked [] ids fits = All-nil IsAsked
each_asked (e ∷ es) ids fits =
    let fit = All-head (λ (x : Asked). FitsEntry x.id x.block) e es fits in
    All-cons IsAsked e es
    (record { not_zero = not_zero e.id (All-head (λ (x : Asked). x.id ≢ 0) e es ids); fits = fit.small; prefix = fit.prefix })
    (each_asked es (All-tail (λ (x : Asked). x.id ≢ 0) e es ids) (All-tail (λ (x : Asked). FitsEntry x.id x.block) e es fits))

pub may_assign : (value : List ℕ) (list : List Asked) → IsReadRequest value list → MayAssign list
may_assign value list is = record { some = is.request.some; few = is.request.few; each = each_asked list is.request.ids is.fits }

pub read_is : (read : Result (List Asked) CapsFault) (list : List Asked) → unless_faulty read ≡ Some list → read ≡ Ok list
read_is (Ok value) list e = cc
read_is (Err fault) list e = cc
