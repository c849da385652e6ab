use Rattle.std.proofs.Common.{◌≡◌, List, ℕ, length, take, append-nil, subst}
use Rattle.std.specs.Prelude.{MatchResult}
use Rattle.mq_h2.specs.Acts.{data_room, sends, where_live}
use Rattle.mq_h2.specs.Stand.{IsH2}
use Rattle.mq_h2.proofs.h2.H2.send_data.Goals as goal

pub returns : goal.returns
returns c = λ s is.
    let P : List ℕ → Type 0 = λ xs.
    MatchResult c.send_parts.result (λ count. (count ≡ data_room c.args.stream (length xs) s) × IsH2 c.send_parts.new.self (where_live c.args.stream (sends c.args.stream (take count xs)) s)) (λ _. IsH2 c.send_parts.new.self s) in
    subst P (append-nil c.args.bytes.now) (c.send_parts.ensures s is)
