use Rattle.std.proofs.Common.{ℕ, List, [], ◌∷◌, ◌++◌, refl, ap, subst, ◌∙◌, arith}
use Rattle.mq_streams.specs.History.{Opened}
use Rattle.mq_streams.specs.Answers.{after_begin}
use Rattle.mq_streams.specs.Stand.{StandFor}
use Rattle.mq_streams.specs.declared.answers.Began.{Began}
use Rattle.mq_client.specs.Asking.{preface}
use Rattle.mq_client.proofs.http2.Http2.new.Goals as goal

pub returns : goal.returns
returns c =
    let opened = c.begin.ensures [] c.in_ok-streams.ensures in
    let stand : StandFor c.begin.new.self (Opened 1 ∷ []) =
    subst (λ (k : Began). StandFor c.begin.new.self (after_begin k 1 [])) opened.0 opened.1 in (
      c.new-2.ensures,
      record {
        decodes = record {
          serves = record {
            streams = stand;
            live = refl;
            waits_are = c.of.ensures ∙ c.new-4.ensures.items;
            owed_is = c.of-2.ensures ∙ c.in_ok-write_preface.ensures ∙ ap (λ (l : List ℕ). l ++ preface) c.new-owed.ensures.items;
            within = omega arith;
          };
          decoder = c.new-3.ensures;
          stage_is = c.in_ok-request.ensures;
        };
        block = refl;
      },
      refl,
    )
