-- A client over HTTP/2, and the bytes that wait.
use Rattle.std.proofs.Common.{◌≡◌, ℕ, List, ◌++◌, ap, ◌∙◌}
use Rattle.mq_client.specs.declared.http2.Http2.{Http2}
use Rattle.mq_client.specs.declared.http2.Phase.{Phase}
use Rattle.mq_client.specs.declared.http2.Phase.TheVariants.{Reading, Over, Spent}
use Rattle.mq_client.specs.declared.parts.Parts.{Parts}
use Rattle.mq_client.specs.Sending.{waits_more}
use Rattle.mq_client.specs.Session.{Session}
use Rattle.mq_client.specs.Talk.{Talk}
use Rattle.mq_client.specs.Talking.{Serves, Goes, IsPhase}

serves_waits : (c : Parts) (s : Session) → Serves c s → (waits more : List ℕ) → waits ≡ c.waits ++ more → Serves (record c { waits = waits }) (waits_more more s)
serves_waits c s is waits more e = record {
  streams = is.streams;
  live = is.live;
  waits_are = e ∙ ap (λ (l : List ℕ). l ++ more) is.waits_are;
  owed_is = is.owed_is;
  within = is.within;
}

goes_waits : (c : Parts) (s : Session) → Goes c s → (waits more : List ℕ) → waits ≡ c.waits ++ more → Goes (record c { waits = waits }) (waits_more more s)
goes_waits c s is waits more e = record {
  decodes = record { serves = serves_waits c s is.decodes.serves waits more e; decoder = is.decodes.decoder; stage_is = is.decodes.stage_is };
  block = is.block;
}

-- more bytes wait
pub phase_waits : (p : Phase) (two : Http2) (s : Talk) → IsPhase p two s → (waits more : List ℕ) → waits ≡ two.parts.waits ++ more
    → IsPhase p (record two { parts = record two.parts { waits = waits } }) (record s { session = waits_more more s.session })
phase_waits Reading two s is waits more e = (is.0, goes_waits two.parts s.session is.1 waits more e, is.2)
phase_waits Over two s is waits more e = (serves_waits two.parts s.session is.0 waits more e, is.1)
phase_waits Spent two s is waits more e = absurd is
