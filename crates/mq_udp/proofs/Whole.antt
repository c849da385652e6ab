-- What a client does as a whole.
use Rattle.std.proofs.Common.{◌≡◌, ℕ, true, List, [], ◌++◌, Option, Err, ap, subst, ◌∙◌, arith}
use Rattle.std.proofs.lemmas.List.{take_all}
use Rattle.mq_outside.specs.Counts.{LinkCounts}
use Rattle.mq_outside.specs.Links.{LinkPast}
use Rattle.mq_outside.specs.Outside.{Rose}
use Rattle.mq_outside.specs.Outsides.{IsSame, OutsideFaults, OutsideHolds, OutsidePast, after_back, past_back}
use Rattle.mq_udp.specs.declared.outcome.Outcome.{Outcome}
use Rattle.mq_udp.specs.declared.outcome.Outcome.TheVariants as outcome
use Rattle.mq_udp.specs.Exchanges.{EndCounts}
use Rattle.mq_udp.specs.Inputs.{IsAtEnd}
use Rattle.mq_udp.specs.Input.{IsInput}
use Rattle.mq_udp.specs.Talks.{Asking, Ends, lines_text, shown_of}
use Rattle.mq_udp.specs.Udp.{IsTalked, OutcomeCounts, SourceCounts, seen_of}

-- ---- a talk

-- it doesn't end by a fault of the source
pub talk_source : (ask : Asking) (link : LinkPast) (faults : ℕ) (out : List ℕ) (before after : ℕ) (answer : Outcome) → Ends ask link faults out answer → after ≡ before → SourceCounts before after answer
talk_source ask link faults out before after outcome.ReadFault ends e = absurd ends.shows
talk_source ask link faults out before after outcome.Done ends e = e
talk_source ask link faults out before after outcome.WriteFault ends e = e
talk_source ask link faults out before after outcome.BadInput ends e = e
talk_source ask link faults out before after outcome.OutsideFault ends e = e
talk_source ask link faults out before after outcome.NoMemory ends e = e
talk_source ask link faults out before after outcome.Early ends e = e
talk_source ask link faults out before after outcome.Refused ends e = e
talk_source ask link faults out before after outcome.BadPeer ends e = e

-- nothing was shown yet
pub ends_from_none : (ask : Asking) (link : LinkPast) (faults : ℕ) (out : List ℕ) (answer : Outcome) → Ends ask link faults (shown_of ask [] ++ out) answer → Ends ask link faults out answer
ends_from_none ask link faults out answer ends =
    let P : List ℕ → Type 0 = λ all. Ends ask link faults all answer in
    let none : shown_of ask [] ≡ [] = ap (λ (ps : List (List ℕ)). lines_text ps) (take_all ask.count [] (omega arith)) in
    subst P (ap (λ (xs : List ℕ). xs ++ out) none) ends

-- the link was handed back
pub is_talked : (ask : Asking) (text : List ℕ) (left : Option (List ℕ)) (out : List ℕ) (answer : Outcome) (past dialled talked after : Option OutsidePast) (faults faults_dialled faults_talked faults_after : OutsideFaults)
    (payloads : List (List ℕ)) (link rest : LinkPast) (counts rest_counts : LinkCounts) → IsAtEnd left → IsInput text payloads → Ends (record ask { payloads = payloads }) link counts.faults out answer
    → dialled ≡ past → talked ≡ dialled → rest ≡ link → rest_counts ≡ counts → after ≡ past_back talked (record { dialled = true; number = 0; past = rest; counts = rest_counts })
    → faults_dialled ≡ faults → faults_talked ≡ faults_dialled → faults_after ≡ after_back faults_talked rest_counts
    → IsTalked ask text left out answer (seen_of past faults) (seen_of after faults_after)
is_talked ask text left out answer past dialled talked after faults faults_dialled faults_talked faults_after payloads link rest counts rest_counts ended input ends d t r n back fd ft fb = record {
  payloads = payloads;
  ended = ended;
  input = input;
  link = link;
  counts = counts;
  ends = ends;
  past =
      back
      ∙ ap (λ (p : Option OutsidePast). past_back p (record { dialled = true; number = 0; past = rest; counts = rest_counts })) (t ∙ d)
      ∙ ap (λ (l : LinkPast). past_back past (record { dialled = true; number = 0; past = l; counts = rest_counts })) r
      ∙ ap (λ (c : LinkCounts). past_back past (record { dialled = true; number = 0; past = link; counts = c })) n;
  faults = fb ∙ ap (λ (f : OutsideFaults). after_back f rest_counts) (ft ∙ fd) ∙ ap (λ (c : LinkCounts). after_back faults c) n;
}

-- ---- counts and the outside, one call behind the other

pub same_more : (h1 h2 h3 : OutsideHolds) (p1 p2 p3 : Option OutsidePast) (f1 f2 f3 : OutsideFaults) → IsSame h1 h2 p1 p2 f1 f2 → IsSame h2 h3 p2 p3 f2 f3 → IsSame h1 h3 p1 p3 f1 f3
same_more h1 h2 h3 p1 p2 p3 f1 f2 f3 a b = record { holds_are = b.holds_are ∙ a.holds_are; past_is = b.past_is ∙ a.past_is; faults_are = b.faults_are ∙ a.faults_are }

pub end_counts : (A : Type 0) (first before after : ℕ) (why : Outcome) → before ≡ first → EndCounts {A = A} before after (Err why) → OutcomeCounts first after why
end_counts A first before after outcome.WriteFault e h = let P : ℕ → Type 0 = λ n. Rose n after in subst P e h
end_counts A first before after outcome.Done e h = h ∙ e
end_counts A first before after outcome.ReadFault e h = h ∙ e
end_counts A first before after outcome.BadInput e h = h ∙ e
end_counts A first before after outcome.OutsideFault e h = h ∙ e
end_counts A first before after outcome.NoMemory e h = h ∙ e
end_counts A first before after outcome.Early e h = h ∙ e
end_counts A first before after outcome.Refused e h = h ∙ e
end_counts A first before after outcome.BadPeer e h = h ∙ e
