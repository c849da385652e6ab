-- Payloads of events are printed.
use Rattle.std.proofs.Common.{◌≡◌, ℕ, ◌+◌, ◌-◌, ◌<◌, List, [], ◌∷◌, ◌++◌, length, take, Option, Some, None, Result, Ok, Err, refl, sym, ap, subst, ◌∙◌, arith, append_assoc, append-nil, inl, inr}
use Rattle.std.proofs.lemmas.List.{length-append, take_all}
use Rattle.std.proofs.lemmas.List.Elements.{Contains-append_left, Contains-append_right}
use Rattle.mq_client.specs.declared.event.ClientEvent.{ClientEvent}
use Rattle.mq_client.specs.declared.event.ClientEvent.TheVariants as event
use Rattle.mq_output.specs.declared.stop.Stop.{Stop}
use Rattle.mq_output.specs.declared.stop.Stop.TheVariants as stop
use Rattle.mq_output.specs.Printing.{Spills}
use Rattle.mq_play.specs.Text.{bytes_text, newline}
use Rattle.mq_udp.proofs.Going.{payloads_both}
use Rattle.mq_udp.proofs.Lists.{take_both, lines_both}
use Rattle.mq_udp.specs.declared.outcome.Outcome.{Outcome}
use Rattle.mq_udp.specs.declared.outcome.Outcome.TheVariants as outcome
use Rattle.mq_udp.specs.Exchanges.{HearsAll, HearsOne, HearsTo, PrintsOne, SaysEnd, SaysMore}
use Rattle.mq_udp.specs.Moves.{payloads_of}
use Rattle.mq_udp.specs.Talks.{lines_text}

-- ---- one payload

one_line : (payload : List ℕ) (left : ℕ) → 0 < left → bytes_text payload ++ newline ∷ [] ≡ lines_text (take left (payload ∷ []))
one_line payload left some =
    sym (append-nil (bytes_text payload ++ newline ∷ [])) ∙ ap (λ (ps : List (List ℕ)). lines_text ps) (sym (take_all left (payload ∷ []) (omega (arith, some))))

pub print_one : (payload : List ℕ) (left : ℕ) (answer : Result (Unit {0}) Stop) → Spills answer → 0 < left → PrintsOne payload left (bytes_text payload ++ newline ∷ []) answer (left - 1)
print_one payload left (Ok done) s some = (one_line payload left some, refl)
print_one payload left (Err stop.WriteFault) s some = ([], sym (append-nil (bytes_text payload ++ newline ∷ []) ∙ one_line payload left some))
print_one payload left (Err stop.BadLine) s some = absurd s
print_one payload left (Err stop.NoMemory) s some = absurd s

-- ---- events

-- one event more
both_lines : (left now : ℕ) (before : List ClientEvent) (e : ClientEvent) (shown s : List ℕ) → shown ≡ lines_text (take left (payloads_of before)) → now ≡ left - length (payloads_of before)
    → s ≡ lines_text (take now (payloads_of (e ∷ []))) → shown ++ s ≡ lines_text (take left (payloads_of (before ++ e ∷ [])))
both_lines left now before e shown s is at next =
    let here = payloads_of before in
    let later = payloads_of (e ∷ []) in
    ap (λ (xs : List ℕ). xs ++ s) is
    ∙ ap (λ (xs : List ℕ). lines_text (take left here) ++ xs) (next ∙ ap (λ (n : ℕ). lines_text (take n later)) at)
    ∙ sym (lines_both (take left here) (take (left - length here) later))
    ∙ ap (λ (ps : List (List ℕ)). lines_text ps) (sym (take_both left here later) ∙ ap (λ (ps : List (List ℕ)). take left ps) (sym (payloads_both before (e ∷ []))))

says_before : (before : List ClientEvent) (e : ClientEvent) (end : Option Outcome) → SaysEnd before end → SaysEnd (before ++ e ∷ []) end
says_before before e None h = tt
says_before before e (Some outcome.Refused) h = (h.0, Contains-append_left before (e ∷ []) (event.Refused h.0) h.1)
says_before before e (Some outcome.BadPeer) h = (h.0, Contains-append_left before (e ∷ []) (event.BadPeer h.0) h.1)
says_before before e (Some outcome.Early) h = Contains-append_left before (e ∷ []) event.Closed h
says_before before e (Some outcome.Done) h = absurd h
says_before before e (Some outcome.ReadFault) h = absurd h
says_before before e (Some outcome.WriteFault) h = absurd h
says_before before e (Some outcome.BadInput) h = absurd h
says_before before e (Some outcome.OutsideFault) h = absurd h
says_before before e (Some outcome.NoMemory) h = absurd h

pub says_behind : (before later : List ClientEvent) (end : Option Outcome) → SaysEnd later end → SaysEnd (before ++ later) end
says_behind before later None h = tt
says_behind before later (Some outcome.Refused) h = (h.0, Contains-append_right before later (event.Refused h.0) h.1)
says_behind before later (Some outcome.BadPeer) h = (h.0, Contains-append_right before later (event.BadPeer h.0) h.1)
says_behind before later (Some outcome.Early) h = Contains-append_right before later event.Closed h
says_behind before later (Some outcome.Done) h = absurd h
says_behind before later (Some outcome.ReadFault) h = absurd h
says_behind before later (Some outcome.WriteFault) h = absurd h
says_behind before later (Some outcome.BadInput) h = absurd h
says_behind before later (Some outcome.OutsideFault) h = absurd h
says_behind before later (Some outcome.NoMemory) h = absurd h

says_more : (before : List ClientEvent) (e : ClientEvent) (was end : Option Outcome) → SaysEnd before was → SaysMore e was end → SaysEnd (before ++ e ∷ []) end
says_more before e was end h (inl same) =
    let P : Option Outcome → Type 0 = λ o. SaysEnd (before ++ e ∷ []) o in
    subst P (sym same) (says_before before e was h)
says_more before e was end h (inr new) = says_behind before (e ∷ []) end new

pub hears_more : (before : List ClientEvent) (e : ClientEvent) (left mid now : ℕ) (shown s : List ℕ) (was end : Option Outcome) → HearsTo before left shown was mid → HearsOne e mid s was (Ok tt) now end
    → HearsTo (before ++ e ∷ []) left (shown ++ s) end now
hears_more before e left mid now shown s was end first next =
    let later = payloads_of (e ∷ []) in
    let size : length (payloads_of (before ++ e ∷ [])) ≡ length (payloads_of before) + length later =
    ap (λ (ps : List (List ℕ)). length ps) (payloads_both before (e ∷ [])) ∙ length-append (payloads_of before) later in
    (both_lines left mid before e shown s first.0 first.1 next.0, omega (arith, size, first.1, next.1), says_more before e was end first.2 next.2)

-- what a fault cut off is a front of what all events show
hears_front : (events before : List ClientEvent) (e : ClientEvent) (rest : List ClientEvent) (left mid : ℕ) (shown s : List ℕ) (was : Option Outcome) → events ≡ before ++ e ∷ rest
    → HearsTo before left shown was mid → (more : List ℕ) × (lines_text (take mid (payloads_of (e ∷ []))) ≡ s ++ more)
    → (more : List ℕ) × (lines_text (take left (payloads_of events)) ≡ (shown ++ s) ++ more)
hears_front events before e rest left mid shown s was are first cut =
    let here = before ++ e ∷ [] in
    let all : payloads_of events ≡ payloads_of here ++ payloads_of rest = ap (λ (es : List ClientEvent). payloads_of es) (are ∙ sym (append_assoc before (e ∷ []) rest)) ∙ payloads_both here rest in
    let back = lines_text (take (left - length (payloads_of here)) (payloads_of rest)) in
    let front : shown ++ (s ++ cut.0) ≡ lines_text (take left (payloads_of here)) = both_lines left mid before e shown (s ++ cut.0) first.0 first.1 (sym cut.1) in (
      cut.0 ++ back,
      ap (λ (ps : List (List ℕ)). lines_text (take left ps)) all
          ∙ ap (λ (ps : List (List ℕ)). lines_text ps) (take_both left (payloads_of here) (payloads_of rest))
          ∙ lines_both (take left (payloads_of here)) (take (left - length (payloads_of here)) (payloads_of rest))
          ∙ ap (λ (xs : List ℕ). xs ++ back) (sym front ∙ sym (append_assoc shown s cut.0))
          ∙ append_assoc (shown ++ s) cut.0 back,
    )

pub hears_all_front : (events before : List ClientEvent) (e : ClientEvent) (rest : List ClientEvent) (left mid now : ℕ) (shown s : List ℕ) (was end : Option Outcome) (why : Stop) → events ≡ before ++ e ∷ rest
    → HearsTo before left shown was mid → HearsOne e mid s was (Err why) now end → HearsAll events left (shown ++ s) (Err why) now
hears_all_front events before e rest left mid now shown s was end stop.WriteFault are first cut = hears_front events before e rest left mid shown s was are first cut
hears_all_front events before e rest left mid now shown s was end stop.NoMemory are first cut = hears_front events before e rest left mid shown s was are first cut
hears_all_front events before e rest left mid now shown s was end stop.BadLine are first cut = absurd cut
