use Rattle.std.proofs.Common.{◌≡◌, ℕ, true, false, not, eqb, List, [], ◌∷◌, refl, sym, ap, ◌∙◌}
use Rattle.std.specs.List.{list_any, filter}
use Rattle.std.proofs.lemmas.Bool.{eqb-true}
use Rattle.std.proofs.lemmas.List.{nil_from_length}
use Rattle.mq_h2.specs.declared.event.StreamEvent.{StreamEvent}
use Rattle.mq_h2.specs.declared.event.StreamEvent.TheVariants.{Request, Malformed, Content, Reset, ConnectionError}
use Rattle.mq_h2.specs.Reading.{lasts, is_withdrawn}
use Rattle.mq_h2.proofs.read.lasting.Goals as goal

-- where no request is withdrawn, each event lasts
each_lasts : (all : List StreamEvent) → ((id : ℕ) → is_withdrawn all id ≡ false) → (e : StreamEvent) → lasts all e ≡ true
each_lasts all none (Request s fields end) = ap not (none s)
each_lasts all none (Malformed s code) = refl
each_lasts all none (Content s bytes len end) = ap not (none s)
each_lasts all none (Reset s code) = ap not (none s)
each_lasts all none (ConnectionError code) = refl

all_last : (all : List StreamEvent) → ((id : ℕ) → is_withdrawn all id ≡ false) → (es : List StreamEvent) → es ≡ filter (lasts all) es
all_last all none [] = refl
all_last all none (e ∷ es) = rw (each_lasts all none e) (ap (λ (xs : List StreamEvent). e ∷ xs) (all_last all none es))

pub returns-then-is_empty : goal.returns-then-is_empty
returns-then-is_empty c = λ are.
    let nobody : c.args.gone.now.ids.items ≡ [] = nil_from_length c.args.gone.now.ids.items (eqb-true _ _ (sym c.is_empty.ensures ∙ c.if-is_empty.true)) in
    let none : (id : ℕ) → is_withdrawn c.args.events.items id ≡ false = λ id. sym (are id) ∙ ap (λ (xs : List ℕ). list_any (λ g. eqb g id) xs) nobody in
    all_last c.args.events.items none c.args.events.items
