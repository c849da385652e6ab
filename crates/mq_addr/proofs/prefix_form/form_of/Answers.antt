use Rattle.std.proofs.Common.{ℕ, ◌≤◌, List, Option, Some, None, inl, inr}
use Rattle.std.specs.Option.{MatchOption}
use Rattle.mq_text.specs.Number.{Spells}
use Rattle.mq_text.specs.Cut.{Lacks, IsCut, IsCutOnce}
use Rattle.mq_addr.specs.declared.addr.Addr.{Addr}
use Rattle.mq_addr.specs.declared.prefix.Prefix.{Prefix}
use Rattle.mq_addr.specs.Addr.{IsAddrText}
use Rattle.mq_addr.specs.Block.{width}
use Rattle.mq_addr.specs.Prefixes.{IsAlone, IsPrefixForm}
use Rattle.mq_addr.proofs.Forms.{none_alone, none_cut}
use Rattle.mq_addr.proofs.prefix_form.form_of.Goals as goal

abbrev IsForm : List ℕ → Option Prefix → Type 0
IsForm text r = MatchOption r ((block : Prefix) → ¬ (IsPrefixForm text block)) (λ block. IsPrefixForm text block)

whole : (text : List ℕ) (r : Option Prefix) → Lacks 47 text → MatchOption r ((a : Addr) → ¬ (IsAddrText text a)) (λ block. IsAlone text block) → IsForm text r
whole text None lacks h = none_alone text lacks h
whole text (Some block) lacks h = inl h

cut : IsCutOnce → (text front digits : List ℕ) (r : Option Prefix) → IsCut 47 text front digits
    → MatchOption r
    ((block : Prefix) → IsAddrText front block.addr → Spells digits block.length → ¬ (block.length ≤ width block.addr))
    (λ block. IsAddrText front block.addr × Spells digits block.length × (block.length ≤ width block.addr))
    → IsForm text r
cut once text front digits None is h = none_cut once text front digits is h
cut once text front digits (Some block) is h = inr (record {
  front = front;
  digits = digits;
  is = is.is;
  addr = h.0;
  length = h.1;
  fits = h.2;
})

pub returns-in-None : goal.returns-in-None
returns-in-None c = whole c.args.text.now c.alone.result c.in-None.ensures c.alone.ensures

pub returns-in-Some : goal.returns-in-Some
returns-in-Some c = cut c.cut_once.ensures c.args.text.now c.in-Some.front.now c.in-Some.digits.now c.with_length.result c.in-Some.ensures c.with_length.ensures
