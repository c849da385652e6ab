use Rattle.std.proofs.Common.{◌≡◌, ◌<◌, ◌≤◌, ℕ, Bool, true, false, List, [], Some, length, refl, sym, subst, append-nil}
use Rattle.std.proofs.lemmas.Bool.{lt-ltb, le-ltb}
use Rattle.mq_h2.specs.State.{State}
use Rattle.mq_h2.specs.Frames.{OnSome, OnPart}
use Rattle.mq_h2.specs.declared.event.StreamEvent.{StreamEvent}
use Rattle.mq_h2.specs.declared.block.OpenBlock.{OpenBlock}
use Rattle.mq_h2.proofs.Cores.{serves_same}
use Rattle.mq_h2.proofs.parts.Core.on_part.Goals as goal

some_by : (over : Bool) (many whole : Bool) (b : OpenBlock) (s : State) (events : List StreamEvent) (t : State) → many ≡ over → OnSome over whole b s events t → OnSome many whole b s events t
some_by over many whole b s events t e is = subst (λ (k : Bool). OnSome k whole b s events t) (sym e) is

pub returns-then-as_slice-gt-MAX_BLOCK : goal.returns-then-as_slice-gt-MAX_BLOCK
returns-then-as_slice-gt-MAX_BLOCK c = λ s is.
    let b = c.args.block in
    let over : 16384 < length b.bytes = subst (λ (bytes : List ℕ). 16384 < length bytes) c.as_slice.ensures c.if-as_slice-gt-MAX_BLOCK.true in
    record {
      given = [];
      mid = s;
      so = some_by true _ c.args.whole b s _ _ (lt-ltb 16384 (length b.bytes) over) (refl, refl);
      added = sym (append-nil c.args.events.now.items);
      serves = is.serves;
    }

pub returns : goal.returns
returns c = λ s is.
    let b = c.args.block in
    let a = c.args.self.now in
    let within : length b.bytes ≤ 16384 = subst (λ (bytes : List ℕ). length bytes ≤ 16384) c.as_slice.ensures c.if-as_slice-gt-MAX_BLOCK.false in
    let t : State = record s { block = Some b } in
    record {
      given = [];
      state = t;
      so = some_by false _ c.args.whole b s [] t (le-ltb 16384 (length b.bytes) within) (subst (λ (k : Bool). OnPart k b s [] t) (sym c.if-whole.false) (refl, refl));
      added = sym (append-nil c.args.events.now.items);
      goes = record { decodes = record { serves = serves_same a _ t (record { encoder = is.serves.encoder; streams = is.serves.streams; given = is.serves.given; owed_is = is.serves.owed_is }) refl refl refl; decoder = is.decoder; on = is.on }; block = refl };
    }
